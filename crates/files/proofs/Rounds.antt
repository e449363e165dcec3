-- How a loop over the steps of a reader comes to the reading of the whole file.
use Rattle.std.proofs.Common.{◌≡◌, ℕ, zero, suc, ◌+◌, ◌-◌, ◌<◌, ◌≤◌, ◌⊎◌, List, [], ◌∷◌, ◌++◌, length, drop, Some, None, Option, sym, refl, ap, ◌∙◌, subst, inl, inr, arith}
use Rattle.std.proofs.lemmas.List.{drop-drop, length-drop}
use Rattle.faults.specs.declared.InputCause.{InputCause}
use Rattle.faults.specs.declared.FileFault.{FileFault}
use Rattle.faults.specs.declared.FileFault.TheVariants.{Input}
use Rattle.files.specs.declared.records.FileKind.{FileKind}
use Rattle.files.specs.Records.{Entry, size, opened, entry_at, Reading, Ended, Stopped, Then, onward, reading, unless_refused, read_file}
use Rattle.files.specs.Views.{in_file, onto}
use Rattle.files.proofs.Told.{Told, told}

pub from_inr : {X : Type 0} (x : InputCause ⊎ X) (y : X) → inr y ≡ in_file x → x ≡ inr y
from_inr (inl c) y e = let no : ◌≡◌ {A = ℕ} 0 1 = cc in absurd (omega arith)
from_inr (inr z) y e = cc

pub from_inl : {X : Type 0} (x : InputCause ⊎ X) (f : FileFault) → inl f ≡ in_file x → (c : InputCause) × (x ≡ inl c) × (f ≡ Input c)
from_inl (inl c) f e = (c, refl, cc)
from_inl (inr z) f e = let no : ◌≡◌ {A = ℕ} 0 1 = cc in absurd (omega arith)

-- the records so far, and a place and a count to go on from
abbrev pub Sofar : FileKind → List ℕ → List Entry → ℕ → ℕ → Type 0
Sofar kind file es place count =
    (k : ℕ) × (length file - place ≤ k) × (onto es (reading k (count + 1) place (drop place file)) ≡ read_file kind file)

pub starts : (kind : FileKind) (file : List ℕ) (place count : ℕ) → opened kind file ≡ inr tt → place ≡ 1 → count ≡ 0 → Sofar kind file [] place count
starts kind file place count o p n = (
  length file,
  omega arith,
  ap (λ (m : ℕ). reading (length file) (m + 1) place (drop place file)) n
      ∙ ap (λ (m : ℕ). reading (length file) 1 m (drop m file)) p
      ∙ sym (ap (λ (x : InputCause ⊎ Unit {0}). unless_refused x (reading (length file) 1 1 (drop 1 file))) o),
)

pub refused : (kind : FileKind) (file : List ℕ) (c : InputCause) → opened kind file ≡ inl c → Stopped 0 0 (Input c) ≡ read_file kind file
refused kind file c o = sym (ap (λ (x : InputCause ⊎ Unit {0}). unless_refused x (reading (length file) 1 1 (drop 1 file))) o)

onto_push : (es : List Entry) (e : Entry) (r : Reading) → onto (es ++ e ∷ []) r ≡ onto es (Then e r)
onto_push [] e r = refl
onto_push (x ∷ es) e r = ap (Then x) (onto_push es e r)

-- what a step tells of the file
at_some : (file : List ℕ) (place count : ℕ) (e : Entry) → entry_at count place file ≡ inr (Some e) → size e ≤ length (drop place file)
at_some file place count e h = (subst (Told (count + 1) place (drop place file)) h (told (count + 1) place (drop place file))).fits

at_fault : (file : List ℕ) (place count : ℕ) (c : InputCause) → entry_at count place file ≡ inl c → 0 < length (drop place file)
at_fault file place count c h = subst (Told (count + 1) place (drop place file)) h (told (count + 1) place (drop place file))

pub some_within : (file : List ℕ) (place count : ℕ) (e : Entry) → entry_at count place file ≡ inr (Some e) → place + size e ≤ length file
some_within file place count e h = omega (arith, at_some file place count e h, length-drop place file)

pub fault_within : (file : List ℕ) (place count : ℕ) (c : InputCause) → entry_at count place file ≡ inl c → place < length file
fault_within file place count c h = omega (arith, at_fault file place count c h, length-drop place file)

-- one step of a reading: a record, the end, or a refusal
pub reads_one : (file : List ℕ) (place count k : ℕ) (e : Entry) → entry_at count place file ≡ inr (Some e) → length file - place ≤ k → (m : ℕ) × (length file - (place + size e) ≤ m) × (reading k (count + 1) place (drop place file) ≡ Then e (reading m (count + 1 + 1) (place + size e) (drop (place + size e) file)))
reads_one file place count zero e h l =
    let w = some_within file place count e h in
    absurd (let no : ⊥ = omega arith in no)
reads_one file place count (suc k) e h l =
    let w = some_within file place count e h in
    let more : Entry → Reading = λ x. reading k (count + 1 + 1) (place + size x) (drop (size x) (drop place file)) in (
      k,
      omega arith,
      ap (λ (x : InputCause ⊎ Option Entry). onward (count + 1) place more x) h
          ∙ ap (λ (b : List ℕ). Then e (reading k (count + 1 + 1) (place + size e) b)) (drop-drop (size e) place file),
    )

pub reads_end : (file : List ℕ) (place count k : ℕ) → entry_at count place file ≡ inr None → reading k (count + 1) place (drop place file) ≡ Ended
reads_end file place count zero h = refl
reads_end file place count (suc k) h =
    let more : Entry → Reading = λ x. reading k (count + 1 + 1) (place + size x) (drop (size x) (drop place file)) in
    ap (λ (x : InputCause ⊎ Option Entry). onward (count + 1) place more x) h

pub reads_fault : (file : List ℕ) (place count k : ℕ) (c : InputCause) → entry_at count place file ≡ inl c → length file - place ≤ k → reading k (count + 1) place (drop place file) ≡ Stopped (count + 1) place (Input c)
reads_fault file place count zero c h l =
    let w = fault_within file place count c h in
    absurd (let no : ⊥ = omega arith in no)
reads_fault file place count (suc k) c h l =
    let more : Entry → Reading = λ x. reading k (count + 1 + 1) (place + size x) (drop (size x) (drop place file)) in
    ap (λ (x : InputCause ⊎ Option Entry). onward (count + 1) place more x) h

pub goes_on : (kind : FileKind) (file : List ℕ) (es : List Entry) (place count : ℕ) (e : Entry) → entry_at count place file ≡ inr (Some e) → Sofar kind file es place count → Sofar kind file (es ++ e ∷ []) (place + size e) (count + 1)
goes_on kind file es place count e h (k, l, v) =
    let one = reads_one file place count k e h l in
    (one.0, one.1, onto_push es e _ ∙ ap (onto es) (sym one.2) ∙ v)

pub ends : (kind : FileKind) (file : List ℕ) (es : List Entry) (place count : ℕ) → entry_at count place file ≡ inr None → Sofar kind file es place count → onto es Ended ≡ read_file kind file
ends kind file es place count h (k, l, v) = ap (onto es) (sym (reads_end file place count k h)) ∙ v

pub stops : (kind : FileKind) (file : List ℕ) (es : List Entry) (place count : ℕ) (c : InputCause) → entry_at count place file ≡ inl c → Sofar kind file es place count → onto es (Stopped (count + 1) place (Input c)) ≡ read_file kind file
stops kind file es place count c h (k, l, v) = ap (onto es) (sym (reads_fault file place count k c h l)) ∙ v
