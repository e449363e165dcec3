-- The laws of a whole file that is read.
use Rattle.std.proofs.Common.{◌≡◌, ℕ, zero, suc, ◌+◌, ◌<◌, ◌≤◌, cond, eqb, leb, ◌⊎◌, List, [], ◌∷◌, ◌++◌, length, take, drop, Some, None, Option, sym, refl, ap, ◌∙◌, subst, inl, inr, append_assoc, arith}
use Rattle.std.proofs.lemmas.List.{drop-drop, get_or-drop, length-drop, nil_from_length}
use Rattle.std.proofs.lemmas.Bool.{eqb-true, cond_both}
use Rattle.faults.specs.declared.InputCause.{InputCause}
use Rattle.faults.specs.declared.InputCause.TheVariants.{WrongVersion, FileTooLong}
use Rattle.faults.specs.declared.FileFault.TheVariants.{Input}
use Rattle.files.specs.declared.records.FileKind.{FileKind}
use Rattle.files.specs.Records.{Entry, size, next_entry, most_bytes, opened, Reading, Stopped, onward, reading, unless_refused, read_file}
use Rattle.files.specs.Laws.{written, put_back, Ends, Rebuilds, InOrder, Parts}
use Rattle.files.proofs.Told.{Bytes, Told, told}

-- one step keeps the order, if what follows does
ordered : (file b : List ℕ) (n p : ℕ) (more : Entry → Reading) (x : InputCause ⊎ Option Entry) → p ≤ length file → drop p file ≡ b → Told n p b x → ((e : Entry) → size e ≤ length b → InOrder file (n + 1) (p + size e) (more e)) → InOrder file n p (onward n p more x)
ordered file b n p more (inl c) l d t go = (refl, refl, omega (arith, ap length d, length-drop p file))
ordered file b n p more (inr None) l d t go = omega (arith, ap length d, length-drop p file)
ordered file b n p more (inr (Some e)) l d t go = (
  t.number,
  t.start,
  omega (arith, ap length d, length-drop p file, t.fits),
  t.part ∙ ap (λ (r : List ℕ). take (suc (length e.body)) r) (ap (drop 2) (sym d) ∙ drop-drop 2 p file),
  go e t.fits,
)

pub in_order : (most n p : ℕ) (file b : List ℕ) → drop p file ≡ b → p ≤ length file → length b ≤ most → InOrder file n p (reading most n p b)
in_order zero n p file b d l h = omega (arith, ap length d, length-drop p file)
in_order (suc most) n p file b d l h =
    ordered file b n p (λ e. reading most (n + 1) (p + size e) (drop (size e) b)) (next_entry n p b) l d (told n p b)
    (λ e fits.
    in_order most (n + 1) (p + size e) file (drop (size e) b)
    (sym (drop-drop (size e) p file) ∙ ap (drop (size e)) d)
    (omega (arith, ap length d, length-drop p file))
    (omega (arith, length-drop (size e) b)))

-- what was read, and what is left
abbrev Again : List ℕ → Reading → Type 0
Again b r = (Ends r → b ≡ put_back r) × ((rest : List ℕ) × (b ≡ put_back r ++ rest))

rebuilt : (b : List ℕ) (n p : ℕ) (more : Entry → Reading) (x : InputCause ⊎ Option Entry) → Bytes b → Told n p b x → ((e : Entry) → size e ≤ length b → Again (drop (size e) b) (more e)) → Again b (onward n p more x)
rebuilt b n p more (inl c) bytes t go = (λ no. absurd no, (b, refl))
rebuilt b n p more (inr None) bytes t go = (λ _. nil_from_length b t, (b, refl))
rebuilt b n p more (inr (Some e)) bytes t go =
    let w = t.whole bytes in
    let g = go e t.fits in (
      λ ends. w ∙ ap (λ (r : List ℕ). written e ++ r) (g.0 ends),
      (g.1.0, w ∙ ap (λ (r : List ℕ). written e ++ r) g.1.1 ∙ sym (append_assoc (written e) (put_back (more e)) g.1.0)),
    )

again : (most n p : ℕ) (b : List ℕ) → Bytes b → length b ≤ most → Again b (reading most n p b)
again zero n p b bytes h = (λ _. nil_from_length b (omega arith), (b, refl))
again (suc most) n p b bytes h =
    rebuilt b n p (λ e. reading most (n + 1) (p + size e) (drop (size e) b)) (next_entry n p b) bytes (told n p b)
    (λ e fits.
    again most (n + 1) (p + size e) (drop (size e) b)
    (λ i. subst (λ (x : ℕ). x < 256) (sym (get_or-drop (size e) b i 0)) (bytes (size e + i)))
    (omega (arith, length-drop (size e) b)))

unless : (P : Reading → Type 0) (x : InputCause ⊎ Unit {0}) (r : Reading) → ((c : InputCause) → P (Stopped 0 0 (Input c))) → (x ≡ inr tt → P r) → P (unless_refused x r)
unless P (inl c) r f g = f c
unless P (inr tt) r f g = g refl

version_is : (kind : FileKind) (v : ℕ) (rest : List ℕ) → opened kind (v ∷ rest) ≡ inr tt → v ≡ 1
version_is kind v rest =
    cond_both (eqb v 1) (cond (leb (length (v ∷ rest)) (most_bytes kind)) (inr tt) (inl FileTooLong)) (inl WrongVersion) (λ (x : InputCause ⊎ Unit {0}). x ≡ inr tt → v ≡ 1)
    (λ e _. eqb-true v 1 e)
    (λ e (h : inl WrongVersion ≡ inr tt). let no : ◌≡◌ {A = ℕ} 0 1 = cc in absurd (omega arith))

pub rebuilds : (kind : FileKind) (file : List ℕ) → Bytes file → Rebuilds file (read_file kind file)
rebuilds kind [] bytes = (λ no. absurd no, ([], refl))
rebuilds kind (v ∷ rest) bytes =
    unless (Rebuilds (v ∷ rest)) (opened kind (v ∷ rest)) (reading (length (v ∷ rest)) 1 1 rest)
    (λ c. (λ no. absurd no, (rest, refl)))
    (λ e.
    let g = again (length (v ∷ rest)) 1 1 rest (λ i. bytes (suc i)) (omega arith) in
    (λ ends. ap (λ (x : ℕ). x ∷ rest) (version_is kind v rest e) ∙ ap (λ (r : List ℕ). 1 ∷ r) (g.0 ends), g.1))

pub parts : (kind : FileKind) (file : List ℕ) → Parts file (read_file kind file)
parts kind [] = inl (Input WrongVersion, refl)
parts kind (v ∷ rest) =
    unless (Parts (v ∷ rest)) (opened kind (v ∷ rest)) (reading (length (v ∷ rest)) 1 1 rest)
    (λ c. inl (Input c, refl))
    (λ e. inr (in_order (length (v ∷ rest)) 1 1 (v ∷ rest) rest refl (omega arith) (omega arith)))

-- the laws hold of whatever equals the reading of the file
pub carried : (kind : FileKind) (file : List ℕ) (r : Reading) → Bytes file → r ≡ read_file kind file → Rebuilds file r × Parts file r
carried kind file r bytes e = (
  subst (Rebuilds file) (sym e) (rebuilds kind file bytes),
  subst (Parts file) (sym e) (parts kind file),
)
