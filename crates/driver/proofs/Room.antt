-- No record writes more literals than there is room for.
use Rattle.std.proofs.Common.{◌≡◌, ℕ, zero, suc, ◌+◌, ◌<◌, ◌≤◌, Bool, true, false, cond, eqb, leb, ◌⊎◌, List, [], ◌∷◌, length, get_or, take, drop, Some, sym, refl, ◌∙◌, subst, inl, inr, arith}
use Rattle.std.proofs.lemmas.List.{length-map, length-drop, length-take-le, get_or-drop}
use Rattle.std.proofs.lemmas.Bool.{cond_both, leb-true}
use Rattle.numerals.specs.Numbers.{four_bytes, signed_byte, signed_word, signed_bytes}
use Rattle.faults.specs.declared.InputCause.{InputCause}
use Rattle.faults.specs.declared.InputCause.TheVariants.{FileTooLong, WrongLength, WrongVersion}
use Rattle.calculus.specs.Calls.{Call}
use Rattle.calculus.specs.Calls.Call.{Counts, Seal, Lemma, Choose, Set, Propagate, Read, Conflict, Resolve, Jump, Concede, Claim, Abandon}
use Rattle.files.specs.declared.records.FileKind.{FileKind}
use Rattle.files.specs.declared.records.FileKind.TheVariants.{Case, Log}
use Rattle.files.specs.Decoding.{counted, case_call, log_call, call_of}
use Rattle.files.specs.Records.{Entry, most_case_bytes, most_bytes, opened, entry_at}
use Rattle.files.proofs.Told.{Bytes, Told, told}
use Rattle.verdicts.proofs.Writing.{IfCall, either, no_bytes_so, one_so, two_so, four_so, five_so}
use Rattle.driver.specs.Taking.{literal_count, HasRoom}

abbrev Few : Call → Type 0
Few c = literal_count c ≤ most_case_bytes

room : (o : InputCause ⊎ Call) → IfCall Few o → HasRoom o
room (inl c) h = tt
room (inr c) h = h

of_case : (kind : ℕ) (body : List ℕ) → length body ≤ most_case_bytes → IfCall Few (case_call kind body)
of_case kind body l =
    let none : 0 ≤ most_case_bytes = omega arith in
    either Few (eqb kind 1) _ _ (two_so Few (λ switches measures. Counts switches measures) body (λ a b. none))
    (either Few (eqb kind 2) _ _ none
    (either Few (eqb kind 3) _ _ none
    (either Few (eqb kind 4) _ _ (omega (arith, length-map body signed_byte, l)) tt)))

-- a lemma counts its literals in a byte
of_lemma : (body : List ℕ) → get_or body 0 0 < 256 → IfCall Few (counted body)
of_lemma [] b = tt
of_lemma (n ∷ more) b =
    cond_both (leb n (length more)) (inr (Lemma (signed_bytes (take n more)) (drop n more))) (inl WrongLength) (IfCall Few)
    (λ h. omega (arith, length-map (take n more) signed_byte, length-take-le n more (leb-true n (length more) h), b))
    (λ _. tt)

of_log : (kind : ℕ) (body : List ℕ) → get_or body 0 0 < 256 → IfCall Few (log_call kind body)
of_log kind body b =
    let none : 0 ≤ most_case_bytes = omega arith in
    either Few (eqb kind 3) _ _ none
    (either Few (eqb kind 10) _ _ (four_so Few (λ a b c d. Seal (four_bytes a b c d)) body (λ a b c d. none))
    (either Few (eqb kind 11) _ _ (of_lemma body b)
    (either Few (eqb kind 12) _ _ (one_so Few (λ l. Choose (signed_byte l)) body (λ a. none))
    (either Few (eqb kind 13) _ _ (five_so Few (λ j a b c d. Set j (signed_word a b c d)) body (λ j a b c d. none))
    (either Few (eqb kind 14) _ _ (two_so Few (λ c l. Propagate c (signed_byte l)) body (λ a b. none))
    (either Few (eqb kind 15) _ _ (one_so Few (λ n. Read n) body (λ a. none))
    (either Few (eqb kind 16) _ _ (one_so Few (λ c. Conflict c) body (λ a. none))
    (either Few (eqb kind 17) _ _ (one_so Few (λ n. Resolve n) body (λ a. none))
    (either Few (eqb kind 18) _ _ (one_so Few (λ l. Jump (signed_byte l)) body (λ a. none))
    (either Few (eqb kind 19) _ _ (no_bytes_so Few Concede body none)
    (either Few (eqb kind 20) _ _ (no_bytes_so Few Claim body none)
    (either Few (eqb kind 21) _ _ (no_bytes_so Few Abandon body none) tt))))))))))))

of_kind : (kind : FileKind) (k : ℕ) (body : List ℕ) → length body ≤ most_bytes kind → get_or body 0 0 < 256 → IfCall Few (call_of kind k body)
of_kind Case k body l b = of_case k body l
of_kind Log k body l b = of_log k body b

-- a file that opens is no longer than its kind may be
abbrev tests : Bool → Bool → InputCause ⊎ Unit {0}
tests a b = cond a (cond b (inr tt) (inl FileTooLong)) (inl WrongVersion)

both_hold : (a b : Bool) → tests a b ≡ inr tt → b ≡ true
both_hold true true h = refl
both_hold true false h = let z : ◌≡◌ {A = ℕ} 0 1 = cc in absurd (omega arith)
both_hold false b h = let z : ◌≡◌ {A = ℕ} 0 1 = cc in absurd (omega arith)

short : (kind : FileKind) (file : List ℕ) → opened kind file ≡ inr tt → length file ≤ most_bytes kind
short kind [] h = let z : ◌≡◌ {A = ℕ} 0 1 = cc in absurd (omega arith)
short kind (v ∷ rest) h = leb-true (length (v ∷ rest)) (most_bytes kind) (both_hold (eqb v 1) (leb (length (v ∷ rest)) (most_bytes kind)) h)

taken_bytes : (n : ℕ) (l : List ℕ) → Bytes l → Bytes (take n l)
taken_bytes zero l b i = omega arith
taken_bytes (suc n) [] b i = omega arith
taken_bytes (suc n) (x ∷ l) b zero = b 0
taken_bytes (suc n) (x ∷ l) b (suc i) = taken_bytes n l (λ j. b (suc j)) i

-- the bytes of a record are those of its file
module _ (file : List ℕ) (bytes : Bytes file) (place count : ℕ) (e : Entry) (h : entry_at count place file ≡ inr (Some e)) where
  fronts : Told (count + 1) place (drop place file) (inr (Some e))
  fronts = subst (Told (count + 1) place (drop place file)) h (told (count + 1) place (drop place file))

  in_file : length e.body ≤ length file
  in_file = omega (arith, fronts.fits, length-drop place file)

  rest_bytes : Bytes (drop 2 (drop place file))
  rest_bytes i = subst (λ (x : ℕ). x < 256) (sym (get_or-drop 2 (drop place file) i 0 ∙ get_or-drop place file (2 + i) 0)) (bytes (place + (2 + i)))

  a_byte : get_or e.body 0 0 < 256
  a_byte = subst (λ (l : List ℕ). get_or l 1 0 < 256) (sym fronts.part) (taken_bytes (suc (length e.body)) (drop 2 (drop place file)) rest_bytes 1)

pub has_room : (kind : FileKind) (file : List ℕ) → Bytes file → opened kind file ≡ inr tt → (place count : ℕ) (e : Entry) → entry_at count place file ≡ inr (Some e) → HasRoom (call_of kind e.kind e.body)
has_room kind file bytes o place count e h =
    room (call_of kind e.kind e.body)
    (of_kind kind e.kind e.body (omega (arith, in_file file bytes place count e h, short kind file o)) (a_byte file bytes place count e h))
