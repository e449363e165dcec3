-- The call that a record's kind and body write, or the cause of its refusal. Nothing is in range yet: any
-- literal, clause or measure is taken here.
use Rattle.std.specs.Prelude.{ℕ, cond, ◌⊎◌, List, [], ◌∷◌, length, take, drop, ◌==◌, nat_le}
use Rattle.std.proofs.Common.{inl, inr}
use Rattle.faults.specs.declared.InputCause.{InputCause}
use Rattle.faults.specs.declared.InputCause.TheVariants.{UnknownKind, WrongLength}
use Rattle.calculus.specs.Calls.{Call}
use Rattle.calculus.specs.Calls as call
use Rattle.files.specs.declared.records.FileKind.{FileKind}
use Rattle.files.specs.declared.records.FileKind.TheVariants.{Case, Log}
use Rattle.numerals.specs.Numbers.{four_bytes, signed_byte, signed_word, signed_bytes}

-- a body of no bytes
abbrev pub no_bytes : Call → List ℕ → InputCause ⊎ Call
no_bytes c [] = inr c
no_bytes c (a ∷ more) = inl WrongLength

-- a body of one byte
abbrev pub one : (ℕ → Call) → List ℕ → InputCause ⊎ Call
one f [] = inl WrongLength
one f (a ∷ more) = no_bytes (f a) more

-- a body of two bytes
abbrev pub two : (ℕ → ℕ → Call) → List ℕ → InputCause ⊎ Call
two f [] = inl WrongLength
two f (a ∷ more) = one (f a) more

-- a body of four bytes
abbrev pub four : (ℕ → ℕ → ℕ → ℕ → Call) → List ℕ → InputCause ⊎ Call
four f [] = inl WrongLength
four f (a ∷ []) = inl WrongLength
four f (a ∷ b ∷ more) = two (f a b) more

-- a body of five bytes
abbrev pub five : (ℕ → ℕ → ℕ → ℕ → ℕ → Call) → List ℕ → InputCause ⊎ Call
five f [] = inl WrongLength
five f (a ∷ more) = four (f a) more

-- how many literals, that many of them, and a hint, which is all the rest and may be empty
abbrev pub counted : List ℕ → InputCause ⊎ Call
counted [] = inl WrongLength
counted (n ∷ more) = cond (nat_le n (length more)) (inr (call.Lemma (signed_bytes (take n more)) (drop n more))) (inl WrongLength)

-- the kinds of record of a case
abbrev pub case_call : ℕ → List ℕ → InputCause ⊎ Call
case_call kind body =
    cond (kind == 1) (two (λ switches measures. call.Counts switches measures) body)
    (cond (kind == 2) (inr (call.Declare body))
    (cond (kind == 3) (inr (call.Admit body))
    (cond (kind == 4) (inr (call.Rule (signed_bytes body)))
    (inl UnknownKind))))

-- the kinds of record of a log
abbrev pub log_call : ℕ → List ℕ → InputCause ⊎ Call
log_call kind body =
    cond (kind == 3) (inr (call.Admit body))
    (cond (kind == 10) (four (λ a b c d. call.Seal (four_bytes a b c d)) body)
    (cond (kind == 11) (counted body)
    (cond (kind == 12) (one (λ literal. call.Choose (signed_byte literal)) body)
    (cond (kind == 13) (five (λ measure a b c d. call.Set measure (signed_word a b c d)) body)
    (cond (kind == 14) (two (λ clause literal. call.Propagate clause (signed_byte literal)) body)
    (cond (kind == 15) (one (λ number. call.Read number) body)
    (cond (kind == 16) (one (λ clause. call.Conflict clause) body)
    (cond (kind == 17) (one (λ number. call.Resolve number) body)
    (cond (kind == 18) (one (λ literal. call.Jump (signed_byte literal)) body)
    (cond (kind == 19) (no_bytes call.Concede body)
    (cond (kind == 20) (no_bytes call.Claim body)
    (cond (kind == 21) (no_bytes call.Abandon body)
    (inl UnknownKind)))))))))))))

abbrev pub call_of : FileKind → ℕ → List ℕ → InputCause ⊎ Call
call_of Case kind body = case_call kind body
call_of Log kind body = log_call kind body
