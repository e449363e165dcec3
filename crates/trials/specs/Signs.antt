-- A small theory with atoms, to try the calculus on: an atom says that a measure is negative, or that it is
-- positive; a declaration says that a measure is not 0, and then one of the two is true.
use Rattle.std.specs.Prelude.{ℕ, zero, suc, ◌+◌, ◌-◌, Bool, true, false, cond, not, ◌&&◌, ◌||◌, ◌⊎◌, List, [], ◌∷◌, ◌++◌, length, ℤ, pos, negsuc, Ok, Err, ◌==◌, nat_eq, nat_le, nat_lt}
use Rattle.std.proofs.Common.{inl, inr}
use Rattle.faults.specs.declared.InputCause.TheVariants.{WrongLength, OutOfRange}
use Rattle.faults.specs.declared.StateCause.TheVariants.{WrongPhase}
use Rattle.faults.specs.declared.TheoryFault.{TheoryFault}
use Rattle.faults.specs.declared.TheoryFault.TheVariants as theory
use Rattle.calculus.specs.Lists.{every, some, nth}
use Rattle.calculus.specs.Limits.{most_measures, within}
use Rattle.calculus.specs.Literals.{number}
use Rattle.calculus.specs.Kinds.{Kind, Answer, not_admitted, not_vouched}

-- of a number: it is negative where the flag is set, else it is positive
abbrev pub sign : Bool → ℤ → Bool
sign true (pos n) = false
sign true (negsuc n) = true
sign false (pos zero) = false
sign false (pos (suc n)) = true
sign false (negsuc n) = false

pub record Sign : Type 0 where
  pub measure : ℕ
  pub negative : Bool

pub record Signs : Type 0 where
  pub counted : Bool
  pub measures : ℕ
  pub atoms : List Sign
  -- the measures that are declared not to be 0
  pub signed : List ℕ

-- an atom that is not there is about no measure
abbrev pub no_atom : Sign
no_atom = record { measure = 0; negative = true }

abbrev pub atom : Signs → ℕ → Sign
atom m a = nth no_atom m.atoms a

abbrev pub with_count : Signs → ℕ → Signs
with_count m t = record { counted = true; measures = t; atoms = m.atoms; signed = m.signed }

abbrev pub with_atom : Signs → Sign → Signs
with_atom m r = record { counted = m.counted; measures = m.measures; atoms = m.atoms ++ r ∷ []; signed = m.signed }

abbrev pub with_signed : Signs → ℕ → Signs
with_signed m j = record { counted = m.counted; measures = m.measures; atoms = m.atoms; signed = j ∷ m.signed }

abbrev pub too_many : {M : Type 0} → Bool → M → TheoryFault ⊎ M
too_many b n = cond b (inr n) (inl (theory.Input OutOfRange 1))

abbrev pub counting : Bool → Signs → ℕ → TheoryFault ⊎ Signs
counting true m t = inl (theory.State WrongPhase 1)
counting false m t = too_many (nat_le t most_measures) (with_count m t)

-- a declaration is the byte of a measure
abbrev pub declaring : Signs → List ℕ → TheoryFault ⊎ Signs
declaring m [] = inl (theory.Input WrongLength 1)
declaring m (j ∷ []) = too_many (within m.measures j) (with_signed m j)
declaring m (j ∷ k ∷ ks) = inl (theory.Input WrongLength 1)

-- an atom is the byte of a measure, and 0 for negative or 1 for positive
abbrev pub admitting : Signs → List ℕ → TheoryFault ⊎ Signs
admitting m [] = inl (theory.Input WrongLength 1)
admitting m (j ∷ []) = inl (theory.Input WrongLength 1)
admitting m (j ∷ k ∷ []) = too_many (within m.measures j && nat_lt k 2) (with_atom m (record { measure = j; negative = (k == 0) }))
admitting m (j ∷ k ∷ i ∷ is) = inl (theory.Input WrongLength 1)

abbrev pub not_zero : List ℤ → ℕ → Bool
not_zero xs j = sign true (nth (pos 0) xs j) || sign false (nth (pos 0) xs j)

abbrev pub judged : Bool → Answer
judged b = cond b (Ok tt) (not_admitted 1)

abbrev pub alike : Bool → Bool → Bool
alike true b = b
alike false b = not b

-- the literal affirms that the measure j is negative, or that it is positive
abbrev pub affirms_sign : Signs → ℕ → ℕ → Bool → ℤ → Bool
affirms_sign m s j negative (pos n) = nat_lt s n && ((atom m (n - s)).measure == j && alike (atom m (n - s)).negative negative)
affirms_sign m s j negative (negsuc n) = false

-- a hint is the byte of a measure: it is declared not to be 0, and the clause has both its signs
abbrev pub both_signs : Signs → ℕ → List ℤ → ℕ → Bool
both_signs m s ls j =
    every (λ l. within (s + length m.atoms) (number l)) ls
    && (some (nat_eq j) m.signed && (some (affirms_sign m s j true) ls && some (affirms_sign m s j false) ls))

abbrev pub vouching : Signs → ℕ → List ℤ → List ℕ → Answer
vouching m s ls [] = Err (theory.Input WrongLength 1)
vouching m s ls (j ∷ []) = cond (within m.measures j) (cond (both_signs m s ls j) (Ok tt) (not_vouched 1)) (Err (theory.Input OutOfRange 1))
vouching m s ls (j ∷ k ∷ ks) = Err (theory.Input WrongLength 1)

abbrev pub signs : Kind
signs = record {
  Model = Signs;
  begun = record { counted = false; measures = 0; atoms = []; signed = [] };
  most = most_measures;
  count = λ m t. counting m.counted m t;
  declare = declaring;
  admit = admitting;
  counted = λ m. m.counted;
  measures = λ m. m.measures;
  atoms = λ m. length m.atoms;
  mentioned = λ m a j. ((atom m a).measure == j);
  truth = λ m a xs d. sign (atom m a).negative (nth (pos 0) xs (atom m a).measure);
  admitted = λ m xs d. judged (every (not_zero xs) m.signed);
  equated = λ m a i j. false;
  vouched = vouching;
}
