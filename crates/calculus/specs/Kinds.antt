-- What a theory is, and the laws that it keeps.
use Rattle.std.specs.Prelude.{◌≡◌, ℕ, ◌+◌, ◌-◌, ◌<◌, ◌≤◌, Bool, true, false, cond, ◌⊎◌, ◌↔◌, List, [], length, ℤ, pos, Ok, Err, Result, nat_le}
use Rattle.std.proofs.Common.{inl, inr}
use Rattle.faults.specs.declared.InputCause.{InputCause}
use Rattle.faults.specs.declared.InputCause.TheVariants.{WrongLength, OutOfRange}
use Rattle.faults.specs.declared.StateCause.TheVariants.{WrongPhase, NotVouched, NotAdmitted}
use Rattle.faults.specs.declared.TheoryFault.{TheoryFault}
use Rattle.faults.specs.declared.TheoryFault.TheVariants as theory
use Rattle.faults.specs.Causes.{theory_code}
use Rattle.calculus.specs.Lists.{every, some, nth}
use Rattle.calculus.specs.Limits.{most_measures, most_layers, within}
use Rattle.calculus.specs.Literals.{number, signed}
use Rattle.calculus.specs.Arrangements.{SameFraction}

-- What a theory answers to a question: yes, or the fault that says no and from which layer.
abbrev pub Answer : Type 0
Answer = Result (Unit {0}) TheoryFault

-- the layer does not admit the values
abbrev pub not_admitted : ℕ → Answer
not_admitted layer = Err (theory.State NotAdmitted layer)

-- the layer does not vouch for the clause
abbrev pub not_vouched : ℕ → Answer
not_vouched layer = Err (theory.State NotVouched layer)

-- A kind of theory: its models, the model that it begins with, what its calls make of a model (a refusal,
-- after which it is the old one, or a new one), and what a model means.
pub record Kind : Type 1 where
  pub Model : Type 0
  pub begun : Model
  -- the greatest number of measures that it takes
  pub most : ℕ
  pub count : Model → ℕ → TheoryFault ⊎ Model
  pub declare : Model → List ℕ → TheoryFault ⊎ Model
  pub admit : Model → List ℕ → TheoryFault ⊎ Model
  -- whether it has its count of measures, and what that is
  pub counted : Model → Bool
  pub measures : Model → ℕ
  -- how many atoms there are; they are numbered from 1
  pub atoms : Model → ℕ
  -- the atom mentions the measure
  pub mentioned : Model → ℕ → ℕ → Bool
  -- the atom is true where the measures are these numerators over this denominator
  pub truth : Model → ℕ → List ℤ → ℕ → Bool
  -- an arrangement with these numerators over this denominator is admitted, whatever its switches; or else which layer says no
  pub admitted : Model → List ℤ → ℕ → Answer
  -- it answers that the atom says that two measures are equal
  pub equated : Model → ℕ → ℕ → ℕ → Bool
  -- what it answers to a clause with a hint, where the numbers up to the first argument are switches
  pub vouched : Model → ℕ → List ℤ → List ℕ → Answer

-- refused with this cause in the input, in some layer
abbrev pub RefusedFor : {M : Type 0} → InputCause → TheoryFault ⊎ M → Type 0
RefusedFor c o = (layer : ℕ) × (o ≡ inl (theory.Input c layer))

-- layers are counted from 1, the top of the pile
abbrev pub InPile : ℕ → Type 0
InPile layer = (1 ≤ layer) × (layer ≤ most_layers)

module _ (K : Kind) (m : K.Model) where
  -- numerators for every measure, of any size, over a positive denominator
  abbrev pub Whole : List ℤ → ℕ → Type 0
  Whole xs d = (length xs ≡ K.measures m) × (0 < d)

  -- one of the clause's atom literals is true, where the numbers up to s are switches and s + a is the atom a
  abbrev pub some_atom : ℕ → List ℤ → ℕ → List ℤ → Bool
  some_atom s xs d ls = some (λ l. cond (nat_le (number l) s) false (signed l (λ n. K.truth m (n - s) xs d))) ls

  -- each literal is on a switch or on an atom that there is
  abbrev pub all_there : ℕ → List ℤ → Bool
  all_there s ls = every (λ l. within (s + K.atoms m) (number l)) ls

-- n is m with its count of measures
pub record OnlyCounted (K : Kind) (m n : K.Model) (t : ℕ) : Type 0 where
  pub counted : K.counted n ≡ true
  pub measures : K.measures n ≡ t
  pub atoms : K.atoms n ≡ K.atoms m
  pub mentioned : K.mentioned n ≡ K.mentioned m
  pub truth : K.truth n ≡ K.truth m
  pub admitted : K.admitted n ≡ K.admitted m

-- n is m with an atom more
pub record OneMore (K : Kind) (m n : K.Model) : Type 0 where
  pub counted : K.counted n ≡ K.counted m
  pub measures : K.measures n ≡ K.measures m
  pub atoms : K.atoms n ≡ K.atoms m + 1
  pub mentioned : (a : ℕ) → 0 < a → a ≤ K.atoms m → K.mentioned n a ≡ K.mentioned m a
  pub truth : (a : ℕ) → 0 < a → a ≤ K.atoms m → K.truth n a ≡ K.truth m a
  pub admitted : K.admitted n ≡ K.admitted m

-- n is m, and admits no more
pub record Narrower (K : Kind) (m n : K.Model) : Type 0 where
  pub counted : K.counted n ≡ K.counted m
  pub measures : K.measures n ≡ K.measures m
  pub atoms : K.atoms n ≡ K.atoms m
  pub mentioned : K.mentioned n ≡ K.mentioned m
  pub truth : K.truth n ≡ K.truth m
  pub admitted : (xs : List ℤ) (d : ℕ) → Whole K m xs d → K.admitted n xs d ≡ Ok tt → K.admitted m xs d ≡ Ok tt

-- The laws. They range over all models and over arrangements of any size.
pub record Lawful (K : Kind) : Type 0 where
  pub few : K.most ≤ most_measures
  -- it begins without its count, without measures and without atoms
  pub not_counted : K.counted K.begun ≡ false
  pub no_measures : K.measures K.begun ≡ 0
  pub no_atoms : K.atoms K.begun ≡ 0
  -- the count is taken once, refused above the greatest number, and taken otherwise
  pub count_again : (m : K.Model) (t : ℕ) → K.counted m ≡ true → (layer : ℕ) × (K.count m t ≡ inl (theory.State WrongPhase layer))
  pub count_many : (m : K.Model) (t : ℕ) → K.counted m ≡ false → K.most < t → RefusedFor OutOfRange (K.count m t)
  pub counting : (m : K.Model) (t : ℕ) → K.counted m ≡ false → t ≤ K.most → (n : K.Model) × (K.count m t ≡ inr n) × OnlyCounted K m n t
  -- a declaration may narrow what is admitted, and changes nothing else
  pub declaring : (m : K.Model) (body : List ℕ) (n : K.Model) → K.declare m body ≡ inr n → Narrower K m n
  -- an admission adds one atom, and changes nothing else
  pub admitting : (m : K.Model) (body : List ℕ) (n : K.Model) → K.admit m body ≡ inr n → OneMore K m n
  -- an empty body or hint is refused
  pub declare_empty : (m : K.Model) → RefusedFor WrongLength (K.declare m [])
  pub admit_empty : (m : K.Model) → RefusedFor WrongLength (K.admit m [])
  pub vouch_empty : (m : K.Model) (s : ℕ) (clause : List ℤ) → (layer : ℕ) × (K.vouched m s clause [] ≡ Err (theory.Input WrongLength layer))
  -- what says no is a layer of the pile
  pub count_layer : (m : K.Model) (t : ℕ) (f : TheoryFault) → K.count m t ≡ inl f → InPile (theory_code f).layer
  pub declare_layer : (m : K.Model) (body : List ℕ) (f : TheoryFault) → K.declare m body ≡ inl f → InPile (theory_code f).layer
  pub admit_layer : (m : K.Model) (body : List ℕ) (f : TheoryFault) → K.admit m body ≡ inl f → InPile (theory_code f).layer
  pub vouched_layer : (m : K.Model) (s : ℕ) (clause : List ℤ) (hint : List ℕ) (f : TheoryFault) → K.vouched m s clause hint ≡ Err f → InPile (theory_code f).layer
  -- and what is not admitted is told as that
  pub admitted_layer : (m : K.Model) (xs : List ℤ) (d : ℕ) (f : TheoryFault) → K.admitted m xs d ≡ Err f → (layer : ℕ) × (f ≡ theory.State NotAdmitted layer) × InPile layer
  -- arrangements with equal fractions for the measures that an atom mentions agree on it
  pub local : (m : K.Model) (a : ℕ) (xs ys : List ℤ) (d e : ℕ) → Whole K m xs d → Whole K m ys e
      → ((j : ℕ) → 0 < j → j ≤ K.measures m → K.mentioned m a j ≡ true → SameFraction (nth (pos 0) xs j) d (nth (pos 0) ys j) e)
      → K.truth m a xs d ≡ K.truth m a ys e
  -- arrangements with equal fractions for all measures agree on being admitted
  pub fair : (m : K.Model) (xs ys : List ℤ) (d e : ℕ) → Whole K m xs d → Whole K m ys e
      → ((j : ℕ) → 0 < j → j ≤ K.measures m → SameFraction (nth (pos 0) xs j) d (nth (pos 0) ys j) e)
      → K.admitted m xs d ≡ Ok tt → K.admitted m ys e ≡ Ok tt
  -- an atom that is not there mentions nothing and is true nowhere
  pub absent_mentions : (m : K.Model) (a j : ℕ) → within (K.atoms m) a ≡ false → 0 < j → K.mentioned m a j ≡ false
  pub absent_false : (m : K.Model) (a : ℕ) (xs : List ℤ) (d : ℕ) → within (K.atoms m) a ≡ false → K.truth m a xs d ≡ false
  -- an atom is said to equate two measures only if all three are there, and every arrangement makes it true exactly when they are equal
  pub equated_there : (m : K.Model) (a i j : ℕ) → K.equated m a i j ≡ true → (within (K.atoms m) a ≡ true) × (within (K.measures m) i ≡ true) × (within (K.measures m) j ≡ true)
  pub equating : (m : K.Model) (a i j : ℕ) → K.equated m a i j ≡ true → (xs : List ℤ) (d : ℕ) → Whole K m xs d
      → (K.truth m a xs d ≡ true) ↔ (nth (pos 0) xs i ≡ nth (pos 0) xs j)
  -- a clause is vouched for only if all that it names is there, and every admitted arrangement makes one of its atom literals true
  pub vouched_there : (m : K.Model) (s : ℕ) (clause : List ℤ) (hint : List ℕ) → K.vouched m s clause hint ≡ Ok tt → all_there K m s clause ≡ true
  pub vouching : (m : K.Model) (s : ℕ) (clause : List ℤ) (hint : List ℕ) → K.vouched m s clause hint ≡ Ok tt → (xs : List ℤ) (d : ℕ) → Whole K m xs d
      → K.admitted m xs d ≡ Ok tt → some_atom K m s xs d clause ≡ true
