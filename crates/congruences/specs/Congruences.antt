-- Congruence over any theory: it adds applications of functions, and passes down all else.
use Rattle.std.specs.Prelude.{ℕ, suc, ◌+◌, ◌-◌, Bool, false, cond, ◌&&◌, ◌||◌, ◌⊎◌, List, [], ◌∷◌, ◌++◌, length, take, ℤ, pos, negsuc, Ok, Err, ◌==◌, nat_lt, slice_index}
use Rattle.std.proofs.Common.{inl, inr}
use Rattle.faults.specs.declared.InputCause.TheVariants.{WrongLength, OutOfRange}
use Rattle.faults.specs.declared.StateCause.TheVariants.{Full}
use Rattle.faults.specs.declared.TheoryFault.{TheoryFault}
use Rattle.faults.specs.declared.TheoryFault.TheVariants as theory
use Rattle.faults.specs.Causes.{raised}
use Rattle.calculus.specs.Lists.{every, some, nth}
use Rattle.calculus.specs.Limits.{within}
use Rattle.calculus.specs.Kinds.{Kind, Answer, not_admitted, not_vouched, all_there}
use Rattle.congruences.specs.Applications.{Application, most_applications, most_arguments, no_application, alike, at_each_place, consistent}

-- what the lower layer says no to comes up as one layer further down
abbrev pub raised_result : Answer → Answer
raised_result (Ok x) = Ok x
raised_result (Err f) = Err (raised f)

-- the second answer counts where the first is yes
abbrev pub and_then : Answer → Answer → Answer
and_then (Ok x) own = own
and_then (Err f) own = Err f

-- kind 3 of declarations and of hints is this layer's
abbrev pub own_kind : ℕ
own_kind = 3

abbrev pub is_own : List ℕ → Bool
is_own [] = false
is_own (k ∷ rest) = k == own_kind

module _ (K : Kind) where
  pub record Congruences : Type 0 where
    pub below : K.Model
    pub applications : List Application

  -- what the lower theory makes of it
  abbrev pub passed : Congruences → TheoryFault ⊎ K.Model → TheoryFault ⊎ Congruences
  passed m (inl f) = inl (raised f)
  passed m (inr n) = inr (record { below = n; applications = m.applications })

  abbrev pub with_application : Congruences → Application → Congruences
  with_application m p = record { below = m.below; applications = m.applications ++ p ∷ [] }

  -- behind the function and the arity: the arguments, and then the result
  abbrev pub applied : Congruences → ℕ → ℕ → List ℕ → TheoryFault ⊎ Congruences
  applied m f n places =
      cond (length places == n + 1)
      (cond (within most_arguments n && every (within (K.measures m.below)) places)
      (inr (with_application m (record { function = f; arguments = take n places; result = slice_index places n })))
      (inl (theory.Input OutOfRange 1)))
      (inl (theory.Input WrongLength 1))

  -- behind the kind: the function, the arity, and the measures
  abbrev pub declared : Congruences → List ℕ → TheoryFault ⊎ Congruences
  declared m [] = inl (theory.Input WrongLength 1)
  declared m (f ∷ []) = inl (theory.Input WrongLength 1)
  declared m (f ∷ n ∷ places) = applied m f n places

  -- a 33rd application is refused whatever stands in it
  abbrev pub application_taken : Congruences → List ℕ → TheoryFault ⊎ Congruences
  application_taken m rest = cond (nat_lt (length m.applications) most_applications) (declared m rest) (inl (theory.State Full 1))

  abbrev pub declaring : Congruences → List ℕ → TheoryFault ⊎ Congruences
  declaring m [] = passed m (K.declare m.below [])
  declaring m (k ∷ rest) = cond (k == own_kind) (application_taken m rest) (passed m (K.declare m.below (k ∷ rest)))

  -- the literal affirms, or denies, an atom that equates two measures, where the numbers up to s are switches
  abbrev pub affirms_equal : K.Model → ℕ → ℕ → ℕ → ℤ → Bool
  affirms_equal m s i j (pos n) = nat_lt s n && K.equated m (n - s) i j
  affirms_equal m s i j (negsuc n) = false

  abbrev pub denies_equal : K.Model → ℕ → ℕ → ℕ → ℤ → Bool
  denies_equal m s i j (pos n) = false
  denies_equal m s i j (negsuc n) = nat_lt s (suc n) && K.equated m (suc n - s) i j

  -- two alike applications: each place whose measures differ has a denied atom that equates them, and an affirmed atom equates the results
  abbrev pub congruent : K.Model → ℕ → List ℤ → Application → Application → Bool
  congruent m s ls p q =
      alike p q
      && (at_each_place (λ i j. (i == j) || some (denies_equal m s i j) ls) p.arguments q.arguments
      && some (affirms_equal m s p.result q.result) ls)

  -- behind the kind: two applications, counted from 1
  abbrev pub matched : Congruences → ℕ → List ℤ → List ℕ → Answer
  matched m s ls [] = Err (theory.Input WrongLength 1)
  matched m s ls (a ∷ []) = Err (theory.Input WrongLength 1)
  matched m s ls (a ∷ b ∷ []) =
      cond (within (length m.applications) a && within (length m.applications) b)
      (cond (all_there K m.below s ls && congruent m.below s ls (nth no_application m.applications a) (nth no_application m.applications b)) (Ok tt) (not_vouched 1))
      (Err (theory.Input OutOfRange 1))
  matched m s ls (a ∷ b ∷ c ∷ cs) = Err (theory.Input WrongLength 1)

  abbrev pub vouching : Congruences → ℕ → List ℤ → List ℕ → Answer
  vouching m s ls [] = raised_result (K.vouched m.below s ls [])
  vouching m s ls (k ∷ rest) = cond (k == own_kind) (matched m s ls rest) (raised_result (K.vouched m.below s ls (k ∷ rest)))

  abbrev pub judging : Bool → Answer
  judging b = cond b (Ok tt) (not_admitted 1)

  abbrev pub congruence : Kind
  congruence = record {
    Model = Congruences;
    begun = record { below = K.begun; applications = [] };
    most = K.most;
    count = λ m t. passed m (K.count m.below t);
    declare = declaring;
    admit = λ m body. passed m (K.admit m.below body);
    counted = λ m. K.counted m.below;
    measures = λ m. K.measures m.below;
    atoms = λ m. K.atoms m.below;
    mentioned = λ m. K.mentioned m.below;
    truth = λ m. K.truth m.below;
    -- the lower theory is asked first
    admitted = λ m xs d. and_then (raised_result (K.admitted m.below xs d)) (judging (consistent m.applications xs));
    equated = λ m. K.equated m.below;
    vouched = vouching;
  }
