-- What congruence over linear answers, computed: four measures, applications, atoms, and a question.
use Rattle.std.specs.Prelude.{◌≡◌, ℕ, true, List, [], ◌∷◌, replicate, ℤ, pos, negsuc, Ok, Err}
use Rattle.std.specs.List.{AllByRecursion}
use Rattle.faults.specs.declared.InputCause.TheVariants.{WrongLength, OutOfRange}
use Rattle.faults.specs.declared.StateCause.TheVariants.{WrongPhase, Full}
use Rattle.faults.specs.declared.TheoryFault.TheVariants as theory
use Rattle.calculus.specs.Kinds.{Answer, not_admitted, not_vouched}
use Rattle.calculus.specs.Questions.{answered, left, says_admitted}
use Rattle.piles.specs.Piles.{congruent_linear, twice_congruent}

abbrev pub Pile : Type 0
Pile = congruent_linear.Model

abbrev pub all_declared : Pile → List (List ℕ) → Pile
all_declared m [] = m
all_declared m (body ∷ bodies) = all_declared (left congruent_linear m (congruent_linear.declare m body)) bodies

abbrev pub all_admitted : Pile → List (List ℕ) → Pile
all_admitted m [] = m
all_admitted m (body ∷ bodies) = all_admitted (left congruent_linear m (congruent_linear.admit m body)) bodies

-- four measures, these declarations and these atoms
abbrev pub made : List (List ℕ) → List (List ℕ) → Pile
made declarations atoms = all_admitted (all_declared (left congruent_linear congruent_linear.begun (congruent_linear.count congruent_linear.begun 4)) declarations) atoms

-- m1 + m2 ≤ 60, m1 < 50, m2 < 12
abbrev pub budget : List (List ℕ)
budget =
    (2 ∷ 2 ∷ 1 ∷ 0 ∷ 0 ∷ 0 ∷ 1 ∷ 2 ∷ 0 ∷ 0 ∷ 0 ∷ 1 ∷ 0 ∷ 0 ∷ 0 ∷ 60 ∷ [])
    ∷ (1 ∷ 1 ∷ 1 ∷ 0 ∷ 0 ∷ 0 ∷ 1 ∷ 0 ∷ 0 ∷ 0 ∷ 50 ∷ [])
    ∷ (1 ∷ 1 ∷ 2 ∷ 0 ∷ 0 ∷ 0 ∷ 1 ∷ 0 ∷ 0 ∷ 0 ∷ 12 ∷ [])
    ∷ []

-- m1 = 3, m1 < 3, -m1 < -3
abbrev pub three : List (List ℕ)
three =
    (3 ∷ 1 ∷ 1 ∷ 0 ∷ 0 ∷ 0 ∷ 1 ∷ 0 ∷ 0 ∷ 0 ∷ 3 ∷ [])
    ∷ (1 ∷ 1 ∷ 1 ∷ 0 ∷ 0 ∷ 0 ∷ 1 ∷ 0 ∷ 0 ∷ 0 ∷ 3 ∷ [])
    ∷ (1 ∷ 1 ∷ 1 ∷ 255 ∷ 255 ∷ 255 ∷ 255 ∷ 255 ∷ 255 ∷ 255 ∷ 253 ∷ [])
    ∷ []

-- f(m1) = m2, f(m3) = m4
abbrev pub two_applications : List (List ℕ)
two_applications = (3 ∷ 7 ∷ 1 ∷ 1 ∷ 2 ∷ []) ∷ (3 ∷ 7 ∷ 1 ∷ 3 ∷ 4 ∷ []) ∷ []

-- f(m1) = m2, g(m3) = m4
abbrev pub two_functions : List (List ℕ)
two_functions = (3 ∷ 7 ∷ 1 ∷ 1 ∷ 2 ∷ []) ∷ (3 ∷ 8 ∷ 1 ∷ 3 ∷ 4 ∷ []) ∷ []

-- f(m1) = m2, f(m1) = m4
abbrev pub one_argument : List (List ℕ)
one_argument = (3 ∷ 7 ∷ 1 ∷ 1 ∷ 2 ∷ []) ∷ (3 ∷ 7 ∷ 1 ∷ 1 ∷ 4 ∷ []) ∷ []

-- f(m1, m1) = m2, f(m3, m3) = m4
abbrev pub doubled : List (List ℕ)
doubled = (3 ∷ 7 ∷ 2 ∷ 1 ∷ 1 ∷ 2 ∷ []) ∷ (3 ∷ 7 ∷ 2 ∷ 3 ∷ 3 ∷ 4 ∷ []) ∷ []

-- f(m1, m2) = m3, f(m1, m3) = m4, g(m2, m1) = m4, g(m3, m1) = m3
abbrev pub binary : List (List ℕ)
binary = (3 ∷ 7 ∷ 2 ∷ 1 ∷ 2 ∷ 3 ∷ []) ∷ (3 ∷ 7 ∷ 2 ∷ 1 ∷ 3 ∷ 4 ∷ []) ∷ (3 ∷ 8 ∷ 2 ∷ 2 ∷ 1 ∷ 4 ∷ []) ∷ (3 ∷ 8 ∷ 2 ∷ 3 ∷ 1 ∷ 3 ∷ []) ∷ []

-- m1 = m3, m2 = m4
abbrev pub two_equations : List (List ℕ)
two_equations =
    (3 ∷ 2 ∷ 1 ∷ 0 ∷ 0 ∷ 0 ∷ 1 ∷ 3 ∷ 255 ∷ 255 ∷ 255 ∷ 255 ∷ 0 ∷ 0 ∷ 0 ∷ 0 ∷ [])
    ∷ (3 ∷ 2 ∷ 2 ∷ 0 ∷ 0 ∷ 0 ∷ 1 ∷ 4 ∷ 255 ∷ 255 ∷ 255 ∷ 255 ∷ 0 ∷ 0 ∷ 0 ∷ 0 ∷ [])
    ∷ []

-- a clause with a hint, where there are no switches
pub record VouchedSo : Type 0 where
  pub declarations : List (List ℕ)
  pub atoms : List (List ℕ)
  pub clause : List ℤ
  pub hint : List ℕ
  pub answer : Answer

abbrev pub vouchings : List VouchedSo
vouchings =
    -- multipliers 1, 1, 1 and 1, 1, 0
    record { declarations = []; atoms = budget; clause = negsuc 0 ∷ pos 2 ∷ pos 3 ∷ []; hint = 1 ∷ 0 ∷ 0 ∷ 0 ∷ 1 ∷ 0 ∷ 0 ∷ 0 ∷ 1 ∷ 0 ∷ 0 ∷ 0 ∷ 1 ∷ []; answer = Ok tt }
    ∷ record { declarations = []; atoms = budget; clause = negsuc 0 ∷ pos 2 ∷ pos 3 ∷ []; hint = 1 ∷ 0 ∷ 0 ∷ 0 ∷ 1 ∷ 0 ∷ 0 ∷ 0 ∷ 1 ∷ 0 ∷ 0 ∷ 0 ∷ 0 ∷ []; answer = not_vouched 2 }
    -- a split, and the same without its last part
    ∷ record { declarations = []; atoms = three; clause = pos 1 ∷ pos 2 ∷ pos 3 ∷ []; hint = 2 ∷ []; answer = Ok tt }
    ∷ record { declarations = []; atoms = three; clause = pos 1 ∷ pos 2 ∷ []; hint = 2 ∷ []; answer = not_vouched 2 }
    -- equal arguments have equal results, in either order; without them, or with two functions, nothing is said
    ∷ record { declarations = two_applications; atoms = two_equations; clause = negsuc 0 ∷ pos 2 ∷ []; hint = 3 ∷ 1 ∷ 2 ∷ []; answer = Ok tt }
    ∷ record { declarations = two_applications; atoms = two_equations; clause = negsuc 0 ∷ pos 2 ∷ []; hint = 3 ∷ 2 ∷ 1 ∷ []; answer = Ok tt }
    ∷ record { declarations = two_applications; atoms = two_equations; clause = pos 2 ∷ []; hint = 3 ∷ 1 ∷ 2 ∷ []; answer = not_vouched 1 }
    ∷ record { declarations = two_functions; atoms = two_equations; clause = negsuc 0 ∷ pos 2 ∷ []; hint = 3 ∷ 1 ∷ 2 ∷ []; answer = not_vouched 1 }
    -- one measure at a place of both needs no atom, and one atom serves two places
    ∷ record { declarations = one_argument; atoms = two_equations; clause = pos 2 ∷ []; hint = 3 ∷ 1 ∷ 2 ∷ []; answer = Ok tt }
    ∷ record { declarations = doubled; atoms = two_equations; clause = negsuc 0 ∷ pos 2 ∷ []; hint = 3 ∷ 1 ∷ 2 ∷ []; answer = Ok tt }
    -- an application matched with itself does not vouch for the empty clause
    ∷ record { declarations = two_applications; atoms = two_equations; clause = []; hint = 3 ∷ 1 ∷ 1 ∷ []; answer = not_vouched 1 }
    -- refused hints: too long, too short, an application that is not there, an unknown kind, an empty one
    ∷ record { declarations = two_applications; atoms = two_equations; clause = negsuc 0 ∷ pos 2 ∷ []; hint = 3 ∷ 1 ∷ 2 ∷ 2 ∷ []; answer = Err (theory.Input WrongLength 1) }
    ∷ record { declarations = two_applications; atoms = two_equations; clause = []; hint = 3 ∷ 1 ∷ []; answer = Err (theory.Input WrongLength 1) }
    ∷ record { declarations = two_applications; atoms = two_equations; clause = []; hint = 3 ∷ 1 ∷ 3 ∷ []; answer = Err (theory.Input OutOfRange 1) }
    ∷ record { declarations = two_applications; atoms = two_equations; clause = []; hint = 9 ∷ []; answer = Err (theory.Input OutOfRange 2) }
    ∷ record { declarations = two_applications; atoms = two_equations; clause = []; hint = []; answer = Err (theory.Input WrongLength 2) }
    ∷ []

-- values over the denominator 1, and whether they are admitted
pub record AdmittedSo : Type 0 where
  pub numerators : List ℤ
  pub answer : Answer

abbrev pub admissions : List AdmittedSo
admissions =
    record { numerators = pos 0 ∷ pos 0 ∷ pos 0 ∷ pos 1 ∷ []; answer = not_admitted 1 }
    ∷ record { numerators = pos 0 ∷ pos 0 ∷ pos 1 ∷ pos 1 ∷ []; answer = Ok tt }
    -- a list of the wrong length
    ∷ record { numerators = pos 0 ∷ []; answer = not_admitted 1 }
    ∷ []

-- a declaration, and whether it is taken
pub record DeclaredSo : Type 0 where
  pub body : List ℕ
  pub answer : Answer

abbrev pub declarations : List DeclaredSo
declarations =
    record { body = 3 ∷ 7 ∷ 3 ∷ 1 ∷ 2 ∷ 3 ∷ 4 ∷ []; answer = Ok tt }
    -- too long for its arity, too short for the arity 4, and no arity
    ∷ record { body = 3 ∷ 7 ∷ 1 ∷ 1 ∷ 2 ∷ 3 ∷ []; answer = Err (theory.Input WrongLength 1) }
    ∷ record { body = 3 ∷ 7 ∷ 4 ∷ 1 ∷ []; answer = Err (theory.Input WrongLength 1) }
    ∷ record { body = 3 ∷ 7 ∷ []; answer = Err (theory.Input WrongLength 1) }
    -- the arity 0, the arity 4, and an argument and a result that are not there
    ∷ record { body = 3 ∷ 7 ∷ 0 ∷ 1 ∷ []; answer = Err (theory.Input OutOfRange 1) }
    ∷ record { body = 3 ∷ 7 ∷ 4 ∷ 1 ∷ 2 ∷ 3 ∷ 4 ∷ 1 ∷ []; answer = Err (theory.Input OutOfRange 1) }
    ∷ record { body = 3 ∷ 7 ∷ 1 ∷ 5 ∷ 1 ∷ []; answer = Err (theory.Input OutOfRange 1) }
    ∷ record { body = 3 ∷ 7 ∷ 1 ∷ 1 ∷ 5 ∷ []; answer = Err (theory.Input OutOfRange 1) }
    -- passed down: an unknown kind, and an empty body
    ∷ record { body = 4 ∷ []; answer = Err (theory.Input OutOfRange 2) }
    ∷ record { body = []; answer = Err (theory.Input WrongLength 2) }
    ∷ []

-- what an application without a function is answered after so many applications f(m1) = m1
abbrev pub after_applications : ℕ → Answer
after_applications n = answered congruent_linear (congruent_linear.declare (made (replicate n (3 ∷ 7 ∷ 1 ∷ 1 ∷ 1 ∷ [])) []) (3 ∷ []))

-- two layers, each with the two applications
abbrev pub two_layers : twice_congruent.Model
two_layers = let m = made two_applications [] in record { below = m; applications = m.applications }

abbrev pub ExamplesStand : Type 0
ExamplesStand =
    AllByRecursion (λ e. congruent_linear.vouched (made e.declarations e.atoms) 0 e.clause e.hint ≡ e.answer) vouchings
    × AllByRecursion (λ e. says_admitted congruent_linear (made two_applications two_equations) e.numerators 1 ≡ e.answer) admissions
    × AllByRecursion (λ e. answered congruent_linear (congruent_linear.declare (made [] []) e.body) ≡ e.answer) declarations
    -- no two of these four have one function and equal arguments
    × (says_admitted congruent_linear (made binary []) (pos 0 ∷ pos 0 ∷ pos 1 ∷ pos 2 ∷ []) 1 ≡ Ok tt)
    -- the lower layer is asked first, and its no and its refusals come up
    × (says_admitted twice_congruent two_layers (pos 0 ∷ pos 0 ∷ pos 0 ∷ pos 1 ∷ []) 1 ≡ not_admitted 2)
    × (answered congruent_linear (congruent_linear.count (made [] []) 4) ≡ Err (theory.State WrongPhase 2))
    × (answered congruent_linear (congruent_linear.admit (made [] []) (4 ∷ [])) ≡ Err (theory.Input OutOfRange 2))
    -- and so does what it says that an atom equates
    × (congruent_linear.equated (made [] two_equations) 1 1 3 ≡ true)
    -- a 33rd application is refused whatever stands in it
    × (after_applications 31 ≡ Err (theory.Input WrongLength 1))
    × (after_applications 32 ≡ Err (theory.State Full 1))
