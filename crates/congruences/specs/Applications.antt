-- Applications of functions to measures, and when an arrangement is consistent with them.
use Rattle.std.specs.Prelude.{ℕ, Bool, true, false, not, ◌&&◌, ◌||◌, List, [], ◌∷◌, length, ℤ, pos, ◌==◌}
use Rattle.calculus.specs.Lists.{every, nth}
use Rattle.calculus.specs.Literals.{same}

-- the result is the function's value at the arguments; all of them are measures
pub record Application : Type 0 where
  pub function : ℕ
  pub arguments : List ℕ
  pub result : ℕ

abbrev pub most_applications : ℕ
most_applications = 32

abbrev pub most_arguments : ℕ
most_arguments = 3

-- what a look-up finds where there is nothing
abbrev pub no_application : Application
no_application = record { function = 0; arguments = []; result = 0 }

-- function and arity match
abbrev pub alike : Application → Application → Bool
alike p q = p.function == q.function && length p.arguments == length q.arguments

-- two lists are equally long, and the test holds at each place
abbrev pub at_each_place : (ℕ → ℕ → Bool) → List ℕ → List ℕ → Bool
at_each_place f [] [] = true
at_each_place f [] (j ∷ js) = false
at_each_place f (i ∷ is) [] = false
at_each_place f (i ∷ is) (j ∷ js) = f i j && at_each_place f is js

-- two measures are equal: they have one denominator
abbrev pub equal_at : List ℤ → ℕ → ℕ → Bool
equal_at xs i j = same (nth (pos 0) xs i) (nth (pos 0) xs j)

-- alike applications with equal arguments have equal results
abbrev pub agree : List ℤ → Application → Application → Bool
agree xs p q = not (alike p q && at_each_place (equal_at xs) p.arguments q.arguments) || equal_at xs p.result q.result

abbrev pub consistent : List Application → List ℤ → Bool
consistent apps xs = every (λ p. every (agree xs p) apps) apps
