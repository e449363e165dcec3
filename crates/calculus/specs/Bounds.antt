-- What else holds of every state that calls lead to: its bounds, its reasons and its levels.
use Rattle.std.specs.Prelude.{◌≡◌, ℕ, ◌+◌, ◌≤◌, true, false, cond, List, [], ◌∷◌, ◌++◌, length, ℤ}
use Rattle.std.specs.List.{AllByRecursion}
use Rattle.calculus.specs.Lists.{every}
use Rattle.calculus.specs.Limits.{most_numbers, most_clauses, most_measures, most_numerator, most_denominator, within, sized}
use Rattle.calculus.specs.Literals.{number, clause_like, holds_literal}
use Rattle.calculus.specs.Calls.{Call}
use Rattle.calculus.specs.Kinds.{Kind}
use Rattle.calculus.specs.Trails.{Content, Entry, choice, choices, up_to, readable, reading_level}
use Rattle.calculus.specs.Trails.Origin.{Chosen, Propagated, Read}
use Rattle.calculus.specs.Trails.Content.{Value, Literal}
use Rattle.calculus.specs.States.{Stored, State, is_analysing, clause}
use Rattle.calculus.specs.Steps.{others_false, run}

-- at most 16 literals on different numbers, each one of the numbers 1 to n
abbrev pub ClauseUpTo : ℕ → List ℤ → Type 0
ClauseUpTo n ls = (clause_like ls ≡ true) × (every (λ l. within n (number l)) ls ≡ true)

-- a literal on one of the numbers 1 to n, or a value in its range for one of the measures 1 to t
abbrev pub ContentUpTo : ℕ → ℕ → Content → Type 0
ContentUpTo n t (Value j x) = (within t j ≡ true) × (sized most_numerator x ≡ true)
ContentUpTo n t (Literal l o) = within n (number l) ≡ true

-- a propagated literal's reason is a stored clause that holds it, whose other literals are false by what was entered before, at levels no higher
abbrev pub Reasoned : List Stored → List Entry → Content → ℕ → Type 0
Reasoned store before (Value j x) k = Unit {0}
Reasoned store before (Literal l Chosen) k = Unit {0}
Reasoned store before (Literal l (Propagated c)) k = (within (length store) c ≡ true) × (holds_literal l (clause store c) ≡ true) × (others_false (up_to k before) l (clause store c) ≡ true)
Reasoned store before (Literal l Read) k = Unit {0}

-- so it is of each entry, after those before it
abbrev pub AllReasoned : List Stored → List Entry → List Entry → Type 0
AllReasoned store before [] = Unit {0}
AllReasoned store before (e ∷ t) = Reasoned store before e.content e.level × AllReasoned store (before ++ e ∷ []) t

-- the choices have the levels after k, one by one, in their order
abbrev pub Numbered : ℕ → List Entry → Type 0
Numbered k [] = Unit {0}
Numbered k (e ∷ t) = (choice e.content ≡ true → e.level ≡ k + 1) × Numbered (k + cond (choice e.content) 1 0) t

-- what was read is readable, and stands at the highest level of its measures
abbrev pub ReadRight : (K : Kind) → K.Model → ℕ → List Entry → Content → ℕ → Type 0
ReadRight K m w t (Value j x) k = Unit {0}
ReadRight K m w t (Literal l Chosen) k = Unit {0}
ReadRight K m w t (Literal l (Propagated c)) k = Unit {0}
ReadRight K m w t (Literal l Read) k = (readable K m w t (number l) ≡ true) × (k ≡ reading_level K m w t (number l))

pub record Bounded (K : Kind) (s : State K) : Type 0 where
  -- the numbers in use are the switches and the atoms
  pub numbers_are : s.numbers ≡ s.switches + K.atoms s.model
  pub few_numbers : s.numbers ≤ most_numbers
  pub few_measures : K.measures s.model ≤ most_measures
  pub few_clauses : length s.clauses ≤ most_clauses
  pub each_clause : AllByRecursion (λ r. ClauseUpTo s.numbers r.literals) s.clauses
  pub open_clause : ClauseUpTo s.numbers s.open_clause
  -- there is none but while analysing
  pub no_open : is_analysing s.phase ≡ false → s.open_clause ≡ []
  pub denominator : within most_denominator s.denominator ≡ true
  pub short_trail : length s.trail ≤ s.numbers + K.measures s.model
  pub each_entry : AllByRecursion (λ e. ContentUpTo s.numbers (K.measures s.model) e.content) s.trail
  pub levels : AllByRecursion (λ e. e.level ≤ choices s.trail) s.trail
  pub choice_levels : Numbered 0 s.trail
  pub reasons : AllReasoned s.clauses [] s.trail
  pub readings : AllByRecursion (λ e. ReadRight K s.model s.switches s.trail e.content e.level) s.trail

abbrev pub EveryRunBounded : Kind → Type 0
EveryRunBounded K = (cs : List Call) → Bounded K (run K cs)
