-- What a case states, read off its records: how many switches there are, what the theory is, and the rules.
use Rattle.std.specs.Prelude.{◌≡◌, ℕ, ◌<◌, true, cond, List, [], ◌∷◌, length, ℤ, Ok, ◌==◌, slice_index}
use Rattle.std.specs.List.{AllByRecursion}
use Rattle.numerals.specs.Numbers.{signed_bytes}
use Rattle.calculus.specs.Arrangements.{Arrangement}
use Rattle.calculus.specs.Kinds.{Kind}
use Rattle.calculus.specs.Questions.{left}
use Rattle.calculus.specs.States.{meets}
use Rattle.files.specs.declared.records.FileKind.TheVariants.{Case}
use Rattle.files.specs.Records.{Entry, Reading, Ended, Stopped, Then, read_file}

-- the first byte of its counts record (kind 1), or 0 if it has none
abbrev pub switches_of : Reading → ℕ
switches_of Ended = 0
switches_of (Stopped number byte fault) = 0
switches_of (Then e more) = cond (e.kind == 1) (slice_index e.body 0) (switches_of more)

-- its rule records (kind 4), one literal to a byte
abbrev pub rules_of : Reading → List (List ℤ)
rules_of Ended = []
rules_of (Stopped number byte fault) = []
rules_of (Then e more) = cond (e.kind == 4) (signed_bytes e.body ∷ rules_of more) (rules_of more)

module _ (K : Kind) where
  -- what a counts, declare or admit record (kind 1, 2 or 3) makes of the theory
  abbrev pub told_by : Entry → K.Model → K.Model
  told_by e m =
      cond (e.kind == 1) (left K m (K.count m (slice_index e.body 1)))
      (cond (e.kind == 2) (left K m (K.declare m e.body))
      (cond (e.kind == 3) (left K m (K.admit m e.body))
      m))

  -- the theory after these records
  abbrev pub theory_of : Reading → K.Model → K.Model
  theory_of Ended m = m
  theory_of (Stopped number byte fault) m = m
  theory_of (Then e more) m = theory_of more (told_by e m)

  -- the switches, the theory and the rules of a case
  abbrev pub case_switches : List ℕ → ℕ
  case_switches case = switches_of (read_file Case case)

  abbrev pub case_theory : List ℕ → K.Model
  case_theory case = theory_of (read_file Case case) K.begun

  abbrev pub case_rules : List ℕ → List (List ℤ)
  case_rules case = rules_of (read_file Case case)

-- The arrangement solves the case: it gives each switch yes or no and each measure a fraction, the theory of the case
-- admits it, and it meets every rule of the case.
pub record Solves (K : Kind) (case : List ℕ) (a : Arrangement) : Type 0 where
  pub switches : length a.switches ≡ case_switches K case
  pub measures : length a.numerators ≡ K.measures (case_theory K case)
  pub positive : 0 < a.denominator
  pub admitted : K.admitted (case_theory K case) a.numerators a.denominator ≡ Ok tt
  pub rules : AllByRecursion (λ ls. meets K (case_theory K case) (case_switches K case) a ls ≡ true) (case_rules K case)
