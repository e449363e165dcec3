-- Which arrangements solve three small cases.
use Rattle.std.specs.Prelude.{ℕ, Bool, true, false, List, [], ◌∷◌, ℤ, pos}
use Rattle.switches.specs.Switches.{switches_only}
use Rattle.piles.specs.Piles.{congruent_linear}
use Rattle.verdicts.specs.Stated.{Solves}
use Rattle.checker.specs.Worked.{file, counts, rule, denied, wall, mapped}

-- two switches, of which one is to be off
abbrev pub not_both : List ℕ
not_both = file (counts 2 0 ∷ rule (denied 1 ∷ denied 2 ∷ []) ∷ [])

abbrev pub SolvesNotBoth : List Bool → Type 0
SolvesNotBoth switches = Solves switches_only not_both (record { switches = switches; numerators = []; denominator = 1 })

abbrev pub SolvesWall : List Bool → List ℤ → ℕ → Type 0
SolvesWall switches numerators denominator = Solves congruent_linear (file wall) (record { switches = switches; numerators = numerators; denominator = denominator })

abbrev pub SolvesMapped : List ℤ → Type 0
SolvesMapped numerators = Solves congruent_linear mapped (record { switches = []; numerators = numerators; denominator = 1 })

pub record SolutionsStand : Type 0 where
  -- the rules are to be met
  pub one : SolvesNotBoth (true ∷ false ∷ [])
  pub both : SolvesNotBoth (true ∷ true ∷ []) → ⊥
  -- with a yes or no for each switch, and for no other
  pub no_switch : SolvesNotBoth [] → ⊥
  pub three_switches : SolvesNotBoth (false ∷ false ∷ false ∷ []) → ⊥
  -- the parts of the wall are 50 and 10, or 50.5 and 9.5
  pub whole : SolvesWall (true ∷ []) (pos 50 ∷ pos 10 ∷ []) 1
  pub halves : SolvesWall (true ∷ []) (pos 101 ∷ pos 19 ∷ []) 2
  -- with the switch off the second is to be 12 at least
  pub off : SolvesWall (false ∷ []) (pos 50 ∷ pos 10 ∷ []) 1 → ⊥
  -- the first is too small, and the two are too long
  pub small : SolvesWall (true ∷ []) (pos 49 ∷ pos 10 ∷ []) 1 → ⊥
  pub long : SolvesWall (true ∷ []) (pos 50 ∷ pos 11 ∷ []) 1 → ⊥
  -- a value for each measure and for no other, over a denominator above 0
  pub one_measure : SolvesWall (true ∷ []) (pos 50 ∷ []) 1 → ⊥
  pub three_measures : SolvesWall (true ∷ []) (pos 50 ∷ pos 10 ∷ pos 0 ∷ []) 1 → ⊥
  pub no_denominator : SolvesWall (true ∷ []) (pos 0 ∷ pos 0 ∷ []) 0 → ⊥
  -- equal arguments have equal results, whatever the rules: there are none
  pub equal : SolvesMapped (pos 1 ∷ pos 2 ∷ pos 1 ∷ pos 2 ∷ [])
  pub apart : SolvesMapped (pos 1 ∷ pos 2 ∷ pos 3 ∷ pos 4 ∷ [])
  pub unequal : SolvesMapped (pos 1 ∷ pos 2 ∷ pos 1 ∷ pos 3 ∷ []) → ⊥
