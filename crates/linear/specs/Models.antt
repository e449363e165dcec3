-- Which table of rows the code's struct stands for, and which hints have a multiplier for each literal.
use Rattle.std.specs.Prelude.{◌≡◌, ℕ, ◌+◌, ◌*◌, true, List, map, length, ℤ, is_some}
use Rattle.std.specs.Option.{unwrap_or}
use Rattle.fixedvec.specs.Items.{items_of}
use Rattle.calculus.specs.Limits.{sized}
use Rattle.calculus.specs.Lists.{every}
use Rattle.rows.specs.Bounds.{most_size}
use Rattle.rows.specs.Hints.{multipliers}
use Rattle.rows.specs.Linear.{Table}
use Rattle.linear.specs.declared.store.Linear.{Linear}
use Rattle.linear.specs.Views.{row}

abbrev pub table : Linear → Table
table l = record { counted = is_some l.measures; measures = unwrap_or l.measures 0; rows = map row (items_of l.atoms) }

-- a hint with one multiplier for each literal of the clause, each in its range
pub record Multiplied (clause : List ℤ) (hint : List ℕ) : Type 0 where
  pub long : length hint ≡ 1 + 4 * length clause
  pub sized : every (sized most_size) (multipliers (length clause) hint) ≡ true
