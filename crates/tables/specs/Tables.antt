-- What the tables stand for.
use Rattle.std.specs.Prelude.{◌≡◌, true, false, List, map, length, ℤ, Option, MatchOption, nat_le}
use Rattle.fixedvec.specs.Items.{items_of}
use Rattle.calculus.specs.Limits.{most_literals}
use Rattle.calculus.specs.Trails.{Entry}
use Rattle.calculus.specs.States.{Stored}
use Rattle.tables.specs.Views.{entries_of}
use Rattle.tables.specs.declared.trail.Trail.{Trail}
use Rattle.tables.specs.declared.clause.Clause.{Clause}
use Rattle.tables.specs.declared.store.Row.{Row}
use Rattle.tables.specs.declared.store.Store.{Store}

abbrev pub trail_of : Trail → List Entry
trail_of t = entries_of (items_of t.entries)

abbrev pub literals_of : Clause → List ℤ
literals_of c = items_of c.literals

abbrev pub stored_of : Row → Stored
stored_of r = record { literals = literals_of r.clause; rule = r.rule }

abbrev pub store_of : Store → List Stored
store_of s = map stored_of s.rows.items

-- the clause of these literals, unless they are too many
abbrev pub Makes : List ℤ → Option Clause → Type 0
Makes ls r = MatchOption r (nat_le (length ls) most_literals ≡ false) (λ c. (nat_le (length ls) most_literals ≡ true) × (literals_of c ≡ ls))
