use Rattle.std.proofs.Common.{◌≡◌, ◌≤◌, Bool, ℤ, length, take, filter}
use Rattle.tables.specs.Tables.{literals_of}
use Rattle.tables.proofs.clause.Clause.of_those.Given as goal

abbrev pub invariant-loop-k : goal.invariant-loop-k
invariant-loop-k g l =
    (length (literals_of l.clause) ≤ l.k-index)
    × ((p : ℤ → Bool) → ((k : ℤ) (b : Bool) → goal.F-post g l.test k b → b ≡ p k) → literals_of l.clause ≡ filter p (take l.k-index l.literals))
