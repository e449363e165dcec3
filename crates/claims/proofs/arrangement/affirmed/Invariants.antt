use Rattle.std.proofs.Common.{◌≡◌, ◌+◌, ◌≤◌, map, length, pos}
use Rattle.std.specs.List.{range_with_len}
use Rattle.fixedvec.specs.Items.{items_of}
use Rattle.calculus.specs.Trails.{on_trail}
use Rattle.tables.specs.Tables.{trail_of}
use Rattle.claims.proofs.arrangement.affirmed.Given as goal

abbrev pub invariant-loop-n : goal.invariant-loop-n
invariant-loop-n l =
    (l.n ≤ l.count + 1)
    × (length (items_of l.switches) + 1 ≡ l.n)
    × (items_of l.switches ≡ map (λ i. on_trail (pos i) (trail_of l.trail)) (range_with_len 1 (length (items_of l.switches))))
