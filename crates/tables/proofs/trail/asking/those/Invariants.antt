use Rattle.std.proofs.Common.{◌≡◌, ℕ, ◌+◌, ◌-◌, ◌≤◌, Bool, length, filter}
use Rattle.std.specs.List.{range_with_len}
use Rattle.tables.proofs.trail.asking.those.Given as goal

abbrev pub invariant-loop-j : goal.invariant-loop-j
invariant-loop-j g l =
    (length l.those.items + 1 ≤ l.j)
    × ((p : ℕ → Bool) → ((j : ℕ) (b : Bool) → goal.F-post g l.test j b → b ≡ p j) → l.those.items ≡ filter p (range_with_len 1 (l.j - 1)))
