use Rattle.std.proofs.Common.{◌≡◌, ℕ, ◌*◌, ◌<◌, ◌≤◌, length, take, get_or, pos, nat_abs}
use Rattle.rows.specs.Hints.{column}
use Rattle.linear.specs.Sizes.{most_row}
use Rattle.linear.specs.Refutations.{parts_of}
use Rattle.linear.proofs.refutations.Refutation.columns.Given as goal

abbrev pub invariant-loop-i : goal.invariant-loop-i
invariant-loop-i l =
    (length l.sums ≡ 17)
    × ((j : ℕ) → j < 17 → get_or l.sums j (pos 0) ≡ column j (take l.i (parts_of l.self)))
    × ((j : ℕ) → j < 17 → nat_abs (get_or l.sums j (pos 0)) ≤ l.i * most_row)
