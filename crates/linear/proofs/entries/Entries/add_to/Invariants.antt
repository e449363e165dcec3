use Rattle.std.proofs.Common.{◌≡◌, ℕ, ◌+◌, ◌*◌, ◌<◌, ◌≤◌, length, take, get_or, pos, ◌+ℤ◌, ◌*ℤ◌, nat_abs}
use Rattle.rows.specs.Rows.{coefficient_of}
use Rattle.linear.proofs.entries.Entries.add_to.Given as goal

abbrev pub invariant-loop-e : goal.invariant-loop-e
invariant-loop-e l =
    (length l.sums ≡ 17)
    × ((j : ℕ) → j < 17 → get_or l.sums j (pos 0) ≡ get_or l.initial.sums j (pos 0) +ℤ l.factor *ℤ coefficient_of j (take l.e-index l.entries))
    × ((b : ℕ) → ((j : ℕ) → j < 17 → nat_abs (get_or l.initial.sums j (pos 0)) ≤ b) → (j : ℕ) → j < 17 → nat_abs (get_or l.sums j (pos 0)) ≤ b + l.e-index * 160000000000000000)
