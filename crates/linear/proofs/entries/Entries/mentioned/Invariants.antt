use Rattle.std.proofs.Common.{◌≡◌, ℕ, ◌<◌, false, length, take, get_or, eqb}
use Rattle.calculus.specs.Lists.{some}
use Rattle.linear.proofs.entries.Entries.mentioned.Given as goal

abbrev pub invariant-loop-e : goal.invariant-loop-e
invariant-loop-e l = (length l.flags ≡ 17) × ((j : ℕ) → j < 17 → get_or l.flags j false ≡ some (λ e. eqb e.measure j) (take l.e-index l.entries))
