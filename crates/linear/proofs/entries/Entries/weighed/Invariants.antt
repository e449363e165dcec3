use Rattle.std.proofs.Common.{◌≡◌, ◌*◌, ◌≤◌, take, nat_abs}
use Rattle.rows.specs.Rows.{weight}
use Rattle.linear.proofs.entries.Entries.weighed.Given as goal

abbrev pub invariant-loop-e : goal.invariant-loop-e
invariant-loop-e l = (l.sum ≡ weight (take l.e-index l.entries) l.numerators) × (nat_abs l.sum ≤ l.e-index * 160000000000000000)
