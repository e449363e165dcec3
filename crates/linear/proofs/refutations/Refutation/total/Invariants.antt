use Rattle.std.proofs.Common.{◌≡◌, ◌*◌, ◌≤◌, ℤ, take, nat_abs}
use Rattle.rows.specs.Rows.{total}
use Rattle.rows.specs.Hints.{Part}
use Rattle.linear.specs.Refutations.{part, parts_of}
use Rattle.linear.proofs.refutations.Refutation.total.Given as goal

abbrev pub invariant-loop-i : goal.invariant-loop-i
invariant-loop-i g l = record {
  so_far : (f : Part → ℤ) → ((s : _) (x : ℤ) → goal.F-post g l.term s x → x ≡ f (part s.now)) → l.sum ≡ total f (take l.i (parts_of l.self));
  small : nat_abs l.sum ≤ l.i * 160000000000000000;
}
