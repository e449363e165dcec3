use Rattle.calculus.proofs.Looping.{Unfailed}
use Rattle.rows.specs.Hints.{allowed}
use Rattle.linear.specs.Refutations.{parts_of}
use Rattle.linear.proofs.refutations.Refutation.all_allowed.Given as goal

abbrev pub invariant-loop-i : goal.invariant-loop-i
invariant-loop-i l = Unfailed (λ p. allowed p.1 p.0) (parts_of l.self) l.i
