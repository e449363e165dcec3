use Rattle.calculus.proofs.Looping.{Unmet}
use Rattle.rows.specs.Hints.{strict}
use Rattle.linear.specs.Refutations.{parts_of}
use Rattle.linear.proofs.refutations.Refutation.some_strict.Given as goal

abbrev pub invariant-loop-i : goal.invariant-loop-i
invariant-loop-i l = Unmet (λ p. strict p.1 p.0) (parts_of l.self) l.i
