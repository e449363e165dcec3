use Rattle.std.proofs.Common.{◌≤◌, length, sym, arith}
use Rattle.calculus.proofs.Looping.{some_end}
use Rattle.rows.specs.Hints.{strict}
use Rattle.linear.specs.Refutations.{parts_of}
use Rattle.linear.proofs.Hinted.{parts_length_is}
use Rattle.linear.proofs.refutations.Refutation.some_strict.Goals as goal

pub returns : goal.returns
returns c =
    let ps = parts_of c.args.self.now in
    let n = parts_length_is c.args.self.now in
    let h : length ps ≤ c.loop-i.i = omega arith in
    sym (some_end (λ p. strict p.1 p.0) ps c.loop-i.i h c.loop-i.invariant)
