use Rattle.std.proofs.Common.{◌≤◌, length, sym, arith}
use Rattle.calculus.proofs.Looping.{every_end}
use Rattle.rows.specs.Hints.{allowed}
use Rattle.linear.specs.Refutations.{parts_of}
use Rattle.linear.proofs.Hinted.{parts_length_is}
use Rattle.linear.proofs.refutations.Refutation.all_allowed.Goals as goal

pub returns : goal.returns
returns c =
    let ps = parts_of c.args.self.now in
    let n = parts_length_is c.args.self.now in
    let h : length ps ≤ c.loop-i.i = omega arith in
    sym (every_end (λ p. allowed p.1 p.0) ps c.loop-i.i h c.loop-i.invariant)
