use Rattle.std.proofs.Common.{◌≡◌, ◌<◌, pos, ap, ◌∙◌, arith, w8}
use mir.Facts.{to_z_pos}
use Rattle.calculus.specs.Trails.{on_trail}
use Rattle.tables.specs.Tables.{trail_of}
use Rattle.tables.proofs.Weighing.{values_more}
use Rattle.claims.proofs.arrangement.affirmed.Goals as goal

pub loop-n-preserved : goal.loop-n-preserved
loop-n-preserved c =
    let low : c.loop-n.n < 128 = omega (arith, c.loop-n-test.true, c.requires) in
    let at : c.affirms.result ≡ on_trail (pos c.loop-n.n) (trail_of c.args.trail.now) = c.affirms.ensures ∙ ap (λ l. on_trail l (trail_of c.args.trail.now)) (to_z_pos w8 low) in
    (omega (arith, c.loop-n-test.true), omega (arith, c.push.ensures.len, c.loop-n.invariant.1), values_more (λ i. on_trail (pos i) (trail_of c.args.trail.now)) _ _ _ _ c.loop-n.invariant.1 c.loop-n.invariant.2 c.push.ensures.items at)
