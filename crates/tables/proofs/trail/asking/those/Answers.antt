use Rattle.std.proofs.Common.{length, sym, ap, ◌∙◌, arith}
use Rattle.tables.proofs.Weighing.{passed_in, passed_out}
use Rattle.tables.proofs.trail.asking.those.Goals as goal
use Rattle.tables.proofs.trail.asking.those.Goals.{then-test, else-test}

pub loop-j-preserved : goal.loop-j-preserved
loop-j-preserved g c = elim c.if-test.branch [
  | then-test w ↦ (
    omega (arith, ap (λ t. length t.items) w.those-is, w.push.ensures.len, c.loop-j.invariant.0),
    λ p says. ap (λ t. t.items) w.those-is ∙ passed_in p c.loop-j.j _ _ (omega arith) (sym (says _ _ c.test.ensures) ∙ w.if-test.true) (c.loop-j.invariant.1 p says) w.push.ensures.items,
  )
  | else-test w ↦ (
    omega (arith, ap (λ t. length t.items) w.those-is, c.loop-j.invariant.0),
    λ p says. ap (λ t. t.items) w.those-is ∙ passed_out p c.loop-j.j _ (omega arith) (sym (says _ _ c.test.ensures) ∙ w.if-test.false) (c.loop-j.invariant.1 p says),
  )
]
