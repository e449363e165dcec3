use Rattle.std.proofs.Common.{map, sym, ap, ◌∙◌, subst, arith, take_all}
use Rattle.calculus.specs.Sound.{Guarantees}
use Rattle.calculus.specs.Steps.{run}
use Rattle.calculus.proofs.Soundness.{sound}
use Rattle.session.specs.declared.replaying.Order.TheVariants.{Counts}
use Rattle.session.specs.Orders.{call_of}
use Rattle.session.proofs.Reaching.{one_more}
use Rattle.driver.proofs.replaying.replay.Goals as goal

pub loop-order-preserved : goal.loop-order-preserved
loop-order-preserved g c = let n = c.step-next.ensures c.loop-order.invariant.2 in (
  omega arith,
  one_more g.T.Theory.kind c.args.orders.now c.loop-order.order-index _ _ (Counts 0 0) c.loop-order-test.true c.loop-order.invariant.1 n.0.1,
  n.1,
)

pub returns : goal.returns
returns g c =
    let K = g.T.Theory.kind in
    let os = c.args.orders.now in
    let e = c.loop-order.invariant.1 ∙ ap (λ t. run K (map call_of t)) (take_all c.loop-order.order-index os c.loop-order-test.false) in
    record { led = e; sound = subst (Guarantees K) (sym e) (sound K g.met.T.Theory.lawful (map call_of os)).0; held = c.loop-order.invariant.2 }
