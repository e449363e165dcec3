use Rattle.std.proofs.Common.{◌≡◌, ◌≤◌, map, length, take}
use Rattle.calculus.specs.Steps.{run}
use Rattle.session.specs.Views.{view}
use Rattle.session.specs.Orders.{call_of}
use Rattle.driver.specs.Holding.{Holds}
use Rattle.driver.proofs.replaying.replay.Given as goal

abbrev pub invariant-loop-order : goal.invariant-loop-order
invariant-loop-order g l =
    (l.order-index ≤ length l.orders)
    × (view g.T.Theory.kind g.T.Theory.model l.session ≡ run g.T.Theory.kind (map call_of (take l.order-index l.orders)))
    × Holds g.T.Theory.kind g.T.Theory.model l.held l.session
