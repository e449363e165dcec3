use Rattle.calculus.specs.Calls.Call.{Abandon}
use Rattle.calculus.proofs.Reaching.{reached_more, guaranteed_after}
use Rattle.session.proofs.Session.abandon_conflict.Goals as goal

pub invariant_of-self : goal.invariant_of-self
invariant_of-self g c = record { reached = reached_more g.T.Theory.kind _ _ Abandon c.args.self.now.reached c.abandon_conflict.ensures.1 }

pub returns : goal.returns
returns g c = record { steps = c.abandon_conflict.ensures; sound = guaranteed_after g.T.Theory.kind g.met.T.Theory.lawful _ _ Abandon c.args.self.now.reached c.abandon_conflict.ensures.1 }
