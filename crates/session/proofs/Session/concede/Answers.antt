use Rattle.calculus.specs.Calls.Call.{Concede}
use Rattle.calculus.proofs.Reaching.{reached_more, guaranteed_after}
use Rattle.session.proofs.Session.concede.Goals as goal

pub invariant_of-self : goal.invariant_of-self
invariant_of-self g c = record { reached = reached_more g.T.Theory.kind _ _ Concede c.args.self.now.reached c.concede.ensures.1 }

pub returns : goal.returns
returns g c = record { steps = c.concede.ensures; sound = guaranteed_after g.T.Theory.kind g.met.T.Theory.lawful _ _ Concede c.args.self.now.reached c.concede.ensures.1 }
