use Rattle.calculus.specs.Calls.Call.{Declare}
use Rattle.calculus.proofs.Reaching.{reached_more, guaranteed_after}
use Rattle.session.proofs.Session.declare.Goals as goal

pub invariant_of-self : goal.invariant_of-self
invariant_of-self g c = record { reached = reached_more g.T.Theory.kind _ _ (Declare c.args.body.now) c.args.self.now.reached c.declare.ensures.1 }

pub returns : goal.returns
returns g c = record { steps = c.declare.ensures; sound = guaranteed_after g.T.Theory.kind g.met.T.Theory.lawful _ _ (Declare c.args.body.now) c.args.self.now.reached c.declare.ensures.1 }
