use Rattle.calculus.specs.Calls.Call.{Read}
use Rattle.calculus.proofs.Reaching.{reached_more, guaranteed_after}
use Rattle.session.proofs.Session.read.Goals as goal

pub invariant_of-self : goal.invariant_of-self
invariant_of-self g c = record { reached = reached_more g.T.Theory.kind _ _ (Read c.args.number) c.args.self.now.reached c.read.ensures.1 }

pub returns : goal.returns
returns g c = record { steps = c.read.ensures; sound = guaranteed_after g.T.Theory.kind g.met.T.Theory.lawful _ _ (Read c.args.number) c.args.self.now.reached c.read.ensures.1 }
