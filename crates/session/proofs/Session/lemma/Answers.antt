use Rattle.calculus.specs.Calls.Call.{Lemma}
use Rattle.calculus.proofs.Reaching.{reached_more, guaranteed_after}
use Rattle.session.proofs.Session.lemma.Goals as goal

pub invariant_of-self : goal.invariant_of-self
invariant_of-self g c = record { reached = reached_more g.T.Theory.kind _ _ (Lemma c.args.literals.now c.args.hint.now) c.args.self.now.reached c.«lemma».ensures.1 }

pub returns : goal.returns
returns g c = record { steps = c.«lemma».ensures; sound = guaranteed_after g.T.Theory.kind g.met.T.Theory.lawful _ _ (Lemma c.args.literals.now c.args.hint.now) c.args.self.now.reached c.«lemma».ensures.1 }
