use Rattle.calculus.proofs.Reaching.{guaranteed}
use Rattle.session.specs.Views.{view}
use Rattle.session.proofs.Session.guaranteed.Goals as goal

pub returns : goal.returns
returns g c = guaranteed g.T.Theory.kind g.met.T.Theory.lawful (view g.T.Theory.kind g.T.Theory.model c.args.self.now) c.args.self.now.reached
