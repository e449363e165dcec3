use Rattle.std.proofs.Common.{rules}
use Rattle.calculus.proofs.Soundness.{sound}
use Rattle.calculus.proofs.Reaching.{guaranteed}
use Rattle.session.proofs.Session.new.Goals as goal

pub returns : goal.returns
returns g c = record {
  state = search rules;
  law = sound g.T.Theory.kind g.met.T.Theory.lawful;
  sound = guaranteed g.T.Theory.kind g.met.T.Theory.lawful _ (search rules);
}
