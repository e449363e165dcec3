use Rattle.calculus.proofs.Soundness.{sound}
use Rattle.calculus.proofs.Bounding.{bounded}
use Rattle.calculus.proofs.Ruling.{rules_hold}
use Rattle.calculus.proofs.law.Goals as goal

pub returns : goal.returns
returns g c = record {
  sound = sound g.T.Theory.kind g.met.T.Theory.lawful;
  bounded = bounded g.T.Theory.kind g.met.T.Theory.lawful;
  rules = rules_hold g.T.Theory.kind g.met.T.Theory.lawful;
}
