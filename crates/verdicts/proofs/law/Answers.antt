use Rattle.verdicts.proofs.Telling.{honest}
use Rattle.verdicts.proofs.law.Goals as goal

pub returns : goal.returns
returns g c = honest g.T.Theory.kind g.met.T.Theory.lawful
