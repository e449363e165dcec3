use Rattle.congruences.proofs.Lawfulness.{congruence_lawful}
use Rattle.congruences.proofs.laws_stand.Goals as goal

pub returns : goal.returns
returns g c = congruence_lawful g.T.Theory.kind g.met.T.Theory.lawful
