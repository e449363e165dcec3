use Rattle.rows.proofs.Lawfulness.{linear_lawful}
use Rattle.rows.proofs.laws_stand.Goals as goal

pub returns : goal.returns
returns c = linear_lawful
