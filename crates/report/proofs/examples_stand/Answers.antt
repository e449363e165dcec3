use Rattle.std.proofs.Common.{refl}
use Rattle.std.specs.Fmt.{digits}
use Rattle.report.proofs.examples_stand.Goals as goal

pub returns : goal.returns
unfolding digits
returns c = record { reports = (refl, (refl, (refl, (refl, (refl, (refl, (refl, tt))))))); input_numbers = refl; state_numbers = refl; cut = refl }
