use Rattle.std.proofs.Common.{refl}
use Rattle.rows.proofs.examples_stand.Goals as goal

pub returns : goal.returns
returns c =
    ((refl, (refl, (refl, (refl, (refl, (refl, (refl, (refl, (refl, (refl, (refl, (refl, (refl, (refl, (refl, (refl, (refl, (refl, (refl, tt))))))))))))))))))), (refl, (refl, (refl, (refl, (refl, (refl, (refl, (refl, (refl, (refl, (refl, (refl, (refl, (refl, (refl, tt))))))))))))))), refl, refl, (refl, (refl, (refl, (refl, (refl, (refl, tt)))))), refl)
