use Rattle.std.proofs.Common.{refl}
use Rattle.trials.specs.Refusals.{switch_refusals, sign_refusals}
use Rattle.trials.proofs.refusals_stand.Goals as goal

pub returns : goal.returns
unfolding switch_refusals sign_refusals
returns c = record {
  switches = (refl, (refl, (refl, (refl, (refl, (refl, (refl, (refl, (refl, (refl, (refl, (refl, (refl, (refl, (refl, (refl, (refl, (refl, (refl, (refl, tt))))))))))))))))))));
  signs = (refl, (refl, (refl, (refl, (refl, (refl, (refl, (refl, (refl, (refl, (refl, (refl, (refl, (refl, (refl, (refl, (refl, (refl, tt))))))))))))))))));
}
