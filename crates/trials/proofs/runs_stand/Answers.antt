use Rattle.std.proofs.Common.{refl}
use Rattle.trials.specs.Runs.{switch_runs, sign_runs}
use Rattle.trials.proofs.runs_stand.Goals as goal

pub returns : goal.returns
unfolding switch_runs sign_runs
returns c = record {
  switches = ((refl, refl, refl), ((refl, refl, refl), ((refl, refl, refl), ((refl, refl, refl), ((refl, refl, refl), ((refl, refl, refl), ((refl, refl, refl), ((refl, refl, refl), ((refl, refl, refl), ((refl, refl, refl), ((refl, refl, refl), ((refl, refl, refl), tt))))))))))));
  signs = ((refl, refl, refl), ((refl, refl, refl), ((refl, refl, refl), ((refl, refl, refl), ((refl, refl, refl), ((refl, refl, refl), ((refl, refl, refl), tt)))))));
}
