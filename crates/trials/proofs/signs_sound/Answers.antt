use Rattle.calculus.proofs.Soundness.{sound}
use Rattle.trials.specs.Signs.{signs}
use Rattle.trials.proofs.Lawfulness.{signs_lawful}
use Rattle.trials.proofs.signs_sound.Goals as goal

pub returns : goal.returns
returns c = record { lawful = signs_lawful; sound = sound signs signs_lawful }
