use Rattle.std.proofs.Common.{false, refl}
use Rattle.std.proofs.lemmas.List.{get_or-replicate}
use Rattle.linear.proofs.entries.Entries.mentioned.Goals as goal

pub loop-e-init : goal.loop-e-init
loop-e-init c = (refl, λ j h. get_or-replicate 17 j false false h)
