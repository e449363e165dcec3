use Rattle.std.proofs.Common.{sym, subst, take}
use Rattle.files.specs.Frames.{framed}
use Rattle.files.proofs.Rounds.{from_inr, from_inl}
use Rattle.checker.specs.Truth.{TruthfulOf}
use Rattle.checker.proofs.check_frame.Goals as goal

pub returns-in-Ok-clause-truthful : goal.returns-in-Ok-clause-truthful
returns-in-Ok-clause-truthful c = subst (λ o. TruthfulOf o (take c.check.result c.check.new.report)) (sym (from_inr (framed c.args.input.now) _ c.in-Ok.ensures)) c.check.ensures.truthful

pub returns-in-Err-clause-truthful : goal.returns-in-Err-clause-truthful
returns-in-Err-clause-truthful c = subst (λ o. TruthfulOf o (take c.write.result c.write.new.report)) (sym (from_inl (framed c.args.input.now) _ c.in-Err.ensures).1) tt
