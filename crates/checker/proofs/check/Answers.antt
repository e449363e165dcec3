use Rattle.std.proofs.Common.{◌≡◌, false, ltb, length, ap, ◌∙◌, arith}
use Rattle.std.proofs.lemmas.Bool.{le-ltb}
use Rattle.report.specs.Buffers.{least_buffer}
use Rattle.report.specs.Lines.{lines}
use Rattle.checker.proofs.Truth.{front, truthful}
use Rattle.checker.proofs.check.Goals as goal

pub returns-clause-truthful : goal.returns-clause-truthful
returns-clause-truthful c =
    let long : ltb (length c.args.report.now) least_buffer ≡ false = le-ltb (length c.args.report.now) least_buffer (omega (arith, c.if-report-lt-LEAST_BUFFER.false)) in
    truthful c.args.theory c.args.case.now c.args.log.now _ (front _ _ _ _ long c.write.ensures ∙ ap lines c.outcome.ensures)
