use Rattle.std.proofs.Common.{sym, refl, ap}
use Rattle.report.specs.Lines.{lines}
use Rattle.report.specs.Views.{outcome_of}
use Rattle.report.specs.declared.outcome.Outcome as code
use Rattle.report.proofs.Writing.{same, whole}
use Rattle.report.proofs.outcome.Outcome.write.Goals as goal

pub returns-in-Impossible : goal.returns-in-Impossible
returns-in-Impossible c =
    whole c.if-report-lt-LEAST_BUFFER.false
    (same (ap (λ (o : code.Outcome). lines (outcome_of o)) (sym c.in-Impossible.is)) refl refl c.write_bytes.ensures)
