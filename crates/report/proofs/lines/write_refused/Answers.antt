use Rattle.std.proofs.Common.{refl, ap}
use Rattle.faults.specs.declared.Code.{Code}
use Rattle.report.specs.Lines.{refused_line}
use Rattle.report.proofs.Writing.{same, then}
use Rattle.report.proofs.lines.write_refused.Goals as goal

pub returns : goal.returns
returns c =
    let stop = c.args.stop.now in
    let cause = then c.write_bytes-at.ensures c.write_number-at.ensures.wrote in
    let file = then (then cause c.write_bytes-at-2.ensures) c.write_number-at-2.ensures.wrote in
    let number = then (then file c.write_bytes-at-3.ensures) c.write_number-at-3.ensures.wrote in
    let byte = then (then number c.write_bytes-at-4.ensures) c.write_number-at-4.ensures.wrote in
    let layer = then (then byte c.write_bytes-at-5.ensures) c.write_number-at-5.ensures.wrote in
    same (ap (λ (k : Code). refused_line k.cause c.args.file stop.number stop.byte k.layer) c.code-code.ensures) refl refl (then layer c.write_bytes-at-6.ensures)
