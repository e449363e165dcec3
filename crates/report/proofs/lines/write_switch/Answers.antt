use Rattle.std.proofs.Common.{◌+◌, sym, ap, arith}
use Rattle.report.specs.Lines.{switch_line}
use Rattle.report.proofs.Writing.{same, then}
use Rattle.report.proofs.lines.write_switch.Goals as goal
use Rattle.report.proofs.lines.write_switch.Goals.{then-on, else-on}

pub returns : goal.returns
returns c =
    let number = then c.write_bytes-at.ensures c.write_small.ensures.wrote in
    let line = switch_line c.args.number in
    elim c.if-on.branch [
      | then-on w ↦
          record {
            wrote = same (ap line (sym w.if-on.true)) (ap (λ n. c.write_bytes-at.result + c.write_small.result + n) (sym w.at-is)) (sym w.rest-is) (then number w.write_bytes.ensures);
            bound = omega (arith, w.at-is, c.write_bytes-at.ensures.count, w.write_bytes.ensures.count);
          }
      | else-on w ↦
          record {
            wrote = same (ap line (sym w.if-on.false)) (ap (λ n. c.write_bytes-at.result + c.write_small.result + n) (sym w.at-is)) (sym w.rest-is) (then number w.write_bytes-else-on.ensures);
            bound = omega (arith, w.at-is, c.write_bytes-at.ensures.count, w.write_bytes-else-on.ensures.count);
          }
    ]
