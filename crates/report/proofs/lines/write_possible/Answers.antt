use Rattle.std.proofs.Common.{arith}
use Rattle.report.proofs.Writing.{then}
use Rattle.report.proofs.lines.write_possible.Goals as goal

pub returns : goal.returns
returns c =
    record {
      wrote = then (then c.write_bytes-at.ensures c.write_number-at.ensures.wrote) c.write_bytes-at-2.ensures;
      bound = omega (arith, c.write_bytes-at.ensures.count, c.write_bytes-at-2.ensures.count);
    }
