use Rattle.std.proofs.Common.{refl, ap, arith}
use Rattle.std.specs.Fmt.{signed_decimal}
use Rattle.std.proofs.lemmas.Int.{to_z-of_z}
use Rattle.report.proofs.Writing.{same, then}
use Rattle.report.proofs.lines.write_measure.Goals as goal

pub returns : goal.returns
returns c =
    let numerator = same (ap signed_decimal (to_z-of_z _ _ c.ranges.numerator)) refl refl c.write_signed-at.ensures.wrote in
    record {
      wrote = then (then (then (then c.write_bytes-at.ensures c.write_small-at.ensures.wrote) c.write_bytes-at-2.ensures) numerator) c.write_bytes-at-3.ensures;
      bound = omega (arith, c.write_bytes-at.ensures.count, c.write_bytes-at-2.ensures.count, c.write_bytes-at-3.ensures.count);
    }
