use Rattle.std.proofs.Common.{◌+◌, get_or, ℤ, pos, refl, ap, arith, w32, SFits, rules}
use Rattle.std.proofs.lemmas.List.{take_all}
use Rattle.std.proofs.lemmas.Int.{to_z-of_z}
use Rattle.report.specs.Lines.{measure_line, measure_lines}
use Rattle.report.proofs.Writing.{same, then}
use Rattle.report.proofs.Counted.{measure_next}
use Rattle.report.proofs.lines.write_measures.Goals as goal

pub loop-i-preserved : goal.loop-i-preserved
loop-i-preserved c =
    let z : ℤ = get_or c.args.numerators.now c.loop-i.i (pos 0) in
    let fits : SFits w32 z = search rules in
    let line = same (ap (measure_line (c.loop-i.i + 1)) (to_z-of_z w32 z fits)) refl refl c.write_measure-at.ensures.wrote in (
      same (measure_next c.args.numerators.now c.loop-i.i (pos 0) c.loop-i-test.true) refl refl (then c.loop-i.invariant.0 line),
      omega (arith, c.loop-i.invariant.1, c.write_measure-at.ensures.bound),
    )

pub returns : goal.returns
returns c =
    record {
      wrote = same (ap (measure_lines 1) (take_all c.loop-i.i c.args.numerators.now c.loop-i-test.false)) refl refl c.loop-i.invariant.0;
      bound = omega (arith, c.loop-i.invariant.1, c.loop-i.auto.i-end);
    }
