use Rattle.std.proofs.Common.{refl, ap, arith}
use Rattle.std.proofs.lemmas.List.{take_all}
use Rattle.report.specs.Lines.{switch_lines}
use Rattle.report.proofs.Writing.{same, then}
use Rattle.report.proofs.Counted.{switch_next}
use Rattle.report.proofs.lines.write_switches.Goals as goal

pub loop-i-preserved : goal.loop-i-preserved
loop-i-preserved c = (
  same (switch_next c.args.switches.now c.loop-i.i _ c.loop-i-test.true) refl refl (then c.loop-i.invariant.0 c.write_switch-at.ensures.wrote),
  omega (arith, c.loop-i.invariant.1, c.write_switch-at.ensures.bound),
)

pub returns : goal.returns
returns c =
    record {
      wrote = same (ap (switch_lines 1) (take_all c.loop-i.i c.args.switches.now c.loop-i-test.false)) refl refl c.loop-i.invariant.0;
      bound = omega (arith, c.loop-i.invariant.1, c.loop-i.auto.i-end);
    }
