use Rattle.std.proofs.Common.{refl, ap}
use Rattle.report.specs.Lines.{possible_line, switch_lines, measure_lines}
use Rattle.report.proofs.Writing.{same, then}
use Rattle.report.proofs.lines.write_arrangement.Goals as goal

pub returns : goal.returns
returns c =
    let possible = same (ap possible_line c.denominator.ensures) refl refl c.write_possible-at.ensures.wrote in
    let switches = same (ap (switch_lines 1) c.switches.ensures.value) refl refl c.write_switches-at.ensures.wrote in
    let measures = same (ap (measure_lines 1) c.numerators.ensures.value) refl refl c.write_measures-at.ensures.wrote in
    then (then possible switches) measures
