use Rattle.std.proofs.Common.{◌*◌, ◌≤◌, take}
use Rattle.report.specs.Buffers.{Wrote}
use Rattle.report.specs.Lines.{measure_lines}
use Rattle.report.proofs.lines.write_measures.Given as goal

abbrev pub invariant-loop-i : goal.invariant-loop-i
invariant-loop-i l = Wrote (measure_lines 1 (take l.i l.numerators)) l.initial.rest l.at l.rest × (l.at ≤ 27 * l.i)
