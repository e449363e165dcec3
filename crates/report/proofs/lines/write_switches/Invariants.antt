use Rattle.std.proofs.Common.{◌*◌, ◌≤◌, take}
use Rattle.report.specs.Buffers.{Wrote}
use Rattle.report.specs.Lines.{switch_lines}
use Rattle.report.proofs.lines.write_switches.Given as goal

abbrev pub invariant-loop-i : goal.invariant-loop-i
invariant-loop-i l = Wrote (switch_lines 1 (take l.i l.switches)) l.initial.rest l.at l.rest × (l.at ≤ 9 * l.i)
