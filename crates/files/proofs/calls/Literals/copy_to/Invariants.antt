use Rattle.std.proofs.Common.{◌≡◌}
use Rattle.files.proofs.Copies.{over_front}
use Rattle.files.proofs.calls.Literals.copy_to.Given as goal

abbrev pub invariant-loop-i : goal.invariant-loop-i
invariant-loop-i l = l.out ≡ over_front l.self.bytes.now l.i l.initial.out
