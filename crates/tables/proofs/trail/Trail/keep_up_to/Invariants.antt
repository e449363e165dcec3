use Rattle.std.proofs.Common.{◌≡◌, take}
use Rattle.calculus.specs.Trails.{up_to}
use Rattle.tables.specs.Views.{entries_of}
use Rattle.tables.specs.Tables.{trail_of}
use Rattle.tables.proofs.trail.Trail.keep_up_to.Given as goal

abbrev pub invariant-loop-entry : goal.invariant-loop-entry
invariant-loop-entry l = trail_of l.kept ≡ up_to l.level (entries_of (take l.entry-index l.entries))
