use Rattle.std.proofs.Common.{◌≡◌, map, take}
use Rattle.fixedvec.specs.Items.{items_of}
use Rattle.rows.specs.Rows.{turned_entry}
use Rattle.linear.proofs.entries.Entries.turned.Given as goal

abbrev pub invariant-loop-e : goal.invariant-loop-e
invariant-loop-e l = items_of l.turned.items ≡ map turned_entry (take l.e-index l.entries)
