use Rattle.std.proofs.Common.{◌≡◌, ◌≤◌, take, drop}
use Rattle.fixedvec.specs.Items.{items_of}
use Rattle.rows.specs.Bodies.{entries_in, in_order}
use Rattle.linear.proofs.bodies.entries.Given as goal

abbrev pub invariant-loop-chunk : goal.invariant-loop-chunk
invariant-loop-chunk l = record {
  rest : in_order l.measures l.last (drop l.chunk-index (entries_in l.body l.count)) ≡ in_order l.measures 0 (entries_in l.body l.count);
  read : items_of l.entries.items ≡ take l.chunk-index (entries_in l.body l.count);
  rising : l.chunk-index ≤ l.last;
  known : l.last ≤ l.measures;
}
