use Rattle.std.proofs.Common.{◌≡◌, ◌+◌, ◌≤◌, ◌++◌, length, take}
use Rattle.fixedvec.specs.Items.{items_of}
use Rattle.fixedvec.proofs.holding.FixedVec.try_extend_from_slice.Given as goal

-- what was taken of the items stands at the end
abbrev pub invariant-loop-item : goal.invariant-loop-item
invariant-loop-item g l =
    (items_of l.self ≡ items_of l.initial.self ++ take l.item-index l.items)
    × (l.self.len ≡ l.initial.self.len + l.item-index)
