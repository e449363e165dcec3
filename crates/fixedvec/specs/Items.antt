-- What is in a vector of a fixed capacity.
use Rattle.std.specs.Prelude.{ℕ, List, take}
use Rattle.fixedvec.specs.declared.holding.FixedVec.{FixedVec}

module _ {T : Type 0} {CAP : ℕ} where
  -- its items, in their order
  abbrev pub items_of : FixedVec T CAP → List T
  items_of v = take v.len v.places
