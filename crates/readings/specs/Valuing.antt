-- A trail on which a measure has just got its value.
use Rattle.std.specs.Prelude.{◌≡◌, ℕ, true, false, List, [], ◌∷◌, ◌++◌}
use Rattle.calculus.specs.Trails.{Entry, values, valued}

-- the trail u is t with a value for the measure j, which had none
pub record JustValued (j : ℕ) (t u : List Entry) : Type 0 where
  pub before : valued j t ≡ false
  pub entry : Entry
  pub values : values j entry.content ≡ true
  pub now : u ≡ t ++ entry ∷ []
