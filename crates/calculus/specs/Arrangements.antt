-- Arrangements: yes or no for each switch, and for each measure a numerator over one positive denominator.
-- A switch is a variable that is true or false, and a measure one that has a rational value.
use Rattle.std.specs.Prelude.{◌≡◌, ℕ, Bool, List, ℤ, pos, ◌*ℤ◌}

pub record Arrangement : Type 0 where
  pub switches : List Bool
  -- of any size
  pub numerators : List ℤ
  pub denominator : ℕ

-- x over d and y over e are one fraction
abbrev pub SameFraction : ℤ → ℕ → ℤ → ℕ → Type 0
SameFraction x d y e = x *ℤ pos e ≡ y *ℤ pos d
