-- The limits of the linear theory.
use Rattle.std.specs.Prelude.{ℕ}

abbrev pub most_atoms : ℕ
most_atoms = 127

-- a coefficient, a constant and a multiplier lie between minus this and this
abbrev pub most_size : ℕ
most_size = 100000000
