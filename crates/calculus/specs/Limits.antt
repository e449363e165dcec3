-- The limits of a session.
use Rattle.std.specs.Prelude.{ℕ, Bool, ◌&&◌, ℤ, pos, negsuc, nat_le, nat_lt}

-- switches and atoms together
abbrev pub most_numbers : ℕ
most_numbers = 127

-- stored clauses: rules, lemmas and learnt clauses together
abbrev pub most_clauses : ℕ
most_clauses = 250

-- literals of one clause
abbrev pub most_literals : ℕ
most_literals = 16

abbrev pub most_measures : ℕ
most_measures = 16

-- a numerator that is given lies between minus this and this
abbrev pub most_numerator : ℕ
most_numerator = 1000000000

abbrev pub most_denominator : ℕ
most_denominator = 1000000

-- the lowest layer that a fault can name
abbrev pub most_layers : ℕ
most_layers = 255

-- one of the numbers 1 to n
abbrev pub within : ℕ → ℕ → Bool
within n a = nat_lt 0 a && nat_le a n

-- one of the whole numbers -n to n
abbrev pub sized : ℕ → ℤ → Bool
sized n (pos a) = nat_le a n
sized n (negsuc a) = nat_lt a n
