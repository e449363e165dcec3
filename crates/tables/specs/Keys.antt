-- What holds of every trail: its numbers and measures are in range, none of them stands twice, each entry is found by its
-- key, and each numerator by its measure.
use Rattle.std.specs.Prelude.{◌≡◌, ℕ, ◌+◌, ◌-◌, ◌≤◌, Bool, true, not, ◌&&◌, List, [], ◌∷◌, ℤ, pos, ◌==◌, slice_index_or}
use Rattle.calculus.specs.Limits.{most_numbers, most_measures, most_numerator, within, sized}
use Rattle.calculus.specs.Literals.{number}
use Rattle.calculus.specs.Trails.{Content, Entry, taken, valued, value}
use Rattle.calculus.specs.Trails.Content.{Value, Literal}

-- a literal on a number that there can be, or a value in its range for a measure that there can be
abbrev pub ranged : Content → Bool
ranged (Value j x) = within most_measures j && sized most_numerator x
ranged (Literal l o) = within most_numbers (number l)

-- its number, or its measure, is not on the trail
abbrev pub free : Content → List Entry → Bool
free (Value j x) t = not (valued j t)
free (Literal l o) t = not (taken (number l) t)

abbrev pub tidy : List Entry → Bool
tidy [] = true
tidy (e ∷ t) = (ranged e.content && free e.content t) && tidy t

-- where the place of such a content is kept: under its number, and for a measure from 255 down
abbrev pub key : Content → ℕ
key (Value j x) = 255 - j
key (Literal l o) = number l

-- the places of the entries, counted from n, are kept under their keys; what is kept under another key says nothing
abbrev pub placed : List ℕ → ℕ → List Entry → Bool
placed places n [] = true
placed places n (e ∷ t) = (slice_index_or places (key e.content) 0 == n) && placed places (n + 1) t

-- the numerator of each measure that there can be is kept under its number; a measure without a value has 0
abbrev pub Weighed : List ℤ → List Entry → Type 0
Weighed numerators t = (j : ℕ) → j ≤ most_measures → slice_index_or numerators j (pos 0) ≡ value j t
