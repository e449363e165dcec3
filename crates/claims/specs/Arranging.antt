-- The arrangement that a trail makes.
use Rattle.std.specs.Prelude.{ℕ, List, map, pos}
use Rattle.std.specs.List.{range_with_len}
use Rattle.calculus.specs.Arrangements.{Arrangement}
use Rattle.calculus.specs.Kinds.{Kind}
use Rattle.calculus.specs.Trails.{Entry, on_trail, numerators}

-- of w switches and the measures of the model m, over the denominator d: a switch that it does not affirm counts as no
abbrev pub arrangement : (K : Kind) → K.Model → ℕ → ℕ → List Entry → Arrangement
arrangement K m w d t = record { switches = map (λ n. on_trail (pos n) t) (range_with_len 1 w); numerators = numerators K m t; denominator = d }
