-- The sizes that rule out overflow.
use Rattle.std.specs.Prelude.{ℕ, ◌*◌, ◌^◌, Bool, List}
use Rattle.calculus.specs.Lists.{every}
use Rattle.calculus.specs.Limits.{most_measures, sized}
use Rattle.rows.specs.declared.Entry.{Entry}
use Rattle.rows.specs.Bounds.{most_size}

-- the size of a sum of coefficients
abbrev pub most_sum : ℕ
most_sum = most_measures * most_size

-- the size of a number within ±100,000,000 times such a sum, or times a numerator
abbrev pub most_product : ℕ
most_product = most_size * most_sum

-- the size of the products of a row, one for each measure
abbrev pub most_row : ℕ
most_row = most_measures * most_product

-- the size of the products of more rows than a machine can hold
abbrev pub most_before : ℕ
most_before = 2 ^ 64 * most_row

abbrev pub small_entries : List Entry → Bool
small_entries es = every (λ e. sized most_size e.coefficient) es
