-- The hints that show that a clause is true in every arrangement: multipliers for the denials of its literals, or
-- a split of row = c into row < c and its turned row.
use Rattle.std.specs.Prelude.{ℕ, ◌+◌, ◌-◌, ◌*◌, Bool, false, cond, ◌&&◌, ◌||◌, List, [], ◌∷◌, map, length, ℤ, pos, negsuc, ◌*ℤ◌, Some, None, Option, int_le, int_lt, nat_le}
use Rattle.std.specs.List.{range_with_len}
use Rattle.calculus.specs.Lists.{every, some, nth}
use Rattle.calculus.specs.Limits.{within}
use Rattle.calculus.specs.Literals.{same, number}
use Rattle.rows.specs.declared.Relation.{Relation}
use Rattle.rows.specs.declared.Relation.TheVariants.{Less, AtMost, Equal}
use Rattle.rows.specs.Rows.{Row, no_row, total, coefficient_of, turned, related_by, same_relation, same_row}
use Rattle.rows.specs.Bodies.{word_at}

-- one multiplier for each of n literals, four bytes each, behind the kind of the hint
abbrev pub multipliers : ℕ → List ℕ → List ℤ
multipliers n hint = map (λ i. word_at hint (1 + 4 * i)) (range_with_len 0 n)

-- the denial of a row, written as a row: what is not < is turned ≤, and what is not ≤ is turned <
abbrev pub denied_row : Relation → Row → Option Row
denied_row Less r = Some (turned AtMost r)
denied_row AtMost r = Some (turned Less r)
denied_row Equal r = None

-- the denial of a literal on the atom of a row: the denial of a denied atom is the row itself
abbrev pub denial_of : ℤ → Row → Option Row
denial_of (pos n) r = denied_row r.relation r
denial_of (negsuc n) r = Some r

-- a multiplier that may be given to a denial: not negative for < and ≤, any for =, and 0 where the denial is no row
abbrev pub allowed : Option Row → ℤ → Bool
allowed None x = same x (pos 0)
allowed (Some r) x = same_relation r.relation Equal || int_le (pos 0) x

-- what a denial has of a measure, and its constant; one that is not written has neither
abbrev pub coefficient_in : ℕ → Option Row → ℤ
coefficient_in j None = pos 0
coefficient_in j (Some r) = coefficient_of j r.entries

abbrev pub constant_in : Option Row → ℤ
constant_in None = pos 0
constant_in (Some r) = r.constant

-- a positive multiplier on a <
abbrev pub strict : Option Row → ℤ → Bool
strict None x = false
strict (Some r) x = same_relation r.relation Less && int_lt (pos 0) x

-- a multiplier and the denial that it is for
abbrev pub Part : Type 0
Part = ℤ × Option Row

-- what multiplier times coefficient adds to at the measure j, and multiplier times constant
abbrev pub column : ℕ → List Part → ℤ
column j ps = total (λ p. p.0 *ℤ coefficient_in j p.1) ps

abbrev pub constants : List Part → ℤ
constants ps = total (λ p. p.0 *ℤ constant_in p.1) ps

-- the denials, times their multipliers, add up to 0 < 0 or to 0 ≤ a negative number, over t measures
abbrev pub refutes : ℕ → List Part → Bool
refutes t ps =
    every (λ p. allowed p.1 p.0) ps
    && (every (λ j. same (column j ps) (pos 0)) (range_with_len 1 t)
    && (int_lt (constants ps) (pos 0) || (same (constants ps) (pos 0) && some (λ p. strict p.1 p.0) ps)))

module _ (rows : List Row) (s : ℕ) where
  -- the row of the atom that a literal is on, where the numbers up to s are switches
  abbrev pub row_of : ℤ → Row
  row_of l = nth no_row rows (number l - s)

  -- a literal on a switch has no denial that is a row
  abbrev pub denial : ℤ → Option Row
  denial l = cond (nat_le (number l) s) None (denial_of l (row_of l))

  -- each multiplier with the denial of its literal, in the order of the clause
  abbrev pub parts : List ℤ → List ℤ → List Part
  parts [] xs = []
  parts (l ∷ ls) [] = []
  parts (l ∷ ls) (x ∷ xs) = (x, denial l) ∷ parts ls xs

  abbrev pub hinted_parts : List ℤ → List ℕ → List Part
  hinted_parts ls hint = parts ls (multipliers (length ls) hint)

  -- the literal affirms an atom whose row passes the test
  abbrev pub affirms : (Row → Bool) → ℤ → Bool
  affirms p (pos n) = cond (nat_le n s) false (p (row_of (pos n)))
  affirms p (negsuc n) = false

  -- the clause affirms an atom with just this row
  abbrev pub some_affirms : List ℤ → Row → Bool
  some_affirms ls r = some (affirms (same_row r)) ls

  -- the row is row = c, and the clause affirms row < c and turned row < turned c
  abbrev pub halved : List ℤ → Row → Bool
  halved ls r = same_relation r.relation Equal && (some_affirms ls (related_by Less r) && some_affirms ls (turned Less r))

  -- it affirms such an equality
  abbrev pub splits : List ℤ → Bool
  splits ls = some (affirms (halved ls)) ls

  -- each literal is on a switch or on an atom that is there
  abbrev pub all_known : List ℤ → Bool
  all_known ls = every (λ l. within (s + length rows) (number l)) ls
