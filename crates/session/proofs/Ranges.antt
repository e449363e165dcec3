-- Numbers in range.
use Rattle.std.proofs.Common.{◌≡◌, ℕ, ◌≤◌, true, ltb, leb, arith}
use Rattle.std.proofs.lemmas.Bool.{and_parts, and_from, leb-true, le-leb}
use Rattle.calculus.specs.Limits.{within}

pub within_more : (a b j : ℕ) → a ≤ b → within a j ≡ true → within b j ≡ true
within_more a b j h w =
    let p = and_parts (ltb 0 j) (leb j a) w in
    let l : j ≤ a = leb-true j a p.1 in
    and_from (ltb 0 j) (leb j b) p.0 (le-leb j b (omega arith))
