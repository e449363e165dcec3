-- What the proofs on multipliers want.
use Rattle.std.proofs.Common.{◌≡◌, ℕ, zero, suc, ◌+◌, ◌*◌, ◌^◌, ◌<◌, ◌≤◌, true, List, [], ◌∷◌, length, get_or, ℤ, pos, ◌+ℤ◌, nat_abs, None, sym, refl, ap, ◌∙◌, arith, to_z, of_z}
use mir.Syntax.{w128}
use Rattle.std.proofs.lemmas.Int.{ints}
use Rattle.std.proofs.lemmas.List.FromFn.{length-map-range_with_len, get_or-map-range_with_len}
use Rattle.calculus.specs.Limits.{sized}
use Rattle.calculus.specs.Lists.{every}
use Rattle.rows.specs.Bounds.{most_size}
use Rattle.rows.specs.Rows.{Row}
use Rattle.rows.specs.Bodies.{word_at}
use Rattle.rows.specs.Hints.{Part, multipliers, denial, parts, hinted_parts}
use Rattle.linear.specs.declared.refutations.Refutation.{Refutation}
use Rattle.linear.specs.Models.{table}
use Rattle.linear.specs.Refutations.{parts_of}
use Rattle.linear.proofs.Sums.{sized_abs, every_at}

abbrev pub no_part : Part
no_part = (pos 0, None)

abbrev pub multiplier_at : List ℕ → ℕ → ℤ
multiplier_at hint i = word_at hint (1 + 4 * i)

pub multiplier_is : (n : ℕ) (hint : List ℕ) (i : ℕ) → i < n → get_or (multipliers n hint) i (pos 0) ≡ multiplier_at hint i
multiplier_is n hint i h = get_or-map-range_with_len (multiplier_at hint) 0 n i i (pos 0) h (omega arith)

pub multiplier_sized : (n : ℕ) (hint : List ℕ) (i : ℕ) → i < n → every (sized most_size) (multipliers n hint) ≡ true → sized most_size (multiplier_at hint i) ≡ true
multiplier_sized n hint i h t =
    let e = length-map-range_with_len (multiplier_at hint) 0 n in
    sym (ap (sized most_size) (multiplier_is n hint i h)) ∙ every_at (sized most_size) (multipliers n hint) i (pos 0) t (omega arith)

pub multiplier_small : (n : ℕ) (hint : List ℕ) (i : ℕ) → i < n → every (sized most_size) (multipliers n hint) ≡ true → nat_abs (multiplier_at hint i) ≤ 100000000
multiplier_small n hint i h t = sized_abs most_size (multiplier_at hint i) (multiplier_sized n hint i h t)

module _ (rows : List Row) (s : ℕ) where
  parts_length : (ls xs : List ℤ) → length xs ≡ length ls → length (parts rows s ls xs) ≡ length ls
  parts_length [] xs h = refl
  parts_length (l ∷ ls) [] h = absurd (omega arith)
  parts_length (l ∷ ls) (x ∷ xs) h = ap suc (parts_length ls xs (omega arith))

  parts_at : (ls xs : List ℤ) (i : ℕ) → i < length ls → length xs ≡ length ls → get_or (parts rows s ls xs) i no_part ≡ (get_or xs i (pos 0), denial rows s (get_or ls i (pos 0)))
  parts_at [] xs i h e = absurd (omega arith)
  parts_at (l ∷ ls) [] i h e = absurd (omega arith)
  parts_at (l ∷ ls) (x ∷ xs) zero h e = refl
  parts_at (l ∷ ls) (x ∷ xs) (suc i) h e = parts_at ls xs i (omega arith) (omega arith)

  pub hinted_length : (ls : List ℤ) (hint : List ℕ) → length (hinted_parts rows s ls hint) ≡ length ls
  hinted_length ls hint = parts_length ls (multipliers (length ls) hint) (length-map-range_with_len (multiplier_at hint) 0 (length ls))

  pub hinted_at : (ls : List ℤ) (hint : List ℕ) (i : ℕ) → i < length ls → get_or (hinted_parts rows s ls hint) i no_part ≡ (multiplier_at hint i, denial rows s (get_or ls i (pos 0)))
  hinted_at ls hint i h = parts_at ls (multipliers (length ls) hint) i h (length-map-range_with_len (multiplier_at hint) 0 (length ls)) ∙ ap (λ x. (x, denial rows s (get_or ls i (pos 0)))) (multiplier_is (length ls) hint i h)

-- a turn of a loop that adds the product x to the sum S, which is w so far
pub long_sum_step : (S x y w next : ℤ) (i : ℕ) → i < 2 ^ 64 → S ≡ w → nat_abs S ≤ i * 160000000000000000 → y ≡ x → nat_abs x ≤ 160000000000000000 → next ≡ w +ℤ x → (to_z w128 (of_z w128 (S +ℤ to_z w128 (of_z w128 y))) ≡ next) × (nat_abs (to_z w128 (of_z w128 (S +ℤ to_z w128 (of_z w128 y)))) ≤ (i + 1) * 160000000000000000)
long_sum_step S x y w next i h e b q k n = (omega (arith, ints), omega (arith, ints))

pub parts_length_is : (r : Refutation) → length (parts_of r) ≡ length r.clause.literals.now
parts_length_is r = hinted_length (table r.clause.linear.now).rows r.clause.switches r.clause.literals.now r.hint.now
