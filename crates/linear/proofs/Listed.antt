-- What the proofs on the entries of a row want.
use Rattle.std.proofs.Common.{◌≡◌, ℕ, zero, suc, ◌<◌, ◌≤◌, Bool, true, false, eqb, ◌⊎◌, List, [], ◌∷◌, map, length, get_or, ℤ, pos, neg_ℤ, ◌+ℤ◌, nat_abs, cond, sym, refl, ap, ◌∙◌, ap₂, inl, inr, arith}
use lib.IntN.{neg_ℤ-+ℤ}
use Rattle.std.proofs.lemmas.List.{get_or_past}
use Rattle.std.proofs.lemmas.Bool.{cases_lt}
use Rattle.calculus.specs.Limits.{sized}
use Rattle.calculus.specs.Lists.{every, nth}
use Rattle.rows.specs.declared.Entry.{Entry}
use Rattle.rows.specs.Bounds.{most_size}
use Rattle.rows.specs.Rows.{coefficient_of, turned_entry}
use Rattle.linear.specs.Sizes.{small_entries}
use Rattle.linear.proofs.Sums.{sized_abs, every_at}

-- what a look-up past the end of a table of entries gives
abbrev pub no_entry : Entry
no_entry = record { measure = 0; coefficient = pos 0 }

pub small_at : (es : List Entry) (i : ℕ) → small_entries es ≡ true → i < length es → nat_abs (get_or es i no_entry).coefficient ≤ 100000000
small_at es i t h = sized_abs 100000000 (get_or es i no_entry).coefficient (every_at (λ e. sized most_size e.coefficient) es i no_entry t h)

pub nth_sized : (n : ℕ) (xs : List ℤ) (j : ℕ) → every (sized n) xs ≡ true → nat_abs (nth (pos 0) xs j) ≤ n
nth_sized n xs zero t = omega arith
nth_sized n xs (suc j) t = by (cases_lt j (length xs))
  where
    by : (j < length xs) ⊎ (length xs ≤ j) → nat_abs (get_or xs j (pos 0)) ≤ n
    by (inl h) = sized_abs n (get_or xs j (pos 0)) (every_at (sized n) xs j (pos 0) t h)
    by (inr h) = let e = ap nat_abs (get_or_past xs j (pos 0) h) in omega arith

neg_choice : (b : Bool) (z : ℤ) → cond b (neg_ℤ z) (pos 0) ≡ neg_ℤ (cond b z (pos 0))
neg_choice true z = refl
neg_choice false z = refl

pub coefficient_turned : (j : ℕ) (es : List Entry) → coefficient_of j (map turned_entry es) ≡ neg_ℤ (coefficient_of j es)
coefficient_turned j [] = refl
coefficient_turned j (e ∷ es) = ap₂ ◌+ℤ◌ (neg_choice (eqb e.measure j) e.coefficient) (coefficient_turned j es) ∙ sym (neg_ℤ-+ℤ (cond (eqb e.measure j) e.coefficient (pos 0)) (coefficient_of j es))
