-- The sums of the columns: a row more, entry by entry.
use Rattle.std.proofs.Common.{◌≡◌, ℕ, ◌+◌, ◌<◌, ◌≤◌, cond, eqb, List, map, neg_ℤ, length, get_or, set, take, ℤ, pos, ◌+ℤ◌, ◌*ℤ◌, nat_abs, sym, ap, ap₂, ◌∙◌, subst, ⊎_elim, arith, SFits, to_z, of_z}
use Rattle.std.specs.Int.{w128}
use lib.IntN.{+ℤ_assoc, +ℤ_idr, *ℤ_comm}
use Rattle.std.proofs.lemmas.Int.{ints, fits_signed_from_abs}
use Rattle.std.proofs.lemmas.Bool.{cases_eq, eq-eqb, ne_eqb}
use Rattle.std.proofs.lemmas.List.{get_or-set_same, get_or-set_other}
use Rattle.rows.specs.declared.Entry.{Entry}
use Rattle.rows.specs.Rows.{coefficient_of, turned_entry}
use Rattle.rows.proofs.Integers.{*ℤ-+ℤ, neg-*ℤ}
use Rattle.linear.proofs.Sums.{total_more}
use Rattle.linear.proofs.Listed.{no_entry, coefficient_turned}

-- an entry on another measure changes nothing
pub column_same : (es : List Entry) (i : ℕ) → i < length es → (f x y : ℤ) (j : ℕ) → ((get_or es i no_entry).measure ≡ j → ⊥) → x ≡ y +ℤ f *ℤ coefficient_of j (take i es) → x ≡ y +ℤ f *ℤ coefficient_of j (take (i + 1) es)
column_same es i l f x y j apart h =
    let e = get_or es i no_entry in
    let before = coefficient_of j (take i es) in
    h
    ∙ ap (λ z. y +ℤ f *ℤ z) (sym (+ℤ_idr before))
    ∙ ap (λ b. y +ℤ f *ℤ (before +ℤ cond b e.coefficient (pos 0))) (sym (ne_eqb e.measure j apart))
    ∙ ap (λ z. y +ℤ f *ℤ z) (sym (total_more (λ e. cond (eqb e.measure j) e.coefficient (pos 0)) es i no_entry l))

module _ (es : List Entry) (i : ℕ) (l : i < length es) (f : ℤ) (sums : List ℤ) (long : length sums ≡ 17) (m : ℕ) (low : m < 17) (at : m ≡ (get_or es i no_entry).measure) (x y : ℤ) (is : x ≡ f *ℤ (get_or es i no_entry).coefficient) (now : y ≡ get_or sums m (pos 0) +ℤ x) where
  next : (j : ℕ) → coefficient_of j (take (i + 1) es) ≡ coefficient_of j (take i es) +ℤ cond (eqb (get_or es i no_entry).measure j) (get_or es i no_entry).coefficient (pos 0)
  next j = total_more (λ e. cond (eqb e.measure j) e.coefficient (pos 0)) es i no_entry l

  pub column_more : (old : List ℤ) → ((j : ℕ) → j < 17 → get_or sums j (pos 0) ≡ get_or old j (pos 0) +ℤ f *ℤ coefficient_of j (take i es)) → (j : ℕ) → j < 17 → get_or (set sums m y) j (pos 0) ≡ get_or old j (pos 0) +ℤ f *ℤ coefficient_of j (take (i + 1) es)
  column_more old so_far j h =
      let e = get_or es i no_entry in
      let before = coefficient_of j (take i es) in
      ⊎_elim
      (λ (same : j ≡ m).
      ap (λ k. get_or (set sums m y) k (pos 0)) same ∙ get_or-set_same sums m y (pos 0) (omega arith) ∙ now
      ∙ ap (λ k. get_or sums k (pos 0) +ℤ x) (sym same)
      ∙ ap (λ z. z +ℤ x) (so_far j h) ∙ +ℤ_assoc (get_or old j (pos 0)) (f *ℤ before) x
      ∙ ap (λ z. get_or old j (pos 0) +ℤ (f *ℤ before +ℤ z)) is
      ∙ ap (λ z. get_or old j (pos 0) +ℤ z) (sym (*ℤ-+ℤ f before e.coefficient))
      ∙ ap (λ b. get_or old j (pos 0) +ℤ f *ℤ (before +ℤ cond b e.coefficient (pos 0))) (sym (eq-eqb e.measure j (sym (same ∙ at))))
      ∙ ap (λ z. get_or old j (pos 0) +ℤ f *ℤ z) (sym (next j)))
      (λ (apart : j ≡ m → ⊥).
      get_or-set_other sums m j y (pos 0) apart ∙ column_same es i l f (get_or sums j (pos 0)) (get_or old j (pos 0)) j (λ q. apart (sym (at ∙ q))) (so_far j h))
      (cases_eq j m)

  pub column_small : (b : ℕ) → nat_abs x ≤ 160000000000000000 → ((j : ℕ) → j < 17 → nat_abs (get_or sums j (pos 0)) ≤ b) → (j : ℕ) → j < 17 → nat_abs (get_or (set sums m y) j (pos 0)) ≤ b + 160000000000000000
  column_small b k so_far j h =
      ⊎_elim
      (λ (same : j ≡ m).
      let e = ap (λ n. get_or (set sums m y) n (pos 0)) same ∙ get_or-set_same sums m y (pos 0) (omega arith) ∙ now in
      let u = so_far m low in
      omega (arith, ints, e, u, k))
      (λ (apart : j ≡ m → ⊥). let e = get_or-set_other sums m j y (pos 0) apart in let u = so_far j h in omega (arith, ints, e, u))
      (cases_eq j m)

-- with all signs turned it adds the negative multiple
pub turned_column : (m : ℤ) (j : ℕ) (es : List Entry) → neg_ℤ m *ℤ coefficient_of j es ≡ m *ℤ coefficient_of j (map turned_entry es)
turned_column m j es = neg-*ℤ m (coefficient_of j es) ∙ sym (times_neg m (coefficient_of j es)) ∙ ap (λ z. m *ℤ z) (sym (coefficient_turned j es))
  where
    times_neg : (a b : ℤ) → a *ℤ neg_ℤ b ≡ neg_ℤ (a *ℤ b)
    times_neg a b = *ℤ_comm a (neg_ℤ b) ∙ neg-*ℤ b a ∙ ap neg_ℤ (*ℤ_comm b a)

-- one product more fits
pub sum_fits : (S x : ℤ) → nat_abs S ≤ 100000000000000000000000000000000000000 → nat_abs x ≤ 160000000000000000 → SFits w128 (to_z w128 (of_z w128 S) +ℤ to_z w128 (of_z w128 x))
sum_fits S x h k =
    let s : to_z w128 (of_z w128 S) ≡ S = omega (arith, ints, h) in
    let t : to_z w128 (of_z w128 x) ≡ x = omega (arith, ints, k) in
    let q : nat_abs (S +ℤ x) < 170141183460469231731687303715884105728 = omega (arith, ints, h, k) in
    subst (SFits w128) (sym (ap₂ ◌+ℤ◌ s t)) (fits_signed_from_abs w128 (S +ℤ x) q)
