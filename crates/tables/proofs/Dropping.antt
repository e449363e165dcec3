-- A literal that is false above a level is free again once the entries above it are gone.
use Rattle.std.proofs.Common.{◌≡◌, ℕ, suc, ◌<◌, ◌≤◌, true, false, not, eqb, ltb, leb, List, ℤ, pos, negsuc, neg_ℤ, sym, ap, ◌∙◌, subst, ⊎_elim, arith, to_z-of_z, w8, SFits, to_z, of_z}
use Rattle.std.proofs.lemmas.Bool.{cases_Bool, cond_both, not-true, not_from_false, and_parts, and_from, eqb-false, lt-ltb, le-leb}
use Rattle.calculus.specs.Limits.{most_numbers, within}
use Rattle.calculus.specs.Literals.{number, proper}
use Rattle.calculus.specs.Trails.{Entry, Origin, no_entry, entry_for, affirms, concerns, false_at, taken, up_to}
use Rattle.calculus.specs.Trails.Content.{Literal}
use Rattle.calculus.proofs.Trailing.{Apart, denies_concerns, concerns_exclusive, level_up_to, has_whole}
use Rattle.tables.specs.Keys.{ranged, free, tidy}
use Rattle.tables.proofs.Tidying.{tidy_apart}
use Rattle.tables.proofs.Narrowing.{one_passes}

module _ (t : List Entry) (l : ℤ) (k : ℕ) where
  low : Apart t → taken (number l) (up_to k t) ≡ true → false_at t l ≤ k
  low a y =
      let n = number l in
      let level = level_up_to (concerns n) (concerns_exclusive n) k t a y in
      let one = one_passes (affirms (neg_ℤ l)) (concerns n) (denies_concerns l) (concerns_exclusive n) t a (has_whole (concerns n) k t y) in
      subst (λ (e : Entry). e.level ≤ k) (sym one.1) (cond_both (affirms (neg_ℤ l) (entry_for (concerns n) t).content) (entry_for (concerns n) t) no_entry (λ e. e.level ≤ k) (λ _. level) (λ _. omega arith))

  pub dropped : Apart t → k < false_at t l → taken (number l) (up_to k t) ≡ false
  dropped a h = ⊎_elim (λ y. let z = low a y in absurd (omega arith)) (λ y. y) (cases_Bool (taken (number l) (up_to k t)))

  pub free_again : (o : Origin) → tidy t ≡ true → k < false_at t l → free (Literal l o) (up_to k t) ≡ true
  free_again o h f = not_from_false (taken (number l) (up_to k t)) (dropped (tidy_apart t h) f)

-- a literal of the code that is proper is on a number that there can be
pub proper_ranged : (l : ℤ) → SFits w8 l → proper l ≡ true → within most_numbers (number l) ≡ true
proper_ranged (pos n) f h =
    let ne = eqb-false n 0 (not-true (eqb n 0) (and_parts (not (eqb n 0)) true h).0) in
    let s = f.sfits in
    and_from (ltb 0 n) (leb n most_numbers) (lt-ltb 0 n (omega arith)) (le-leb n most_numbers (omega arith))
proper_ranged (negsuc n) f h =
    let ne = eqb-false n 127 (not-true (eqb n 127) (and_parts true (not (eqb n 127)) h).1) in
    let s = f.sfits in
    and_from (ltb 0 (suc n)) (leb (suc n) most_numbers) (lt-ltb 0 (suc n) (omega arith)) (le-leb (suc n) most_numbers (omega arith))

-- so it may enter what a backjump leaves, passed by its bits
pub enters_again : (t kept : List Entry) (l : ℤ) (k : ℕ) (o : Origin) → tidy t ≡ true → SFits w8 l → proper l ≡ true → k < false_at t l → kept ≡ up_to k t → (ranged (Literal (to_z w8 (of_z w8 l)) o) ≡ true) × (free (Literal (to_z w8 (of_z w8 l)) o) kept ≡ true)
enters_again t kept l k o h f p low e = (
  ap (λ m. within most_numbers (number m)) (to_z-of_z f) ∙ proper_ranged l f p,
  ap (λ m. free (Literal m o) kept) (to_z-of_z f) ∙ ap (free (Literal l o)) e ∙ free_again t l k o h low,
)
