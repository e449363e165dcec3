-- Arrangements with equal fractions agree on which measures are equal.
use Rattle.std.specs.Prelude.{◌≡◌, ℕ, zero, suc, ◌*◌, ◌<◌, ◌≤◌, Bool, true, false, not, ◌&&◌, ◌||◌, List, [], ◌∷◌, length, ℤ, pos, negsuc, ◌*ℤ◌, neg_ℤ, ◌≢◌, refl}
use Rattle.std.proofs.Common.{sym, ◌∙◌, ap, subst, ⊎_elim, mul-pos, arith}
use Rattle.std.proofs.Math.Nat.{eq_of_mul-eq-mul_right}
use Rattle.std.proofs.Math.ListN.{get_or-eq_default}
use Rattle.std.proofs.Math.IntN.{neg_ℤ-neg_ℤ, zero-*ℤ}
use Rattle.std.proofs.lemmas.Bool.{cases_lt}
use Rattle.calculus.specs.Lists.{every, nth}
use Rattle.calculus.specs.Literals.{same}
use Rattle.calculus.specs.Arrangements.{SameFraction}
use Rattle.calculus.proofs.Testing.{same_true, same_refl, every_same}
use Rattle.congruences.specs.Applications.{Application, alike, at_each_place, equal_at, agree, consistent}

not_negative : (m k : ℕ) → 0 < k → pos m ≢ neg_ℤ (pos k)
not_negative m zero p e = omega arith
not_negative m (suc k) p e = let z : ◌≡◌ {A = ℕ} 0 1 = cc in omega arith

negated_same : (j k : ℕ) → neg_ℤ (pos j) ≡ neg_ℤ (pos k) → j ≡ k
negated_same j k e = let q : pos j ≡ pos k = sym (neg_ℤ-neg_ℤ (pos j)) ∙ ap neg_ℤ e ∙ neg_ℤ-neg_ℤ (pos k) in cc

-- a positive factor cancels
cancel : (a b : ℤ) (d : ℕ) → 0 < d → a *ℤ pos d ≡ b *ℤ pos d → a ≡ b
cancel (pos a) (pos b) d p e = let q : a * d ≡ b * d = cc in ap pos (eq_of_mul-eq-mul_right d p a b q)
cancel (pos a) (negsuc b) d p e = absurd (not_negative (a * d) (suc b * d) (mul-pos (omega arith) p) e)
cancel (negsuc a) (pos b) d p e = absurd (not_negative (b * d) (suc a * d) (mul-pos (omega arith) p) (sym e))
cancel (negsuc a) (negsuc b) d p e = let q : suc a ≡ suc b = eq_of_mul-eq-mul_right d p (suc a) (suc b) (negated_same (suc a * d) (suc b * d) e) in let r : a ≡ b = omega arith in ap negsuc r

-- two tests that imply each other are one
one_test : (a b : Bool) → (a ≡ true → b ≡ true) → (b ≡ true → a ≡ true) → a ≡ b
one_test true b f g = sym (f refl)
one_test false true f g = g refl
one_test false false f g = refl

-- measures that are equal in one arrangement are so in another with equal fractions
carried : (xs ys : List ℤ) (d e : ℕ) → 0 < d → ((j : ℕ) → SameFraction (nth (pos 0) xs j) d (nth (pos 0) ys j) e) → (i j : ℕ) → equal_at xs i j ≡ true → equal_at ys i j ≡ true
carried xs ys d e p h i j q =
    let s = same_true (nth (pos 0) xs i) (nth (pos 0) xs j) q in
    let r = cancel (nth (pos 0) ys i) (nth (pos 0) ys j) d p (sym (h i) ∙ ap (λ z. z *ℤ pos e) s ∙ h j) in
    subst (λ z. same (nth (pos 0) ys i) z ≡ true) r (same_refl (nth (pos 0) ys i))

module _ (t : ℕ) (xs ys : List ℤ) (d e : ℕ) (lx : length xs ≡ t) (ly : length ys ≡ t) (pd : 0 < d) (pe : 0 < e)
    (h : (j : ℕ) → 0 < j → j ≤ t → SameFraction (nth (pos 0) xs j) d (nth (pos 0) ys j) e) where
  -- also at a place that is not there, where both are 0
  any_fraction : (j : ℕ) → SameFraction (nth (pos 0) xs j) d (nth (pos 0) ys j) e
  any_fraction zero = zero-*ℤ (pos e) ∙ sym (zero-*ℤ (pos d))
  any_fraction (suc j) =
      ⊎_elim (λ l. h (suc j) (omega arith) (omega arith))
      (λ l. let ax : length xs ≤ j = omega arith in let ay : length ys ≤ j = omega arith in
      ap (λ z. z *ℤ pos e) (get_or-eq_default xs (pos 0) ax) ∙ zero-*ℤ (pos e) ∙ sym (zero-*ℤ (pos d)) ∙ ap (λ z. z *ℤ pos d) (sym (get_or-eq_default ys (pos 0) ay))) (cases_lt j t)

  equal_same : (i j : ℕ) → equal_at xs i j ≡ equal_at ys i j
  equal_same i j = one_test (equal_at xs i j) (equal_at ys i j) (carried xs ys d e pd any_fraction i j) (carried ys xs e d pe (λ k. sym (any_fraction k)) i j)

  places_same : (is js : List ℕ) → at_each_place (equal_at xs) is js ≡ at_each_place (equal_at ys) is js
  places_same [] [] = refl
  places_same [] (j ∷ js) = refl
  places_same (i ∷ is) [] = refl
  places_same (i ∷ is) (j ∷ js) = ap (λ b. b && at_each_place (equal_at xs) is js) (equal_same i j) ∙ ap (λ b. equal_at ys i j && b) (places_same is js)

  agree_same : (p q : Application) → agree xs p q ≡ agree ys p q
  agree_same p q =
      ap (λ b. not (alike p q && b) || equal_at xs p.result q.result) (places_same p.arguments q.arguments)
      ∙ ap (λ b. not (alike p q && at_each_place (equal_at ys) p.arguments q.arguments) || b) (equal_same p.result q.result)

  pub consistent_same : (apps : List Application) → consistent apps xs ≡ consistent apps ys
  consistent_same apps = every_same (λ p. every (agree xs p) apps) (λ p. every (agree ys p) apps) (λ p. every_same (agree xs p) (agree ys p) (agree_same p) apps) apps
