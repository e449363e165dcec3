-- At most one entry passes an exclusive test: a narrower test finds that one or none.
use Rattle.std.proofs.Common.{◌≡◌, Bool, true, false, cond, ◌||◌, List, [], ◌∷◌, ℤ, pos, negsuc, nat_abs, sym, refl, ap, ◌∙◌, subst, ⊎_elim}
use Rattle.std.specs.List.{AllByRecursion}
use Rattle.std.proofs.lemmas.Bool.{true≢false, or_parts, or_cases, or_from, cases_Bool, cond-true, cond-false}
use Rattle.calculus.specs.Literals.{number}
use Rattle.calculus.specs.Trails.{Content, Entry, no_entry, entry_for, has_entry}
use Rattle.calculus.proofs.Trailing.{clash, Apart, Exclusive}

or_last : (a b : Bool) → b ≡ false → (a || b) ≡ a
or_last true b h = refl
or_last false b h = h

module _ (p q : Content → Bool) (narrower : (c : Content) → p c ≡ true → q c ≡ true) where
  fails : (c : Content) → q c ≡ false → p c ≡ false
  fails c h = ⊎_elim (λ y. absurd (true≢false (sym (narrower c y) ∙ h))) (λ y. y) (cases_Bool (p c))

  none_passes : (t : List Entry) → has_entry q t ≡ false → (has_entry p t ≡ false) × (entry_for p t ≡ no_entry)
  none_passes [] h = (refl, refl)
  none_passes (e ∷ t) h =
      let b = or_parts (q e.content) (has_entry q t) h in
      let y = fails e.content b.0 in
      let r = none_passes t b.1 in
      (or_from (p e.content) (has_entry p t) y r.0, cond-false (p e.content) e (entry_for p t) y ∙ r.1)

  module _ (x : Exclusive q) where
    rest_fails : (c : Content) → q c ≡ true → (t : List Entry) → AllByRecursion (λ f. clash c f.content ≡ false) t → has_entry q t ≡ false
    rest_fails c y [] h = refl
    rest_fails c y (f ∷ t) h = or_from (q f.content) (has_entry q t) (⊎_elim (λ z. absurd (true≢false (sym (x c f.content y z) ∙ h.0))) (λ z. z) (cases_Bool (q f.content))) (rest_fails c y t h.1)

    pub one_passes : (t : List Entry) → Apart t → has_entry q t ≡ true → (has_entry p t ≡ p (entry_for q t).content) × (entry_for p t ≡ cond (p (entry_for q t).content) (entry_for q t) no_entry)
    one_passes [] a h = absurd (true≢false (sym h))
    one_passes (e ∷ t) a h =
        let P : Entry → Type 0 = λ f. (has_entry p (e ∷ t) ≡ p f.content) × (entry_for p (e ∷ t) ≡ cond (p f.content) f no_entry) in
        ⊎_elim
        (λ (y : q e.content ≡ true).
        let r = none_passes t (rest_fails e.content y t a.0) in
        subst P (sym (cond-true (q e.content) e (entry_for q t) y)) (or_last (p e.content) (has_entry p t) r.0, ap (cond (p e.content) e) r.1))
        (λ (n : q e.content ≡ false).
        let y = fails e.content n in
        let r = one_passes t a.1 (⊎_elim (λ z. absurd (true≢false (sym z ∙ n))) (λ z. z) (or_cases (q e.content) (has_entry q t) h)) in
        subst P (sym (cond-false (q e.content) e (entry_for q t) n)) (ap (λ b. b || has_entry p t) y ∙ r.0, cond-false (p e.content) e (entry_for p t) y ∙ r.1))
        (cases_Bool (q e.content))

pub abs_number : (l : ℤ) → nat_abs l ≡ number l
abs_number (pos n) = refl
abs_number (negsuc n) = refl
