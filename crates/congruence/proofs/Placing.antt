-- Two lists gone through place by place.
use Rattle.std.proofs.Common.{◌≡◌, ℕ, suc, Bool, false, ◌&&◌, eqb, List, [], ◌∷◌, length, sym, refl, ap, ◌∙◌, arith}
use Rattle.std.specs.List.{list_all, zip}
use Rattle.std.proofs.lemmas.Bool.{and_right, ne_eqb}
use Rattle.congruences.specs.Applications.{at_each_place}

module _ (f : ℕ → ℕ → Bool) where
  even : (is js : List ℕ) → length is ≡ length js → list_all (λ p. f p.0 p.1) (zip is js) ≡ at_each_place f is js
  even [] [] e = refl
  even [] (j ∷ js) e = absurd (omega arith)
  even (i ∷ is) [] e = absurd (omega arith)
  even (i ∷ is) (j ∷ js) e = ap (λ b. f i j && b) (even is js (omega arith))

  place_uneven : (is js : List ℕ) → (length is ≡ length js → ⊥) → at_each_place f is js ≡ false
  place_uneven [] [] n = absurd (n refl)
  place_uneven [] (j ∷ js) n = refl
  place_uneven (i ∷ is) [] n = refl
  place_uneven (i ∷ is) (j ∷ js) n = and_right (f i j) (at_each_place f is js) (place_uneven is js (λ e. n (ap suc e)))

  -- a test of lists of one length, and of lists that differ in length
  pub at_places : (is js : List ℕ) (r : Bool) → length is ≡ length js → r ≡ list_all (λ p. f p.0 p.1) (zip is js) → r ≡ at_each_place f is js
  at_places is js r e h = h ∙ even is js e

  pub uneven : (is js : List ℕ) → (length is ≡ length js → ⊥) → eqb (length is) (length js) ≡ at_each_place f is js
  uneven is js n = ne_eqb (length is) (length js) n ∙ sym (place_uneven is js n)
