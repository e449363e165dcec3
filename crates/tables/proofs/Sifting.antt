-- Whether all literals are on different numbers, from the first one on.
use Rattle.std.proofs.Common.{◌≡◌, ℕ, ◌≤◌, Bool, true, false, not, ◌&&◌, ◌||◌, eqb, List, [], ◌∷◌, length, drop, get_or, ℤ, pos, sym, refl, ap, ◌∙◌, arith}
use Rattle.calculus.specs.Lists.{every, some}
use Rattle.calculus.specs.Literals.{number, distinct}

not_some : {X : Type 0} (p : X → Bool) (xs : List X) → every (λ x. not (p x)) xs ≡ not (some p xs)
not_some p [] = refl
not_some p (x ∷ xs) = go (p x) (not_some p xs)
  where
    go : (b : Bool) → every (λ y. not (p y)) xs ≡ not (some p xs) → (not b && every (λ y. not (p y)) xs) ≡ not (b || some p xs)
    go true e = refl
    go false e = e

pub distinct_first : (ls : List ℤ) (n : ℕ) → 1 ≤ length ls → n ≡ number (get_or ls 0 (pos 0)) → distinct ls ≡ (not (some (λ k. eqb (number k) n) (drop 1 ls)) && distinct (drop 1 ls))
distinct_first [] n h e = absurd (omega (arith, h))
distinct_first (l ∷ ls) n h e = ap (λ b. b && distinct ls) (not_some (λ k. eqb (number k) (number l)) ls ∙ ap (λ m. not (some (λ k. eqb (number k) m) ls)) (sym e))

pub distinct_step : (ls rest : List ℤ) (n : ℕ) (has more : Bool) → 1 ≤ length ls → n ≡ number (get_or ls 0 (pos 0)) → rest ≡ drop 1 ls → has ≡ some (λ k. eqb (number k) n) rest → more ≡ distinct rest → (not has && more) ≡ distinct ls
distinct_step ls rest n has more h e r a d =
    ap (λ b. not b && more) a ∙ ap (λ b. not (some (λ k. eqb (number k) n) rest) && b) d ∙ ap (λ ks. not (some (λ k. eqb (number k) n) ks) && distinct ks) r ∙ sym (distinct_first ls n h e)
