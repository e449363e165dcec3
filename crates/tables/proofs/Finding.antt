-- The first literal on a number.
use Rattle.std.proofs.Common.{◌≡◌, ℕ, Bool, true, false, cond, ◌||◌, eqb, List, [], ◌∷◌, ℤ, Some, refl}
use Rattle.std.specs.Prelude.{MatchOption}
use Rattle.std.specs.List.{find}
use Rattle.calculus.specs.Lists.{some}
use Rattle.calculus.specs.Literals.{number}
use Rattle.calculus.specs.Steps.{literal_on}

pub literal_found : (n : ℕ) (ls : List ℤ) → MatchOption (find (λ l. eqb (number l) n) ls) (some (λ l. eqb (number l) n) ls ≡ false) (λ l. (some (λ k. eqb (number k) n) ls ≡ true) × (l ≡ literal_on n ls))
literal_found n [] = refl
literal_found n (l ∷ ls) = go (eqb (number l) n) (literal_found n ls)
  where
    go : (b : Bool) → MatchOption (find (λ k. eqb (number k) n) ls) (some (λ k. eqb (number k) n) ls ≡ false) (λ k. (some (λ k. eqb (number k) n) ls ≡ true) × (k ≡ literal_on n ls)) → MatchOption (cond b (Some l) (find (λ k. eqb (number k) n) ls)) ((b || some (λ k. eqb (number k) n) ls) ≡ false) (λ k. ((b || some (λ k. eqb (number k) n) ls) ≡ true) × (k ≡ cond b l (literal_on n ls)))
    go true r = (refl, refl)
    go false r = r
