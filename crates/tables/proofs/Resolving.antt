-- The resolvent as one list behind another.
use Rattle.std.proofs.Common.{◌≡◌, ◌+◌, ◌<◌, ◌≤◌, Bool, true, false, cond, not, ◌&&◌, leb, List, [], ◌∷◌, ◌++◌, length, ℤ, neg_ℤ, filter, sym, refl, ap, ◌∙◌, arith}
use Rattle.std.proofs.lemmas.List.{length-append}
use Rattle.std.proofs.lemmas.Bool.{le-leb, lt-leb}
use Rattle.calculus.specs.Limits.{most_literals}
use Rattle.calculus.specs.Literals.{same, holds_literal}
use Rattle.calculus.specs.Steps.{others, resolvent}

kept_twice : {X : Type 0} (p q : X → Bool) (xs : List X) → filter q (filter p xs) ≡ filter (λ x. p x && q x) xs
kept_twice p q [] = refl
kept_twice p q (x ∷ xs) = go (p x) (kept_twice p q xs)
  where
    go : (b : Bool) → filter q (filter p xs) ≡ filter (λ y. p y && q y) xs → filter q (cond b (x ∷ filter p xs) (filter p xs)) ≡ cond (b && q x) (x ∷ filter (λ y. p y && q y) xs) (filter (λ y. p y && q y) xs)
    go true e = ap (λ ys. cond (q x) (x ∷ ys) ys) e
    go false e = e

-- what follows behind the literals that are held
abbrev pub follower : ℤ → List ℤ → ℤ → Bool
follower l held k = not (same k (neg_ℤ l)) && not (holds_literal k held)

-- over a literal that is passed by its bits
module _ (l m : ℤ) (ls because one two : List ℤ) (b : m ≡ l) (e : one ≡ others m ls) (f : two ≡ filter (follower m one) because) where
  pub joined : one ++ two ≡ resolvent l ls because
  joined =
      ap (λ ys. one ++ ys) (f ∙ ap (λ k. filter (follower k one) because) b)
      ∙ ap (λ ys. ys ++ filter (follower l ys) because) (e ∙ ap (λ k. others k ls) b)
      ∙ ap (λ ys. others l ls ++ ys) (sym (kept_twice (λ k. not (same k (neg_ℤ l))) (λ k. not (holds_literal k (others l ls))) because))

  long : length one + length two ≡ length (resolvent l ls because)
  long = sym (length-append one two) ∙ ap length joined

  pub joined_fits : length one + length two ≤ 16 → leb (length (resolvent l ls because)) most_literals ≡ true
  joined_fits h = le-leb _ _ (omega (arith, h, long))

  pub joined_long : 16 < length one + length two → leb (length (resolvent l ls because)) most_literals ≡ false
  joined_long h = lt-leb _ _ (omega (arith, h, long))
