-- The highest level of a clause, as a fold finds it; and a test of those elements that pass another.
use Rattle.std.proofs.Common.{◌≡◌, ℕ, ◌+◌, ◌-◌, ◌≤◌, max, Bool, true, false, cond, not, ◌&&◌, ◌||◌, List, [], ◌∷◌, ◌++◌, map, length, filter, refl, sym, ap, ◌∙◌, arith}
use Rattle.std.proofs.lemmas.List.{length_push, append-nil, map-id}
use Rattle.std.proofs.lemmas.List.FromFn.{map-range_with_len_more, filter_of_map_range_with_len_more}
use Rattle.std.specs.List.{fold, range_with_len}
use Rattle.calculus.specs.Lists.{every, highest}

pub highest_fold : {X : Type 0} (f : X → ℕ) (xs : List X) (a : ℕ) → fold (λ top x. max top (f x)) a xs ≡ max a (highest f xs)
highest_fold f [] a = omega arith
highest_fold f (x ∷ xs) a = highest_fold f xs (max a (f x)) ∙ omega arith

pub every_kept : {X : Type 0} (p q : X → Bool) (xs : List X) → every p (filter q xs) ≡ every (λ x. not (q x) || p x) xs
every_kept p q [] = refl
every_kept {X} p q (x ∷ xs) = go (q x) (every_kept p q xs)
  where
    go : (b : Bool) → every p (filter q xs) ≡ every (λ (y : X). not (q y) || p y) xs → every p (cond b (x ∷ filter q xs) (filter q xs)) ≡ ((not b || p x) && every (λ (y : X). not (q y) || p y) xs)
    go true e = ap (λ b. p x && b) e
    go false e = e

-- what f gives of 1, 2 and so on, with one more behind
pub values_more : {X : Type 0} (f : ℕ → X) (xs ys : List X) (j : ℕ) (y : X) → length xs + 1 ≡ j → xs ≡ map f (range_with_len 1 (length xs)) → ys ≡ xs ++ y ∷ [] → y ≡ f j → ys ≡ map f (range_with_len 1 (length ys))
values_more f xs ys j y n h e v =
    let l : length ys ≡ length xs + 1 = ap length e ∙ length_push xs y in
    e ∙ ap (λ zs. zs ++ y ∷ []) h ∙ ap (λ z. map f (range_with_len 1 (length xs)) ++ z ∷ []) v ∙ sym (map-range_with_len_more f 1 (length xs) j (omega (arith, n))) ∙ ap (λ k. map f (range_with_len 1 k)) (sym l)

-- the numbers from 1 up to j that pass: with j itself, and without it
filter_to : (p : ℕ → Bool) (j : ℕ) → 1 ≤ j → filter p (range_with_len 1 (j + 1 - 1)) ≡ filter p (range_with_len 1 (j - 1)) ++ cond (p j) (j ∷ []) []
filter_to p j h =
    let e : j + 1 - 1 ≡ j - 1 + 1 = omega arith in
    ap (λ n. filter p (range_with_len 1 n)) e ∙ ap (filter p) (sym (map-id (range_with_len 1 (j - 1 + 1))))
    ∙ filter_of_map_range_with_len_more p (λ n. n) 1 (j - 1) j (omega arith)
    ∙ ap (λ ns. filter p ns ++ cond (p j) (j ∷ []) []) (map-id (range_with_len 1 (j - 1)))

pub passed_in : (p : ℕ → Bool) (j : ℕ) (xs ys : List ℕ) → 1 ≤ j → p j ≡ true → xs ≡ filter p (range_with_len 1 (j - 1)) → ys ≡ xs ++ j ∷ [] → ys ≡ filter p (range_with_len 1 (j + 1 - 1))
passed_in p j xs ys h y e s = s ∙ ap (λ zs. zs ++ j ∷ []) e ∙ ap (λ b. filter p (range_with_len 1 (j - 1)) ++ cond b (j ∷ []) []) (sym y) ∙ sym (filter_to p j h)

pub passed_out : (p : ℕ → Bool) (j : ℕ) (xs : List ℕ) → 1 ≤ j → p j ≡ false → xs ≡ filter p (range_with_len 1 (j - 1)) → xs ≡ filter p (range_with_len 1 (j + 1 - 1))
passed_out p j xs h n e = e ∙ sym (append-nil (filter p (range_with_len 1 (j - 1)))) ∙ ap (λ b. filter p (range_with_len 1 (j - 1)) ++ cond b (j ∷ []) []) (sym n) ∙ sym (filter_to p j h)
