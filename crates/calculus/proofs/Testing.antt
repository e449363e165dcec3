-- Tests over lists.
use Rattle.std.proofs.Common.{◌≡◌, ℕ, zero, suc, ◌+◌, ◌<◌, ◌≤◌, max, Bool, true, not, ◌&&◌, ltb, leb, ◌⊎◌, List, [], ◌∷◌, ◌++◌, ℤ, pos, negsuc, neg_ℤ, filter, sym, refl, ap, ◌∙◌, inl, inr, ⊎_elim, arith}
use Rattle.std.specs.List.{range_with_len, AllByRecursion}
use Rattle.std.proofs.ByRecursion.{All-weaker}
use Rattle.std.proofs.lemmas.Bool.{true≢false, and_parts, and_from, or_cases, or_left, or_right, not-true, cases_eq, ltb-true, leb-true, eqb-true, eq-eqb, cond_both}
use Rattle.calculus.specs.Lists.{every, some, highest}
use Rattle.calculus.specs.Literals.{same, number, signed}
use Rattle.calculus.specs.Limits.{within}

pub both : {X : Type 0} (P Q R : X → Type 0) → ((x : X) → P x → Q x → R x) → (xs : List X) → AllByRecursion P xs → AllByRecursion Q xs → AllByRecursion R xs
both P Q R f [] p q = tt
both P Q R f (x ∷ xs) p q = (f x p.0 q.0, both P Q R f xs p.1 q.1)

pub front : {X : Type 0} (P : X → Type 0) (xs : List X) (x : X) → AllByRecursion P (xs ++ x ∷ []) → AllByRecursion P xs
front P [] x h = tt
front P (y ∷ xs) x h = (h.0, front P xs x h.1)

pub last : {X : Type 0} (P : X → Type 0) (xs : List X) (x : X) → AllByRecursion P (xs ++ x ∷ []) → P x
last P [] x h = h.0
last P (y ∷ xs) x h = last P xs x h.1

pub every_all : {X : Type 0} (p : X → Bool) (xs : List X) → every p xs ≡ true → AllByRecursion (λ x. p x ≡ true) xs
every_all p [] h = tt
every_all p (x ∷ xs) h = let q = and_parts (p x) (every p xs) h in (q.0, every_all p xs q.1)

pub all_every : {X : Type 0} (p : X → Bool) (xs : List X) → AllByRecursion (λ x. p x ≡ true) xs → every p xs ≡ true
all_every p [] h = refl
all_every p (x ∷ xs) h = and_from (p x) (every p xs) h.0 (all_every p xs h.1)

-- tests that agree at each element agree on the list
pub every_same : {X : Type 0} (p q : X → Bool) → ((x : X) → p x ≡ q x) → (xs : List X) → every p xs ≡ every q xs
every_same p q h [] = refl
every_same p q h (x ∷ xs) = ap (λ b. b && every p xs) (h x) ∙ ap (λ b. q x && b) (every_same p q h xs)

pub every_append : {X : Type 0} (p : X → Bool) (xs ys : List X) → every p xs ≡ true → every p ys ≡ true → every p (xs ++ ys) ≡ true
every_append p [] ys h k = k
every_append p (x ∷ xs) ys h k = let q = and_parts (p x) (every p xs) h in and_from (p x) (every p (xs ++ ys)) q.0 (every_append p xs ys q.1 k)

pub some_left : {X : Type 0} (p : X → Bool) (xs ys : List X) → some p xs ≡ true → some p (xs ++ ys) ≡ true
some_left p [] ys h = absurd (true≢false (sym h))
some_left p (x ∷ xs) ys h = ⊎_elim (λ a. or_left (p x) (some p (xs ++ ys)) a) (λ b. or_right (p x) (some p (xs ++ ys)) (some_left p xs ys b)) (or_cases (p x) (some p xs) h)

pub some_right : {X : Type 0} (p : X → Bool) (xs ys : List X) → some p ys ≡ true → some p (xs ++ ys) ≡ true
some_right p [] ys h = h
some_right p (x ∷ xs) ys h = or_right (p x) (some p (xs ++ ys)) (some_right p xs ys h)

pub some_cases : {X : Type 0} (p : X → Bool) (xs ys : List X) → some p (xs ++ ys) ≡ true → (some p xs ≡ true) ⊎ (some p ys ≡ true)
some_cases p [] ys h = inr h
some_cases p (x ∷ xs) ys h = ⊎_elim (λ a. inl (or_left (p x) (some p xs) a)) (λ b. ⊎_elim (λ c. inl (or_right (p x) (some p xs) c)) (λ c. inr c) (some_cases p xs ys b)) (or_cases (p x) (some p (xs ++ ys)) h)

-- none passes: each fails
pub none_all : {X : Type 0} (p : X → Bool) (xs : List X) → (some p xs ≡ true → ⊥) → AllByRecursion (λ x. p x ≡ true → ⊥) xs
none_all p [] h = tt
none_all p (x ∷ xs) h = (λ e. h (or_left (p x) (some p xs) e), none_all p xs (λ e. h (or_right (p x) (some p xs) e)))

-- what holds of each element that passes, where one does
pub some_of : {X : Type 0} (p : X → Bool) (xs : List X) (P : Type 0) → AllByRecursion (λ x. p x ≡ true → P) xs → some p xs ≡ true → P
some_of p [] P h s = absurd (true≢false (sym s))
some_of p (x ∷ xs) P h s = ⊎_elim (λ a. h.0 a) (λ b. some_of p xs P h.1 b) (or_cases (p x) (some p xs) s)

pub all_some : {X : Type 0} (p : X → Bool) (xs : List X) → AllByRecursion (λ x. p x ≡ true → some p xs ≡ true) xs
all_some p [] = tt
all_some p (x ∷ xs) = (λ e. or_left (p x) (some p xs) e, All-weaker (λ y. p y ≡ true → some p xs ≡ true) (λ y. p y ≡ true → some p (x ∷ xs) ≡ true) (λ y f e. or_right (p x) (some p xs) (f e)) xs (all_some p xs))

pub kept_all : {X : Type 0} (p : X → Bool) (P : X → Type 0) (xs : List X) → AllByRecursion (λ x. p x ≡ true → P x) xs → AllByRecursion P (filter p xs)
kept_all p P [] h = tt
kept_all p P (x ∷ xs) h = cond_both (p x) (x ∷ filter p xs) (filter p xs) (AllByRecursion P) (λ e. (h.0 e, kept_all p P xs h.1)) (λ e. kept_all p P xs h.1)

pub kept_back : {X : Type 0} (p : X → Bool) (P : X → Type 0) (xs : List X) → AllByRecursion P (filter p xs) → AllByRecursion (λ x. p x ≡ true → P x) xs
kept_back p P [] h = tt
kept_back p P (x ∷ xs) h =
    cond_both (p x) (x ∷ filter p xs) (filter p xs) (λ u. AllByRecursion P u → AllByRecursion (λ y. p y ≡ true → P y) (x ∷ xs))
    (λ e k. (λ _. k.0, kept_back p P xs k.1))
    (λ e k. (λ f. absurd (true≢false (sym f ∙ e)), kept_back p P xs k)) h

pub counted : (p : ℕ → Bool) (a n : ℕ) → every p (range_with_len a n) ≡ true → (j : ℕ) → a ≤ j → j < a + n → p j ≡ true
counted p a zero h j l u = absurd (omega arith)
counted p a (suc n) h j l u =
    let q = and_parts (p a) (every p (range_with_len (a + 1) n)) h in
    ⊎_elim (λ e. ap p (sym e) ∙ q.0) (λ ne. counted p (a + 1) n q.1 j (omega arith) (omega arith)) (cases_eq a j)

pub count_all : (p : ℕ → Bool) (a n : ℕ) → ((j : ℕ) → a ≤ j → j < a + n → p j ≡ true) → every p (range_with_len a n) ≡ true
count_all p a zero h = refl
count_all p a (suc n) h = and_from (p a) (every p (range_with_len (a + 1) n)) (h a (omega arith) (omega arith)) (count_all p (a + 1) n (λ j l u. h j (omega arith) (omega arith)))

pub counted_le : (f : ℕ → ℕ) (k a n : ℕ) → ((j : ℕ) → a ≤ j → j < a + n → f j ≤ k) → highest f (range_with_len a n) ≤ k
counted_le f k a zero h = omega arith
counted_le f k a (suc n) h = let x = h a (omega arith) (omega arith) in let y = counted_le f k (a + 1) n (λ j l u. h j (omega arith) (omega arith)) in omega arith

pub counted_at : (f : ℕ → ℕ) (a n : ℕ) (j : ℕ) → a ≤ j → j < a + n → f j ≤ highest f (range_with_len a n)
counted_at f a zero j l u = absurd (omega arith)
counted_at f a (suc n) j l u =
    ⊎_elim (λ e. let q = ap f e in omega arith) (λ ne. let q = counted_at f (a + 1) n j (omega arith) (omega arith) in omega arith) (cases_eq a j)

pub highest_above : {X : Type 0} (f : X → ℕ) (xs : List X) → AllByRecursion (λ x. f x ≤ highest f xs) xs
highest_above f [] = tt
highest_above f (x ∷ xs) = (omega arith, All-weaker (λ y. f y ≤ highest f xs) (λ y. f y ≤ max (f x) (highest f xs)) (λ y h. omega arith) xs (highest_above f xs))

pub same_refl : (a : ℤ) → same a a ≡ true
same_refl (pos a) = eq-eqb a a refl
same_refl (negsuc a) = eq-eqb a a refl

pub same_true : (a b : ℤ) → same a b ≡ true → a ≡ b
same_true (pos a) (pos b) h = ap pos (eqb-true a b h)
same_true (pos a) (negsuc b) h = absurd (true≢false (sym h))
same_true (negsuc a) (pos b) h = absurd (true≢false (sym h))
same_true (negsuc a) (negsuc b) h = ap negsuc (eqb-true a b h)

pub number_neg : (l : ℤ) → number (neg_ℤ l) ≡ number l
number_neg (pos zero) = refl
number_neg (pos (suc n)) = refl
number_neg (negsuc n) = refl

pub within_true : (n a : ℕ) → within n a ≡ true → (0 < a) × (a ≤ n)
within_true n a h = let p = and_parts (ltb 0 a) (leb a n) h in (ltb-true 0 a p.0, leb-true a n p.1)

pub signed_ap : (l : ℤ) (f g : ℕ → Bool) → f (number l) ≡ g (number l) → signed l f ≡ signed l g
signed_ap (pos n) f g e = e
signed_ap (negsuc n) f g e = ap not e

pub not_both : (l : ℤ) (f : ℕ → Bool) → 0 < number l → signed l f ≡ true → signed (neg_ℤ l) f ≡ true → ⊥
not_both (pos zero) f h a b = absurd (omega arith)
not_both (pos (suc n)) f h a b = true≢false (sym a ∙ not-true (f (suc n)) b)
not_both (negsuc n) f h a b = true≢false (sym b ∙ not-true (f (suc n)) a)

pub no_own_denial : (l : ℤ) → 0 < number l → l ≡ neg_ℤ l → ⊥
no_own_denial (pos zero) h e = omega arith
no_own_denial (pos (suc n)) h e = let z : ◌≡◌ {A = ℕ} 0 1 = cc in omega arith
no_own_denial (negsuc n) h e = let z : ◌≡◌ {A = ℕ} 0 1 = cc in omega arith
