-- A resolvent's literals are on different numbers.
use Rattle.std.proofs.Common.{◌≡◌, zero, suc, Bool, true, false, not, eqb, ◌⊎◌, List, [], ◌∷◌, ◌++◌, ℤ, pos, negsuc, neg_ℤ, filter, sym, refl, ap, ◌∙◌, subst, inl, inr, ⊎_elim, arith}
use lib.IntN.{neg_ℤ-neg_ℤ}
use Rattle.std.specs.List.{AllByRecursion}
use Rattle.std.proofs.ByRecursion.{All-weaker, all_kept_by}
use Rattle.std.proofs.lemmas.Bool.{true≢false, and_parts, and_from, or_left, or_right, not-true, not_from_false, cases_Bool, eqb-true, cond_both}
use Rattle.calculus.specs.Lists.{every}
use Rattle.calculus.specs.Literals.{same, number, distinct, holds_literal}
use Rattle.calculus.specs.Trails.{Entry, on_trail, false_on}
use Rattle.calculus.specs.Steps.{others, resolvent}
use Rattle.calculus.proofs.Testing.{both, every_all, all_every, every_append, kept_all, same_refl}

distinct_kept : (p : ℤ → Bool) (ls : List ℤ) → distinct ls ≡ true → distinct (filter p ls) ≡ true
distinct_kept p [] h = refl
distinct_kept p (l ∷ ls) h =
    let q = and_parts (every (λ k. not (eqb (number k) (number l))) ls) (distinct ls) h in
    cond_both (p l) (l ∷ filter p ls) (filter p ls) (λ u. distinct u ≡ true)
    (λ _. and_from (every (λ k. not (eqb (number k) (number l))) (filter p ls)) (distinct (filter p ls))
    (all_every (λ k. not (eqb (number k) (number l))) (filter p ls) (all_kept_by p (λ k. not (eqb (number k) (number l)) ≡ true) ls (every_all (λ k. not (eqb (number k) (number l))) ls q.0))) (distinct_kept p ls q.1))
    (λ _. distinct_kept p ls q.1)

distinct_append : (xs ys : List ℤ) → distinct xs ≡ true → distinct ys ≡ true → AllByRecursion (λ a. every (λ k. not (eqb (number k) (number a))) ys ≡ true) xs → distinct (xs ++ ys) ≡ true
distinct_append [] ys h k x = k
distinct_append (a ∷ xs) ys h k x =
    let q = and_parts (every (λ i. not (eqb (number i) (number a))) xs) (distinct xs) h in
    and_from (every (λ i. not (eqb (number i) (number a))) (xs ++ ys)) (distinct (xs ++ ys)) (every_append (λ i. not (eqb (number i) (number a))) xs ys q.0 x.0) (distinct_append xs ys q.1 k x.1)

-- two literals on one number are the same, or one denies the other
one_number : (a b : ℤ) → number a ≡ number b → (a ≡ b) ⊎ (b ≡ neg_ℤ a)
one_number (pos m) (pos n) e = inl (ap pos e)
one_number (pos zero) (negsuc n) e = absurd (omega arith)
one_number (pos (suc m)) (negsuc n) e = let z : m ≡ n = omega arith in inr (ap negsuc (sym z))
one_number (negsuc m) (pos n) e = inr (ap pos (sym e))
one_number (negsuc m) (negsuc n) e = let z : m ≡ n = omega arith in inl (ap negsuc z)

held_itself : (xs : List ℤ) → AllByRecursion (λ a. (k : ℤ) → same a k ≡ true → holds_literal k xs ≡ true) xs
held_itself [] = tt
held_itself (a ∷ xs) = (
  λ k e. or_left (same a k) (holds_literal k xs) e,
  All-weaker (λ b. (k : ℤ) → same b k ≡ true → holds_literal k xs ≡ true) (λ b. (k : ℤ) → same b k ≡ true → holds_literal k (a ∷ xs) ≡ true) (λ b f k e. or_right (same a k) (holds_literal k xs) (f k e)) xs (held_itself xs),
)

pub resolvent_distinct : (t : List Entry) → ((l : ℤ) → on_trail l t ≡ true → on_trail (neg_ℤ l) t ≡ true → ⊥)
    → (l : ℤ) (ls because : List ℤ) → distinct ls ≡ true → distinct because ≡ true
    → AllByRecursion (λ k. false_on t k ≡ true) ls → AllByRecursion (λ k. not (same k (neg_ℤ l)) ≡ true → false_on t k ≡ true) because
    → distinct (resolvent l ls because) ≡ true
resolvent_distinct t no-two l ls because dl dr fl fr =
    distinct_append A B (distinct_kept (λ k. not (same k l)) ls dl) (distinct_kept (λ k. not (holds_literal k A)) R (distinct_kept (λ k. not (same k (neg_ℤ l))) because dr))
    (both (λ a. false_on t a ≡ true) (λ a. (k : ℤ) → same a k ≡ true → holds_literal k A ≡ true) (λ a. every (λ k. not (eqb (number k) (number a))) B ≡ true)
    (λ a f m. all_every (λ k. not (eqb (number k) (number a))) B
    (kept_all (λ k. not (holds_literal k A)) (λ k. not (eqb (number k) (number a)) ≡ true) R
    (All-weaker (λ k. false_on t k ≡ true) (λ k. not (holds_literal k A) ≡ true → not (eqb (number k) (number a)) ≡ true) (λ k g n. apart a f m k g (not-true (holds_literal k A) n)) R
    (kept_all (λ k. not (same k (neg_ℤ l))) (λ k. false_on t k ≡ true) because fr))))
    A (all_kept_by (λ k. not (same k l)) (λ a. false_on t a ≡ true) ls fl) (held_itself A))
  where
    A : List ℤ
    A = others l ls

    R : List ℤ
    R = others (neg_ℤ l) because

    B : List ℤ
    B = filter (λ k. not (holds_literal k A)) R

    apart : (a : ℤ) → false_on t a ≡ true → ((k : ℤ) → same a k ≡ true → holds_literal k A ≡ true) → (k : ℤ) → false_on t k ≡ true → holds_literal k A ≡ false → not (eqb (number k) (number a)) ≡ true
    apart a f m k g n =
        ⊎_elim
        (λ y. ⊎_elim
        (λ e. absurd (true≢false (sym (m k (subst (λ i. same a i ≡ true) e (same_refl a))) ∙ n)))
        (λ e. absurd (no-two a (subst (λ i. on_trail i t ≡ true) (ap neg_ℤ e ∙ neg_ℤ-neg_ℤ a) g) f))
        (one_number a k (sym (eqb-true (number k) (number a) y))))
        (λ y. not_from_false (eqb (number k) (number a)) y) (cases_Bool (eqb (number k) (number a)))
