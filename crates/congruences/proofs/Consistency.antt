-- In an admitted arrangement a clause that matches two applications has a true literal.
use Rattle.std.specs.Prelude.{◌≡◌, ℕ, zero, suc, ◌-◌, true, false, cond, not, ◌&&◌, ◌||◌, List, [], ◌∷◌, ◌++◌, length, ℤ, pos, negsuc, ◌==◌, ◌≢◌, nat_le, nat_lt, refl}
use Rattle.std.proofs.Common.{sym, ◌∙◌, subst, ⊎_elim, arith}
use Rattle.std.specs.List.{AllByRecursion}
use Rattle.std.proofs.ByRecursion.{All-get_or, All-weaker}
use Rattle.std.proofs.lemmas.Bool.{true≢false, both_ways, and_parts, and_from, or_cases, or_parts, not-true, not-false, cases_Bool, eqb-true, ltb-true, lt-leb, cond-false}
use Rattle.calculus.specs.Lists.{every, some, nth}
use Rattle.calculus.specs.Limits.{within}
use Rattle.calculus.specs.Literals.{same}
use Rattle.calculus.specs.Kinds.{Kind, Lawful, Whole, some_atom}
use Rattle.calculus.proofs.Testing.{every_all, all_every, front, within_true, same_true, same_refl}
use Rattle.congruences.specs.Applications.{Application, no_application, alike, at_each_place, equal_at, agree, consistent}
use Rattle.congruences.specs.Congruences.{affirms_equal, denies_equal, congruent}

-- fewer applications are consistent too
pub fewer_consistent : (apps : List Application) (p : Application) (xs : List ℤ) → consistent (apps ++ p ∷ []) xs ≡ true → consistent apps xs ≡ true
fewer_consistent apps p xs h =
    all_every (λ q. every (agree xs q) apps) apps
    (All-weaker (λ q. every (agree xs q) (apps ++ p ∷ []) ≡ true) (λ q. every (agree xs q) apps ≡ true)
    (λ q e. all_every (agree xs q) apps (front (λ r. agree xs q r ≡ true) apps p (every_all (agree xs q) (apps ++ p ∷ []) e))) apps
    (front (λ q. every (agree xs q) (apps ++ p ∷ []) ≡ true) apps p (every_all (λ q. every (agree xs q) (apps ++ p ∷ [])) (apps ++ p ∷ []) h)))

nth_all : (P : Application → Type 0) (apps : List Application) (a : ℕ) → within (length apps) a ≡ true → AllByRecursion P apps → P (nth no_application apps a)
nth_all P apps zero h k = let b = within_true (length apps) 0 h in let b0 = b.0 in absurd (omega arith)
nth_all P apps (suc a) h k = let b = within_true (length apps) (suc a) h in let b1 = b.1 in All-get_or P apps a no_application (omega arith) k

pub two_agree : (apps : List Application) (xs : List ℤ) (a b : ℕ) → consistent apps xs ≡ true → within (length apps) a ≡ true → within (length apps) b ≡ true → agree xs (nth no_application apps a) (nth no_application apps b) ≡ true
two_agree apps xs a b h ha hb =
    nth_all (λ q. agree xs (nth no_application apps a) q ≡ true) apps b hb
    (every_all (agree xs (nth no_application apps a)) apps (nth_all (λ p. every (agree xs p) apps ≡ true) apps a ha (every_all (λ p. every (agree xs p) apps) apps h)))

module _ (K : Kind) (L : Lawful K) (m : K.Model) (s : ℕ) (xs : List ℤ) (d : ℕ) (w : Whole K m xs d) where
  -- where no atom literal is true, a denied atom that equates is true, and an affirmed one false
  denied_equal : (i j : ℕ) (ls : List ℤ) → some_atom K m s xs d ls ≡ false → some (denies_equal K m s i j) ls ≡ true → equal_at xs i j ≡ true
  denied_equal i j [] f h = absurd (true≢false (sym h))
  denied_equal i j (pos n ∷ ls) f h = denied_equal i j ls (or_parts (cond (nat_le n s) false (K.truth m (n - s) xs d)) (some_atom K m s xs d ls) f).1 h
  denied_equal i j (negsuc n ∷ ls) f h =
      let o = or_parts (cond (nat_le (suc n) s) false (not (K.truth m (suc n - s) xs d))) (some_atom K m s xs d ls) f in
      ⊎_elim
      (λ y. let p = and_parts (nat_lt s (suc n)) (K.equated m (suc n - s) i j) y in
      let t : K.truth m (suc n - s) xs d ≡ true = not-false (K.truth m (suc n - s) xs d) (sym (cond-false (nat_le (suc n) s) false (not (K.truth m (suc n - s) xs d)) (lt-leb (suc n) s (ltb-true s (suc n) p.0))) ∙ o.0) in
      subst (λ z. same (nth (pos 0) xs i) z ≡ true) ((L.equating m (suc n - s) i j p.1 xs d w).0 t) (same_refl (nth (pos 0) xs i)))
      (λ y. denied_equal i j ls o.1 y) (or_cases (nat_lt s (suc n) && K.equated m (suc n - s) i j) (some (denies_equal K m s i j) ls) h)

  affirmed_apart : (i j : ℕ) (ls : List ℤ) → some_atom K m s xs d ls ≡ false → some (affirms_equal K m s i j) ls ≡ true → equal_at xs i j ≢ true
  affirmed_apart i j [] f h e = true≢false (sym h)
  affirmed_apart i j (negsuc n ∷ ls) f h e = affirmed_apart i j ls (or_parts (cond (nat_le (suc n) s) false (not (K.truth m (suc n - s) xs d))) (some_atom K m s xs d ls) f).1 h e
  affirmed_apart i j (pos n ∷ ls) f h e =
      let o = or_parts (cond (nat_le n s) false (K.truth m (n - s) xs d)) (some_atom K m s xs d ls) f in
      ⊎_elim
      (λ y. let p = and_parts (nat_lt s n) (K.equated m (n - s) i j) y in
      both_ways (K.truth m (n - s) xs d) (sym (cond-false (nat_le n s) false (K.truth m (n - s) xs d) (lt-leb n s (ltb-true s n p.0))) ∙ o.0)
      ((L.equating m (n - s) i j p.1 xs d w).1 (same_true (nth (pos 0) xs i) (nth (pos 0) xs j) e)))
      (λ y. affirmed_apart i j ls o.1 y e) (or_cases (nat_lt s n && K.equated m (n - s) i j) (some (affirms_equal K m s i j) ls) h)

  places_equal : (ls : List ℤ) → some_atom K m s xs d ls ≡ false → (is js : List ℕ) → at_each_place (λ i j. (i == j) || some (denies_equal K m s i j) ls) is js ≡ true → at_each_place (equal_at xs) is js ≡ true
  places_equal ls f [] [] h = refl
  places_equal ls f [] (j ∷ js) h = h
  places_equal ls f (i ∷ is) [] h = h
  places_equal ls f (i ∷ is) (j ∷ js) h =
      let p = and_parts (i == j || some (denies_equal K m s i j) ls) (at_each_place (λ i j. (i == j) || some (denies_equal K m s i j) ls) is js) h in
      and_from (equal_at xs i j) (at_each_place (equal_at xs) is js)
      (⊎_elim (λ y. subst (λ k. same (nth (pos 0) xs i) (nth (pos 0) xs k) ≡ true) (eqb-true i j y) (same_refl (nth (pos 0) xs i))) (λ y. denied_equal i j ls f y) (or_cases (i == j) (some (denies_equal K m s i j) ls) p.0))
      (places_equal ls f is js p.1)

  pub congruent_true : (ls : List ℤ) (p q : Application) → agree xs p q ≡ true → congruent K m s ls p q ≡ true → some_atom K m s xs d ls ≡ true
  congruent_true ls p q g h =
      let a = and_parts (alike p q) (at_each_place (λ i j. (i == j) || some (denies_equal K m s i j) ls) p.arguments q.arguments && some (affirms_equal K m s p.result q.result) ls) h in
      let b = and_parts (at_each_place (λ i j. (i == j) || some (denies_equal K m s i j) ls) p.arguments q.arguments) (some (affirms_equal K m s p.result q.result) ls) a.1 in
      ⊎_elim (λ y. y)
      (λ f. absurd (affirmed_apart p.result q.result ls f b.1
      (⊎_elim (λ y. absurd (both_ways (alike p q && at_each_place (equal_at xs) p.arguments q.arguments) (not-true (alike p q && at_each_place (equal_at xs) p.arguments q.arguments) y)
      (and_from (alike p q) (at_each_place (equal_at xs) p.arguments q.arguments) a.0 (places_equal ls f p.arguments q.arguments b.0)))) (λ y. y)
      (or_cases (not (alike p q && at_each_place (equal_at xs) p.arguments q.arguments)) (equal_at xs p.result q.result) g))))
      (cases_Bool (some_atom K m s xs d ls))
