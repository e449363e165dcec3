-- A trail is no longer than there are numbers and measures.
use Rattle.std.proofs.Common.{◌≡◌, ℕ, zero, suc, ◌+◌, ◌≤◌, Bool, true, false, not, eqb, ltb, leb, List, [], ◌∷◌, length, filter, sym, refl, ap, ◌∙◌, ⊎_elim, arith}
use Rattle.std.specs.List.{AllByRecursion}
use Rattle.std.proofs.ByRecursion.{All-weaker, all_kept_by}
use Rattle.std.proofs.lemmas.Bool.{true≢false, and_from, not-true, not_from_false, cases_Bool, lt-ltb, le-leb, eqb-false, cond-true, cond-false, cond_both}
use Rattle.calculus.specs.Literals.{number}
use Rattle.calculus.specs.Limits.{within}
use Rattle.calculus.specs.Trails.{Content, Entry, concerns, values}
use Rattle.calculus.specs.Trails.Content.{Value, Literal}
use Rattle.calculus.proofs.Testing.{kept_all, within_true}
use Rattle.calculus.proofs.Trailing.{clash, Apart, Exclusive, values_exclusive, concerns_exclusive}
use Rattle.calculus.proofs.Meaning.{Known}

apart_kept : (p : Entry → Bool) (t : List Entry) → Apart t → Apart (filter p t)
apart_kept p [] h = tt
apart_kept p (e ∷ t) h = cond_both (p e) (e ∷ filter p t) (filter p t) Apart (λ q. (all_kept_by p (λ f. clash e.content f.content ≡ false) t h.0, apart_kept p t h.1)) (λ q. apart_kept p t h.1)

kept_whole : (p : Entry → Bool) (t : List Entry) → AllByRecursion (λ e. p e ≡ true) t → filter p t ≡ t
kept_whole p [] h = refl
kept_whole p (e ∷ t) h = cond-true (p e) (e ∷ filter p t) (filter p t) h.0 ∙ ap (λ u. e ∷ u) (kept_whole p t h.1)

-- without what passes an exclusive test, a trail is at most one entry shorter
one_less : (p : Content → Bool) → Exclusive p → (t : List Entry) → Apart t → length t ≤ 1 + length (filter (λ e. not (p e.content)) t)
one_less p x [] h = omega arith
one_less p x (e ∷ t) h =
    cond_both (not (p e.content)) (e ∷ filter (λ f. not (p f.content)) t) (filter (λ f. not (p f.content)) t) (λ u. length (e ∷ t) ≤ 1 + length u)
    (λ q. let z = one_less p x t h.1 in omega arith)
    (λ q. let k = kept_whole (λ f. not (p f.content)) t (All-weaker (λ f. clash e.content f.content ≡ false) (λ f. not (p f.content) ≡ true)
    (λ f n. ⊎_elim (λ y. absurd (true≢false (sym (x e.content f.content (passes q) y) ∙ n))) (λ y. not_from_false (p f.content) y) (cases_Bool (p f.content))) t h.0) in
    let z = ap length k in omega arith)
  where
    passes : not (p e.content) ≡ false → p e.content ≡ true
    passes q = ⊎_elim (λ y. y) (λ y. absurd (true≢false (sym (not_from_false (p e.content) y) ∙ q))) (cases_Bool (p e.content))

within_less : (n a : ℕ) → within (suc n) a ≡ true → eqb a (suc n) ≡ false → within n a ≡ true
within_less n a h ne = let b = within_true (suc n) a h in let b0 = b.0 in let b1 = b.1 in let c = eqb-false a (suc n) ne in and_from (ltb 0 a) (leb a n) (lt-ltb 0 a b0) (le-leb a n (omega arith))

fewer_numbers : (n t : ℕ) (c : Content) → Known (suc n) t c → not (concerns (suc n) c) ≡ true → Known n t c
fewer_numbers n t (Value j x) k h = k
fewer_numbers n t (Literal l o) k h = within_less n (number l) k (not-true (eqb (number l) (suc n)) h)

fewer_measures : (t : ℕ) (c : Content) → Known 0 (suc t) c → not (values (suc t) c) ≡ true → Known 0 t c
fewer_measures t (Value j x) k h = within_less t j k (not-true (eqb j (suc t)) h)
fewer_measures t (Literal l o) k h = k

none_known : (c : Content) → Known 0 0 c → ⊥
none_known (Value j x) k = let b = within_true 0 j k in let b0 = b.0 in let b1 = b.1 in omega arith
none_known (Literal l o) k = let b = within_true 0 (number l) k in let b0 = b.0 in let b1 = b.1 in omega arith

values_room : (t : ℕ) (u : List Entry) → Apart u → AllByRecursion (λ e. Known 0 t e.content) u → length u ≤ t
values_room zero [] a k = omega arith
values_room zero (e ∷ u) a k = absurd (none_known e.content k.0)
values_room (suc t) u a k =
    let v = filter (λ e. not (values (suc t) e.content)) u in
    let z = one_less (values (suc t)) (values_exclusive (suc t)) u a in
    let r = values_room t v (apart_kept (λ e. not (values (suc t) e.content)) u a)
    (kept_all (λ e. not (values (suc t) e.content)) (λ e. Known 0 t e.content) u (All-weaker (λ e. Known 0 (suc t) e.content) (λ e. not (values (suc t) e.content) ≡ true → Known 0 t e.content) (λ e. fewer_measures t e.content) u k)) in
    omega arith

pub room : (n t : ℕ) (u : List Entry) → Apart u → AllByRecursion (λ e. Known n t e.content) u → length u ≤ n + t
room zero t u a k = let z = values_room t u a k in omega arith
room (suc n) t u a k =
    let v = filter (λ e. not (concerns (suc n) e.content)) u in
    let z = one_less (concerns (suc n)) (concerns_exclusive (suc n)) u a in
    let r = room n t v (apart_kept (λ e. not (concerns (suc n) e.content)) u a)
    (kept_all (λ e. not (concerns (suc n) e.content)) (λ e. Known n t e.content) u (All-weaker (λ e. Known (suc n) t e.content) (λ e. not (concerns (suc n) e.content) ≡ true → Known n t e.content) (λ e. fewer_numbers n t e.content) u k)) in
    omega arith

none_kept : (p : Entry → Bool) (t : List Entry) → AllByRecursion (λ e. p e ≡ false) t → filter p t ≡ []
none_kept p [] h = refl
none_kept p (e ∷ t) h = cond-false (p e) (e ∷ filter p t) (filter p t) h.0 ∙ none_kept p t h.1

-- at most one entry passes an exclusive test
pub one_passes : (p : Content → Bool) → Exclusive p → (t : List Entry) → Apart t → length (filter (λ e. p e.content) t) ≤ 1
one_passes p x [] h = omega arith
one_passes p x (e ∷ t) h =
    cond_both (p e.content) (e ∷ filter (λ f. p f.content) t) (filter (λ f. p f.content) t) (λ u. length u ≤ 1)
    (λ q. let z = ap length (none_kept (λ f. p f.content) t (All-weaker (λ f. clash e.content f.content ≡ false) (λ f. p f.content ≡ false)
    (λ f n. ⊎_elim (λ y. absurd (true≢false (sym (x e.content f.content q y) ∙ n))) (λ y. y) (cases_Bool (p f.content))) t h.0)) in omega arith)
    (λ q. one_passes p x t h.1)
