-- What a trail says: its first entries, its levels, its choices.
use Rattle.std.proofs.Common.{◌≡◌, ℕ, ◌+◌, ◌<◌, ◌≤◌, Bool, true, false, cond, eqb, leb, List, [], ◌∷◌, ◌++◌, ℤ, neg_ℤ, sym, refl, ap, ◌∙◌, subst, ⊎_elim, add_assoc, arith}
use Rattle.std.specs.List.{AllByRecursion}
use Rattle.std.proofs.ByRecursion.{All-push, All-weaker}
use Rattle.std.proofs.lemmas.Bool.{true≢false, or_cases, or_left, or_right, cases_Bool, leb-true, leb-false, le-leb, lt-leb, eqb-true, eq-eqb, cond-true, cond-false, cond_both}
use Rattle.calculus.specs.Literals.{number}
use Rattle.calculus.specs.Trails.{Content, Entry, choice, affirms, concerns, values, entry_for, has_entry, choices, up_to}
use Rattle.calculus.specs.Bounds.{Numbered}
use Rattle.calculus.specs.Trails.Content.{Value, Literal}
use Rattle.calculus.proofs.Testing.{both, same_true, number_neg}

-- two contents on one number, or on one measure
abbrev pub clash : Content → Content → Bool
clash (Value i x) (Value j y) = eqb i j
clash (Value i x) (Literal l p) = false
clash (Literal k o) (Value j y) = false
clash (Literal k o) (Literal l p) = eqb (number k) (number l)

abbrev pub Apart : List Entry → Type 0
Apart [] = Unit {0}
Apart (e ∷ t) = AllByRecursion (λ f. clash e.content f.content ≡ false) t × Apart t

-- no two contents that do not clash pass the test
abbrev pub Exclusive : (Content → Bool) → Type 0
Exclusive p = (b c : Content) → p b ≡ true → p c ≡ true → clash b c ≡ true

pub values_exclusive : (j : ℕ) → Exclusive (values j)
values_exclusive j (Value i x) (Value k y) p q = eq-eqb i k (eqb-true i j p ∙ sym (eqb-true k j q))
values_exclusive j (Value i x) (Literal k o) p q = absurd (true≢false (sym q))
values_exclusive j (Literal k o) (Value i x) p q = absurd (true≢false (sym p))
values_exclusive j (Literal k o) (Literal l r) p q = absurd (true≢false (sym q))

pub concerns_exclusive : (n : ℕ) → Exclusive (concerns n)
concerns_exclusive n (Value i x) (Value k y) p q = absurd (true≢false (sym q))
concerns_exclusive n (Value i x) (Literal k o) p q = absurd (true≢false (sym p))
concerns_exclusive n (Literal k o) (Value i x) p q = absurd (true≢false (sym q))
concerns_exclusive n (Literal k o) (Literal l r) p q = eq-eqb (number k) (number l) (eqb-true (number k) n p ∙ sym (eqb-true (number l) n q))

pub affirms_concerns : (l : ℤ) (c : Content) → affirms l c ≡ true → concerns (number l) c ≡ true
affirms_concerns l (Value j x) h = h
affirms_concerns l (Literal k o) h = eq-eqb (number k) (number l) (ap number (same_true k l h))

pub denies_concerns : (l : ℤ) (c : Content) → affirms (neg_ℤ l) c ≡ true → concerns (number l) c ≡ true
denies_concerns l (Value j x) h = h
denies_concerns l (Literal k o) h = eq-eqb (number k) (number l) (ap number (same_true k (neg_ℤ l) h) ∙ number_neg l)

-- the first entry that passes: what holds of each entry holds of it
pub found : (Q : Entry → Type 0) (p : Content → Bool) (t : List Entry) → AllByRecursion Q t → has_entry p t ≡ true → Q (entry_for p t) × (p (entry_for p t).content ≡ true)
found Q p [] h s = absurd (true≢false (sym s))
found Q p (e ∷ t) h s =
    let R : Entry → Type 0 = λ f. Q f × (p f.content ≡ true) in
    cond_both (p e.content) e (entry_for p t) R (λ q. (h.0, q)) (λ q. found Q p t h.1 (⊎_elim (λ y. absurd (true≢false (sym y ∙ q))) (λ y. y) (or_cases (p e.content) (has_entry p t) s)))

-- where no two entries clash, an entry that passes is the first one
pub first : (t : List Entry) → Apart t → AllByRecursion (λ e. (p : Content → Bool) → Exclusive p → p e.content ≡ true → entry_for p t ≡ e) t
first [] h = tt
first (e ∷ t) h = (
  λ p x q. cond-true (p e.content) e (entry_for p t) q,
  both (λ f. clash e.content f.content ≡ false) (λ f. (p : Content → Bool) → Exclusive p → p f.content ≡ true → entry_for p t ≡ f) (λ f. (p : Content → Bool) → Exclusive p → p f.content ≡ true → entry_for p (e ∷ t) ≡ f)
      (λ f n k p x q. ⊎_elim (λ y. absurd (true≢false (sym (x e.content f.content y q) ∙ n))) (λ y. cond-false (p e.content) e (entry_for p t) y ∙ k p x q) (cases_Bool (p e.content)))
      t h.0 (first t h.1),
)

pub apart_push : (t : List Entry) (e : Entry) → Apart t → AllByRecursion (λ f. clash f.content e.content ≡ false) t → Apart (t ++ e ∷ [])
apart_push [] e h k = (tt, tt)
apart_push (f ∷ t) e h k = (All-push (λ g. clash f.content g.content ≡ false) t e h.0 k.0, apart_push t e h.1 k.1)

-- the part of the trail up to a level
pub up_to_all : (P : Entry → Type 0) (k : ℕ) (t : List Entry) → AllByRecursion (λ e. e.level ≤ k → P e) t → AllByRecursion P (up_to k t)
up_to_all P k [] h = tt
up_to_all P k (e ∷ t) h =
    cond_both (leb e.level k) (e ∷ up_to k t) (up_to k t) (AllByRecursion P) (λ q. (h.0 (leb-true e.level k q), up_to_all P k t h.1)) (λ q. up_to_all P k t h.1)

pub up_to_back : (P : Entry → Type 0) (k : ℕ) (t : List Entry) → AllByRecursion P (up_to k t) → AllByRecursion (λ e. e.level ≤ k → P e) t
up_to_back P k [] h = tt
up_to_back P k (e ∷ t) h =
    cond_both (leb e.level k) (e ∷ up_to k t) (up_to k t) (λ u. AllByRecursion P u → AllByRecursion (λ f. f.level ≤ k → P f) (e ∷ t))
    (λ q r. (λ _. r.0, up_to_back P k t r.1))
    (λ q r. (λ l. absurd (true≢false (sym (le-leb e.level k l) ∙ q)), up_to_back P k t r)) h

pub up_to_weaken : (P : Entry → Type 0) (k : ℕ) (t : List Entry) → AllByRecursion P t → AllByRecursion P (up_to k t)
up_to_weaken P k t h = up_to_all P k t (All-weaker P (λ e. e.level ≤ k → P e) (λ e x _. x) t h)

pub up_to_append : (k : ℕ) (t : List Entry) (e : Entry) → up_to k (t ++ e ∷ []) ≡ up_to k t ++ up_to k (e ∷ [])
up_to_append k [] e = refl
up_to_append k (f ∷ t) e = go (leb f.level k) (up_to_append k t e)
  where
    go : (b : Bool) → up_to k (t ++ e ∷ []) ≡ up_to k t ++ up_to k (e ∷ []) → cond b (f ∷ up_to k (t ++ e ∷ [])) (up_to k (t ++ e ∷ [])) ≡ cond b (f ∷ up_to k t) (up_to k t) ++ up_to k (e ∷ [])
    go true q = ap (λ u. f ∷ u) q
    go false q = q

pub up_to_twice : (j k : ℕ) (t : List Entry) → j ≤ k → up_to j (up_to k t) ≡ up_to j t
up_to_twice j k [] h = refl
up_to_twice j k (e ∷ t) h =
    cond_both (leb e.level k) (e ∷ up_to k t) (up_to k t) (λ u. up_to j u ≡ up_to j (e ∷ t))
    (λ q. ap (λ u. cond (leb e.level j) (e ∷ u) u) (up_to_twice j k t h))
    (λ q. let l = leb-false e.level k q in up_to_twice j k t h ∙ sym (cond-false (leb e.level j) (e ∷ up_to j t) (up_to j t) (lt-leb e.level j (omega arith))))

pub up_to_whole : (k : ℕ) (t : List Entry) → AllByRecursion (λ e. e.level ≤ k) t → up_to k t ≡ t
up_to_whole k [] h = refl
up_to_whole k (e ∷ t) h = cond-true (leb e.level k) (e ∷ up_to k t) (up_to k t) (le-leb e.level k h.0) ∙ ap (λ u. e ∷ u) (up_to_whole k t h.1)

pub apart_up_to : (k : ℕ) (t : List Entry) → Apart t → Apart (up_to k t)
apart_up_to k [] h = tt
apart_up_to k (e ∷ t) h =
    cond_both (leb e.level k) (e ∷ up_to k t) (up_to k t) Apart (λ q. (up_to_weaken (λ f. clash e.content f.content ≡ false) k t h.0, apart_up_to k t h.1)) (λ q. apart_up_to k t h.1)

-- an entry of a lower part is an entry of a higher one, and of the trail
pub has_more : (p : Content → Bool) (j k : ℕ) (t : List Entry) → j ≤ k → has_entry p (up_to j t) ≡ true → has_entry p (up_to k t) ≡ true
has_more p j k [] l h = h
has_more p j k (e ∷ t) l h =
    let rest : has_entry p (up_to j t) ≡ true → has_entry p (up_to k (e ∷ t)) ≡ true =
    λ r. cond_both (leb e.level k) (e ∷ up_to k t) (up_to k t) (λ u. has_entry p u ≡ true) (λ q. or_right (p e.content) (has_entry p (up_to k t)) (has_more p j k t l r)) (λ q. has_more p j k t l r) in
    cond_both (leb e.level j) (e ∷ up_to j t) (up_to j t) (λ u. has_entry p u ≡ true → has_entry p (up_to k (e ∷ t)) ≡ true)
    (λ q r. let x = leb-true e.level j q in
    ⊎_elim (λ y. subst (λ u. has_entry p u ≡ true) (sym (cond-true (leb e.level k) (e ∷ up_to k t) (up_to k t) (le-leb e.level k (omega arith)))) (or_left (p e.content) (has_entry p (up_to k t)) y)) rest (or_cases (p e.content) (has_entry p (up_to j t)) r))
    (λ q r. rest r) h

pub has_whole : (p : Content → Bool) (k : ℕ) (t : List Entry) → has_entry p (up_to k t) ≡ true → has_entry p t ≡ true
has_whole p k [] h = h
has_whole p k (e ∷ t) h =
    cond_both (leb e.level k) (e ∷ up_to k t) (up_to k t) (λ u. has_entry p u ≡ true → has_entry p (e ∷ t) ≡ true)
    (λ q r. ⊎_elim (λ y. or_left (p e.content) (has_entry p t) y) (λ y. or_right (p e.content) (has_entry p t) (has_whole p k t y)) (or_cases (p e.content) (has_entry p (up_to k t)) r))
    (λ q r. or_right (p e.content) (has_entry p t) (has_whole p k t r)) h

-- the first entry that passes is of level up to k: it stands in that part
pub has_up_to : (p : Content → Bool) (k : ℕ) (t : List Entry) → has_entry p t ≡ true → (entry_for p t).level ≤ k → has_entry p (up_to k t) ≡ true
has_up_to p k [] h l = h
has_up_to p k (e ∷ t) h l =
    cond_both (p e.content) e (entry_for p t) (λ f. f.level ≤ k → has_entry p (up_to k (e ∷ t)) ≡ true)
    (λ q s. subst (λ u. has_entry p u ≡ true) (sym (cond-true (leb e.level k) (e ∷ up_to k t) (up_to k t) (le-leb e.level k s))) (or_left (p e.content) (has_entry p (up_to k t)) q))
    (λ q s. let r : has_entry p t ≡ true = ⊎_elim (λ y. absurd (true≢false (sym y ∙ q))) (λ y. y) (or_cases (p e.content) (has_entry p t) h) in
    cond_both (leb e.level k) (e ∷ up_to k t) (up_to k t) (λ u. has_entry p u ≡ true) (λ _. or_right (p e.content) (has_entry p (up_to k t)) (has_up_to p k t r s)) (λ _. has_up_to p k t r s)) l

-- what passes in a part stands at a level of that part
pub level_up_to : (p : Content → Bool) → Exclusive p → (k : ℕ) (t : List Entry) → Apart t → has_entry p (up_to k t) ≡ true → (entry_for p t).level ≤ k
level_up_to p x k t h s =
    let Q : Entry → Type 0 = λ e. (e.level ≤ k) × (p e.content ≡ true → entry_for p t ≡ e) in
    let q = found Q p (up_to k t) (up_to_all Q k t (All-weaker (λ e. (p : Content → Bool) → Exclusive p → p e.content ≡ true → entry_for p t ≡ e) (λ e. e.level ≤ k → Q e) (λ e f l. (l, f p x)) t (first t h))) s in
    subst (λ e. e.level ≤ k) (sym (q.0.1 q.1)) q.0.0

pub choices_push : (t : List Entry) (e : Entry) → choices (t ++ e ∷ []) ≡ choices t + cond (choice e.content) 1 0
choices_push [] e = omega arith
choices_push (f ∷ t) e = ap (λ n. cond (choice f.content) 1 0 + n) (choices_push t e) ∙ sym (add_assoc _ (choices t) _)

pub numbered_push : (k : ℕ) (t : List Entry) (e : Entry) → Numbered k t → (choice e.content ≡ true → e.level ≡ k + choices t + 1) → Numbered k (t ++ e ∷ [])
numbered_push k [] e h c = (λ y. let z = c y in omega arith, tt)
numbered_push k (f ∷ t) e h c = (h.0, numbered_push (k + cond (choice f.content) 1 0) t e h.1 (λ y. let z = c y in omega arith))

pub numbered_above : (k : ℕ) (t : List Entry) → Numbered k t → AllByRecursion (λ e. choice e.content ≡ true → k < e.level) t
numbered_above k [] h = tt
numbered_above k (e ∷ t) h = (λ y. let z = h.0 y in omega arith, All-weaker (λ f. choice f.content ≡ true → k + cond (choice e.content) 1 0 < f.level) (λ f. choice f.content ≡ true → k < f.level) (λ f g y. let z = g y in omega arith) t (numbered_above (k + cond (choice e.content) 1 0) t h.1))

-- the choices are all above the level n: none is left
pub none_left : (n : ℕ) (t : List Entry) → AllByRecursion (λ e. choice e.content ≡ true → n < e.level) t → (k : ℕ) → Numbered k (up_to n t) × (choices (up_to n t) ≡ 0)
none_left n [] h k = (tt, refl)
none_left n (e ∷ t) h k =
    let P : List Entry → Type 0 = λ u. Numbered k u × (choices u ≡ 0) in
    cond_both (leb e.level n) (e ∷ up_to n t) (up_to n t) P
    (λ q. let l = leb-true e.level n q in
    let no_choice : choice e.content ≡ true → ⊥ = λ y. let z = h.0 y in omega arith in
    let c = ⊎_elim (λ y. absurd (no_choice y)) (λ y. y) (cases_Bool (choice e.content)) in
    let z = ap (λ b. cond {A = ℕ} b 1 0) c in
    let r = none_left n t h.1 (k + cond (choice e.content) 1 0) in
    let r1 = r.1 in
    ((λ y. absurd (no_choice y), r.0), omega arith))
    (λ q. none_left n t h.1 k)

-- back to the level n: the choices up to n are left, and they are n
pub numbered_up_to : (k n : ℕ) (t : List Entry) → k ≤ n → Numbered k t → Numbered k (up_to n t) × (n ≤ k + choices t → k + choices (up_to n t) ≡ n)
numbered_up_to k n [] l h = (tt, λ u. omega arith)
numbered_up_to k n (e ∷ t) l h =
    let P : List Entry → Type 0 = λ u. Numbered k u × (n ≤ k + choices (e ∷ t) → k + choices u ≡ n) in
    cond_both (leb e.level n) (e ∷ up_to n t) (up_to n t) P
    (λ q. let m = leb-true e.level n q in
    let up : k + cond (choice e.content) 1 0 ≤ n = ⊎_elim (λ y. let z = ap (λ b. cond {A = ℕ} b 1 0) y in let x = h.0 y in omega arith) (λ y. let z = ap (λ b. cond {A = ℕ} b 1 0) y in omega arith) (cases_Bool (choice e.content)) in
    let r = numbered_up_to (k + cond (choice e.content) 1 0) n t up h.1 in
    ((h.0, r.0), λ u. let r1 = r.1 (omega arith) in omega arith))
    (λ q. let m = leb-false e.level n q in
    ⊎_elim
    (λ y. let x = h.0 y in let z = ap (λ b. cond {A = ℕ} b 1 0) y in
    let r = none_left n t (All-weaker (λ f. choice f.content ≡ true → k + cond (choice e.content) 1 0 < f.level) (λ f. choice f.content ≡ true → n < f.level) (λ f g w. let v = g w in omega arith) t (numbered_above (k + cond (choice e.content) 1 0) t h.1)) k in
    let r1 = r.1 in (r.0, λ u. omega arith))
    (λ y. let z = ap (λ b. cond {A = ℕ} b 1 0) y in
    let z2 : k + cond (choice e.content) 1 0 ≡ k = omega arith in
    let r = numbered_up_to k n t l (subst (λ i. Numbered i t) z2 h.1) in
    (r.0, λ u. r.1 (omega arith)))
    (cases_Bool (choice e.content)))
