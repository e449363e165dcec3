-- Equal fractions make a row true alike; and an atom that equates two measures.
use Rattle.std.proofs.Common.{◌≡◌, ℕ, zero, suc, ◌<◌, ◌≤◌, Bool, true, false, not, ◌&&◌, ◌||◌, eqb, ◌⊎◌, ◌↔◌, List, [], ◌∷◌, length, ℤ, pos, negsuc, ◌+ℤ◌, ◌*ℤ◌, neg_ℤ, ◌≤ℤ◌, ◌<ℤ◌, sym, refl, ap, ◌∙◌, ap₂, inl, inr, arith}
use lib.IntN.{zero-*ℤ, *ℤ_comm}
use lib.Signed.{lt_z, le_z}
use Rattle.std.proofs.lemmas.Int.{ints, by_lt_z}
use Rattle.std.proofs.lemmas.List.{get_or_past}
use Rattle.std.proofs.lemmas.Bool.{eqb-true, eq-eqb, cases_lt, cases_Bool, and_parts, or_cases, or_left, or_right, not-true, both_ways, false≢true}
use Rattle.calculus.specs.Arrangements.{SameFraction}
use Rattle.calculus.specs.Lists.{some, nth}
use Rattle.calculus.specs.Literals.{same}
use Rattle.rows.specs.declared.Relation.{Relation}
use Rattle.rows.specs.declared.Relation.TheVariants.{Less, AtMost, Equal}
use Rattle.rows.specs.declared.Entry.{Entry}
use Rattle.rows.specs.Rows.{Row, weight, compares, true_of, mentions, same_relation}
use Rattle.rows.specs.Linear.{opposed, equates}
use Rattle.calculus.proofs.Testing.{same_true}
use Rattle.rows.proofs.Integers.{lt_z_true, +ℤ-*ℤ, *ℤ-assoc, neg-*ℤ, same_same, times_le, times_lt}

-- comparisons do not change when both sides are multiplied by a positive number
not_under : (a b : ℤ) → lt_z a b ≡ false → b ≤ℤ a
not_under a b t = omega (arith, ints)

lt_is : (a b : ℤ) → a <ℤ b → lt_z a b ≡ true
lt_is a b h = grind (arith, ints)

le_is_not : (a b : ℤ) → b ≤ℤ a → lt_z a b ≡ false
le_is_not a b h = grind (arith, ints)

times_right_lt : (a b : ℤ) (e : ℕ) → 0 < e → a <ℤ b → (a *ℤ pos e) <ℤ (b *ℤ pos e)
times_right_lt a b e p h = let P : pos 0 <ℤ pos e = omega (arith, ints) in rw (*ℤ_comm a (pos e), *ℤ_comm b (pos e)) (times_lt (pos e) a b P h)

times_right_le : (a b : ℤ) (e : ℕ) → a ≤ℤ b → (a *ℤ pos e) ≤ℤ (b *ℤ pos e)
times_right_le a b e h = let P : pos 0 ≤ℤ pos e = omega (arith, ints) in rw (*ℤ_comm a (pos e), *ℤ_comm b (pos e)) (times_le (pos e) a b P h)

ltZ_times : (a b : ℤ) (e : ℕ) → 0 < e → lt_z (a *ℤ pos e) (b *ℤ pos e) ≡ lt_z a b
ltZ_times a b e p = by (cases_Bool (lt_z a b))
  where
    by : (lt_z a b ≡ true) ⊎ (lt_z a b ≡ false) → lt_z (a *ℤ pos e) (b *ℤ pos e) ≡ lt_z a b
    by (inl t) = lt_is _ _ (times_right_lt a b e p (lt_z_true a b t)) ∙ sym t
    by (inr t) = le_is_not _ _ (times_right_le b a e (not_under a b t)) ∙ sym t

leZ_ltZ : (a b : ℤ) → le_z a b ≡ not (lt_z b a)
leZ_ltZ a b = by (cases_Bool (lt_z b a))
  where
    yes_le : lt_z b a ≡ false → le_z a b ≡ true
    yes_le t = grind (arith, ints)

    no_le : lt_z b a ≡ true → le_z a b ≡ false
    no_le t = grind (arith, ints)

    by : (lt_z b a ≡ true) ⊎ (lt_z b a ≡ false) → le_z a b ≡ not (lt_z b a)
    by (inl t) = no_le t ∙ sym (ap not t)
    by (inr t) = yes_le t ∙ sym (ap not t)

same_ltZ : (a b : ℤ) → same a b ≡ (not (lt_z a b) && not (lt_z b a))
same_ltZ a b = by (cases_Bool (same a b))
  where
    equal : a ≡ b → (lt_z a b ≡ false) × (lt_z b a ≡ false)
    equal e = (grind (arith, ints), grind (arith, ints))

    differ : same a b ≡ false → (lt_z a b ≡ false) → (lt_z b a ≡ false) → ⊥
    differ t u v = let s : a ≡ b = omega (arith, ints) in both_ways (same a b) t (same_same a b s)

    other : (x y : Bool) → (x ≡ false → y ≡ false → ⊥) → (not x && not y) ≡ false
    other true y h = refl
    other false true h = refl
    other false false h = absurd (h refl refl)

    by : (same a b ≡ true) ⊎ (same a b ≡ false) → same a b ≡ (not (lt_z a b) && not (lt_z b a))
    by (inl t) = let w = equal (same_true a b t) in t ∙ sym (ap₂ (λ x y. not x && not y) w.0 w.1)
    by (inr t) = t ∙ sym (other (lt_z a b) (lt_z b a) (differ t))

compares_times : (R : Relation) (a b : ℤ) (e : ℕ) → 0 < e → compares R (a *ℤ pos e) (b *ℤ pos e) ≡ compares R a b
compares_times Less a b e p = ltZ_times a b e p
compares_times AtMost a b e p = leZ_ltZ (a *ℤ pos e) (b *ℤ pos e) ∙ ap not (ltZ_times b a e p) ∙ sym (leZ_ltZ a b)
compares_times Equal a b e p = same_ltZ (a *ℤ pos e) (b *ℤ pos e) ∙ ap₂ (λ x y. not x && not y) (ltZ_times a b e p) (ltZ_times b a e p) ∙ sym (same_ltZ a b)

-- (c x) e = (c y) d
term_same : (c x y : ℤ) (d e : ℕ) → SameFraction x d y e → c *ℤ x *ℤ pos e ≡ c *ℤ y *ℤ pos d
term_same c x y d e h = *ℤ-assoc c x (pos e) ∙ ap (λ z. c *ℤ z) h ∙ sym (*ℤ-assoc c y (pos d))

abbrev Agree : List ℤ → ℕ → List ℤ → ℕ → ℕ → Type 0
Agree xs d ys e j = SameFraction (nth (pos 0) xs j) d (nth (pos 0) ys j) e

weight_same : (es : List Entry) (xs ys : List ℤ) (d e : ℕ) → ((j : ℕ) → some (λ f. eqb f.measure j) es ≡ true → Agree xs d ys e j) → weight es xs *ℤ pos e ≡ weight es ys *ℤ pos d
weight_same [] xs ys d e h = zero-*ℤ (pos e) ∙ sym (zero-*ℤ (pos d))
weight_same (f ∷ es) xs ys d e h =
    +ℤ-*ℤ (f.coefficient *ℤ nth (pos 0) xs f.measure) (weight es xs) (pos e)
    ∙ ap₂ ◌+ℤ◌
    (term_same f.coefficient (nth (pos 0) xs f.measure) (nth (pos 0) ys f.measure) d e (h f.measure (or_left (eqb f.measure f.measure) (some (λ g. eqb g.measure f.measure) es) (eq-eqb f.measure f.measure refl))))
    (weight_same es xs ys d e (λ j t. h j (or_right (eqb f.measure j) (some (λ g. eqb g.measure j) es) t)))
    ∙ sym (+ℤ-*ℤ (f.coefficient *ℤ nth (pos 0) ys f.measure) (weight es ys) (pos d))

-- a measure that is not there counts as 0 in both
agree_anywhere : (t : ℕ) (xs ys : List ℤ) (d e : ℕ) → length xs ≡ t → length ys ≡ t → (j : ℕ) → (0 < j → j ≤ t → Agree xs d ys e j) → Agree xs d ys e j
agree_anywhere t xs ys d e lx ly zero h = zero-*ℤ (pos e) ∙ sym (zero-*ℤ (pos d))
agree_anywhere t xs ys d e lx ly (suc j) h = by (cases_lt j t)
  where
    by : (j < t) ⊎ (t ≤ j) → Agree xs d ys e (suc j)
    by (inl l) = h (omega arith) (omega arith)
    by (inr l) =
        let a = get_or_past xs j (pos 0) (omega arith) in
        let b = get_or_past ys j (pos 0) (omega arith) in
        ap (λ z. z *ℤ pos e) a ∙ zero-*ℤ (pos e) ∙ sym (ap (λ z. z *ℤ pos d) b ∙ zero-*ℤ (pos d))

-- (c d) e = (c e) d
swapped : (c : ℤ) (d e : ℕ) → c *ℤ pos d *ℤ pos e ≡ c *ℤ pos e *ℤ pos d
swapped c d e = *ℤ-assoc c (pos d) (pos e) ∙ ap (λ z. c *ℤ z) (*ℤ_comm (pos d) (pos e)) ∙ sym (*ℤ-assoc c (pos e) (pos d))

pub local : (r : Row) (t : ℕ) (xs ys : List ℤ) (d e : ℕ) → length xs ≡ t → length ys ≡ t → 0 < d → 0 < e
    → ((j : ℕ) → 0 < j → j ≤ t → mentions j r ≡ true → Agree xs d ys e j) → true_of r xs d ≡ true_of r ys e
local r t xs ys d e lx ly p q h =
    sym (compares_times r.relation (weight r.entries xs) (r.constant *ℤ pos d) e q)
    ∙ ap₂ (compares r.relation) (weight_same r.entries xs ys d e (λ j m. agree_anywhere t xs ys d e lx ly j (λ u v. h j u v m))) (swapped r.constant d e)
    ∙ compares_times r.relation (weight r.entries ys) (r.constant *ℤ pos e) d p

-- a x + b y with a + b = 0 and a not 0
cancel : (a x y : ℤ) → same a (pos 0) ≡ false → a *ℤ x ≡ a *ℤ y → x ≡ y
cancel a x y t h = by (by_lt_z {P = (x ≡ y) ⊎ ((x <ℤ y) ⊎ (y <ℤ x))} x y (λ l. inr (inl l)) (λ l. by_lt_z y x (λ k. inr (inr k)) (λ k. inl (both l k))))
  where
    both : y ≤ℤ x → x ≤ℤ y → x ≡ y
    both l k = omega (arith, ints)

    sides : (a : ℤ) → same a (pos 0) ≡ false → (pos 0 <ℤ a) ⊎ (pos 0 <ℤ neg_ℤ a)
    sides (pos zero) e = absurd (false≢true (sym e))
    sides (pos (suc n)) e = inl (omega (arith, ints))
    sides (negsuc n) e = inr (omega (arith, ints))

    never : (u v : ℤ) → u <ℤ v → a *ℤ u ≡ a *ℤ v → ⊥
    never u v l e = go (sides a t)
      where
        go : (pos 0 <ℤ a) ⊎ (pos 0 <ℤ neg_ℤ a) → ⊥
        go (inl p) = let k = times_lt a u v p l in omega (arith, ints)
        go (inr p) = let k = times_lt (neg_ℤ a) u v p l in let m = neg-*ℤ a u in let n = neg-*ℤ a v in omega (arith, ints)

    by : (x ≡ y) ⊎ ((x <ℤ y) ⊎ (y <ℤ x)) → x ≡ y
    by (inl e) = e
    by (inr (inl l)) = absurd (never x y l h)
    by (inr (inr l)) = absurd (never y x l (sym h))

balanced : (a b x y : ℤ) → a +ℤ b ≡ pos 0 → a *ℤ x +ℤ (b *ℤ y +ℤ pos 0) ≡ pos 0 → a *ℤ x ≡ a *ℤ y
balanced a b x y s h =
    let n : b ≡ neg_ℤ a = omega (arith, ints) in
    let m = ap (λ z. z *ℤ y) n ∙ neg-*ℤ a y in
    omega (arith, ints)

balance : (a b x y : ℤ) → a +ℤ b ≡ pos 0 → x ≡ y → a *ℤ x +ℤ (b *ℤ y +ℤ pos 0) ≡ pos 0
balance a b x y s h =
    let n : b ≡ neg_ℤ a = omega (arith, ints) in
    let m = ap (λ z. z *ℤ y) n ∙ neg-*ℤ a y in
    let k = ap (λ z. a *ℤ z) h in
    omega (arith, ints)

opposed_so : (i j : ℕ) (es : List Entry) (xs : List ℤ) → opposed i j es ≡ true → (weight es xs ≡ pos 0) ↔ (nth (pos 0) xs i ≡ nth (pos 0) xs j)
opposed_so i j [] xs t = absurd (false≢true t)
opposed_so i j (e ∷ []) xs t = absurd (false≢true t)
opposed_so i j (e ∷ f ∷ g ∷ gs) xs t = absurd (false≢true t)
opposed_so i j (e ∷ f ∷ []) xs t = by (or_cases _ _ a.0)
  where
    a : (((eqb e.measure i && eqb f.measure j) || (eqb e.measure j && eqb f.measure i)) ≡ true) × ((same (e.coefficient +ℤ f.coefficient) (pos 0) && not (same e.coefficient (pos 0))) ≡ true)
    a = and_parts _ _ t

    b : (same (e.coefficient +ℤ f.coefficient) (pos 0) ≡ true) × (not (same e.coefficient (pos 0)) ≡ true)
    b = and_parts _ _ a.1

    z : e.coefficient +ℤ f.coefficient ≡ pos 0
    z = same_true _ _ b.0

    n : same e.coefficient (pos 0) ≡ false
    n = not-true _ b.1

    on : (weight (e ∷ f ∷ []) xs ≡ pos 0) ↔ (nth (pos 0) xs e.measure ≡ nth (pos 0) xs f.measure)
    on = (λ h. cancel e.coefficient _ _ n (balanced e.coefficient f.coefficient _ _ z h), λ h. balance e.coefficient f.coefficient _ _ z h)

    by : ((eqb e.measure i && eqb f.measure j) ≡ true) ⊎ ((eqb e.measure j && eqb f.measure i) ≡ true) → (weight (e ∷ f ∷ []) xs ≡ pos 0) ↔ (nth (pos 0) xs i ≡ nth (pos 0) xs j)
    by (inl l) =
        let c = and_parts (eqb e.measure i) (eqb f.measure j) l in
        let p = ap (nth (pos 0) xs) (eqb-true e.measure i c.0) in
        let q = ap (nth (pos 0) xs) (eqb-true f.measure j c.1) in
        (λ h. sym p ∙ on.0 h ∙ q, λ h. on.1 (p ∙ h ∙ sym q))
    by (inr l) =
        let c = and_parts (eqb e.measure j) (eqb f.measure i) l in
        let p = ap (nth (pos 0) xs) (eqb-true e.measure j c.0) in
        let q = ap (nth (pos 0) xs) (eqb-true f.measure i c.1) in
        (λ h. sym q ∙ sym (on.0 h) ∙ p, λ h. on.1 (p ∙ sym h ∙ sym q))

equal_so : (R : Relation) (v c : ℤ) (d : ℕ) → same_relation R Equal ≡ true → c ≡ pos 0 → (compares R v (c *ℤ pos d) ≡ true) ↔ (v ≡ pos 0)
equal_so Less v c d t z = absurd (false≢true t)
equal_so AtMost v c d t z = absurd (false≢true t)
equal_so Equal v c d t z =
    let e = ap (λ x. x *ℤ pos d) z ∙ zero-*ℤ (pos d) in
    (λ h. same_true v (c *ℤ pos d) h ∙ e, λ h. same_same v (c *ℤ pos d) (h ∙ sym e))

pub equates_so : (i j : ℕ) (r : Row) (xs : List ℤ) (d : ℕ) → equates i j r ≡ true → (true_of r xs d ≡ true) ↔ (nth (pos 0) xs i ≡ nth (pos 0) xs j)
equates_so i j r xs d t =
    let a = and_parts (same_relation r.relation Equal) (same r.constant (pos 0) && opposed i j r.entries) t in
    let b = and_parts (same r.constant (pos 0)) (opposed i j r.entries) a.1 in
    let p = equal_so r.relation (weight r.entries xs) r.constant d a.0 (same_true r.constant (pos 0) b.0) in
    let q = opposed_so i j r.entries xs b.1 in
    (λ h. q.0 (p.0 h), λ h. p.1 (q.1 h))
