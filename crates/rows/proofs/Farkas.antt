-- Denials that multipliers refute cannot all be true, so some literal of the clause is.
use Rattle.std.proofs.Common.{◌≡◌, ℕ, zero, suc, ◌+◌, ◌-◌, ◌<◌, ◌≤◌, Bool, true, false, cond, ◌&&◌, ◌||◌, eqb, leb, ◌⊎◌, List, [], ◌∷◌, map, length, get_or, take, ℤ, pos, negsuc, ◌+ℤ◌, ◌*ℤ◌, neg_ℤ, ◌≤ℤ◌, ◌<ℤ◌, Some, None, Option, sym, refl, ap, ◌∙◌, ap₂, inl, inr, arith, length-take, get_or-take}
use lib.IntN.{zero-*ℤ, *ℤ-zero, +ℤ_idr, +ℤ_idl, neg_ℤ-+ℤ}
use lib.Signed.{lt_z, le_z}
use lib.Seq.{take-length}
use Rattle.std.specs.List.{range_with_len}
use Rattle.std.proofs.lemmas.Int.{ints}
use Rattle.std.proofs.lemmas.List.{get_or_past}
use Rattle.std.proofs.lemmas.Bool.{eq-eqb, ne_eqb, cases_order, cases_Bool, and_parts, or_cases, or_parts, not-false, false≢true}
use Rattle.calculus.specs.Lists.{every, some, nth}
use Rattle.calculus.specs.Literals.{same, number, signed}
use Rattle.rows.specs.declared.Relation.{Relation}
use Rattle.rows.specs.declared.Relation.TheVariants.{Less, AtMost, Equal}
use Rattle.rows.specs.declared.Entry.{Entry}
use Rattle.rows.specs.Rows.{Row, no_row, total, weight, compares, true_of, coefficient_of, turned_entry, same_relation}
use Rattle.rows.specs.Hints.{denied_row, denial_of, allowed, coefficient_in, constant_in, strict, Part, column, constants, refutes, row_of, denial, parts}
use Rattle.calculus.proofs.Testing.{same_true}
use Rattle.rows.proofs.Integers.{lt_z_true, *ℤ-+ℤ, +ℤ-*ℤ, *ℤ-assoc, neg-*ℤ, swap_sums, times_le, times_lt, neg_times}

-- the columns: a sum over the measures, one measure after another
past_take : (n : ℕ) (xs : List ℤ) (i : ℕ) → n ≤ i → get_or (take n xs) i (pos 0) ≡ pos 0
past_take n xs i h = get_or_past (take n xs) i (pos 0) (simp length-take (omega arith))

no_term : (x c g : ℤ) (b : Bool) → b ≡ false → x +ℤ cond b c (pos 0) *ℤ g ≡ x
no_term x c g b e = ap (λ t. x +ℤ cond t c (pos 0) *ℤ g) e ∙ ap (λ z. x +ℤ z) (zero-*ℤ g) ∙ +ℤ_idr x

one_term : (x c g : ℤ) (b : Bool) → b ≡ true → x ≡ pos 0 → x +ℤ cond b c (pos 0) *ℤ g ≡ c *ℤ g
one_term x c g b e z = ap (λ t. x +ℤ cond t c (pos 0) *ℤ g) e ∙ ap (λ y. y +ℤ c *ℤ g) z ∙ +ℤ_idl (c *ℤ g)

term_more : (c : ℤ) (m j : ℕ) (xs : List ℤ) → c *ℤ nth (pos 0) (take (suc j) xs) m ≡ c *ℤ nth (pos 0) (take j xs) m +ℤ cond (eqb m (suc j)) c (pos 0) *ℤ get_or xs j (pos 0)
term_more c zero j xs = sym (no_term (c *ℤ pos 0) c (get_or xs j (pos 0)) (eqb zero (suc j)) (ne_eqb zero (suc j) (λ e. omega arith)))
term_more c (suc m) j xs = by (cases_order m j)
  where
    by : (m ≡ j) ⊎ ((m < j) ⊎ (j < m)) → c *ℤ get_or (take (suc j) xs) m (pos 0) ≡ c *ℤ get_or (take j xs) m (pos 0) +ℤ cond (eqb (suc m) (suc j)) c (pos 0) *ℤ get_or xs j (pos 0)
    by (inl e) = ap (λ x. c *ℤ x) (get_or-take (suc j) xs m (pos 0) (omega arith) ∙ ap (λ k. get_or xs k (pos 0)) e) ∙ sym (one_term (c *ℤ get_or (take j xs) m (pos 0)) c (get_or xs j (pos 0)) (eqb (suc m) (suc j)) (eq-eqb (suc m) (suc j) (ap suc e)) (ap (λ x. c *ℤ x) (past_take j xs m (omega arith)) ∙ *ℤ-zero c))
    by (inr (inl h)) = ap (λ x. c *ℤ x) (get_or-take (suc j) xs m (pos 0) (omega arith) ∙ sym (get_or-take j xs m (pos 0) h)) ∙ sym (no_term (c *ℤ get_or (take j xs) m (pos 0)) c (get_or xs j (pos 0)) (eqb (suc m) (suc j)) (ne_eqb (suc m) (suc j) (λ e. omega arith)))
    by (inr (inr h)) = ap (λ x. c *ℤ x) (past_take (suc j) xs m h ∙ sym (past_take j xs m (omega arith))) ∙ sym (no_term (c *ℤ get_or (take j xs) m (pos 0)) c (get_or xs j (pos 0)) (eqb (suc m) (suc j)) (ne_eqb (suc m) (suc j) (λ e. omega arith)))

-- (t + q g) + (v + k g)
gather : (t q g v k : ℤ) → (t +ℤ q *ℤ g) +ℤ (v +ℤ k *ℤ g) ≡ (t +ℤ v) +ℤ (q +ℤ k) *ℤ g
gather t q g v k = swap_sums t (q *ℤ g) v (k *ℤ g) ∙ ap (λ x. (t +ℤ v) +ℤ x) (sym (+ℤ-*ℤ q k g))

weight_more : (es : List Entry) (j : ℕ) (xs : List ℤ) → weight es (take (suc j) xs) ≡ weight es (take j xs) +ℤ coefficient_of (suc j) es *ℤ get_or xs j (pos 0)
weight_more [] j xs = sym (ap (λ x. pos 0 +ℤ x) (zero-*ℤ (get_or xs j (pos 0))))
weight_more (e ∷ es) j xs = ap₂ ◌+ℤ◌ (term_more e.coefficient e.measure j xs) (weight_more es j xs) ∙ gather (e.coefficient *ℤ nth (pos 0) (take j xs) e.measure) (cond (eqb e.measure (suc j)) e.coefficient (pos 0)) (get_or xs j (pos 0)) (weight es (take j xs)) (coefficient_of (suc j) es)

abbrev weight_in : Option Row → List ℤ → ℤ
weight_in None xs = pos 0
weight_in (Some r) xs = weight r.entries xs

weight_in_more : (o : Option Row) (j : ℕ) (xs : List ℤ) → weight_in o (take (suc j) xs) ≡ weight_in o (take j xs) +ℤ coefficient_in (suc j) o *ℤ get_or xs j (pos 0)
weight_in_more None j xs = sym (ap (λ x. pos 0 +ℤ x) (zero-*ℤ (get_or xs j (pos 0))))
weight_in_more (Some r) j xs = weight_more r.entries j xs

abbrev weights : List Part → List ℤ → ℤ
weights ps xs = total (λ p. p.0 *ℤ weight_in p.1 xs) ps

weights_more : (ps : List Part) (j : ℕ) (xs : List ℤ) → weights ps (take (suc j) xs) ≡ weights ps (take j xs) +ℤ column (suc j) ps *ℤ get_or xs j (pos 0)
weights_more [] j xs = sym (ap (λ x. pos 0 +ℤ x) (zero-*ℤ (get_or xs j (pos 0))))
weights_more (p ∷ ps) j xs =
    let m = p.0 in
    let v = weight_in p.1 (take j xs) in
    let k = coefficient_in (suc j) p.1 in
    let g = get_or xs j (pos 0) in
    ap₂ ◌+ℤ◌ (ap (λ x. m *ℤ x) (weight_in_more p.1 j xs) ∙ *ℤ-+ℤ m v (k *ℤ g) ∙ ap (λ x. m *ℤ v +ℤ x) (sym (*ℤ-assoc m k g))) (weights_more ps j xs) ∙ gather (m *ℤ v) (m *ℤ k) g (weights ps (take j xs)) (column (suc j) ps)

no_numerator : (n : ℕ) → nth (pos 0) [] n ≡ pos 0
no_numerator zero = refl
no_numerator (suc n) = refl

weight_none : (es : List Entry) → weight es [] ≡ pos 0
weight_none [] = refl
weight_none (e ∷ es) = ap₂ ◌+ℤ◌ (ap (λ x. e.coefficient *ℤ x) (no_numerator e.measure) ∙ *ℤ-zero e.coefficient) (weight_none es)

weight_in_none : (o : Option Row) → weight_in o [] ≡ pos 0
weight_in_none None = refl
weight_in_none (Some r) = weight_none r.entries

weights_none : (ps : List Part) → weights ps [] ≡ pos 0
weights_none [] = refl
weights_none (p ∷ ps) = ap₂ ◌+ℤ◌ (ap (λ x. p.0 *ℤ x) (weight_in_none p.1) ∙ *ℤ-zero p.0) (weights_none ps)

weights_front : (ps : List Part) (xs : List ℤ) (t : ℕ) → ((k : ℕ) → k < t → column (suc k) ps ≡ pos 0) → (j : ℕ) → j ≤ t → weights ps (take j xs) ≡ pos 0
weights_front ps xs t z zero h = weights_none ps
weights_front ps xs t z (suc j) h = weights_more ps j xs ∙ ap₂ ◌+ℤ◌ (weights_front ps xs t z j (omega arith)) (ap (λ x. x *ℤ get_or xs j (pos 0)) (z j (omega arith)) ∙ zero-*ℤ (get_or xs j (pos 0)))

weights_zero : (ps : List Part) (xs : List ℤ) → ((k : ℕ) → k < length xs → column (suc k) ps ≡ pos 0) → weights ps xs ≡ pos 0
weights_zero ps xs z = ap (weights ps) (sym (take-length xs)) ∙ weights_front ps xs (length xs) z (length xs) (omega arith)

-- what every number from a on passes
every_counted : (p : ℕ → Bool) (a n : ℕ) → every p (range_with_len a n) ≡ true → (k : ℕ) → k < n → p (a + k) ≡ true
every_counted p a zero t k h = absurd (omega arith)
every_counted p a (suc n) t zero h = let e : a + zero ≡ a = omega arith in ap p e ∙ (and_parts (p a) (every p (range_with_len (a + 1) n)) t).0
every_counted p a (suc n) t (suc i) h =
    let e : a + suc i ≡ (a + 1) + i = omega arith in
    ap p e ∙ every_counted p (a + 1) n (and_parts (p a) (every p (range_with_len (a + 1) n)) t).1 i (omega arith)

columns_tested : (t : ℕ) (ps : List Part) → every (λ j. same (column j ps) (pos 0)) (range_with_len 1 t) ≡ true → (k : ℕ) → k < t → column (suc k) ps ≡ pos 0
columns_tested t ps h k l = let e : 1 + k ≡ suc k = omega arith in ap (λ j. column j ps) (sym e) ∙ same_true (column (1 + k) ps) (pos 0) (every_counted (λ j. same (column j ps) (pos 0)) 1 t h k l)

-- the denials, added up
abbrev Compared : Relation → ℤ → ℤ → Type 0
Compared Less a b = a <ℤ b
Compared AtMost a b = a ≤ℤ b
Compared Equal a b = a ≡ b

abbrev Met : Option Row → List ℤ → ℕ → Type 0
Met None xs d = Unit {0}
Met (Some r) xs d = Compared r.relation (weight r.entries xs) (r.constant *ℤ pos d)

abbrev AllMet : List Part → List ℤ → ℕ → Type 0
AllMet [] xs d = Unit {0}
AllMet (p ∷ ps) xs d = Met p.1 xs d × AllMet ps xs d

same_le : (a b : ℤ) → a ≡ b → a ≤ℤ b
same_le a b e = omega (arith, ints)

not_negative : (m : ℤ) → le_z (pos 0) m ≡ true → pos 0 ≤ℤ m
not_negative m t = omega (arith, ints)

compared_le : (R : Relation) (m v b : ℤ) → Compared R v b → (same_relation R Equal || le_z (pos 0) m) ≡ true → (m *ℤ v) ≤ℤ (m *ℤ b)
compared_le Less m v b h t = times_le m v b (not_negative m t) (omega (arith, ints))
compared_le AtMost m v b h t = times_le m v b (not_negative m t) h
compared_le Equal m v b h t = same_le (m *ℤ v) (m *ℤ b) (ap (λ x. m *ℤ x) h)

compared_lt : (R : Relation) (m v b : ℤ) → Compared R v b → same_relation R Less ≡ true → lt_z (pos 0) m ≡ true → (m *ℤ v) <ℤ (m *ℤ b)
compared_lt Less m v b h e t = times_lt m v b (omega (arith, ints)) h
compared_lt AtMost m v b h e t = absurd (false≢true e)
compared_lt Equal m v b h e t = absurd (false≢true e)

met_le : (o : Option Row) (m : ℤ) (xs : List ℤ) (d : ℕ) → Met o xs d → allowed o m ≡ true → (m *ℤ weight_in o xs) ≤ℤ (m *ℤ (constant_in o *ℤ pos d))
met_le None m xs d h t =
    same_le (m *ℤ pos 0) (m *ℤ (pos 0 *ℤ pos d)) (ap (λ x. m *ℤ x) (sym (zero-*ℤ (pos d))))
met_le (Some r) m xs d h t = compared_le r.relation m (weight r.entries xs) (r.constant *ℤ pos d) h t

met_lt : (o : Option Row) (m : ℤ) (xs : List ℤ) (d : ℕ) → Met o xs d → strict o m ≡ true → (m *ℤ weight_in o xs) <ℤ (m *ℤ (constant_in o *ℤ pos d))
met_lt None m xs d h t = absurd (false≢true t)
met_lt (Some r) m xs d h t =
    let b = and_parts (same_relation r.relation Less) (lt_z (pos 0) m) t in
    compared_lt r.relation m (weight r.entries xs) (r.constant *ℤ pos d) h b.0 b.1

-- m (c d) + C d = (m c + C) d
scaled : (m c C : ℤ) (d : ℕ) → m *ℤ (c *ℤ pos d) +ℤ C *ℤ pos d ≡ (m *ℤ c +ℤ C) *ℤ pos d
scaled m c C d = ap (λ x. x +ℤ C *ℤ pos d) (sym (*ℤ-assoc m c (pos d))) ∙ sym (+ℤ-*ℤ (m *ℤ c) C (pos d))

add_le : (a b c d s : ℤ) → a ≤ℤ b → c ≤ℤ d → b +ℤ d ≡ s → (a +ℤ c) ≤ℤ s
add_le a b c d s h k e = omega (arith, ints)

add_lt_le : (a b c d s : ℤ) → a <ℤ b → c ≤ℤ d → b +ℤ d ≡ s → (a +ℤ c) <ℤ s
add_lt_le a b c d s h k e = omega (arith, ints)

add_le_lt : (a b c d s : ℤ) → a ≤ℤ b → c <ℤ d → b +ℤ d ≡ s → (a +ℤ c) <ℤ s
add_le_lt a b c d s h k e = omega (arith, ints)

abbrev all_allowed : List Part → Bool
all_allowed ps = every (λ p. allowed p.1 p.0) ps

abbrev some_strict : List Part → Bool
some_strict ps = some (λ p. strict p.1 p.0) ps

sum_le : (ps : List Part) (xs : List ℤ) (d : ℕ) → AllMet ps xs d → all_allowed ps ≡ true → weights ps xs ≤ℤ (constants ps *ℤ pos d)
sum_le [] xs d h t = same_le (pos 0) (pos 0 *ℤ pos d) (sym (zero-*ℤ (pos d)))
sum_le (p ∷ ps) xs d h t =
    let a = and_parts (allowed p.1 p.0) (all_allowed ps) t in
    add_le _ _ _ _ _ (met_le p.1 p.0 xs d h.0 a.0) (sum_le ps xs d h.1 a.1) (scaled p.0 (constant_in p.1) (constants ps) d)

sum_lt : (ps : List Part) (xs : List ℤ) (d : ℕ) → AllMet ps xs d → all_allowed ps ≡ true → some_strict ps ≡ true → weights ps xs <ℤ (constants ps *ℤ pos d)
sum_lt [] xs d h t s = absurd (false≢true s)
sum_lt (p ∷ ps) xs d h t s = by (or_cases (strict p.1 p.0) (some_strict ps) s) (sum_lt ps xs d h.1 a.1)
  where
    a : (allowed p.1 p.0 ≡ true) × (all_allowed ps ≡ true)
    a = and_parts (allowed p.1 p.0) (all_allowed ps) t

    c : p.0 *ℤ (constant_in p.1 *ℤ pos d) +ℤ constants ps *ℤ pos d ≡ constants (p ∷ ps) *ℤ pos d
    c = scaled p.0 (constant_in p.1) (constants ps) d

    by : (strict p.1 p.0 ≡ true) ⊎ (some_strict ps ≡ true) → (some_strict ps ≡ true → weights ps xs <ℤ (constants ps *ℤ pos d)) → weights (p ∷ ps) xs <ℤ (constants (p ∷ ps) *ℤ pos d)
    by (inl l) ih = add_lt_le _ _ _ _ _ (met_lt p.1 p.0 xs d h.0 l) (sum_le ps xs d h.1 a.1) c
    by (inr l) ih = add_le_lt _ _ _ _ _ (met_le p.1 p.0 xs d h.0 a.0) (ih l) c

refuted : (ps : List Part) (xs : List ℤ) (d : ℕ) → refutes (length xs) ps ≡ true → 0 < d → AllMet ps xs d → ⊥
refuted ps xs d t hd met = by (or_cases (lt_z (constants ps) (pos 0)) (same (constants ps) (pos 0) && some_strict ps) t₂.1)
  where
    t₁ : (all_allowed ps ≡ true) × ((every (λ j. same (column j ps) (pos 0)) (range_with_len 1 (length xs)) && (lt_z (constants ps) (pos 0) || (same (constants ps) (pos 0) && some_strict ps))) ≡ true)
    t₁ = and_parts _ _ t

    t₂ : (every (λ j. same (column j ps) (pos 0)) (range_with_len 1 (length xs)) ≡ true) × ((lt_z (constants ps) (pos 0) || (same (constants ps) (pos 0) && some_strict ps)) ≡ true)
    t₂ = and_parts _ _ t₁.1

    z : weights ps xs ≡ pos 0
    z = weights_zero ps xs (columns_tested (length xs) ps t₂.0)

    below : (s C : ℤ) → s ≡ pos 0 → s ≤ℤ C → C <ℤ pos 0 → ⊥
    below s C e h k = omega (arith, ints)

    at : (s C : ℤ) → s ≡ pos 0 → s <ℤ C → C ≡ pos 0 → ⊥
    at s C e h k = omega (arith, ints)

    by : (lt_z (constants ps) (pos 0) ≡ true) ⊎ ((same (constants ps) (pos 0) && some_strict ps) ≡ true) → ⊥
    by (inl l) = below (weights ps xs) (constants ps *ℤ pos d) z (sum_le ps xs d met t₁.0) (neg_times (constants ps) d (lt_z_true (constants ps) (pos 0) l) hd)
    by (inr l) = let e = and_parts (same (constants ps) (pos 0)) (some_strict ps) l in at (weights ps xs) (constants ps *ℤ pos d) z (sum_lt ps xs d met t₁.0 e.1) (ap (λ x. x *ℤ pos d) (same_true (constants ps) (pos 0) e.0) ∙ zero-*ℤ (pos d))

-- a false literal's denial is met
pub weight_turned : (es : List Entry) (xs : List ℤ) → weight (map turned_entry es) xs ≡ neg_ℤ (weight es xs)
weight_turned [] xs = refl
weight_turned (e ∷ es) xs = ap₂ ◌+ℤ◌ (neg-*ℤ e.coefficient (nth (pos 0) xs e.measure)) (weight_turned es xs) ∙ sym (neg_ℤ-+ℤ (e.coefficient *ℤ nth (pos 0) xs e.measure) (weight es xs))

turn_le : (v b v' b' : ℤ) → lt_z v b ≡ false → v' ≡ neg_ℤ v → b' ≡ neg_ℤ b → v' ≤ℤ b'
turn_le v b v' b' t e f = omega (arith, ints)

turn_lt : (v b v' b' : ℤ) → le_z v b ≡ false → v' ≡ neg_ℤ v → b' ≡ neg_ℤ b → v' <ℤ b'
turn_lt v b v' b' t e f = omega (arith, ints)

kept_le : (v b : ℤ) → le_z v b ≡ true → v ≤ℤ b
kept_le v b t = omega (arith, ints)

met_turned : (R : Relation) (r : Row) (xs : List ℤ) (d : ℕ) → compares R (weight r.entries xs) (r.constant *ℤ pos d) ≡ false → Met (denied_row R r) xs d
met_turned Less r xs d t = turn_le (weight r.entries xs) (r.constant *ℤ pos d) _ _ t (weight_turned r.entries xs) (neg-*ℤ r.constant (pos d))
met_turned AtMost r xs d t = turn_lt (weight r.entries xs) (r.constant *ℤ pos d) _ _ t (weight_turned r.entries xs) (neg-*ℤ r.constant (pos d))
met_turned Equal r xs d t = tt

met_kept : (R : Relation) (v b : ℤ) → compares R v b ≡ true → Compared R v b
met_kept Less v b t = lt_z_true v b t
met_kept AtMost v b t = kept_le v b t
met_kept Equal v b t = same_true v b t

module _ (rows : List Row) (s : ℕ) (xs : List ℤ) (d : ℕ) where
  -- the literal is true by its atom
  abbrev pub true_by : ℤ → Bool
  true_by l = cond (leb (number l) s) false (signed l (λ n. true_of (nth no_row rows (n - s)) xs d))

  met_literal : (l : ℤ) → signed l (λ n. true_of (nth no_row rows (n - s)) xs d) ≡ false → Met (denial_of l (row_of rows s l)) xs d
  met_literal (pos n) t = met_turned (row_of rows s (pos n)).relation (row_of rows s (pos n)) xs d t
  met_literal (negsuc n) t = met_kept (row_of rows s (negsuc n)).relation _ _ (not-false _ t)

  met_denial : (l : ℤ) → true_by l ≡ false → Met (denial rows s l) xs d
  met_denial l t = go (leb (number l) s) t
    where
      go : (b : Bool) → cond b false (signed l (λ n. true_of (nth no_row rows (n - s)) xs d)) ≡ false → Met (cond b None (denial_of l (row_of rows s l))) xs d
      go true e = tt
      go false e = met_literal l e

  all_met : (ls ys : List ℤ) → some true_by ls ≡ false → AllMet (parts rows s ls ys) xs d
  all_met [] ys t = tt
  all_met (l ∷ ls) [] t = tt
  all_met (l ∷ ls) (y ∷ ys) t = let b = or_parts (true_by l) (some true_by ls) t in (met_denial l b.0, all_met ls ys b.1)

  pub farkas : (ls ys : List ℤ) → 0 < d → refutes (length xs) (parts rows s ls ys) ≡ true → some true_by ls ≡ true
  farkas ls ys hd t = by (cases_Bool (some true_by ls))
    where
      by : (some true_by ls ≡ true) ⊎ (some true_by ls ≡ false) → some true_by ls ≡ true
      by (inl e) = e
      by (inr e) = absurd (refuted (parts rows s ls ys) xs d t hd (all_met ls ys e))
