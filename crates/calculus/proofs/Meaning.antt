-- What readable atoms mean: the values that an atom mentions decide it.
use Rattle.std.proofs.Common.{◌≡◌, ℕ, zero, suc, ◌-◌, ◌<◌, ◌≤◌, Bool, true, false, cond, not, ◌||◌, ltb, leb, List, ℤ, pos, ◌*ℤ◌, neg_ℤ, sym, refl, ap, ◌∙◌, subst, ⊎_elim, arith}
use Rattle.std.specs.List.{range_with_len, AllByRecursion}
use Rattle.std.proofs.lemmas.List.FromFn.{length-map-range_with_len, get_or-map-range_with_len}
use Rattle.std.proofs.lemmas.Bool.{true≢false, both_ways, and_parts, and_from, or_cases, or_left, or_right, not-true, not_from_false, cases_Bool, ltb-true, lt-ltb, lt-leb, eqb-true, eq-eqb, cond-true, cond-false, cond_both}
use Rattle.calculus.specs.Lists.{every, nth}
use Rattle.calculus.specs.Literals.{same, number, signed}
use Rattle.calculus.specs.Limits.{within}
use Rattle.calculus.specs.Kinds.{Kind, Lawful, Whole}
use Rattle.calculus.specs.Arrangements.{SameFraction, Arrangement}
use Rattle.calculus.specs.Trails.{Content, Entry, affirms, values, numerator, entry_for, on_trail, false_on, valued, value, up_to, readable, reading_level, numerators, by_values}
use Rattle.calculus.specs.Trails.Content.{Value, Literal}
use Rattle.calculus.specs.States.{holds, meets}
use Rattle.calculus.specs.Sound.{Keeps}
use Rattle.calculus.proofs.Testing.{both, counted, count_all, counted_le, counted_at, within_true, signed_ap, not_both, same_true, every_all, some_of}
use Rattle.calculus.proofs.Trailing.{Apart, Exclusive, values_exclusive, found, first, has_up_to, level_up_to}

-- the content is on a number that there is, or on a measure
abbrev pub Known : ℕ → ℕ → Content → Type 0
Known n t (Value j x) = within t j ≡ true
Known n t (Literal l o) = within n (number l) ≡ true

-- the numerators over e give the measure its fraction over d
abbrev pub Given : List ℤ → ℕ → ℕ → Content → Type 0
Given xs e d (Value j x) = SameFraction (nth (pos 0) xs j) e x d
Given xs e d (Literal l o) = Unit {0}

given_at : (xs : List ℤ) (e d j : ℕ) (c : Content) → values j c ≡ true → Given xs e d c → SameFraction (nth (pos 0) xs j) e (numerator c) d
given_at xs e d j (Value i x) h g = subst (λ k. SameFraction (nth (pos 0) xs k) e x d) (eqb-true i j h) g
given_at xs e d j (Literal l o) h g = absurd (true≢false (sym h))

module _ (K : Kind) (m : K.Model) (w : ℕ) where
  pub readable_parts : (t : List Entry) (n : ℕ) → readable K m w t n ≡ true → (w < n) × ((j : ℕ) → 0 < j → j ≤ K.measures m → K.mentioned m (n - w) j ≡ true → valued j t ≡ true)
  readable_parts t n h =
      let p = and_parts (ltb w n) (every (λ j. not (K.mentioned m (n - w) j) || valued j t) (range_with_len 1 (K.measures m))) h in (
        ltb-true w n p.0,
        λ j a b me. ⊎_elim (λ q. absurd (both_ways (K.mentioned m (n - w) j) (not-true (K.mentioned m (n - w) j) q) me)) (λ q. q)
            (or_cases (not (K.mentioned m (n - w) j)) (valued j t) (counted (λ i. not (K.mentioned m (n - w) i) || valued i t) 1 (K.measures m) p.1 j (omega arith) (omega arith))),
      )

  pub readable_from : (t : List Entry) (n : ℕ) → w < n → ((j : ℕ) → 0 < j → j ≤ K.measures m → K.mentioned m (n - w) j ≡ true → valued j t ≡ true) → readable K m w t n ≡ true
  readable_from t n l h =
      and_from (ltb w n) (every (λ j. not (K.mentioned m (n - w) j) || valued j t) (range_with_len 1 (K.measures m))) (lt-ltb w n l)
      (count_all (λ j. not (K.mentioned m (n - w) j) || valued j t) 1 (K.measures m)
      (λ j a b. ⊎_elim (λ q. or_right (not (K.mentioned m (n - w) j)) (valued j t) (h j (omega arith) (omega arith) q)) (λ q. or_left (not (K.mentioned m (n - w) j)) (valued j t) (not_from_false (K.mentioned m (n - w) j) q)) (cases_Bool (K.mentioned m (n - w) j))))

  pub readable_more : (t u : List Entry) (n : ℕ) → ((j : ℕ) → valued j t ≡ true → valued j u ≡ true) → readable K m w t n ≡ true → readable K m w u n ≡ true
  readable_more t u n f h = let p = readable_parts t n h in readable_from u n p.0 (λ j a b me. f j (p.1 j a b me))

  pub numerators_at : (t : List Entry) (j : ℕ) → 0 < j → j ≤ K.measures m → nth (pos 0) (numerators K m t) j ≡ value j t
  numerators_at t zero a b = absurd (omega arith)
  numerators_at t (suc j) a b = get_or-map-range_with_len (λ i. value i t) 1 (K.measures m) j (suc j) (pos 0) (omega arith) (omega arith)

  pub whole : (t : List Entry) (d : ℕ) → 0 < d → Whole K m (numerators K m t) d
  whole t d p = (length-map-range_with_len (λ i. value i t) 1 (K.measures m), p)

  -- a trail's numerators give each of its values
  pub gives_own : (n d : ℕ) (t : List Entry) → Apart t → AllByRecursion (λ e. Known n (K.measures m) e.content) t → AllByRecursion (λ e. Given (numerators K m t) d d e.content) t
  gives_own n d t ap' kn =
      both (λ e. (p : Content → Bool) → Exclusive p → p e.content ≡ true → entry_for p t ≡ e) (λ e. Known n (K.measures m) e.content) (λ e. Given (numerators K m t) d d e.content)
      (λ e. own e.content e.level) t (first t ap') kn
    where
      own : (c : Content) (k : ℕ) → ((p : Content → Bool) → Exclusive p → p c ≡ true → entry_for p t ≡ record { content = c; level = k }) → Known n (K.measures m) c → Given (numerators K m t) d d c
      own (Value j x) k f h =
          let b = within_true (K.measures m) j h in
          ap (λ y. y *ℤ pos d) (numerators_at t j b.0 b.1 ∙ ap (λ g. numerator g.content) (f (values j) (values_exclusive j) (eq-eqb j j refl)))
      own (Literal l o) k f h = tt

  -- a reading's level is the highest of its measures' levels
  pub read_at : (t : List Entry) (n : ℕ) → readable K m w t n ≡ true → readable K m w (up_to (reading_level K m w t n) t) n ≡ true
  read_at t n h =
      let p = readable_parts t n h in
      readable_from (up_to (reading_level K m w t n) t) n p.0
      (λ j a b me. has_up_to (values j) (reading_level K m w t n) t (p.1 j a b me)
      (let q = counted_at (λ i. cond (K.mentioned m (n - w) i) (entry_for (values i) t).level 0) 1 (K.measures m) j (omega arith) (omega arith) in
      subst (λ x. x ≤ reading_level K m w t n) (cond-true (K.mentioned m (n - w) j) (entry_for (values j) t).level 0 me) q))

  pub not_below : (t : List Entry) (n j : ℕ) → Apart t → j < reading_level K m w t n → readable K m w (up_to j t) n ≡ true → ⊥
  not_below t n k ap' l h =
      let p = readable_parts (up_to k t) n h in
      let q = counted_le (λ i. cond (K.mentioned m (n - w) i) (entry_for (values i) t).level 0) k 1 (K.measures m)
      (λ j a b. cond_both (K.mentioned m (n - w) j) (entry_for (values j) t).level 0 (λ x. x ≤ k) (λ me. level_up_to (values j) (values_exclusive j) k t ap' (p.1 j (omega arith) (omega arith) me)) (λ _. omega arith)) in
      omega arith

  module _ (L : Lawful K) where
    -- whatever gives the values of a trail agrees with it on what is readable
    pub truth_of : (xs : List ℤ) (e d : ℕ) (t : List Entry) (n : ℕ) → Whole K m xs e → 0 < d → AllByRecursion (λ f. Given xs e d f.content) t → readable K m w t n ≡ true → K.truth m (n - w) xs e ≡ K.truth m (n - w) (numerators K m t) d
    truth_of xs e d t n wh p g r =
        let q = readable_parts t n r in
        L.local m (n - w) xs (numerators K m t) e d wh (whole t d p)
        (λ j a b me.
        let f = found (λ h. Given xs e d h.content) (values j) t g (q.1 j a b me) in
        subst (λ y. SameFraction (nth (pos 0) xs j) e y d) (sym (numerators_at t j a b)) (given_at xs e d j (entry_for (values j) t).content f.1 f.0))

    -- one trail's values give those of another: they agree on what is readable there
    pub by_values_moved : (d : ℕ) (t u : List Entry) (l : ℤ) → 0 < d → AllByRecursion (λ f. Given (numerators K m u) d d f.content) t → readable K m w t (number l) ≡ true → by_values K m w d u l ≡ by_values K m w d t l
    by_values_moved d t u l p g r = signed_ap l (λ n. K.truth m (n - w) (numerators K m u) d) (λ n. K.truth m (n - w) (numerators K m t) d) (truth_of (numerators K m u) d d t (number l) (whole u d p) p g r)

    -- an arrangement that gives the values meets a literal as they make it
    pub kept_reading : (a : Arrangement) (d : ℕ) (t : List Entry) (l : ℤ) → Whole K m a.numerators a.denominator → 0 < d → AllByRecursion (λ f. Given a.numerators a.denominator d f.content) t → readable K m w t (number l) ≡ true → signed l (holds K m w a) ≡ by_values K m w d t l
    kept_reading a d t l wh p g r =
        let q = readable_parts t (number l) r in
        signed_ap l (holds K m w a) (λ n. K.truth m (n - w) (numerators K m t) d)
        (cond-false (leb (number l) w) (nth false a.switches (number l)) (K.truth m (number l - w) a.numerators a.denominator) (lt-leb (number l) w q.0)
        ∙ truth_of a.numerators a.denominator d t (number l) wh p g r)

  -- an arrangement that keeps what is on a trail
  module _ (d : ℕ) (a : Arrangement) (t : List Entry) (kept : AllByRecursion (λ e. Keeps K m w d a e.content) t) where
    affirmed : (l : ℤ) (c : Content) → affirms l c ≡ true → Keeps K m w d a c → signed l (holds K m w a) ≡ true
    affirmed l (Value j x) h k = absurd (true≢false (sym h))
    affirmed l (Literal k o) h g = subst (λ i. signed i (holds K m w a) ≡ true) (same_true k l h) g

    pub true_on : (l : ℤ) → on_trail l t ≡ true → signed l (holds K m w a) ≡ true
    true_on l h = let f = found (λ e. Keeps K m w d a e.content) (affirms l) t kept h in affirmed l (entry_for (affirms l) t).content f.1 f.0

    -- a clause whose other literals are false has its literal true
    pub unit_true : (l : ℤ) (n : ℕ) (ks : List ℤ) → every (λ k. same k l || false_on t k) ks ≡ true → every (λ k. within n (number k)) ks ≡ true → meets K m w a ks ≡ true → signed l (holds K m w a) ≡ true
    unit_true l n ks o kn =
        some_of (λ k. signed k (holds K m w a)) ks (signed l (holds K m w a) ≡ true)
        (both (λ k. (same k l || false_on t k) ≡ true) (λ k. within n (number k) ≡ true) (λ k. signed k (holds K m w a) ≡ true → signed l (holds K m w a) ≡ true)
        (λ k x y z. ⊎_elim (λ q. subst (λ i. signed i (holds K m w a) ≡ true) (same_true k l q) z) (λ q. absurd (not_both k (holds K m w a) (within_true n (number k) y).0 z (true_on (neg_ℤ k) q))) (or_cases (same k l) (false_on t k) x))
        ks (every_all (λ k. same k l || false_on t k) ks o) (every_all (λ k. within n (number k)) ks kn))

    pub not_all_false : (n : ℕ) (ks : List ℤ) → every (false_on t) ks ≡ true → every (λ k. within n (number k)) ks ≡ true → meets K m w a ks ≡ true → ⊥
    not_all_false n ks o kn =
        some_of (λ k. signed k (holds K m w a)) ks ⊥
        (both (λ k. false_on t k ≡ true) (λ k. within n (number k) ≡ true) (λ k. signed k (holds K m w a) ≡ true → ⊥)
        (λ k x y z. not_both k (holds K m w a) (within_true n (number k) y).0 z (true_on (neg_ℤ k) x))
        ks (every_all (false_on t) ks o) (every_all (λ k. within n (number k)) ks kn))
