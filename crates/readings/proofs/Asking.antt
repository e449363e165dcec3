-- A question within the limits is answered by what it means.
use Rattle.std.proofs.Common.{◌≡◌, ℕ, zero, suc, ◌+◌, ◌-◌, ◌<◌, ◌≤◌, max, Bool, true, false, cond, not, ◌&&◌, ◌||◌, ltb, leb, List, [], ◌∷◌, map, filter, ℤ, sym, refl, ap, ◌∙◌, ⊎_elim, arith}
use Rattle.std.specs.List.{range_with_len, AllByRecursion}
use Rattle.std.proofs.lemmas.List.FromFn.{length-map-range_with_len}
use Rattle.std.proofs.lemmas.List.Folds.{list_all-map, list_any-append}
use Rattle.std.proofs.lemmas.Bool.{true≢false, and_parts, and_from, ltb-true, leb-true, lt-ltb, le-leb, eq-eqb, ne_eqb, eqb-true, cond_both, cases_Bool, cases_eq}
use Rattle.std.proofs.Math.Bool.{or-false}
use Rattle.calculus.specs.Lists.{every, highest}
use Rattle.calculus.specs.Limits.{most_denominator, most_measures, most_numerator, within, sized}
use Rattle.calculus.specs.Kinds.{Kind, Lawful}
use Rattle.calculus.specs.Literals.{number}
use Rattle.readings.specs.Valuing.{JustValued}
use Rattle.calculus.specs.Questions.{in_limits, says_mentioned, says_true}
use Rattle.calculus.specs.Trails.{Entry, Content, entry_for, values, valued, value, numerator, numerators, readable, stays_true}
use Rattle.calculus.specs.Trails.Content.{Value, Literal}
use Rattle.calculus.proofs.Meaning.{readable_parts}
use Rattle.tables.specs.Keys.{ranged, tidy}
use Rattle.tables.proofs.Tidying.{tidy_ranged}
use Rattle.tables.proofs.Weighing.{every_kept}

module _ (K : Kind) (lawful : Lawful K) (m : K.Model) where
  -- of a measure that there is
  pub mentioned_so : (a j : ℕ) → within (K.measures m) j ≡ true → says_mentioned K m a j ≡ K.mentioned m a j
  mentioned_so a j h = go (within (K.atoms m) a) refl
    where
      positive : 0 < j
      positive = ltb-true 0 j (and_parts (ltb 0 j) (leb j (K.measures m)) h).0

      go : (b : Bool) → within (K.atoms m) a ≡ b → says_mentioned K m a j ≡ K.mentioned m a j
      go true e = ap (λ x. x && (within (K.measures m) j && K.mentioned m a j)) e ∙ ap (λ x. x && K.mentioned m a j) h
      go false e = ap (λ x. x && (within (K.measures m) j && K.mentioned m a j)) e ∙ sym (lawful.absent_mentions m a j e positive)

  -- of values within the limits
  pub true_so : (a : ℕ) (xs : List ℤ) (d : ℕ) → in_limits (K.measures m) xs d ≡ true → says_true K m a xs d ≡ K.truth m a xs d
  true_so a xs d h = go (within (K.atoms m) a) refl
    where
      go : (b : Bool) → within (K.atoms m) a ≡ b → says_true K m a xs d ≡ K.truth m a xs d
      go true e = ap (λ x. x && (in_limits (K.measures m) xs d && K.truth m a xs d)) e ∙ ap (λ x. x && K.truth m a xs d) h
      go false e = ap (λ x. x && (in_limits (K.measures m) xs d && K.truth m a xs d)) e ∙ sym (lawful.absent_false m a xs d e)

numerator_ranged : (c : Content) → ranged c ≡ true → sized most_numerator (numerator c) ≡ true
numerator_ranged (Value i x) h = (and_parts (within most_measures i) (sized most_numerator x) h).1
numerator_ranged (Literal l o) h = refl

-- the values of a tidy trail are in range
value_ranged : (j : ℕ) (t : List Entry) → AllByRecursion (λ e. ranged e.content ≡ true) t → sized most_numerator (value j t) ≡ true
value_ranged j [] h = refl
value_ranged j (e ∷ t) h = cond_both (values j e.content) e (entry_for (values j) t) (λ (x : Entry). sized most_numerator (numerator x.content) ≡ true) (λ _. numerator_ranged e.content h.0) (λ _. value_ranged j t h.1)

pub numerators_limited : (K : Kind) (m : K.Model) (t : List Entry) (d : ℕ) → tidy t ≡ true → within most_denominator d ≡ true → in_limits (K.measures m) (numerators K m t) d ≡ true
numerators_limited K m t d h e = and_from _ _ (eq-eqb _ _ (length-map-range_with_len (λ j. value j t) 1 (K.measures m))) (and_from _ _ (all_sized (range_with_len 1 (K.measures m))) e)
  where
    all_sized : (js : List ℕ) → every (sized most_numerator) (map (λ j. value j t) js) ≡ true
    all_sized [] = refl
    all_sized (j ∷ js) = and_from _ _ (value_ranged j t (tidy_ranged t h)) (all_sized js)

-- what agrees at each measure agrees over the range of them
module _ {Y : Type 0} (f g : ℕ → Y) (t : ℕ) (e : (j : ℕ) → within t j ≡ true → f j ≡ g j) where
  same_from : (n a : ℕ) → 0 < a → a + n ≤ t + 1 → map f (range_with_len a n) ≡ map g (range_with_len a n)
  same_from zero a p h = refl
  same_from (suc n) a p h =
      ap (λ y. y ∷ map f (range_with_len (a + 1) n)) (e a (and_from _ _ (lt-ltb 0 a p) (le-leb a t (omega (arith, h)))))
      ∙ ap (λ ys. g a ∷ ys) (same_from n (a + 1) (omega arith) (omega (arith, h)))

  same_over : map f (range_with_len 1 t) ≡ map g (range_with_len 1 t)
  same_over = same_from t 1 (omega arith) (omega arith)

every_over : (p q : ℕ → Bool) (t : ℕ) → ((j : ℕ) → within t j ≡ true → p j ≡ q j) → every p (range_with_len 1 t) ≡ every q (range_with_len 1 t)
every_over p q t e = sym (list_all-map (λ b. b) p (range_with_len 1 t)) ∙ ap (every (λ b. b)) (same_over p q t e) ∙ list_all-map (λ b. b) q (range_with_len 1 t)

highest_map : {X : Type 0} (f : X → ℕ) (xs : List X) → highest (λ n. n) (map f xs) ≡ highest f xs
highest_map f [] = refl
highest_map f (x ∷ xs) = ap (max (f x)) (highest_map f xs)

highest_over : (f g : ℕ → ℕ) (t : ℕ) → ((j : ℕ) → within t j ≡ true → f j ≡ g j) → highest f (range_with_len 1 t) ≡ highest g (range_with_len 1 t)
highest_over f g t e = sym (highest_map f (range_with_len 1 t)) ∙ ap (highest (λ n. n)) (same_over f g t e) ∙ highest_map g (range_with_len 1 t)

or_not : (v s : Bool) → (not (not v) || not s) ≡ (not s || v)
or_not true true = refl
or_not true false = refl
or_not false true = refl
or_not false false = refl

-- the questions about each measure, answered by what they mean
module _ (K : Kind) (lawful : Lawful K) (m : K.Model) (a n : ℕ) (h : n ≡ K.measures m) where
  pub settled_so : (p : ℕ → Bool) → every (λ j. not (says_mentioned K m a j) || p j) (range_with_len 1 n) ≡ every (λ j. not (K.mentioned m a j) || p j) (range_with_len 1 (K.measures m))
  settled_so p =
      ap (λ k. every (λ j. not (says_mentioned K m a j) || p j) (range_with_len 1 k)) h
      ∙ every_over (λ j. not (says_mentioned K m a j) || p j) (λ j. not (K.mentioned m a j) || p j) (K.measures m) (λ j w. ap (λ b. not b || p j) (mentioned_so K lawful m a j w))

  pub levels_so : (f : ℕ → ℕ) → highest (λ j. cond (says_mentioned K m a j) (f j) 0) (range_with_len 1 n) ≡ highest (λ j. cond (K.mentioned m a j) (f j) 0) (range_with_len 1 (K.measures m))
  levels_so f =
      ap (λ k. highest (λ j. cond (says_mentioned K m a j) (f j) 0) (range_with_len 1 k)) h
      ∙ highest_over (λ j. cond (says_mentioned K m a j) (f j) 0) (λ j. cond (K.mentioned m a j) (f j) 0) (K.measures m) (λ j w. ap (λ b. cond b (f j) 0) (mentioned_so K lawful m a j w))

  -- none of those without a value is mentioned
  pub none_so : (t : List Entry) (js : List ℕ) → js ≡ filter (λ j. not (valued j t)) (range_with_len 1 (K.measures m)) → every (λ j. not (says_mentioned K m a j)) js ≡ every (λ j. not (K.mentioned m a j) || valued j t) (range_with_len 1 (K.measures m))
  none_so t js e =
      ap (every (λ j. not (says_mentioned K m a j))) e
      ∙ every_kept (λ j. not (says_mentioned K m a j)) (λ j. not (valued j t)) (range_with_len 1 (K.measures m))
      ∙ every_over (λ j. not (not (valued j t)) || not (says_mentioned K m a j)) (λ j. not (K.mentioned m a j) || valued j t) (K.measures m)
      (λ j w. or_not (valued j t) (says_mentioned K m a j) ∙ ap (λ b. not b || valued j t) (mentioned_so K lawful m a j w))

values_only : (i j : ℕ) (c : Content) → (i ≡ j → ⊥) → values j c ≡ true → values i c ≡ false
values_only i j (Value k x) apart h = ne_eqb k i (λ e. apart (sym e ∙ eqb-true k j h))
values_only i j (Literal l o) apart h = refl

-- what the value for a measure makes of the readability of a number
module _ (K : Kind) (m : K.Model) (w j : ℕ) (t u : List Entry) (h : JustValued j t u) (there : within (K.measures m) j ≡ true) where
  -- any other measure has a value as before
  other_valued : (i : ℕ) → (i ≡ j → ⊥) → valued i u ≡ valued i t
  other_valued i apart =
      ap (valued i) h.now ∙ list_any-append (λ (e : Entry). values i e.content) t (h.entry ∷ [])
      ∙ ap (λ b. valued i t || (b || false)) (values_only i j h.entry.content apart h.values)
      ∙ or-false (valued i t)

  -- an atom that does not mention the measure is readable as before
  same_readable : (n : ℕ) → K.mentioned m (n - w) j ≡ false → readable K m w u n ≡ readable K m w t n
  same_readable n f = ap (λ b. ltb w n && b) (every_over (λ i. not (K.mentioned m (n - w) i) || valued i u) (λ i. not (K.mentioned m (n - w) i) || valued i t) (K.measures m) agree)
    where
      agree : (i : ℕ) → within (K.measures m) i ≡ true → (not (K.mentioned m (n - w) i) || valued i u) ≡ (not (K.mentioned m (n - w) i) || valued i t)
      agree i _ =
          ⊎_elim
          (λ (e : i ≡ j). let q = ap (λ k. K.mentioned m (n - w) k) e ∙ f in ap (λ b. not b || valued i u) q ∙ sym (ap (λ b. not b || valued i t) q))
          (λ (apart : i ≡ j → ⊥). ap (λ b. not (K.mentioned m (n - w) i) || b) (other_valued i apart))
          (cases_eq i j)

  -- one that does was not readable
  unread_before : (n : ℕ) → K.mentioned m (n - w) j ≡ true → readable K m w t n ≡ false
  unread_before n y =
      ⊎_elim
      (λ (r : readable K m w t n ≡ true).
      let b = and_parts (ltb 0 j) (leb j (K.measures m)) there in
      absurd (true≢false (sym ((readable_parts K m w t n r).1 j (ltb-true 0 j b.0) (leb-true j (K.measures m) b.1) y) ∙ h.before)))
      (λ z. z)
      (cases_Bool (readable K m w t n))

  -- so a literal stays true if it is one that the value makes readable, and true
  pub stays_by : (n : ℕ) (b : Bool) → (not (K.mentioned m (n - w) j && readable K m w u n) || b) ≡ (readable K m w t n || (not (readable K m w u n) || b))
  stays_by n b =
      ⊎_elim
      (λ (y : K.mentioned m (n - w) j ≡ true). ap (λ x. not (x && readable K m w u n) || b) y ∙ sym (ap (λ x. x || (not (readable K m w u n) || b)) (unread_before n y)))
      (λ (f : K.mentioned m (n - w) j ≡ false).
      ap (λ x. not (x && readable K m w u n) || b) f ∙ either (readable K m w u n) ∙ ap (λ x. x || (not (readable K m w u n) || b)) (same_readable n f))
      (cases_Bool (K.mentioned m (n - w) j))
    where
      either : (r : Bool) → true ≡ (r || (not r || b))
      either true = refl
      either false = refl
