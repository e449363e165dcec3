-- The places of the entries under their keys: kept as entries come and go, and what a look-up finds by them.
use Rattle.std.proofs.Common.{◌≡◌, ℕ, zero, suc, ◌+◌, ◌-◌, ◌<◌, ◌≤◌, Bool, true, false, eqb, ltb, leb, List, [], ◌∷◌, ◌++◌, length, get_or, set, ◌⊎◌, inl, inr, ℤ, neg_ℤ, sym, refl, ap, ◌∙◌, ⊎_elim, arith}
use Rattle.std.specs.List.{AllByRecursion}
use Rattle.std.proofs.lemmas.Bool.{true≢false, and_parts, and_from, or_parts, or_from, or_left, or_right, cases_Bool, eqb-true, eqb-false, eq-eqb, ltb-true, leb-true, cond-true, cond-false}
use Rattle.std.proofs.lemmas.List.{get_or-set_same, get_or-set_other, get_or-map, length-map}
use Rattle.fixedvec.specs.Items.{items_of}
use Rattle.calculus.specs.Limits.{most_numbers, most_measures, most_numerator, within, sized}
use Rattle.calculus.specs.Literals.{number}
use Rattle.calculus.specs.Trails.{Content, Entry, no_entry, entry_for, has_entry, affirms, concerns, values}
use Rattle.calculus.specs.Trails.Content.{Value, Literal}
use Rattle.calculus.proofs.Trailing.{clash, affirms_concerns, denies_concerns}
use Rattle.tables.specs.declared.entry as code
use Rattle.tables.specs.declared.trail.Trail.{Trail}
use Rattle.tables.specs.Views.{entry_of}
use Rattle.tables.specs.Tables.{trail_of}
use Rattle.tables.specs.Keys.{ranged, free, tidy, key, placed}
use Rattle.tables.proofs.Tidying.{free_apart, tidy_ranged}

-- a content that passes is under the key of the test
pub concerns_key : (n : ℕ) (c : Content) → concerns n c ≡ true → key c ≡ n
concerns_key n (Value j x) h = absurd (true≢false (sym h))
concerns_key n (Literal l o) h = eqb-true (number l) n h

pub values_key : (j : ℕ) (c : Content) → values j c ≡ true → key c ≡ 255 - j
values_key j (Value i x) h = ap (λ n. 255 - n) (eqb-true i j h)
values_key j (Literal l o) h = absurd (true≢false (sym h))

pub affirms_key : (l : ℤ) (c : Content) → affirms l c ≡ true → key c ≡ number l
affirms_key l c h = concerns_key (number l) c (affirms_concerns l c h)

pub denies_key : (l : ℤ) (c : Content) → affirms (neg_ℤ l) c ≡ true → key c ≡ number l
denies_key l c h = concerns_key (number l) c (denies_concerns l c h)

pub within_parts : (most n : ℕ) → within most n ≡ true → (0 < n) × (n ≤ most)
within_parts most n h = let b = and_parts (ltb 0 n) (leb n most) h in (ltb-true 0 n b.0, leb-true n most b.1)

pub key_small : (c : Content) → ranged c ≡ true → key c < 256
key_small (Value j x) h = omega arith
key_small (Literal l o) h = let b = within_parts most_numbers (number l) h in omega (arith, b.1)

-- contents that do not clash are under different keys
keys_apart : (b c : Content) → ranged b ≡ true → ranged c ≡ true → clash b c ≡ false → key b ≡ key c → ⊥
keys_apart (Value i x) (Value j y) h k a e =
    let p = within_parts most_measures i (and_parts (within most_measures i) (sized most_numerator x) h).0 in
    let q = within_parts most_measures j (and_parts (within most_measures j) (sized most_numerator y) k).0 in
    eqb-false i j a (omega (arith, p.1, q.1, e))
keys_apart (Value i x) (Literal l o) h k a e =
    let p = within_parts most_measures i (and_parts (within most_measures i) (sized most_numerator x) h).0 in
    let q = within_parts most_numbers (number l) k in
    omega (arith, p.1, q.1, e)
keys_apart (Literal k o) (Value j y) h g a e =
    let p = within_parts most_numbers (number k) h in
    let q = within_parts most_measures j (and_parts (within most_measures j) (sized most_numerator y) g).0 in
    omega (arith, p.1, q.1, e)
keys_apart (Literal k o) (Literal l p) h g a e = eqb-false (number k) (number l) a e

others_apart : (c : Content) (t : List Entry) → ranged c ≡ true → AllByRecursion (λ e. ranged e.content ≡ true) t → AllByRecursion (λ e. clash e.content c ≡ false) t → AllByRecursion (λ e. key e.content ≡ key c → ⊥) t
others_apart c [] r h a = tt
others_apart c (e ∷ t) r h a = (keys_apart e.content c h.0 r a.0, others_apart c t r h.1 a.1)

-- an entry more
more : (ps : List ℕ) (t : List Entry) (n v : ℕ) (e : Entry) → key e.content < length ps → v ≡ n + length t → AllByRecursion (λ f. key f.content ≡ key e.content → ⊥) t → placed ps n t ≡ true → placed (set ps (key e.content) v) n (t ++ e ∷ []) ≡ true
more ps [] n v e l w a h = and_from _ true (eq-eqb _ n (get_or-set_same ps (key e.content) v 0 l ∙ omega (arith, w))) refl
more ps (f ∷ t) n v e l w a h =
    let b = and_parts (eqb (get_or ps (key f.content) 0) n) (placed ps (n + 1) t) h in
    and_from _ _ (eq-eqb _ n (get_or-set_other ps (key e.content) (key f.content) v 0 a.0 ∙ eqb-true _ n b.0)) (more ps t (n + 1) v e l (omega (arith, w)) a.1 b.1)

pub placed_push : (ps : List ℕ) (t : List Entry) (k v : ℕ) (e : Entry) → length ps ≡ 256 → k ≡ key e.content → v ≡ length t → tidy t ≡ true → ranged e.content ≡ true → free e.content t ≡ true → placed ps 0 t ≡ true → placed (set ps k v) 0 (t ++ e ∷ []) ≡ true
placed_push ps t k v e l q w i r f h =
    ap (λ j. placed (set ps j v) 0 (t ++ e ∷ [])) q
    ∙ more ps t 0 v e (omega (arith, l, key_small e.content r)) (omega (arith, w)) (others_apart e.content t r (tidy_ranged t i) (free_apart e.content t f)) h

pub placed_prefix : (ps : List ℕ) (t u : List Entry) (n : ℕ) → placed ps n (t ++ u) ≡ true → placed ps n t ≡ true
placed_prefix ps [] u n h = refl
placed_prefix ps (e ∷ t) u n h =
    let b = and_parts (eqb (get_or ps (key e.content) 0) n) (placed ps (n + 1) (t ++ u)) h in
    and_from _ _ b.0 (placed_prefix ps t u (n + 1) b.1)

module _ (p : Content → Bool) (k : ℕ) (under : (c : Content) → p c ≡ true → key c ≡ k) where
  abbrev Nothing : List Entry → Type 0
  Nothing t = (has_entry p t ≡ false) × (entry_for p t ≡ no_entry)

  abbrev Stands : List Entry → ℕ → Type 0
  Stands t i = (i < length t) × (p (get_or t i no_entry).content ≡ true) × (has_entry p t ≡ true) × (entry_for p t ≡ get_or t i no_entry)

  -- nothing passes, or what passes first stands at the place that is kept
  sought : (ps : List ℕ) (n : ℕ) (t : List Entry) → placed ps n t ≡ true → Nothing t ⊎ ((i : ℕ) × (get_or ps k 0 ≡ n + i) × Stands t i)
  sought ps n [] h = inl (refl, refl)
  sought ps n (e ∷ t) h =
      let b = and_parts (eqb (get_or ps (key e.content) 0) n) (placed ps (n + 1) t) h in
      ⊎_elim
      (λ (y : p e.content ≡ true).
      inr (0, omega (arith, ap (λ j. get_or ps j 0) (under e.content y), eqb-true _ n b.0), (omega arith, y, or_left (p e.content) (has_entry p t) y, cond-true (p e.content) e (entry_for p t) y)))
      (λ (z : p e.content ≡ false).
      ⊎_elim
      (λ q. inl (or_from (p e.content) (has_entry p t) z q.0, cond-false (p e.content) e (entry_for p t) z ∙ q.1))
      (λ q. inr (suc q.0, omega (arith, q.1), (omega (arith, q.2.0), q.2.1, or_right (p e.content) (has_entry p t) q.2.2, cond-false (p e.content) e (entry_for p t) z ∙ q.2.3)))
      (sought ps (n + 1) t b.1))
      (cases_Bool (p e.content))

  none_at : (t : List Entry) (i : ℕ) → has_entry p t ≡ false → i < length t → p (get_or t i no_entry).content ≡ false
  none_at [] i h l = absurd (omega arith)
  none_at (e ∷ t) zero h l = (or_parts (p e.content) (has_entry p t) h).0
  none_at (e ∷ t) (suc i) h l = none_at t i (or_parts (p e.content) (has_entry p t) h).1 (omega (arith, l))

  module _ (t : Trail) (i : ℕ) (kept : i ≡ get_or t.places k 0) where
    all : Nothing (trail_of t) ⊎ ((j : ℕ) × (get_or t.places k 0 ≡ 0 + j) × Stands (trail_of t) j)
    all = sought t.places 0 (trail_of t) t.found

    at_place : (d : code.Entry.Entry) → i < length (items_of t.entries) → get_or (trail_of t) i no_entry ≡ entry_of (get_or (items_of t.entries) i d)
    at_place d l = get_or-map entry_of (items_of t.entries) i d no_entry l

    pub stands : (e : code.Entry.Entry) → i < length (items_of t.entries) → e ≡ get_or (items_of t.entries) i e → p (entry_of e).content ≡ true → (has_entry p (trail_of t) ≡ true) × (entry_for p (trail_of t) ≡ entry_of e)
    stands e l is y =
        let it : get_or (trail_of t) i no_entry ≡ entry_of e = at_place e l ∙ ap entry_of (sym is) in
        ⊎_elim
        (λ q. absurd (true≢false (sym y ∙ ap (λ f. p f.content) (sym it) ∙ none_at (trail_of t) i q.0 (omega (arith, l, length-map (items_of t.entries) entry_of)))))
        (λ q. let same : q.0 ≡ i = omega (arith, q.1, kept) in (q.2.2, q.2.3 ∙ ap (λ j. get_or (trail_of t) j no_entry) same ∙ it))
        all

    pub fails : (e : code.Entry.Entry) → i < length (items_of t.entries) → e ≡ get_or (items_of t.entries) i e → p (entry_of e).content ≡ false → Nothing (trail_of t)
    fails e l is z =
        let it : get_or (trail_of t) i no_entry ≡ entry_of e = at_place e l ∙ ap entry_of (sym is) in
        ⊎_elim
        (λ q. q)
        (λ q. let same : q.0 ≡ i = omega (arith, q.1, kept) in absurd (true≢false (sym q.2.1 ∙ ap (λ j. p (get_or (trail_of t) j no_entry).content) same ∙ ap (λ f. p f.content) it ∙ z)))
        all

    pub behind : length (items_of t.entries) ≤ i → Nothing (trail_of t)
    behind l = ⊎_elim (λ q. q) (λ q. absurd (omega (arith, l, q.1, kept, q.2.0, length-map (items_of t.entries) entry_of))) all
