-- What keeps the guarantees: the invariant, and what it is worth after a clause, an entry, a jump, or a new model.
use Rattle.std.proofs.Common.{◌≡◌, ℕ, ◌+◌, ◌-◌, ◌<◌, ◌≤◌, Bool, true, false, cond, ◌||◌, ltb, leb, List, [], ◌∷◌, ◌++◌, length, ℤ, neg_ℤ, Ok, sym, refl, ap, ◌∙◌, subst, ⊎_elim, arith, length-append}
use lib.ListN.{get_or-append}
use Rattle.std.specs.List.{AllByRecursion}
use Rattle.std.proofs.ByRecursion.{All-push, All-weaker}
use Rattle.std.proofs.lemmas.Bool.{true≢false, and_from, or_cases, or_left, or_right, cases_Bool, lt-ltb, leb-true, le-leb, cond_both}
use Rattle.calculus.specs.Lists.{every}
use Rattle.calculus.specs.Literals.{same, number}
use Rattle.calculus.specs.Limits.{within}
use Rattle.calculus.specs.Kinds.{Kind, Lawful}
use Rattle.calculus.specs.Arrangements.{Arrangement}
use Rattle.calculus.specs.Trails.{Content, Entry, choice, affirms, values, has_entry, false_on, valued, choices, up_to, enter, readable, numerators, by_values}
use Rattle.calculus.specs.Trails.Origin.{Chosen, Propagated, Read}
use Rattle.calculus.specs.Bounds.{Numbered}
use Rattle.calculus.specs.Trails.Content.{Value, Literal}
use Rattle.calculus.specs.States.{Stored, meets, clause}
use Rattle.calculus.specs.Steps.{others_false}
use Rattle.calculus.specs.Sound.{Keeps}
use Rattle.calculus.proofs.Testing.{both, front, every_all, all_every, some_left, some_cases, within_true}
use Rattle.calculus.proofs.Trailing.{clash, Apart, apart_push, apart_up_to, choices_push, numbered_push, numbered_up_to, up_to_all, up_to_back, up_to_weaken, up_to_append, up_to_twice, has_whole}
use Rattle.calculus.proofs.Meaning.{Known, Given, readable_more, gives_own, by_values_moved}

-- an arrangement that the theory admits and that meets every rule
abbrev pub Admissible : (K : Kind) → K.Model → ℕ → List Stored → Arrangement → Type 0
Admissible K m w rows a =
    ((length a.switches ≡ w) × (length a.numerators ≡ K.measures m) × (0 < a.denominator)) × (K.admitted m a.numerators a.denominator ≡ Ok tt)
    × AllByRecursion (λ r. r.rule ≡ true → meets K m w a r.literals ≡ true) rows

-- it agrees with the choices up to a level
abbrev pub Agrees : (K : Kind) → K.Model → ℕ → ℕ → Arrangement → List Entry → ℕ → Type 0
Agrees K m w d a t k = AllByRecursion (λ e. choice e.content ≡ true → e.level ≤ k → Keeps K m w d a e.content) t

-- why an entry stands at its level: what is not read was not readable there, what was read is so first there, a reason's other literals are false there
abbrev pub Placed : (K : Kind) → K.Model → ℕ → List Stored → List Entry → Content → ℕ → Type 0
Placed K m w rows t (Value j x) k = Unit {0}
Placed K m w rows t (Literal l Chosen) k = readable K m w (up_to k t) (number l) ≡ true → ⊥
Placed K m w rows t (Literal l (Propagated c)) k = (readable K m w (up_to k t) (number l) ≡ true → ⊥) × (within (length rows) c ≡ true) × (others_false (up_to k t) l (clause rows c) ≡ true)
Placed K m w rows t (Literal l Read) k = (readable K m w (up_to k t) (number l) ≡ true) × ((j : ℕ) → j < k → readable K m w (up_to j t) (number l) ≡ true → ⊥)

-- a readable literal is as the values make it
abbrev pub Sensible : (K : Kind) → K.Model → ℕ → ℕ → List Entry → Content → Type 0
Sensible K m w d t (Value j x) = Unit {0}
Sensible K m w d t (Literal l o) = readable K m w t (number l) ≡ true → by_values K m w d t l ≡ true

pub record Core (K : Kind) (m : K.Model) (w d : ℕ) (rows : List Stored) (t : List Entry) : Type 0 where
  pub positive : 0 < d
  pub rows_known : AllByRecursion (λ r. every (λ l. within (w + K.atoms m) (number l)) r.literals ≡ true) rows
  pub follow : (a : Arrangement) → Admissible K m w rows a → AllByRecursion (λ r. meets K m w a r.literals ≡ true) rows
  pub trail : (a : Arrangement) → Admissible K m w rows a → AllByRecursion (λ e. Agrees K m w d a t e.level → Keeps K m w d a e.content) t
  pub known : AllByRecursion (λ e. Known (w + K.atoms m) (K.measures m) e.content) t
  pub apart : Apart t
  pub levels : AllByRecursion (λ e. e.level ≤ choices t) t
  pub numbered : Numbered 0 t
  pub placed : AllByRecursion (λ e. Placed K m w rows t e.content e.level) t
  pub sensible : AllByRecursion (λ e. Sensible K m w d t e.content) t

module _ (K : Kind) (m : K.Model) (w d : ℕ) where
  pub agrees_lower : (a : Arrangement) (t : List Entry) (j k : ℕ) → j ≤ k → Agrees K m w d a t k → Agrees K m w d a t j
  agrees_lower a t j k l h = All-weaker (λ e. choice e.content ≡ true → e.level ≤ k → Keeps K m w d a e.content) (λ e. choice e.content ≡ true → e.level ≤ j → Keeps K m w d a e.content) (λ e f y z. f y (omega arith)) t h

  -- under agreement up to a level, all of that part is kept
  pub all_kept : (rows : List Stored) (t : List Entry) → Core K m w d rows t → (a : Arrangement) → Admissible K m w rows a → (k : ℕ) → Agrees K m w d a t k → AllByRecursion (λ e. Keeps K m w d a e.content) (up_to k t)
  all_kept rows t h a ok k g =
      up_to_all (λ e. Keeps K m w d a e.content) k t
      (All-weaker (λ e. Agrees K m w d a t e.level → Keeps K m w d a e.content) (λ e. e.level ≤ k → Keeps K m w d a e.content) (λ e f l. f (agrees_lower a t e.level k l g)) t (h.trail a ok))

  given_kept : (a : Arrangement) (c : Content) → (choice c ≡ true → Keeps K m w d a c) → Given a.numerators a.denominator d c
  given_kept a (Value j x) h = h refl
  given_kept a (Literal l o) h = tt

  pub agreed : (a : Arrangement) (t : List Entry) (k : ℕ) → Agrees K m w d a t k → AllByRecursion (λ e. Given a.numerators a.denominator d e.content) (up_to k t)
  agreed a t k g =
      up_to_all (λ e. Given a.numerators a.denominator d e.content) k t
      (All-weaker (λ e. choice e.content ≡ true → e.level ≤ k → Keeps K m w d a e.content) (λ e. e.level ≤ k → Given a.numerators a.denominator d e.content) (λ e f l. given_kept a e.content (λ y. f y l)) t g)

-- an entry stays placed where the parts of the trail stay
pub placed_stays : (K : Kind) (m : K.Model) (w : ℕ) (rows rows' : List Stored) (t u : List Entry) (c : Content) (k : ℕ)
    → ((j : ℕ) → j ≤ k → (i : ℕ) → valued i (up_to j u) ≡ true → valued i (up_to j t) ≡ true)
    → ((p : Content → Bool) → has_entry p (up_to k t) ≡ true → has_entry p (up_to k u) ≡ true)
    → ((n : ℕ) → within (length rows) n ≡ true → (within (length rows') n ≡ true) × (clause rows' n ≡ clause rows n))
    → Placed K m w rows t c k → Placed K m w rows' u c k
placed_stays K m w rows rows' t u (Value j x) k A B C h = tt
placed_stays K m w rows rows' t u (Literal l Chosen) k A B C h = λ r. h (readable_more K m w (up_to k u) (up_to k t) (number l) (A k (omega arith)) r)
placed_stays K m w rows rows' t u (Literal l (Propagated n)) k A B C h = (
  λ r. h.0 (readable_more K m w (up_to k u) (up_to k t) (number l) (A k (omega arith)) r),
  (C n h.1).0,
  subst (λ ls. others_false (up_to k u) l ls ≡ true) (sym (C n h.1).1)
      (all_every (λ q. same q l || false_on (up_to k u) q) (clause rows n)
      (All-weaker (λ q. (same q l || false_on (up_to k t) q) ≡ true) (λ q. (same q l || false_on (up_to k u) q) ≡ true)
      (λ q z. ⊎_elim (λ y. or_left (same q l) (false_on (up_to k u) q) y) (λ y. or_right (same q l) (false_on (up_to k u) q) (B (affirms (neg_ℤ q)) y)) (or_cases (same q l) (false_on (up_to k t) q) z))
      (clause rows n) (every_all (λ q. same q l || false_on (up_to k t) q) (clause rows n) h.2))),
)
placed_stays K m w rows rows' t u (Literal l Read) k A B C h = (
  readable_more K m w (up_to k t) (up_to k u) (number l) (λ i. B (values i)) h.0,
  λ j b r. h.1 j b (readable_more K m w (up_to j u) (up_to j t) (number l) (A j (omega arith)) r),
)

-- a clause more
pub clause_before : (rows : List Stored) (r : Stored) (n : ℕ) → within (length rows) n ≡ true → (within (length (rows ++ r ∷ [])) n ≡ true) × (clause (rows ++ r ∷ []) n ≡ clause rows n)
clause_before rows r n h =
    let b = within_true (length rows) n h in
    let b0 = b.0 in
    let b1 = b.1 in
    let e = length-append rows (r ∷ []) in (
      and_from (ltb 0 n) (leb n (length (rows ++ r ∷ []))) (lt-ltb 0 n b.0) (le-leb n (length (rows ++ r ∷ [])) (omega arith)),
      ap (λ q. q.literals) (get_or-append rows (r ∷ []) (record { literals = []; rule = false }) (n - 1) (omega arith)),
    )

module _ (K : Kind) (m : K.Model) (w d : ℕ) where
  pub ok_before : (rows : List Stored) (r : Stored) (a : Arrangement) → Admissible K m w (rows ++ r ∷ []) a → Admissible K m w rows a
  ok_before rows r a h = (h.0, h.1, front (λ q. q.rule ≡ true → meets K m w a q.literals ≡ true) rows r h.2)

  pub clause_core : (rows : List Stored) (t : List Entry) (ls : List ℤ) (b : Bool) → Core K m w d rows t → every (λ l. within (w + K.atoms m) (number l)) ls ≡ true
      → ((a : Arrangement) → Admissible K m w (rows ++ record { literals = ls; rule = b } ∷ []) a → meets K m w a ls ≡ true)
      → Core K m w d (rows ++ record { literals = ls; rule = b } ∷ []) t
  clause_core rows t ls b h kn new = record {
    positive = h.positive;
    rows_known = All-push (λ q. every (λ l. within (w + K.atoms m) (number l)) q.literals ≡ true) rows r h.rows_known kn;
    follow = λ a ok. All-push (λ q. meets K m w a q.literals ≡ true) rows r (h.follow a (ok_before rows r a ok)) (new a ok);
    trail = λ a ok. h.trail a (ok_before rows r a ok);
    known = h.known;
    apart = h.apart;
    levels = h.levels;
    numbered = h.numbered;
    placed = All-weaker (λ e. Placed K m w rows t e.content e.level) (λ e. Placed K m w (rows ++ r ∷ []) t e.content e.level) (λ e. placed_stays K m w rows (rows ++ r ∷ []) t t e.content e.level (λ j l i x. x) (λ p x. x) (clause_before rows r)) t h.placed;
    sensible = h.sensible;
  }
    where
      r : Stored
      r = record { literals = ls; rule = b }

  -- back to a level
  pub up_to_core : Lawful K → (rows : List Stored) (t : List Entry) (k : ℕ) → k ≤ choices t → Core K m w d rows t → Core K m w d rows (up_to k t)
  up_to_core L rows t k b h = record {
    positive = h.positive;
    rows_known = h.rows_known;
    follow = h.follow;
    trail = λ a ok. up_to_all (λ e. Agrees K m w d a (up_to k t) e.level → Keeps K m w d a e.content) k t
        (All-weaker (λ e. Agrees K m w d a t e.level → Keeps K m w d a e.content) (λ e. e.level ≤ k → Agrees K m w d a (up_to k t) e.level → Keeps K m w d a e.content)
        (λ e f l g. f (All-weaker (λ q. q.level ≤ k → choice q.content ≡ true → q.level ≤ e.level → Keeps K m w d a q.content) (λ q. choice q.content ≡ true → q.level ≤ e.level → Keeps K m w d a q.content)
        (λ q x y z. x (omega arith) y z) t (up_to_back (λ q. choice q.content ≡ true → q.level ≤ e.level → Keeps K m w d a q.content) k t g))) t (h.trail a ok));
    known = up_to_weaken (λ e. Known (w + K.atoms m) (K.measures m) e.content) k t h.known;
    apart = apart_up_to k t h.apart;
    levels = up_to_all (λ e. e.level ≤ choices (up_to k t)) k t (All-weaker (λ e. e.level ≤ choices t) (λ e. e.level ≤ k → e.level ≤ choices (up_to k t)) (λ e x l. let z = count in omega arith) t h.levels);
    numbered = (numbered_up_to 0 k t (omega arith) h.numbered).0;
    placed = up_to_all (λ e. Placed K m w rows (up_to k t) e.content e.level) k t
        (All-weaker (λ e. Placed K m w rows t e.content e.level) (λ e. e.level ≤ k → Placed K m w rows (up_to k t) e.content e.level)
        (λ e x l. placed_stays K m w rows rows t (up_to k t) e.content e.level
        (λ j z i v. subst (λ u. valued i u ≡ true) (up_to_twice j k t (omega arith)) v)
        (λ p v. subst (λ u. has_entry p u ≡ true) (sym (up_to_twice e.level k t l)) v)
        (λ n v. (v, refl)) x) t h.placed);
    sensible = up_to_weaken (λ e. Sensible K m w d (up_to k t) e.content) k t (All-weaker (λ e. Sensible K m w d t e.content) (λ e. Sensible K m w d (up_to k t) e.content) (λ e. sense e.content) t h.sensible);
  }
    where
      count : choices (up_to k t) ≡ k
      count = let z = (numbered_up_to 0 k t (omega arith) h.numbered).1 (omega arith) in omega arith

      given : AllByRecursion (λ e. Given (numerators K m t) d d e.content) (up_to k t)
      given = up_to_weaken (λ e. Given (numerators K m t) d d e.content) k t (gives_own K m w (w + K.atoms m) d t h.apart h.known)

      sense : (c : Content) → Sensible K m w d t c → Sensible K m w d (up_to k t) c
      sense (Value j x) s = tt
      sense (Literal l o) s = λ r. sym (by_values_moved K m w L d (up_to k t) t l h.positive given r) ∙ s (readable_more K m w (up_to k t) t (number l) (λ j. has_whole (values j) k t) r)

  pub count_up_to : (rows : List Stored) (t : List Entry) (k : ℕ) → k ≤ choices t → Core K m w d rows t → choices (up_to k t) ≡ k
  count_up_to rows t k b h = let z = (numbered_up_to 0 k t (omega arith) h.numbered).1 (omega arith) in omega arith

-- an entry more: a value stands above all levels so far
pub late_valued : (t : List Entry) (c : Content) (k j i : ℕ) → ((n : ℕ) → values n c ≡ true → j < k) → valued i (up_to j (enter t c k)) ≡ true → valued i (up_to j t) ≡ true
late_valued t c k j i late v =
    ⊎_elim (λ x. x)
    (λ x. absurd (cond_both (leb k j) (record { content = c; level = k } ∷ []) [] (λ u. valued i u ≡ true → ⊥)
    (λ q y. let z = leb-true k j q in let s = late i (⊎_elim (λ a. a) (λ a. absurd (true≢false (sym a))) (or_cases (values i c) false y)) in omega arith)
    (λ q y. true≢false (sym y)) x))
    (some_cases (λ e. values i e.content) (up_to j t) (up_to j (record { content = c; level = k } ∷ [])) (subst (λ u. valued i u ≡ true) (up_to_append j t (record { content = c; level = k })) v))

module _ (K : Kind) (m : K.Model) (w d : ℕ) where
  pub entry_core : (rows : List Stored) (t : List Entry) (c : Content) (k : ℕ) → Core K m w d rows t
      → Known (w + K.atoms m) (K.measures m) c
      → AllByRecursion (λ f. clash f.content c ≡ false) t
      → (choice c ≡ true → k ≡ choices t + 1) → (choice c ≡ false → k ≤ choices t)
      → ((n : ℕ) → values n c ≡ true → choices t < k)
      → Placed K m w rows (enter t c k) c k
      → AllByRecursion (λ e. Sensible K m w d (enter t c k) e.content) (enter t c k)
      → ((a : Arrangement) → Admissible K m w rows a → Agrees K m w d a (enter t c k) k → Keeps K m w d a c)
      → Core K m w d rows (enter t c k)
  entry_core rows t c k h kn cl ch un late pl se new = record {
    positive = h.positive;
    rows_known = h.rows_known;
    follow = h.follow;
    trail = λ a ok. All-push (λ f. Agrees K m w d a (enter t c k) f.level → Keeps K m w d a f.content) t e
        (All-weaker (λ f. Agrees K m w d a t f.level → Keeps K m w d a f.content) (λ f. Agrees K m w d a (enter t c k) f.level → Keeps K m w d a f.content)
        (λ f x g. x (front (λ q. choice q.content ≡ true → q.level ≤ f.level → Keeps K m w d a q.content) t e g)) t (h.trail a ok))
        (new a ok);
    known = All-push (λ f. Known (w + K.atoms m) (K.measures m) f.content) t e h.known kn;
    apart = apart_push t e h.apart cl;
    levels = let n = choices_push t e in
        All-push (λ f. f.level ≤ choices (enter t c k)) t e (All-weaker (λ f. f.level ≤ choices t) (λ f. f.level ≤ choices (enter t c k)) (λ f x. omega arith) t h.levels)
        (⊎_elim (λ y. let z = ap (λ b. cond {A = ℕ} b 1 0) y in let v = ch y in omega arith) (λ y. let z = un y in omega arith) (cases_Bool (choice c)));
    numbered = numbered_push 0 t e h.numbered (λ y. let z = ch y in omega arith);
    placed = All-push (λ f. Placed K m w rows (enter t c k) f.content f.level) t e
        (both (λ f. Placed K m w rows t f.content f.level) (λ f. f.level ≤ choices t) (λ f. Placed K m w rows (enter t c k) f.content f.level)
        (λ f x l. placed_stays K m w rows rows t (enter t c k) f.content f.level
        (λ j z i. late_valued t c k j i (λ n y. let v = late n y in omega arith))
        (λ p v. subst (λ u. has_entry p u ≡ true) (sym (up_to_append f.level t e)) (some_left (λ q. p q.content) (up_to f.level t) (up_to f.level (e ∷ [])) v))
        (λ n v. (v, refl)) x) t h.placed h.levels)
        pl;
    sensible = se;
  }
    where
      e : Entry
      e = record { content = c; level = k }
