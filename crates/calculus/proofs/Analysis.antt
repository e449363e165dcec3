-- Analysing a conflict: the open clause stays false and follows, and what a jump finds.
use Rattle.std.proofs.Common.{◌≡◌, ℕ, ◌+◌, ◌<◌, ◌≤◌, Bool, true, false, not, ◌||◌, eqb, List, [], ◌∷◌, ◌++◌, length, ℤ, neg_ℤ, filter, sym, ap, ◌∙◌, subst, ⊎_elim, arith}
use Rattle.std.specs.List.{AllByRecursion}
use Rattle.std.proofs.ByRecursion.{All-weaker}
use Rattle.std.proofs.lemmas.Bool.{true≢false, both_ways, or_cases, or_left, or_right, not-true, not_from_false, cases_Bool, cond_both}
use Rattle.calculus.specs.Lists.{every, some, highest}
use Rattle.calculus.specs.Literals.{same, number, signed, holds_literal}
use Rattle.calculus.specs.Limits.{within}
use Rattle.calculus.specs.Kinds.{Kind}
use Rattle.calculus.specs.Arrangements.{Arrangement}
use Rattle.calculus.specs.Trails.{Content, Entry, choice, affirms, concerns, values, reason, entry_for, false_on, false_at, taken, choices, up_to, readable}
use Rattle.calculus.specs.Trails.Origin.{Chosen, Propagated, Read}
use Rattle.calculus.specs.Trails.Content.{Value, Literal}
use Rattle.calculus.specs.States.{Stored, holds, meets, clause}
use Rattle.calculus.specs.Steps.{others, others_false, literal_on, resolvent}
use Rattle.calculus.specs.Sound.{Keeps}
use Rattle.calculus.proofs.Testing.{both, every_all, all_every, every_append, some_left, some_right, some_of, all_some, kept_all, kept_back, highest_above, within_true, not_both, same_true, number_neg}
use Rattle.calculus.proofs.Trailing.{Exclusive, concerns_exclusive, denies_concerns, found, first, numbered_above, has_more, has_whole, has_up_to, level_up_to}
use Rattle.calculus.proofs.Meaning.{readable_more, not_all_false}
use Rattle.calculus.proofs.Invariant.{Admissible, Placed, Core, all_kept}
use Rattle.calculus.proofs.Entering.{clause_of, level_bound}

-- the open clause is false, on numbers that there are, and follows
abbrev pub Opened : (K : Kind) → K.Model → ℕ → List Stored → List Entry → List ℤ → Type 0
Opened K m w rows t ls = (every (false_on t) ls ≡ true) × (every (λ l. within (w + K.atoms m) (number l)) ls ≡ true) × ((a : Arrangement) → Admissible K m w rows a → meets K m w a ls ≡ true)

pub literal_on_of : (P : ℤ → Type 0) (n : ℕ) (ls : List ℤ) → AllByRecursion P ls → some (λ k. eqb (number k) n) ls ≡ true → P (literal_on n ls)
literal_on_of P n [] h s = absurd (true≢false (sym s))
literal_on_of P n (l ∷ ls) h s =
    cond_both (eqb (number l) n) l (literal_on n ls) P (λ _. h.0) (λ q. literal_on_of P n ls h.1 (⊎_elim (λ y. absurd (true≢false (sym y ∙ q))) (λ y. y) (or_cases (eqb (number l) n) (some (λ k. eqb (number k) n) ls) s)))

pub literal_of : (P : ℤ → Type 0) (l : ℤ) (ls : List ℤ) → AllByRecursion P ls → holds_literal l ls ≡ true → P l
literal_of P l ls h = some_of (λ k. same k l) ls (P l) (All-weaker P (λ k. same k l ≡ true → P l) (λ k p q. subst P (same_true k l q) p) ls h)

-- resolution is sound
pub resolves : (f : ℕ → Bool) (l : ℤ) (ls rs : List ℤ) → 0 < number l → some (λ k. signed k f) ls ≡ true → some (λ k. signed k f) rs ≡ true → some (λ k. signed k f) (resolvent l ls rs) ≡ true
resolves f l ls rs p a b =
    ⊎_elim
    (λ y. some_of t rs (some t C ≡ true)
    (All-weaker (λ k. not (same k (neg_ℤ l)) ≡ true → t k ≡ true → some t C ≡ true) (λ k. t k ≡ true → some t C ≡ true)
    (λ k g z. g (⊎_elim (λ q. absurd (not_both l f p y (subst (λ i. signed i f ≡ true) (same_true k (neg_ℤ l) q) z))) (λ q. not_from_false (same k (neg_ℤ l)) q) (cases_Bool (same k (neg_ℤ l)))) z)
    rs (kept_back (λ k. not (same k (neg_ℤ l))) (λ k. t k ≡ true → some t C ≡ true) rs in_rest)) b)
    (λ n. some_of t ls (some t C ≡ true)
    (All-weaker (λ k. not (same k l) ≡ true → t k ≡ true → some t A ≡ true) (λ k. t k ≡ true → some t C ≡ true)
    (λ k g z. some_left t A B (g (⊎_elim (λ q. absurd (both_ways (t l) n (subst (λ i. signed i f ≡ true) (same_true k l q) z))) (λ q. not_from_false (same k l) q) (cases_Bool (same k l))) z))
    ls (kept_back (λ k. not (same k l)) (λ k. t k ≡ true → some t A ≡ true) ls (all_some t A))) a)
    (cases_Bool (t l))
  where
    t : ℤ → Bool
    t k = signed k f

    A : List ℤ
    A = others l ls

    R : List ℤ
    R = others (neg_ℤ l) rs

    B : List ℤ
    B = filter (λ k. not (holds_literal k A)) R

    C : List ℤ
    C = A ++ B

    in_A : (k : ℤ) → holds_literal k A ≡ true → t k ≡ true → some t A ≡ true
    in_A k h z = literal_of (λ q. t q ≡ true → some t A ≡ true) k A (all_some t A) h z

    in_rest : AllByRecursion (λ k. t k ≡ true → some t C ≡ true) R
    in_rest = All-weaker (λ k. not (holds_literal k A) ≡ true → t k ≡ true → some t B ≡ true) (λ k. t k ≡ true → some t C ≡ true)
        (λ k g z. ⊎_elim (λ q. some_left t A B (in_A k q z)) (λ q. some_right t A B (g (not_from_false (holds_literal k A) q) z)) (cases_Bool (holds_literal k A)))
        R (kept_back (λ k. not (holds_literal k A)) (λ k. t k ≡ true → some t B ≡ true) R (all_some t B))

module _ (K : Kind) (m : K.Model) (w d : ℕ) (rows : List Stored) (t : List Entry) (h : Core K m w d rows t) where
  -- a literal's denial with a reason: the reason's other literals are false
  by_reason : (l : ℤ) (c : Content) (k : ℕ) → affirms l c ≡ true → Placed K m w rows t c k → 0 < reason c → (within (length rows) (reason c) ≡ true) × (others_false t l (clause rows (reason c)) ≡ true)
  by_reason l (Value j x) k y p z = absurd (true≢false (sym y))
  by_reason l (Literal q Chosen) k y p z = absurd (omega arith)
  by_reason l (Literal q Read) k y p z = absurd (omega arith)
  by_reason l (Literal q (Propagated c)) k y p z = (
    p.1,
    all_every (λ i. same i l || false_on t i) (clause rows c)
        (All-weaker (λ i. (same i q || false_on (up_to k t) i) ≡ true) (λ i. (same i l || false_on t i) ≡ true)
        (λ i v. ⊎_elim (λ a. or_left (same i l) (false_on t i) (subst (λ j. same i j ≡ true) (same_true q l y) a)) (λ a. or_right (same i l) (false_on t i) (has_whole (affirms (neg_ℤ i)) k t a)) (or_cases (same i q) (false_on (up_to k t) i) v))
        (clause rows c) (every_all (λ i. same i q || false_on (up_to k t) i) (clause rows c) p.2)),
  )

  -- the reason behind an open literal: it is a stored clause, and its other literals are false
  pub reason_false : (n : ℕ) (ls : List ℤ) → Opened K m w rows t ls → some (λ k. eqb (number k) n) ls ≡ true → 0 < reason (entry_for (affirms (neg_ℤ (literal_on n ls))) t).content
      → (within (length rows) (reason (entry_for (affirms (neg_ℤ (literal_on n ls))) t).content) ≡ true) × (others_false t (neg_ℤ (literal_on n ls)) (clause rows (reason (entry_for (affirms (neg_ℤ (literal_on n ls))) t).content)) ≡ true)
  reason_false n ls o s pos' =
      let l = literal_on n ls in
      let f = found (λ e. Placed K m w rows t e.content e.level) (affirms (neg_ℤ l)) t h.placed (literal_on_of (λ k. false_on t k ≡ true) n ls (every_all (false_on t) ls o.0) s) in
      by_reason (neg_ℤ l) (entry_for (affirms (neg_ℤ l)) t).content (entry_for (affirms (neg_ℤ l)) t).level f.1 f.0 pos'

  pub resolve_opened : (n : ℕ) (ls : List ℤ) → Opened K m w rows t ls → some (λ k. eqb (number k) n) ls ≡ true → 0 < reason (entry_for (affirms (neg_ℤ (literal_on n ls))) t).content
      → Opened K m w rows t (resolvent (literal_on n ls) ls (clause rows (reason (entry_for (affirms (neg_ℤ (literal_on n ls))) t).content)))
  resolve_opened n ls o s pos' = (
    every_append (false_on t) (others l ls) B
        (all_every (false_on t) (others l ls) (kept_all (λ k. not (same k l)) (λ k. false_on t k ≡ true) ls (All-weaker (λ k. false_on t k ≡ true) (λ k. not (same k l) ≡ true → false_on t k ≡ true) (λ k x _. x) ls (every_all (false_on t) ls o.0))))
        (all_every (false_on t) B (kept_all (λ k. not (holds_literal k (others l ls))) (λ k. false_on t k ≡ true) R
        (All-weaker (λ k. false_on t k ≡ true) (λ k. not (holds_literal k (others l ls)) ≡ true → false_on t k ≡ true) (λ k x _. x) R
        (kept_all (λ k. not (same k (neg_ℤ l))) (λ k. false_on t k ≡ true) cl
        (All-weaker (λ k. (same k (neg_ℤ l) || false_on t k) ≡ true) (λ k. not (same k (neg_ℤ l)) ≡ true → false_on t k ≡ true)
        (λ k x y. ⊎_elim (λ z. absurd (both_ways (same k (neg_ℤ l)) (not-true (same k (neg_ℤ l)) y) z)) (λ z. z) (or_cases (same k (neg_ℤ l)) (false_on t k) x))
        cl (every_all (λ k. same k (neg_ℤ l) || false_on t k) cl rs.1)))))),
    every_append (λ k. within (w + K.atoms m) (number k)) (others l ls) B
        (all_every (λ k. within (w + K.atoms m) (number k)) (others l ls) (kept_all (λ k. not (same k l)) (λ k. within (w + K.atoms m) (number k) ≡ true) ls
        (All-weaker (λ k. within (w + K.atoms m) (number k) ≡ true) (λ k. not (same k l) ≡ true → within (w + K.atoms m) (number k) ≡ true) (λ k x _. x) ls (every_all (λ k. within (w + K.atoms m) (number k)) ls o.1))))
        (all_every (λ k. within (w + K.atoms m) (number k)) B (kept_all (λ k. not (holds_literal k (others l ls))) (λ k. within (w + K.atoms m) (number k) ≡ true) R
        (All-weaker (λ k. within (w + K.atoms m) (number k) ≡ true) (λ k. not (holds_literal k (others l ls)) ≡ true → within (w + K.atoms m) (number k) ≡ true) (λ k x _. x) R
        (kept_all (λ k. not (same k (neg_ℤ l))) (λ k. within (w + K.atoms m) (number k) ≡ true) cl
        (All-weaker (λ k. within (w + K.atoms m) (number k) ≡ true) (λ k. not (same k (neg_ℤ l)) ≡ true → within (w + K.atoms m) (number k) ≡ true) (λ k x _. x) cl
        (every_all (λ k. within (w + K.atoms m) (number k)) cl (clause_of (λ q. every (λ k. within (w + K.atoms m) (number k)) q ≡ true) rows r rs.0 h.rows_known))))))),
    λ a ok. resolves (holds K m w a) l ls cl (within_true (w + K.atoms m) (number l) (literal_on_of (λ k. within (w + K.atoms m) (number k) ≡ true) n ls (every_all (λ k. within (w + K.atoms m) (number k)) ls o.1) s)).0
        (o.2 a ok) (clause_of (λ q. meets K m w a q ≡ true) rows r rs.0 (h.follow a ok)),
  )
    where
      l : ℤ
      l = literal_on n ls

      r : ℕ
      r = reason (entry_for (affirms (neg_ℤ l)) t).content

      cl : List ℤ
      cl = clause rows r

      R : List ℤ
      R = others (neg_ℤ l) cl

      B : List ℤ
      B = filter (λ k. not (holds_literal k (others l ls))) R

      rs : (within (length rows) r ≡ true) × (others_false t (neg_ℤ l) (clause rows r) ≡ true)
      rs = reason_false n ls o s pos'

  -- a literal whose denial stands above a level: below it is neither on the trail nor readable
  pub free_below : (l : ℤ) (k : ℕ) → false_on t l ≡ true → k < false_at t l → taken (number l) (up_to k t) ≡ false
  free_below l k f b = ⊎_elim (λ y.
      let q = found (λ e. (p : Content → Bool) → Exclusive p → p e.content ≡ true → entry_for p t ≡ e) (affirms (neg_ℤ l)) t (first t h.apart) f in
      let e = q.0 (concerns (number l)) (concerns_exclusive (number l)) (denies_concerns l (entry_for (affirms (neg_ℤ l)) t).content q.1) in
      let z = subst (λ v. v.level ≤ k) e (level_up_to (concerns (number l)) (concerns_exclusive (number l)) k t h.apart y) in
      absurd (omega arith)) (λ y. y) (cases_Bool (taken (number l) (up_to k t)))

  hidden : (l : ℤ) (k : ℕ) (c : Content) (i : ℕ) → affirms (neg_ℤ l) c ≡ true → Placed K m w rows t c i → k < i → readable K m w (up_to k t) (number l) ≡ true → ⊥
  hidden l k (Value j x) i y p b r = true≢false (sym y)
  hidden l k (Literal q Chosen) i y p b r = p (subst (λ n. readable K m w (up_to i t) n ≡ true) (sym (ap number (same_true q (neg_ℤ l) y) ∙ number_neg l)) (readable_more K m w (up_to k t) (up_to i t) (number l) (λ j. has_more (values j) k i t (omega arith)) r))
  hidden l k (Literal q (Propagated c)) i y p b r = p.0 (subst (λ n. readable K m w (up_to i t) n ≡ true) (sym (ap number (same_true q (neg_ℤ l) y) ∙ number_neg l)) (readable_more K m w (up_to k t) (up_to i t) (number l) (λ j. has_more (values j) k i t (omega arith)) r))
  hidden l k (Literal q Read) i y p b r = p.1 k b (subst (λ n. readable K m w (up_to k t) n ≡ true) (sym (ap number (same_true q (neg_ℤ l) y) ∙ number_neg l)) r)

  pub hidden_below : (l : ℤ) (k : ℕ) → false_on t l ≡ true → k < false_at t l → readable K m w (up_to k t) (number l) ≡ true → ⊥
  hidden_below l k f b =
      let q = found (λ e. Placed K m w rows t e.content e.level) (affirms (neg_ℤ l)) t h.placed f in
      hidden l k (entry_for (affirms (neg_ℤ l)) t).content (entry_for (affirms (neg_ℤ l)) t).level q.1 q.0 b

  pub level_of_false : (l : ℤ) → false_at t l ≤ choices t
  level_of_false l = level_bound (affirms (neg_ℤ l)) (choices t) t h.levels

  -- the other literals are false at the highest of their levels
  pub others_below : (l : ℤ) (ls : List ℤ) → every (false_on t) ls ≡ true → others_false (up_to (highest (false_at t) (others l ls)) t) l ls ≡ true
  others_below l ls o =
      all_every (λ k. same k l || false_on (up_to top t) k) ls
      (both (λ k. false_on t k ≡ true) (λ k. not (same k l) ≡ true → false_at t k ≤ top) (λ k. (same k l || false_on (up_to top t) k) ≡ true)
      (λ k f g. ⊎_elim (λ y. or_left (same k l) (false_on (up_to top t) k) y) (λ y. or_right (same k l) (false_on (up_to top t) k) (has_up_to (affirms (neg_ℤ k)) top t f (g (not_from_false (same k l) y)))) (cases_Bool (same k l)))
      ls (every_all (false_on t) ls o) (kept_back (λ k. not (same k l)) (λ k. false_at t k ≤ top) ls (highest_above (false_at t) (others l ls))))
    where
      top : ℕ
      top = highest (false_at t) (others l ls)

  -- an open clause at level 0 leaves nothing
  pub nothing_left : (ls : List ℤ) → Opened K m w rows t ls → highest (false_at t) ls ≡ 0 → (a : Arrangement) → Admissible K m w rows a → ⊥
  nothing_left ls o z a ok =
      not_all_false K m w d a (up_to 0 t) (all_kept K m w d rows t h a ok 0
      (All-weaker (λ e. choice e.content ≡ true → 0 < e.level) (λ e. choice e.content ≡ true → e.level ≤ 0 → Keeps K m w d a e.content) (λ e g y l. let v = g y in absurd (omega arith)) t (numbered_above 0 t h.numbered)))
      (w + K.atoms m) ls
      (all_every (false_on (up_to 0 t)) ls
      (both (λ k. false_on t k ≡ true) (λ k. false_at t k ≤ highest (false_at t) ls) (λ k. false_on (up_to 0 t) k ≡ true) (λ k f g. has_up_to (affirms (neg_ℤ k)) 0 t f (omega arith)) ls (every_all (false_on t) ls o.0) (highest_above (false_at t) ls)))
      o.1 (o.2 a ok)
