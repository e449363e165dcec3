-- What enters the trail: a choice, a value, a literal with its reason, a reading.
use Rattle.std.proofs.Common.{◌≡◌, ℕ, zero, suc, ◌+◌, ◌-◌, ◌<◌, ◌≤◌, Bool, true, false, cond, not, ◌||◌, eqb, List, [], ◌∷◌, length, ℤ, pos, negsuc, neg_ℤ, sym, refl, ◌∙◌, subst, ⊎_elim, arith}
use Rattle.std.specs.List.{AllByRecursion}
use Rattle.std.proofs.ByRecursion.{All-push, All-weaker, All-get_or}
use Rattle.std.proofs.lemmas.Bool.{true≢false, both_ways, or_cases, or_left, or_right, not-true, not_from_false, cases_Bool, cond_both}
use Rattle.calculus.specs.Lists.{every}
use Rattle.calculus.specs.Literals.{same, number, signed}
use Rattle.calculus.specs.Limits.{within}
use Rattle.calculus.specs.Kinds.{Kind, Lawful}
use Rattle.calculus.specs.Trails.{Content, Entry, Origin, choice, affirms, concerns, values, entry_for, has_entry, false_on, taken, valued, choices, up_to, enter, enter_choice, readable, reading_level, numerators, by_values, reading, stays_true}
use Rattle.calculus.specs.Trails.Origin.{Chosen, Propagated, Read}
use Rattle.calculus.specs.Trails.Content.{Value, Literal}
use Rattle.calculus.specs.States.{Stored, meets, clause}
use Rattle.calculus.specs.Steps.{others_false}
use Rattle.calculus.specs.Sound.{Keeps}
use Rattle.calculus.proofs.Testing.{both, front, last, every_all, all_every, some_left, some_cases, none_all, counted_le, within_true}
use Rattle.calculus.proofs.Trailing.{clash, apart_push, up_to_weaken, up_to_append, up_to_whole, has_whole}
use Rattle.calculus.proofs.Meaning.{Known, Given, readable_more, gives_own, by_values_moved, kept_reading, read_at, not_below, unit_true}
use Rattle.calculus.proofs.Invariant.{Sensible, Core, all_kept, agreed, entry_core, late_valued}

pub entered_valued : (t : List Entry) (l : ℤ) (o : Origin) (k i : ℕ) → valued i (enter t (Literal l o) k) ≡ true → valued i t ≡ true
entered_valued t l o k i h = ⊎_elim (λ x. x) (λ x. absurd (true≢false (sym x))) (some_cases (λ e. values i e.content) t (record { content = Literal l o; level = k } ∷ []) h)

off_number : (t : List Entry) (l : ℤ) (o : Origin) → taken (number l) t ≡ false → AllByRecursion (λ f. clash f.content (Literal l o) ≡ false) t
off_number t l o h = All-weaker (λ f. concerns (number l) f.content ≡ true → ⊥) (λ f. clash f.content (Literal l o) ≡ false) (λ f. off f.content) t (none_all (λ e. concerns (number l) e.content) t (λ y. true≢false (sym y ∙ h)))
  where
    off : (c : Content) → (concerns (number l) c ≡ true → ⊥) → clash c (Literal l o) ≡ false
    off (Value j x) n = refl
    off (Literal k p) n = ⊎_elim (λ y. absurd (n y)) (λ y. y) (cases_Bool (eqb (number k) (number l)))

off_measure : (t : List Entry) (j : ℕ) (x : ℤ) → valued j t ≡ false → AllByRecursion (λ f. clash f.content (Value j x) ≡ false) t
off_measure t j x h = All-weaker (λ f. values j f.content ≡ true → ⊥) (λ f. clash f.content (Value j x) ≡ false) (λ f. off f.content) t (none_all (λ e. values j e.content) t (λ y. true≢false (sym y ∙ h)))
  where
    off : (c : Content) → (values j c ≡ true → ⊥) → clash c (Value j x) ≡ false
    off (Value i y) n = ⊎_elim (λ z. absurd (n z)) (λ z. z) (cases_Bool (eqb i j))
    off (Literal k p) n = refl

pub level_bound : (p : Content → Bool) (n : ℕ) (t : List Entry) → AllByRecursion (λ e. e.level ≤ n) t → (entry_for p t).level ≤ n
level_bound p n [] h = omega arith
level_bound p n (e ∷ t) h = cond_both (p e.content) e (entry_for p t) (λ f. f.level ≤ n) (λ _. h.0) (λ _. level_bound p n t h.1)

-- the literal of a number, as a test makes it
made : (n : ℕ) (f : ℕ → Bool) → 0 < n → (number (cond (f n) (pos n) (neg_ℤ (pos n))) ≡ n) × (signed (cond (f n) (pos n) (neg_ℤ (pos n))) f ≡ true)
made zero f h = absurd (omega arith)
made (suc n) f h =
    let P : ℤ → Type 0 = λ l. (number l ≡ suc n) × (signed l f ≡ true) in
    cond_both (f (suc n)) (pos (suc n)) (negsuc n) P (λ e. (refl, e)) (λ e. (refl, not_from_false (f (suc n)) e))

pub clause_of : (P : List ℤ → Type 0) (rows : List Stored) (c : ℕ) → within (length rows) c ≡ true → AllByRecursion (λ r. P r.literals) rows → P (clause rows c)
clause_of P rows c h k = let b = within_true (length rows) c h in let b0 = b.0 in let b1 = b.1 in All-get_or (λ r. P r.literals) rows (c - 1) (record { literals = []; rule = false }) (omega arith) k

module _ (K : Kind) (L : Lawful K) (m : K.Model) (w d : ℕ) (rows : List Stored) (t : List Entry) (h : Core K m w d rows t) where
  -- a literal that enters leaves what is readable as it is
  literal_sensible : (l : ℤ) (o : Origin) (k : ℕ) → within (w + K.atoms m) (number l) ≡ true → taken (number l) t ≡ false → (readable K m w t (number l) ≡ true → by_values K m w d t l ≡ true)
      → AllByRecursion (λ e. Sensible K m w d (enter t (Literal l o) k) e.content) (enter t (Literal l o) k)
  literal_sensible l o k kn off new =
      All-push (λ e. Sensible K m w d u e.content) t (record { content = Literal l o; level = k })
      (All-weaker (λ e. Sensible K m w d t e.content) (λ e. Sensible K m w d u e.content) (λ e. old e.content) t h.sensible) (old (Literal l o) new)
    where
      u : List Entry
      u = enter t (Literal l o) k

      given : AllByRecursion (λ e. Given (numerators K m u) d d e.content) t
      given = front (λ e. Given (numerators K m u) d d e.content) t (record { content = Literal l o; level = k })
          (gives_own K m w (w + K.atoms m) d u (apart_push t (record { content = Literal l o; level = k }) h.apart (off_number t l o off))
          (All-push (λ e. Known (w + K.atoms m) (K.measures m) e.content) t (record { content = Literal l o; level = k }) h.known kn))

      old : (c : Content) → Sensible K m w d t c → Sensible K m w d u c
      old (Value j x) s = tt
      old (Literal q p) s = λ r.
          let r' = readable_more K m w u t (number q) (λ i. entered_valued t l o k i) r in
          by_values_moved K m w L d t u q h.positive given r' ∙ s r'

  not_readable_in : (l : ℤ) (o : Origin) (k : ℕ) → (readable K m w t (number l) ≡ true → ⊥) → readable K m w (up_to k (enter t (Literal l o) k)) (number l) ≡ true → ⊥
  not_readable_in l o k n r = n (readable_more K m w (up_to k (enter t (Literal l o) k)) t (number l) (λ i v. entered_valued t l o k i (has_whole (values i) k (enter t (Literal l o) k) v)) r)

  no_value : (l : ℤ) (o : Origin) (n : ℕ) → values n (Literal l o) ≡ true → (x y : ℕ) → x < y
  no_value l o n y = absurd (true≢false (sym y))

  pub choose_core : (l : ℤ) → within (w + K.atoms m) (number l) ≡ true → taken (number l) t ≡ false → (readable K m w t (number l) ≡ true → ⊥)
      → Core K m w d rows (enter_choice t (Literal l Chosen))
  choose_core l kn off n =
      entry_core K m w d rows t (Literal l Chosen) (choices t + 1) h kn (off_number t l Chosen off) (λ _. refl) (λ y. absurd (true≢false y))
      (λ i y. no_value l Chosen i y (choices t) (choices t + 1)) (not_readable_in l Chosen (choices t + 1) n) (literal_sensible l Chosen (choices t + 1) kn off (λ r. absurd (n r)))
      (λ a ok g. last (λ e. choice e.content ≡ true → e.level ≤ choices t + 1 → Keeps K m w d a e.content) t (record { content = Literal l Chosen; level = choices t + 1 }) g refl (omega arith))

  pub force_core : (c : ℕ) (l : ℤ) → within (w + K.atoms m) (number l) ≡ true → taken (number l) t ≡ false → (readable K m w t (number l) ≡ true → ⊥)
      → within (length rows) c ≡ true → others_false t l (clause rows c) ≡ true
      → Core K m w d rows (enter t (Literal l (Propagated c)) (choices t))
  force_core c l kn off n there un =
      entry_core K m w d rows t (Literal l (Propagated c)) (choices t) h kn (off_number t l (Propagated c) off) (λ y. absurd (true≢false (sym y))) (λ y. omega arith)
      (λ i y. no_value l (Propagated c) i y (choices t) (choices t)) (
        not_readable_in l (Propagated c) (choices t) n,
        there,
        all_every (λ q. same q l || false_on (up_to (choices t) u) q) (clause rows c)
            (All-weaker (λ q. (same q l || false_on t q) ≡ true) (λ q. (same q l || false_on (up_to (choices t) u) q) ≡ true)
            (λ q z. ⊎_elim (λ y. or_left (same q l) (false_on (up_to (choices t) u) q) y) (λ y. or_right (same q l) (false_on (up_to (choices t) u) q) (still (affirms (neg_ℤ q)) y)) (or_cases (same q l) (false_on t q) z))
            (clause rows c) (every_all (λ q. same q l || false_on t q) (clause rows c) un)),
      )
      (literal_sensible l (Propagated c) (choices t) kn off (λ r. absurd (n r)))
      (λ a ok g.
      unit_true K m w d a t
      (subst (λ v. AllByRecursion (λ e. Keeps K m w d a e.content) v) (up_to_whole (choices t) t h.levels)
      (all_kept K m w d rows t h a ok (choices t) (front (λ e. choice e.content ≡ true → e.level ≤ choices t → Keeps K m w d a e.content) t (record { content = Literal l (Propagated c); level = choices t }) g)))
      l (w + K.atoms m) (clause rows c) un
      (clause_of (λ ls. every (λ q. within (w + K.atoms m) (number q)) ls ≡ true) rows c there h.rows_known)
      (clause_of (λ ls. meets K m w a ls ≡ true) rows c there (h.follow a ok)))
    where
      u : List Entry
      u = enter t (Literal l (Propagated c)) (choices t)

      still : (p : Content → Bool) → has_entry p t ≡ true → has_entry p (up_to (choices t) u) ≡ true
      still p y = subst (λ v. has_entry p v ≡ true) (sym (up_to_append (choices t) t (record { content = Literal l (Propagated c); level = choices t })))
          (some_left (λ e. p e.content) (up_to (choices t) t) (up_to (choices t) (record { content = Literal l (Propagated c); level = choices t } ∷ []))
          (subst (λ v. has_entry p v ≡ true) (sym (up_to_whole (choices t) t h.levels)) y))

  pub set_core : (j : ℕ) (x : ℤ) → within (K.measures m) j ≡ true → valued j t ≡ false
      → every (λ e. stays_true K m w d t (enter_choice t (Value j x)) e.content) t ≡ true
      → Core K m w d rows (enter_choice t (Value j x))
  set_core j x kn off st =
      entry_core K m w d rows t (Value j x) (choices t + 1) h kn (off_measure t j x off) (λ _. refl) (λ y. absurd (true≢false y))
      (λ i y. omega arith) tt
      (All-push (λ e. Sensible K m w d u e.content) t e
      (both (λ f. Sensible K m w d t f.content) (λ f. stays_true K m w d t u f.content ≡ true) (λ f. Sensible K m w d u f.content) (λ f. old f.content) t h.sensible
      (every_all (λ f. stays_true K m w d t u f.content) t st)) tt)
      (λ a ok g. last (λ f. choice f.content ≡ true → f.level ≤ choices t + 1 → Keeps K m w d a f.content) t e g refl (omega arith))
    where
      e : Entry
      e = record { content = Value j x; level = choices t + 1 }

      u : List Entry
      u = enter_choice t (Value j x)

      given : AllByRecursion (λ f. Given (numerators K m u) d d f.content) t
      given = front (λ f. Given (numerators K m u) d d f.content) t e
          (gives_own K m w (w + K.atoms m) d u (apart_push t e h.apart (off_measure t j x off)) (All-push (λ f. Known (w + K.atoms m) (K.measures m) f.content) t e h.known kn))

      old : (c : Content) → Sensible K m w d t c → stays_true K m w d t u c ≡ true → Sensible K m w d u c
      old (Value i y) s k = tt
      old (Literal l o) s k = λ r.
          ⊎_elim (λ y. by_values_moved K m w L d t u l h.positive given y ∙ s y)
          (λ y. ⊎_elim (λ z. absurd (both_ways (readable K m w u (number l)) (not-true (readable K m w u (number l)) z) r)) (λ z. z) (or_cases (not (readable K m w u (number l))) (by_values K m w d u l) y))
          (or_cases (readable K m w t (number l)) (not (readable K m w u (number l)) || by_values K m w d u l) k)

  pub read_core : (n : ℕ) → within (w + K.atoms m) n ≡ true → taken n t ≡ false → readable K m w t n ≡ true
      → Core K m w d rows (enter t (Literal (reading K m w d t n) Read) (reading_level K m w t n))
  read_core n kn off r =
      entry_core K m w d rows t (Literal l Read) k h known_l (off_number t l Read off_l) (λ y. absurd (true≢false (sym y)))
      (λ y. counted_le (λ i. cond (K.mentioned m (n - w) i) (entry_for (values i) t).level 0) (choices t) 1 (K.measures m) (λ j a b. cond_both (K.mentioned m (n - w) j) (entry_for (values j) t).level 0 (λ v. v ≤ choices t) (λ _. level_bound (values j) (choices t) t h.levels) (λ _. omega arith)))
      (λ i y. no_value l Read i y (choices t) k) (
        subst (λ v. readable K m w (up_to k u) v ≡ true) (sym num)
            (readable_more K m w (up_to k t) (up_to k u) n (λ i v. subst (λ z. valued i z ≡ true) (sym (up_to_append k t (record { content = Literal l Read; level = k }))) (some_left (λ f. values i f.content) (up_to k t) (up_to k (record { content = Literal l Read; level = k } ∷ [])) v)) (read_at K m w t n r)),
        λ j b v. not_below K m w t n j h.apart b (readable_more K m w (up_to j u) (up_to j t) n (λ i. late_valued t (Literal l Read) k j i (λ q y. absurd (true≢false (sym y)))) (subst (λ z. readable K m w (up_to j u) z ≡ true) num v)),
      )
      (literal_sensible l Read k known_l off_l (λ _. so))
      (λ a ok g.
      let r' : readable K m w (up_to k t) (number l) ≡ true = subst (λ v. readable K m w (up_to k t) v ≡ true) (sym num) (read_at K m w t n r) in
      let g' = agreed K m w d a t k (front (λ f. choice f.content ≡ true → f.level ≤ k → Keeps K m w d a f.content) t (record { content = Literal l Read; level = k }) g) in
      kept_reading K m w L a d (up_to k t) l (ok.0.1, ok.0.2) h.positive g' r'
      ∙ sym (by_values_moved K m w L d (up_to k t) t l h.positive (up_to_weaken (λ f. Given (numerators K m t) d d f.content) k t (gives_own K m w (w + K.atoms m) d t h.apart h.known)) r')
      ∙ so)
    where
      l : ℤ
      l = reading K m w d t n

      k : ℕ
      k = reading_level K m w t n

      u : List Entry
      u = enter t (Literal l Read) k

      both_made : (number l ≡ n) × (by_values K m w d t l ≡ true)
      both_made = made n (λ x. K.truth m (x - w) (numerators K m t) d) (within_true (w + K.atoms m) n kn).0

      num : number l ≡ n
      num = both_made.0

      so : by_values K m w d t l ≡ true
      so = both_made.1

      known_l : within (w + K.atoms m) (number l) ≡ true
      known_l = subst (λ v. within (w + K.atoms m) v ≡ true) (sym num) kn

      off_l : taken (number l) t ≡ false
      off_l = subst (λ v. taken v t ≡ false) (sym num) off
