-- A new model: what is said of the old atoms stays.
use Rattle.std.proofs.Common.{◌≡◌, ℕ, ◌+◌, ◌-◌, ◌<◌, ◌≤◌, true, false, cond, not, ◌&&◌, ◌||◌, ltb, leb, ◌⊎◌, List, [], ◌∷◌, map, ℤ, Ok, sym, refl, ap, ◌∙◌, subst, inl, inr, ⊎_elim, arith}
use Rattle.std.specs.List.{range_with_len, AllByRecursion}
use Rattle.std.proofs.ByRecursion.{All-weaker}
use Rattle.std.proofs.lemmas.Bool.{and_parts, and_from, and_left, lt-ltb, le-leb, ltb-true, leb-false, cases_Bool, cases_lt, cond-true}
use Rattle.faults.specs.declared.TheoryFault.{TheoryFault}
use Rattle.calculus.specs.Lists.{every, nth}
use Rattle.calculus.specs.Literals.{number, signed}
use Rattle.calculus.specs.Limits.{most_measures, within}
use Rattle.calculus.specs.Kinds.{Kind, Lawful, Whole, OneMore, Narrower}
use Rattle.calculus.specs.Trails.{Content, Entry, choice, valued, value, up_to, readable, numerators, by_values}
use Rattle.calculus.specs.Trails.Origin.{Chosen, Propagated, Read}
use Rattle.calculus.specs.Trails.Content.{Value, Literal}
use Rattle.calculus.specs.Arrangements.{Arrangement}
use Rattle.calculus.specs.States.{Stored, holds, meets}
use Rattle.calculus.specs.Sound.{Keeps}
use Rattle.calculus.proofs.Testing.{both, within_true, signed_ap}
use Rattle.calculus.proofs.Meaning.{Known, readable_parts}
use Rattle.calculus.proofs.Invariant.{Admissible, Agrees, Placed, Sensible, Core}

-- n says of m's atoms what m says, and admits no more
pub record Extends (K : Kind) (m n : K.Model) : Type 0 where
  pub atoms : K.atoms m ≤ K.atoms n
  pub measures : K.measures n ≡ K.measures m
  pub mentioned : (a : ℕ) → 0 < a → a ≤ K.atoms m → K.mentioned n a ≡ K.mentioned m a
  pub truth : (a : ℕ) → 0 < a → a ≤ K.atoms m → K.truth n a ≡ K.truth m a
  pub admitted : (xs : List ℤ) (d : ℕ) → Whole K m xs d → K.admitted n xs d ≡ Ok tt → K.admitted m xs d ≡ Ok tt

pub one_more_extends : (K : Kind) (m n : K.Model) → OneMore K m n → Extends K m n
one_more_extends K m n h = record {
  atoms = let z = h.atoms in omega arith;
  measures = h.measures;
  mentioned = h.mentioned;
  truth = h.truth;
  admitted = λ xs d wh y. sym (ap (λ f. f xs d) h.admitted) ∙ y;
}

pub narrower_extends : (K : Kind) (m n : K.Model) → Narrower K m n → Extends K m n
narrower_extends K m n h = record {
  atoms = let z = h.atoms in omega arith;
  measures = h.measures;
  mentioned = λ a p l. ap (λ f. f a) h.mentioned;
  truth = λ a p l. ap (λ f. f a) h.truth;
  admitted = h.admitted;
}

module _ (K : Kind) (m n : K.Model) (E : Extends K m n) (w : ℕ) where
  below : (x : ℕ) → within (w + K.atoms m) x ≡ true → x - w ≤ K.atoms m
  below x h = let b = (within_true (w + K.atoms m) x h).1 in omega arith

  within_more : (x : ℕ) → within (w + K.atoms m) x ≡ true → within (w + K.atoms n) x ≡ true
  within_more x h = let b = within_true (w + K.atoms m) x h in let b0 = b.0 in let b1 = b.1 in let z = E.atoms in and_from (ltb 0 x) (leb x (w + K.atoms n)) (lt-ltb 0 x b0) (le-leb x (w + K.atoms n) (omega arith))

  all_within_more : (ls : List ℤ) → every (λ l. within (w + K.atoms m) (number l)) ls ≡ true → every (λ l. within (w + K.atoms n) (number l)) ls ≡ true
  all_within_more [] h = refl
  all_within_more (l ∷ ls) h =
      let p = and_parts (within (w + K.atoms m) (number l)) (every (λ k. within (w + K.atoms m) (number k)) ls) h in
      and_from (within (w + K.atoms n) (number l)) (every (λ k. within (w + K.atoms n) (number k)) ls) (within_more (number l) p.0) (all_within_more ls p.1)

  readable_kept : (t : List Entry) (x : ℕ) → within (w + K.atoms m) x ≡ true → readable K n w t x ≡ readable K m w t x
  readable_kept t x h =
      ⊎_elim
      (λ y. let l = ltb-true w x y in
      ap (λ f. ltb w x && every (λ j. not (f j) || valued j t) (range_with_len 1 (K.measures n))) (E.mentioned (x - w) (omega arith) (below x h))
      ∙ ap (λ c. ltb w x && every (λ j. not (K.mentioned m (x - w) j) || valued j t) (range_with_len 1 c)) E.measures)
      (λ y. and_left (ltb w x) (every (λ j. not (K.mentioned n (x - w) j) || valued j t) (range_with_len 1 (K.measures n))) y ∙ sym (and_left (ltb w x) (every (λ j. not (K.mentioned m (x - w) j) || valued j t) (range_with_len 1 (K.measures m))) y))
      (cases_Bool (ltb w x))

  by_values_kept : (d : ℕ) (t : List Entry) (l : ℤ) → within (w + K.atoms m) (number l) ≡ true → w < number l → by_values K n w d t l ≡ by_values K m w d t l
  by_values_kept d t l h p =
      signed_ap l (λ x. K.truth n (x - w) (numerators K n t) d) (λ x. K.truth m (x - w) (numerators K m t) d)
      (ap (λ f. f (numerators K n t) d) (E.truth (number l - w) (omega arith) (below (number l) h)) ∙ ap (λ c. K.truth m (number l - w) (map (λ j. value j t) (range_with_len 1 c)) d) E.measures)

  literal_kept : (a : Arrangement) (l : ℤ) → within (w + K.atoms m) (number l) ≡ true → signed l (holds K n w a) ≡ signed l (holds K m w a)
  literal_kept a l h =
      signed_ap l (holds K n w a) (holds K m w a)
      (⊎_elim
      (λ y. cond-true (leb (number l) w) (nth false a.switches (number l)) (K.truth n (number l - w) a.numerators a.denominator) y ∙ sym (cond-true (leb (number l) w) (nth false a.switches (number l)) (K.truth m (number l - w) a.numerators a.denominator) y))
      (λ y. let p = leb-false (number l) w y in ap (λ f. cond (leb (number l) w) (nth false a.switches (number l)) (f a.numerators a.denominator)) (E.truth (number l - w) (omega arith) (below (number l) h)))
      (cases_Bool (leb (number l) w)))

  meets_kept : (a : Arrangement) (ls : List ℤ) → every (λ l. within (w + K.atoms m) (number l)) ls ≡ true → meets K n w a ls ≡ meets K m w a ls
  meets_kept a [] h = refl
  meets_kept a (l ∷ ls) h =
      let p = and_parts (within (w + K.atoms m) (number l)) (every (λ k. within (w + K.atoms m) (number k)) ls) h in
      ap (λ b. b || meets K n w a ls) (literal_kept a l p.0) ∙ ap (λ b. signed l (holds K m w a) || b) (meets_kept a ls p.1)

  ok_back : (rows : List Stored) (a : Arrangement) → AllByRecursion (λ r. every (λ l. within (w + K.atoms m) (number l)) r.literals ≡ true) rows → Admissible K n w rows a → Admissible K m w rows a
  ok_back rows a kn h =
      let fit = (h.0.1 ∙ E.measures) in (
        (h.0.0, fit, h.0.2),
        E.admitted a.numerators a.denominator (fit, h.0.2) h.1,
        both (λ r. every (λ l. within (w + K.atoms m) (number l)) r.literals ≡ true) (λ r. r.rule ≡ true → meets K n w a r.literals ≡ true) (λ r. r.rule ≡ true → meets K m w a r.literals ≡ true)
            (λ r q f y. sym (meets_kept a r.literals q) ∙ f y) rows kn h.2,
      )

  keeps_to : (d : ℕ) (a : Arrangement) (c : Content) → Known (w + K.atoms m) (K.measures m) c → Keeps K m w d a c → Keeps K n w d a c
  keeps_to d a (Value j x) kn h = h
  keeps_to d a (Literal l o) kn h = literal_kept a l kn ∙ h

  keeps_back : (d : ℕ) (a : Arrangement) (c : Content) → Known (w + K.atoms m) (K.measures m) c → Keeps K n w d a c → Keeps K m w d a c
  keeps_back d a (Value j x) kn h = h
  keeps_back d a (Literal l o) kn h = sym (literal_kept a l kn) ∙ h

  agrees_back : (d : ℕ) (a : Arrangement) (t : List Entry) (k : ℕ) → AllByRecursion (λ e. Known (w + K.atoms m) (K.measures m) e.content) t → Agrees K n w d a t k → Agrees K m w d a t k
  agrees_back d a t k kn h =
      both (λ e. Known (w + K.atoms m) (K.measures m) e.content) (λ e. choice e.content ≡ true → e.level ≤ k → Keeps K n w d a e.content) (λ e. choice e.content ≡ true → e.level ≤ k → Keeps K m w d a e.content)
      (λ e q f y z. keeps_back d a e.content q (f y z)) t kn h

  placed_kept : (rows : List Stored) (t : List Entry) (c : Content) (k : ℕ) → Known (w + K.atoms m) (K.measures m) c → Placed K m w rows t c k → Placed K n w rows t c k
  placed_kept rows t (Value j x) k kn h = tt
  placed_kept rows t (Literal l Chosen) k kn h = λ r. h (sym (readable_kept (up_to k t) (number l) kn) ∙ r)
  placed_kept rows t (Literal l (Propagated c)) k kn h = (λ r. h.0 (sym (readable_kept (up_to k t) (number l) kn) ∙ r), h.1, h.2)
  placed_kept rows t (Literal l Read) k kn h = (readable_kept (up_to k t) (number l) kn ∙ h.0, λ j b r. h.1 j b (sym (readable_kept (up_to j t) (number l) kn) ∙ r))

  sensible_kept : (d : ℕ) (t : List Entry) (c : Content) → Known (w + K.atoms m) (K.measures m) c → Sensible K m w d t c → Sensible K n w d t c
  sensible_kept d t (Value j x) kn h = tt
  sensible_kept d t (Literal l o) kn h = λ r. by_values_kept d t l kn (readable_parts K n w t (number l) r).0 ∙ h (sym (readable_kept t (number l) kn) ∙ r)

  known_kept : (c : Content) → Known (w + K.atoms m) (K.measures m) c → Known (w + K.atoms n) (K.measures n) c
  known_kept (Value j x) h = subst (λ c. within c j ≡ true) (sym E.measures) h
  known_kept (Literal l o) h = within_more (number l) h

  pub model_core : (d : ℕ) (rows : List Stored) (t : List Entry) → Core K m w d rows t → Core K n w d rows t
  model_core d rows t h = record {
    positive = h.positive;
    rows_known = All-weaker (λ r. every (λ l. within (w + K.atoms m) (number l)) r.literals ≡ true) (λ r. every (λ l. within (w + K.atoms n) (number l)) r.literals ≡ true) (λ r. all_within_more r.literals) rows h.rows_known;
    follow = λ a ok. both (λ r. every (λ l. within (w + K.atoms m) (number l)) r.literals ≡ true) (λ r. meets K m w a r.literals ≡ true) (λ r. meets K n w a r.literals ≡ true)
        (λ r q x. meets_kept a r.literals q ∙ x) rows h.rows_known (h.follow a (ok_back rows a h.rows_known ok));
    trail = λ a ok. both (λ e. Known (w + K.atoms m) (K.measures m) e.content) (λ e. Agrees K m w d a t e.level → Keeps K m w d a e.content) (λ e. Agrees K n w d a t e.level → Keeps K n w d a e.content)
        (λ e q f g. keeps_to d a e.content q (f (agrees_back d a t e.level h.known g))) t h.known (h.trail a (ok_back rows a h.rows_known ok));
    known = All-weaker (λ e. Known (w + K.atoms m) (K.measures m) e.content) (λ e. Known (w + K.atoms n) (K.measures n) e.content) (λ e. known_kept e.content) t h.known;
    apart = h.apart;
    levels = h.levels;
    numbered = h.numbered;
    placed = both (λ e. Known (w + K.atoms m) (K.measures m) e.content) (λ e. Placed K m w rows t e.content e.level) (λ e. Placed K n w rows t e.content e.level)
        (λ e. placed_kept rows t e.content e.level) t h.known h.placed;
    sensible = both (λ e. Known (w + K.atoms m) (K.measures m) e.content) (λ e. Sensible K m w d t e.content) (λ e. Sensible K n w d t e.content)
        (λ e. sensible_kept d t e.content) t h.known h.sensible;
  }

module _ (K : Kind) (L : Lawful K) where
  -- a count that was taken
  pub count_taken : (m : K.Model) (t : ℕ) (n : K.Model) → K.count m t ≡ inr n → (K.measures n ≤ most_measures) × (K.atoms n ≡ K.atoms m)
  count_taken m t n e =
      ⊎_elim (λ y. let q = L.count_again m t y in never (sym q.1 ∙ e))
      (λ y. ⊎_elim (λ l. let q = L.count_many m t y l in never (sym q.1 ∙ e))
      (λ l. let q = L.counting m t y l in
      let same : q.0 ≡ n = inr_same (sym q.1 ∙ e) in
      let a = q.2.measures in
      let b = L.few in
      (subst (λ i. K.measures i ≤ most_measures) same (omega arith), ap K.atoms (sym same) ∙ q.2.atoms)) (cases_lt K.most t)) (cases_Bool (K.counted m))
    where
      never : {A : Type 0} {f : TheoryFault} → inl f ≡ inr n → A
      never {A} {f} e = let z : ◌≡◌ {A = ℕ} 0 1 = cc in absurd (omega arith)

      inr_same : {i : K.Model} → ◌≡◌ {A = TheoryFault ⊎ K.Model} (inr i) (inr n) → i ≡ n
      inr_same {i} e = cc
