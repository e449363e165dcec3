-- Every state that the calls lead to keeps the guarantees.
use Rattle.std.proofs.Common.{◌≡◌, ℕ, zero, suc, ◌+◌, ◌-◌, ◌<◌, ◌≤◌, Bool, true, false, cond, not, ◌||◌, eqb, ltb, leb, List, [], ◌∷◌, ◌++◌, length, get_or, ℤ, pos, neg_ℤ, sym, refl, ap, ◌∙◌, subst, subst₂, ⊎_elim, arith, length-append}
use Rattle.std.specs.List.{AllByRecursion}
use Rattle.std.proofs.ByRecursion.{All-weaker}
use Rattle.std.proofs.lemmas.List.FromFn.{length-map-range_with_len}
use Rattle.std.proofs.lemmas.Bool.{true≢false, both_ways, and_parts, and_from, or_cases, or_left, or_right, not-true, ltb-true, lt-ltb, le-leb, eqb-true, cond-false, cond_both}
use Rattle.calculus.specs.Lists.{every, some, highest, nth}
use Rattle.calculus.specs.Literals.{number, signed, holds_literal}
use Rattle.calculus.specs.Limits.{most_denominator, most_numerator, sized, within}
use Rattle.calculus.specs.Kinds.{Kind, Lawful, some_atom}
use Rattle.calculus.specs.Arrangements.{Arrangement}
use Rattle.calculus.specs.Trails.{Content, Entry, affirms, concerns, values, reason, entry_for, on_trail, false_on, false_at, taken, valued, value, choices, up_to, enter, readable, by_values}
use Rattle.calculus.specs.Trails.Origin.{Propagated}
use Rattle.calculus.specs.Trails.Content.{Value, Literal}
use Rattle.calculus.specs.States.{State, Phase, Stored, fresh, is_new, is_drafting, is_searching, is_analysing, holds, meets, clause}
use Rattle.calculus.specs.Calls.{Call}
use Rattle.calculus.specs.Steps.{top_of, denial, with_trail, arranged, resumed, forced, split, others, others_false, literal_on, step, after, run}
use Rattle.calculus.specs.States.Phase.{New, Drafting, Searching, Analysing, Closed}
use Rattle.calculus.specs.States.Verdict.{Impossible, Possible, Undecided}
use Rattle.calculus.specs.Calls.Call.{Counts, Declare, Admit, Rule, Seal, Lemma, Choose, Set, Propagate, Read, Conflict, Resolve, Jump, Concede, Claim, Abandon}
use Rattle.calculus.specs.Sound.{Keeps, Guarantees, EveryRunSound}
use Rattle.calculus.proofs.Testing.{both, last, every_all, within_true, signed_ap, same_true, no_own_denial}
use Rattle.calculus.proofs.Trailing.{Exclusive, values_exclusive, concerns_exclusive, affirms_concerns, denies_concerns, found, first}
use Rattle.calculus.proofs.Meaning.{Known}
use Rattle.calculus.proofs.Invariant.{Admissible, Agrees, Sensible, Core, agrees_lower, clause_core, ok_before, up_to_core, count_up_to}
use Rattle.calculus.proofs.Models.{Extends, one_more_extends, narrower_extends, model_core, count_taken}
use Rattle.calculus.proofs.Entering.{clause_of, choose_core, force_core, set_core, read_core}
use Rattle.calculus.proofs.Stepping.{TakenSo, stepped}
use Rattle.calculus.proofs.Room.{one_passes}
use Rattle.calculus.proofs.Handing.{handed_out}
use Rattle.calculus.proofs.Analysis.{Opened, literal_of, resolve_opened, free_below, hidden_below, level_of_false, others_below, nothing_left}

-- what a phase adds
abbrev pub Phased : (K : Kind) → K.Model → ℕ → List Stored → List Entry → List ℤ → Phase → Type 0
Phased K m w rows t ls New = (rows ≡ []) × (t ≡ []) × (K.atoms m ≡ 0)
Phased K m w rows t ls Drafting = t ≡ []
Phased K m w rows t ls Searching = Unit {0}
Phased K m w rows t ls Analysing = Opened K m w rows t ls
Phased K m w rows t ls (Closed Impossible) = (a : Arrangement) → Admissible K m w rows a → ⊥
Phased K m w rows t ls (Closed (Possible a)) = Admissible K m w rows a
Phased K m w rows t ls (Closed Undecided) = Unit {0}

pub record Held (K : Kind) (s : State K) : Type 0 where
  pub core : Core K s.model s.switches s.denominator s.clauses s.trail
  pub phased : Phased K s.model s.switches s.clauses s.trail s.open_clause s.phase
  pub counted : s.numbers ≡ s.switches + K.atoms s.model

module _ (K : Kind) (m : K.Model) (w : ℕ) (rows : List Stored) (t : List Entry) (ls : List ℤ) where
  when_new : (p : Phase) → is_new p ≡ true → Phased K m w rows t ls p → (rows ≡ []) × (t ≡ []) × (K.atoms m ≡ 0)
  when_new New h x = x
  when_new Drafting h x = absurd (true≢false (sym h))
  when_new Searching h x = absurd (true≢false (sym h))
  when_new Analysing h x = absurd (true≢false (sym h))
  when_new (Closed v) h x = absurd (true≢false (sym h))

  when_drafting : (p : Phase) → is_drafting p ≡ true → Phased K m w rows t ls p → t ≡ []
  when_drafting New h x = absurd (true≢false (sym h))
  when_drafting Drafting h x = x
  when_drafting Searching h x = absurd (true≢false (sym h))
  when_drafting Analysing h x = absurd (true≢false (sym h))
  when_drafting (Closed v) h x = absurd (true≢false (sym h))

  drafting : (p : Phase) → is_drafting p ≡ true → t ≡ [] → Phased K m w rows t ls p
  drafting New h x = absurd (true≢false (sym h))
  drafting Drafting h x = x
  drafting Searching h x = absurd (true≢false (sym h))
  drafting Analysing h x = absurd (true≢false (sym h))
  drafting (Closed v) h x = absurd (true≢false (sym h))

  searching : (p : Phase) → is_searching p ≡ true → Phased K m w rows t ls p
  searching New h = absurd (true≢false (sym h))
  searching Drafting h = absurd (true≢false (sym h))
  searching Searching h = tt
  searching Analysing h = absurd (true≢false (sym h))
  searching (Closed v) h = absurd (true≢false (sym h))

  when_analysing : (p : Phase) → is_analysing p ≡ true → Phased K m w rows t ls p → Opened K m w rows t ls
  when_analysing New h x = absurd (true≢false (sym h))
  when_analysing Drafting h x = absurd (true≢false (sym h))
  when_analysing Searching h x = absurd (true≢false (sym h))
  when_analysing Analysing h x = x
  when_analysing (Closed v) h x = absurd (true≢false (sym h))

empty_core : (K : Kind) (m : K.Model) (w d : ℕ) → 0 < d → Core K m w d [] []
empty_core K m w d p = record {
  positive = p;
  rows_known = tt;
  follow = λ a ok. tt;
  trail = λ a ok. tt;
  known = tt;
  apart = tt;
  levels = tt;
  numbered = tt;
  placed = tt;
  sensible = tt;
}

-- with an empty trail any denominator will do
sealed_core : (K : Kind) (m : K.Model) (w d e : ℕ) (rows : List Stored) → 0 < e → Core K m w d rows [] → Core K m w e rows []
sealed_core K m w d e rows p h = record {
  positive = p;
  rows_known = h.rows_known;
  follow = h.follow;
  trail = λ a ok. tt;
  known = tt;
  apart = tt;
  levels = tt;
  numbered = tt;
  placed = tt;
  sensible = tt;
}

-- a vouched clause is met
vouched_met : (K : Kind) (m : K.Model) (w : ℕ) (a : Arrangement) (ls : List ℤ) → some_atom K m w a.numerators a.denominator ls ≡ true → meets K m w a ls ≡ true
vouched_met K m w a [] h = h
vouched_met K m w a (l ∷ ls) h =
    ⊎_elim
    (λ y. or_left (signed l (holds K m w a)) (meets K m w a ls)
    (cond_both (leb (number l) w) false (signed l (λ n. K.truth m (n - w) a.numerators a.denominator)) (λ b. b ≡ true → signed l (holds K m w a) ≡ true)
    (λ _ z. absurd (true≢false (sym z)))
    (λ q z. signed_ap l (holds K m w a) (λ n. K.truth m (n - w) a.numerators a.denominator) (cond-false (leb (number l) w) (nth false a.switches (number l)) (K.truth m (number l - w) a.numerators a.denominator) q) ∙ z) y))
    (λ y. or_right (signed l (holds K m w a)) (meets K m w a ls) (vouched_met K m w a ls y))
    (or_cases (cond (leb (number l) w) false (signed l (λ n. K.truth m (n - w) a.numerators a.denominator))) (some_atom K m w a.numerators a.denominator ls) h)

-- each stored clause is no rule or met, so each rule is met
pub rules_met : (K : Kind) (m : K.Model) (w : ℕ) (a : Arrangement) (rows : List Stored) → every (λ r. not r.rule || meets K m w a r.literals) rows ≡ true → AllByRecursion (λ r. r.rule ≡ true → meets K m w a r.literals ≡ true) rows
rules_met K m w a rows rs =
    All-weaker (λ r. (not r.rule || meets K m w a r.literals) ≡ true) (λ r. r.rule ≡ true → meets K m w a r.literals ≡ true)
    (λ r x g. ⊎_elim (λ z. absurd (both_ways r.rule (not-true r.rule z) g)) (λ z. z) (or_cases (not r.rule) (meets K m w a r.literals) x))
    rows (every_all (λ r. not r.rule || meets K m w a r.literals) rows rs)

pub last_clause : (rows : List Stored) (r : Stored) → (within (length (rows ++ r ∷ [])) (length rows + 1) ≡ true) × (clause (rows ++ r ∷ []) (length rows + 1) ≡ r.literals)
last_clause rows r =
    let e = length-append rows (r ∷ []) in (
      and_from (ltb 0 (length rows + 1)) (leb (length rows + 1) (length (rows ++ r ∷ []))) (lt-ltb 0 (length rows + 1) (omega arith)) (le-leb (length rows + 1) (length (rows ++ r ∷ [])) (omega arith)),
      ap (λ q. q.literals) (last_row rows (length rows + 1 - 1) (omega arith)),
    )
  where
    last_row : (xs : List Stored) (i : ℕ) → i ≡ length xs → get_or (xs ++ r ∷ []) i (record { literals = []; rule = false }) ≡ r
    last_row [] zero e = refl
    last_row [] (suc i) e = absurd (omega arith)
    last_row (x ∷ xs) zero e = absurd (omega arith)
    last_row (x ∷ xs) (suc i) e = last_row xs i (omega arith)

module _ (K : Kind) (L : Lawful K) where
  -- another model, with another count of numbers
  model_held : (s : State K) (n : K.Model) (k : ℕ) → Held K s → (is_drafting s.phase || is_searching s.phase) ≡ true → Extends K s.model n → k ≡ s.switches + K.atoms n
      → Held K (record { phase = s.phase; switches = s.switches; numbers = k; denominator = s.denominator; model = n; clauses = s.clauses; trail = s.trail; open_clause = s.open_clause })
  model_held s n k h p e c = record {
    counted = c;
    core = model_core K s.model n e s.switches s.denominator s.clauses s.trail h.core;
    phased = ⊎_elim
        (λ y. drafting K n s.switches s.clauses s.trail s.open_clause s.phase y (when_drafting K s.model s.switches s.clauses s.trail s.open_clause s.phase y h.phased))
        (λ y. searching K n s.switches s.clauses s.trail s.open_clause s.phase y)
        (or_cases (is_drafting s.phase) (is_searching s.phase) p);
  }

  trail_held : (s : State K) (t : List Entry) → Held K s → is_searching s.phase ≡ true → Core K s.model s.switches s.denominator s.clauses t → Held K (with_trail K s t)
  trail_held s t h p c = record { counted = h.counted; core = c; phased = searching K s.model s.switches s.clauses t s.open_clause s.phase p }

  pub opened : (s : State K) → Held K s → is_analysing s.phase ≡ true → Opened K s.model s.switches s.clauses s.trail s.open_clause
  opened s h p = when_analysing K s.model s.switches s.clauses s.trail s.open_clause s.phase p h.phased

  -- back to a level, with the open clause stored
  resumed_core : (s : State K) → Held K s → is_analysing s.phase ≡ true → (k : ℕ) → k ≤ choices s.trail → Core K s.model s.switches s.denominator (resumed K s k).clauses (up_to k s.trail)
  resumed_core s h p k b =
      clause_core K s.model s.switches s.denominator s.clauses (up_to k s.trail) s.open_clause false
      (up_to_core K s.model s.switches s.denominator L s.clauses s.trail k b h.core) (opened s h p).1
      (λ a ok. (opened s h p).2 a (ok_before K s.model s.switches s.denominator s.clauses (record { literals = s.open_clause; rule = false }) a ok))

  forced_held : (s : State K) (l : ℤ) → Held K s → is_analysing s.phase ≡ true → within (s.switches + K.atoms s.model) (number l) ≡ true → holds_literal l s.open_clause ≡ true
      → highest (false_at s.trail) (others l s.open_clause) < false_at s.trail l → Held K (forced K s l (highest (false_at s.trail) (others l s.open_clause)))
  forced_held s l h p kn il b = record {
    counted = h.counted;
    core = subst (λ i. Core K m w s.denominator rows' (enter (up_to k t) (Literal l (Propagated (length s.clauses + 1))) i)) count
        (force_core K L m w s.denominator rows' (up_to k t) (resumed_core s h p k low) (length s.clauses + 1) l kn
        (free_below K m w s.denominator s.clauses t h.core l k fl b) (hidden_below K m w s.denominator s.clauses t h.core l k fl b)
        (last_clause s.clauses (record { literals = s.open_clause; rule = false })).0
        (subst (λ q. others_false (up_to k t) l q ≡ true) (sym (last_clause s.clauses (record { literals = s.open_clause; rule = false })).1)
        (others_below K m w s.denominator s.clauses t h.core l s.open_clause (opened s h p).0)));
    phased = tt;
  }
    where
      m : K.Model
      m = s.model

      w : ℕ
      w = s.switches

      t : List Entry
      t = s.trail

      k : ℕ
      k = highest (false_at s.trail) (others l s.open_clause)

      rows' : List Stored
      rows' = (resumed K s k).clauses

      fl : false_on t l ≡ true
      fl = literal_of (λ q. false_on t q ≡ true) l s.open_clause (every_all (false_on t) s.open_clause (opened s h p).0) il

      low : k ≤ choices t
      low = let z = level_of_false K m w s.denominator s.clauses t h.core l in omega arith

      count : choices (up_to k t) ≡ k
      count = count_up_to K m w s.denominator s.clauses t k low h.core

  split_held : (s : State K) (l : ℤ) (k : ℕ) → Held K s → is_analysing s.phase ≡ true → within (s.switches + K.atoms s.model) (number l) ≡ true → holds_literal l s.open_clause ≡ true
      → k < false_at s.trail l → Held K (split K s l k)
  split_held s l k h p kn il b = record {
    counted = h.counted;
    core = choose_core K L m w s.denominator (resumed K s k).clauses (up_to k t) (resumed_core s h p k low) l kn
        (free_below K m w s.denominator s.clauses t h.core l k fl b) (hidden_below K m w s.denominator s.clauses t h.core l k fl b);
    phased = tt;
  }
    where
      m : K.Model
      m = s.model

      w : ℕ
      w = s.switches

      t : List Entry
      t = s.trail

      fl : false_on t l ≡ true
      fl = literal_of (λ q. false_on t q ≡ true) l s.open_clause (every_all (false_on t) s.open_clause (opened s h p).0) il

      low : k ≤ choices t
      low = let z = level_of_false K m w s.denominator s.clauses t h.core l in omega arith

  not_readable : (s : State K) (n : ℕ) → not (readable K s.model s.switches s.trail n) ≡ true → readable K s.model s.switches s.trail n ≡ true → ⊥
  not_readable s n nr = both_ways (readable K s.model s.switches s.trail n) (not-true (readable K s.model s.switches s.trail n) nr)

  -- a number in use is a switch or an atom
  in_use : (s : State K) → Held K s → (n : ℕ) → within s.numbers n ≡ true → within (s.switches + K.atoms s.model) n ≡ true
  in_use s h n e = subst (λ k. within k n ≡ true) h.counted e

  all_in_use : (s : State K) → Held K s → (ls : List ℤ) → every (λ l. within s.numbers (number l)) ls ≡ true → every (λ l. within (s.switches + K.atoms s.model) (number l)) ls ≡ true
  all_in_use s h ls e = subst (λ k. every (λ l. within k (number l)) ls ≡ true) h.counted e

  kept_by_step : (s : State K) → Held K s → (c : Call) → TakenSo K (λ o. Held K o.1) s c
  kept_by_step s h (Counts w t) = λ p _ n e.
      let x = when_new K s.model s.switches s.clauses s.trail s.open_clause s.phase p h.phased in
      let q = (count_taken K L s.model t n e).1 in
      let z = x.2 in
      record { core = subst₂ (λ r u. Core K n w s.denominator r u) (sym x.0) (sym x.1) (empty_core K n w s.denominator h.core.positive); phased = x.1; counted = omega arith }
  kept_by_step s h (Declare body) = λ p n e.
      let q = L.declaring s.model body n e in
      let a = q.atoms in
      let c = h.counted in
      model_held s n s.numbers h (or_left (is_drafting s.phase) (is_searching s.phase) p) (narrower_extends K s.model n q) (omega arith)
  kept_by_step s h (Admit body) = λ p _ n e.
      let q = L.admitting s.model body n e in
      let a = q.atoms in
      let c = h.counted in
      model_held s n (s.numbers + 1) h p (one_more_extends K s.model n q) (omega arith)
  kept_by_step s h (Rule ls) = λ p _ _ _ kn. record {
    counted = h.counted;
    core = clause_core K s.model s.switches s.denominator s.clauses s.trail ls true h.core (all_in_use s h ls kn)
        (λ a ok. last (λ r. r.rule ≡ true → meets K s.model s.switches a r.literals ≡ true) s.clauses (record { literals = ls; rule = true }) ok.2 refl);
    phased = drafting K s.model s.switches _ s.trail s.open_clause s.phase p (when_drafting K s.model s.switches s.clauses s.trail s.open_clause s.phase p h.phased);
  }
  kept_by_step s h (Seal d) = λ p b.
      let e = when_drafting K s.model s.switches s.clauses s.trail s.open_clause s.phase p h.phased in
      record {
        counted = h.counted;
        core = subst (λ u. Core K s.model s.switches d s.clauses u) (sym e) (sealed_core K s.model s.switches s.denominator d s.clauses (within_true most_denominator d b).0 (subst (λ u. Core K s.model s.switches s.denominator s.clauses u) e h.core));
        phased = tt;
      }
  kept_by_step s h (Lemma ls hint) = λ p _ _ _ kn v. record {
    counted = h.counted;
    core = clause_core K s.model s.switches s.denominator s.clauses s.trail ls false h.core (all_in_use s h ls kn)
        (λ a ok. vouched_met K s.model s.switches a ls (L.vouching s.model s.switches ls hint v a.numerators a.denominator (ok.0.1, ok.0.2) ok.1));
    phased = searching K s.model s.switches _ s.trail s.open_clause s.phase p;
  }
  kept_by_step s h (Choose l) = λ p _ kn off nr.
      trail_held s _ h p (choose_core K L s.model s.switches s.denominator s.clauses s.trail h.core l (in_use s h (number l) kn) (not-true (taken (number l) s.trail) off) (not_readable s (number l) nr))
  kept_by_step s h (Set j x) = λ p b off st.
      trail_held s _ h p (set_core K L s.model s.switches s.denominator s.clauses s.trail h.core j x (and_parts (within (K.measures s.model) j) (sized most_numerator x) b).0 (not-true (valued j s.trail) off) st)
  kept_by_step s h (Propagate c l) = λ p _ kn off nr un.
      let k = and_parts (within (length s.clauses) c) (within s.numbers (number l)) kn in
      trail_held s _ h p (force_core K L s.model s.switches s.denominator s.clauses s.trail h.core c l (in_use s h (number l) k.1) (not-true (taken (number l) s.trail) off) (not_readable s (number l) nr)
      k.0 (and_parts (holds_literal l (clause s.clauses c)) (others_false s.trail l (clause s.clauses c)) un).1)
  kept_by_step s h (Read n) = λ p kn off r. trail_held s _ h p (read_core K L s.model s.switches s.denominator s.clauses s.trail h.core n (in_use s h n kn) (not-true (taken n s.trail) off) r)
  kept_by_step s h (Conflict c) = λ p known f. record {
    counted = h.counted;
    core = h.core;
    phased = (f, clause_of (λ ls. every (λ l. within (s.switches + K.atoms s.model) (number l)) ls ≡ true) s.clauses c known h.core.rows_known, λ a ok. clause_of (λ ls. meets K s.model s.switches a ls ≡ true) s.clauses c known (h.core.follow a ok));
  }
  kept_by_step s h (Resolve n) = λ p _ q _.
      let because = reason (denial K s (literal_on n s.open_clause)).content in
      let k = and_parts (some (λ k. eqb (number k) n) s.open_clause) (ltb 0 because) q in
      record { counted = h.counted; core = h.core; phased = resolve_opened K s.model s.switches s.denominator s.clauses s.trail h.core n s.open_clause (opened s h p) k.0 (ltb-true 0 because k.1) }
  kept_by_step s h (Jump l) = λ p _ _ kn il q.
      let top = top_of K s s.open_clause in
      let next = top_of K s (others l s.open_clause) in
      let k = and_parts (ltb 0 top) (eqb (false_at s.trail l) top) q in
      let above : 0 < top = ltb-true 0 top k.0 in
      let at_top : false_at s.trail l ≡ top = eqb-true (false_at s.trail l) top k.1 in (
        λ y. forced_held s l h p (in_use s h (number l) kn) il (let v = ltb-true next top y in omega arith),
        λ _ _. split_held s l (top - 1) h p (in_use s h (number l) kn) il (omega arith),
      )
  kept_by_step s h Concede = λ p z.
      record { counted = h.counted; core = h.core; phased = nothing_left K s.model s.switches s.denominator s.clauses s.trail h.core s.open_clause (opened s h p) (eqb-true (top_of K s s.open_clause) 0 z) }
  kept_by_step s h Claim = λ p _ rs y. record {
    counted = h.counted;
    core = h.core;
    phased = (
      (length-map-range_with_len (λ n. on_trail (pos n) s.trail) 1 s.switches, length-map-range_with_len (λ j. value j s.trail) 1 (K.measures s.model), h.core.positive),
      y,
      rules_met K s.model s.switches (arranged K s) s.clauses rs,
    );
  }
  kept_by_step s h Abandon = λ _. record { counted = h.counted; core = h.core; phased = tt }

  pub step_held : (s : State K) → Held K s → (c : Call) → Held K (step K s c).1
  step_held s h c = stepped K (λ o. Held K o.1) s (λ _. h) c (kept_by_step s h c)

  pub after_held : (s : State K) → Held K s → (cs : List Call) → Held K (after K s cs)
  after_held s h [] = h
  after_held s h (c ∷ cs) = after_held (step K s c).1 (step_held s h c) cs

  pub guaranteed : (s : State K) → Held K s → Guarantees K s
  guaranteed s h = record {
    clauses_follow = h.core.follow;
    trail_follows = λ a ok k g. All-weaker (λ e. Agrees K m w d a t e.level → Keeps K m w d a e.content) (λ e. e.level ≤ k → Keeps K m w d a e.content) (λ e f l. f (agrees_lower K m w d a t e.level k l g)) t (h.core.trail a ok);
    no_denial = λ l p q.
        let U : Entry → Type 0 = λ e. Known (w + K.atoms m) (K.measures m) e.content × ((p : Content → Bool) → Exclusive p → p e.content ≡ true → entry_for p t ≡ e) in
        let us : AllByRecursion U t = both (λ e. Known (w + K.atoms m) (K.measures m) e.content) (λ e. (p : Content → Bool) → Exclusive p → p e.content ≡ true → entry_for p t ≡ e) U (λ e x y. (x, y)) t h.core.known (first t h.core.apart) in
        let x = found U (affirms l) t us p in
        let y = found U (affirms (neg_ℤ l)) t us q in
        let ex = x.0.1 (concerns (number l)) (concerns_exclusive (number l)) (affirms_concerns l (entry_for (affirms l) t).content x.1) in
        let ey = y.0.1 (concerns (number l)) (concerns_exclusive (number l)) (denies_concerns l (entry_for (affirms (neg_ℤ l)) t).content y.1) in
        not_two l (entry_for (affirms l) t).content x.1 (subst (λ e. affirms (neg_ℤ l) e.content ≡ true) (sym ey ∙ ex) y.1) x.0.0;
    one_value = λ j. one_passes (values j) (values_exclusive j) t h.core.apart;
    readable_true = λ l p r. let x = found (λ e. Sensible K m w d t e.content) (affirms l) t h.core.sensible p in sensed l (entry_for (affirms l) t).content x.1 x.0 r;
    impossible = λ e. subst (Phased K m w s.clauses t s.open_clause) e h.phased;
    possible = λ a e. subst (Phased K m w s.clauses t s.open_clause) e h.phased;
  }
    where
      m : K.Model
      m = s.model

      w : ℕ
      w = s.switches

      d : ℕ
      d = s.denominator

      t : List Entry
      t = s.trail

      not_two : (l : ℤ) (c : Content) → affirms l c ≡ true → affirms (neg_ℤ l) c ≡ true → Known (w + K.atoms m) (K.measures m) c → ⊥
      not_two l (Value j x) p q kn = true≢false (sym p)
      not_two l (Literal k o) p q kn =
          let e = same_true k l p in
          no_own_denial l (subst (λ i. 0 < number i) e (within_true (w + K.atoms m) (number k) kn).0) (sym e ∙ same_true k (neg_ℤ l) q)

      sensed : (l : ℤ) (c : Content) → affirms l c ≡ true → Sensible K m w d t c → readable K m w t (number l) ≡ true → by_values K m w d t l ≡ true
      sensed l (Value j x) p x' = absurd (true≢false (sym p))
      sensed l (Literal k o) p x = subst (λ i. readable K m w t (number i) ≡ true → by_values K m w d t i ≡ true) (same_true k l p) x

  pub fresh_held : Held K (fresh K)
  fresh_held = record { core = empty_core K K.begun 0 1 (omega arith); phased = (refl, refl, L.no_atoms); counted = let z = L.no_atoms in omega arith }

  pub held : (cs : List Call) → Held K (run K cs)
  held cs = after_held (fresh K) fresh_held cs

  pub sound : EveryRunSound K
  sound cs = (guaranteed (run K cs) (held cs), handed_out K cs)
