-- Every state that the calls lead to keeps its bounds, its reasons and its levels.
use Rattle.std.proofs.Common.{◌≡◌, ℕ, ◌+◌, ◌-◌, ◌≤◌, Bool, true, false, not, ◌||◌, eqb, ltb, leb, List, [], ◌∷◌, ◌++◌, length, ℤ, neg_ℤ, sym, refl, ap, ◌∙◌, subst, ⊎_elim, append_assoc, arith, length-append}
use Rattle.std.specs.List.{AllByRecursion}
use Rattle.std.proofs.ByRecursion.{All-push, All-weaker}
use Rattle.std.proofs.lemmas.Bool.{true≢false, both_ways, and_parts, and_from, or_cases, or_left, not-true, cases_Bool, cases_lt, ltb-true, leb-true, cond-true, cond-false, cond_both}
use Rattle.calculus.specs.Lists.{every, some}
use Rattle.calculus.specs.Limits.{most_numbers, most_clauses, most_literals, most_measures, most_numerator, most_denominator, within, sized}
use Rattle.calculus.specs.Literals.{same, number, distinct, clause_like, holds_literal}
use Rattle.calculus.specs.Calls.{Call}
use Rattle.calculus.specs.Calls.Call.{Counts, Declare, Admit, Rule, Seal, Lemma, Choose, Set, Propagate, Read, Conflict, Resolve, Jump, Concede, Claim, Abandon}
use Rattle.calculus.specs.Kinds.{Kind, Lawful}
use Rattle.calculus.specs.Trails.{Content, Entry, reason, false_on, choices, up_to, enter, reading_level}
use Rattle.calculus.specs.Trails.Origin.{Chosen, Propagated, Read as AsRead}
use Rattle.calculus.specs.Trails.Content.{Value, Literal}
use Rattle.calculus.specs.States.{Phase, Stored, State, is_new, is_drafting, is_searching, is_analysing, clause, fresh}
use Rattle.calculus.specs.States.Phase.{New, Drafting, Searching, Analysing, Closed}
use Rattle.calculus.specs.Steps.{others, others_false, literal_on, resolvent, top_of, denial, with_model, with_clause, with_trail, forced, split, step, after, run}
use Rattle.calculus.specs.Bounds.{ClauseUpTo, ContentUpTo, Reasoned, AllReasoned, ReadRight, EveryRunBounded}
use Rattle.calculus.proofs.Testing.{both, every_all}
use Rattle.calculus.proofs.Trailing.{up_to_append, up_to_twice, up_to_whole, up_to_weaken, has_whole}
use Rattle.calculus.proofs.Meaning.{Known, readable_more, read_at, not_below}
use Rattle.calculus.proofs.Invariant.{Placed, clause_before}
use Rattle.calculus.proofs.Models.{count_taken}
use Rattle.calculus.proofs.Entering.{clause_of}
use Rattle.calculus.proofs.Analysis.{others_below, reason_false}
use Rattle.calculus.proofs.Room.{room}
use Rattle.calculus.proofs.Stepping.{TakenSo, stepped}
use Rattle.calculus.proofs.Distinct.{resolvent_distinct}
use Rattle.calculus.proofs.Soundness.{Held, held, step_held, fresh_held, guaranteed, opened, last_clause}

-- the reasons after a clause more, on a trail with an entry more, and back at a level
reasoned_more : (store : List Stored) (r : Stored) (before : List Entry) (c : Content) (k : ℕ) → Reasoned store before c k → Reasoned (store ++ r ∷ []) before c k
reasoned_more store r before (Value j x) k h = tt
reasoned_more store r before (Literal l Chosen) k h = tt
reasoned_more store r before (Literal l (Propagated n)) k h =
    let q = clause_before store r n h.0 in
    (q.0, subst (λ ls. holds_literal l ls ≡ true) (sym q.1) h.1, subst (λ ls. others_false (up_to k before) l ls ≡ true) (sym q.1) h.2)
reasoned_more store r before (Literal l AsRead) k h = tt

all_reasoned_more : (store : List Stored) (r : Stored) (before t : List Entry) → AllReasoned store before t → AllReasoned (store ++ r ∷ []) before t
all_reasoned_more store r before [] h = tt
all_reasoned_more store r before (e ∷ t) h = (reasoned_more store r before e.content e.level h.0, all_reasoned_more store r (before ++ e ∷ []) t h.1)

all_reasoned_push : (store : List Stored) (before t : List Entry) (e : Entry) → AllReasoned store before t → Reasoned store (before ++ t) e.content e.level → AllReasoned store before (t ++ e ∷ [])
all_reasoned_push store before [] e h n = (subst (λ u. Reasoned store u e.content e.level) (append-nil before) n, tt)
  where
    append-nil : (u : List Entry) → u ++ [] ≡ u
    append-nil [] = refl
    append-nil (f ∷ u) = ap (λ v. f ∷ v) (append-nil u)
all_reasoned_push store before (f ∷ t) e h n = (h.0, all_reasoned_push store (before ++ f ∷ []) t e h.1 (subst (λ u. Reasoned store u e.content e.level) (sym (append_assoc before (f ∷ []) t)) n))

reasoned_up_to : (store : List Stored) (before : List Entry) (n : ℕ) (c : Content) (k : ℕ) → k ≤ n → Reasoned store before c k → Reasoned store (up_to n before) c k
reasoned_up_to store before n (Value j x) k l h = tt
reasoned_up_to store before n (Literal q Chosen) k l h = tt
reasoned_up_to store before n (Literal q (Propagated c)) k l h = (h.0, h.1, subst (λ u. others_false u q (clause store c) ≡ true) (sym (up_to_twice k n before l)) h.2)
reasoned_up_to store before n (Literal q AsRead) k l h = tt

all_reasoned_up_to : (store : List Stored) (before t : List Entry) (n : ℕ) → AllReasoned store before t → AllReasoned store (up_to n before) (up_to n t)
all_reasoned_up_to store before [] n h = tt
all_reasoned_up_to store before (e ∷ t) n h =
    let rest = all_reasoned_up_to store (before ++ e ∷ []) t n h.1 in
    cond_both (leb e.level n) (e ∷ up_to n t) (up_to n t) (AllReasoned store (up_to n before))
    (λ q. (
      reasoned_up_to store before n e.content e.level (leb-true e.level n q) h.0,
      subst (λ u. AllReasoned store u (up_to n t)) (up_to_append n before e ∙ ap (λ u. up_to n before ++ u) (cond-true (leb e.level n) (e ∷ []) [] q)) rest,
    ))
    (λ q. subst (λ u. AllReasoned store u (up_to n t)) (up_to_append n before e ∙ ap (λ u. up_to n before ++ u) (cond-false (leb e.level n) (e ∷ []) [] q) ∙ append-nil (up_to n before)) rest)
  where
    append-nil : (u : List Entry) → u ++ [] ≡ u
    append-nil [] = refl
    append-nil (f ∷ u) = ap (λ v. f ∷ v) (append-nil u)

-- phases exclude each other
new_open : (p : Phase) → is_new p ≡ true → is_analysing p ≡ false
new_open New h = refl
new_open Drafting h = refl
new_open Searching h = refl
new_open Analysing h = absurd (true≢false (sym h))
new_open (Closed v) h = refl

drafting_open : (p : Phase) → is_drafting p ≡ true → is_analysing p ≡ false
drafting_open New h = refl
drafting_open Drafting h = refl
drafting_open Searching h = refl
drafting_open Analysing h = absurd (true≢false (sym h))
drafting_open (Closed v) h = refl

abbrev SizedValue : Content → Type 0
SizedValue (Value j x) = sized most_numerator x ≡ true
SizedValue (Literal l o) = Unit {0}

-- what the bounds need beyond what soundness keeps
record Tame (K : Kind) (s : State K) : Type 0 where
  pub few_numbers : s.numbers ≤ most_numbers
  pub few_measures : K.measures s.model ≤ most_measures
  pub few_clauses : length s.clauses ≤ most_clauses
  pub each_clause : AllByRecursion (λ r. clause_like r.literals ≡ true) s.clauses
  pub open_clause : clause_like s.open_clause ≡ true
  pub no_open : is_analysing s.phase ≡ false → s.open_clause ≡ []
  pub denominator : within most_denominator s.denominator ≡ true
  pub values : AllByRecursion (λ e. SizedValue e.content) s.trail
  pub reasons : AllReasoned s.clauses [] s.trail

module _ (K : Kind) (L : Lawful K) where
  -- a clause more
  with_clause_tame : (s : State K) → Tame K s → (ls : List ℤ) (b : Bool) → ltb (length s.clauses) most_clauses ≡ true → clause_like ls ≡ true → Tame K (with_clause K s ls b)
  with_clause_tame s h ls b room' like =
      let e = length-append s.clauses (record { literals = ls; rule = b } ∷ []) in
      let q = ltb-true (length s.clauses) most_clauses room' in
      record {
        few_numbers = h.few_numbers;
        few_measures = h.few_measures;
        few_clauses = omega arith;
        each_clause = All-push (λ r. clause_like r.literals ≡ true) s.clauses (record { literals = ls; rule = b }) h.each_clause like;
        open_clause = h.open_clause;
        no_open = h.no_open;
        denominator = h.denominator;
        values = h.values;
        reasons = all_reasoned_more s.clauses (record { literals = ls; rule = b }) [] s.trail h.reasons;
      }

  -- an entry more
  with_entry_tame : (s : State K) → Tame K s → (c : Content) (k : ℕ) → SizedValue c → Reasoned s.clauses s.trail c k → Tame K (with_trail K s (enter s.trail c k))
  with_entry_tame s h c k v r = record {
    few_numbers = h.few_numbers;
    few_measures = h.few_measures;
    few_clauses = h.few_clauses;
    each_clause = h.each_clause;
    open_clause = h.open_clause;
    no_open = h.no_open;
    denominator = h.denominator;
    values = All-push (λ e. SizedValue e.content) s.trail (record { content = c; level = k }) h.values v;
    reasons = all_reasoned_push s.clauses [] s.trail (record { content = c; level = k }) h.reasons r;
  }

  -- another model
  with_model_tame : (s : State K) → Tame K s → (n : K.Model) (k : ℕ) → (is_drafting s.phase || is_searching s.phase) ≡ true → k ≤ most_numbers → K.measures n ≡ K.measures s.model
      → Tame K (record { phase = s.phase; switches = s.switches; numbers = k; denominator = s.denominator; model = n; clauses = s.clauses; trail = s.trail; open_clause = s.open_clause })
  with_model_tame s h n k p b e = record {
    few_numbers = b;
    few_measures = let z = h.few_measures in omega arith;
    few_clauses = h.few_clauses;
    each_clause = h.each_clause;
    open_clause = h.open_clause;
    no_open = h.no_open;
    denominator = h.denominator;
    values = h.values;
    reasons = h.reasons;
  }

  -- back at a level, with the open clause stored and an entry more
  resumed_tame : (s : State K) → Tame K s → (k : ℕ) (c : Content) (j : ℕ) → ltb (length s.clauses) most_clauses ≡ true → SizedValue c
      → Reasoned (s.clauses ++ record { literals = s.open_clause; rule = false } ∷ []) (up_to k s.trail) c j
      → Tame K (with_trail K (Rattle.calculus.specs.Steps.resumed K s k) (enter (up_to k s.trail) c j))
  resumed_tame s h k c j room' v r =
      with_entry_tame (Rattle.calculus.specs.Steps.resumed K s k)
      (with_clause_tame (with_trail K (Rattle.calculus.specs.Steps.turned K s Searching []) (up_to k s.trail))
      (record {
        few_numbers = h.few_numbers;
        few_measures = h.few_measures;
        few_clauses = h.few_clauses;
        each_clause = h.each_clause;
        open_clause = refl;
        no_open = λ _. refl;
        denominator = h.denominator;
        values = up_to_weaken (λ e. SizedValue e.content) k s.trail h.values;
        reasons = all_reasoned_up_to s.clauses [] s.trail k h.reasons;
      }) s.open_clause false room' h.open_clause) c j v r

  closed_tame : (s : State K) → Tame K s → (p : Phase) → is_new p ≡ false → Tame K (Rattle.calculus.specs.Steps.turned K s p [])
  closed_tame s h p q = record {
    few_numbers = h.few_numbers;
    few_measures = h.few_measures;
    few_clauses = h.few_clauses;
    each_clause = h.each_clause;
    open_clause = refl;
    no_open = λ _. refl;
    denominator = h.denominator;
    values = h.values;
    reasons = h.reasons;
  }

  analysing_tame : (s : State K) → Tame K s → (ls : List ℤ) → clause_like ls ≡ true → Tame K (Rattle.calculus.specs.Steps.turned K s Analysing ls)
  analysing_tame s h ls like = record {
    few_numbers = h.few_numbers;
    few_measures = h.few_measures;
    few_clauses = h.few_clauses;
    each_clause = h.each_clause;
    open_clause = like;
    no_open = λ y. absurd (true≢false y);
    denominator = h.denominator;
    values = h.values;
    reasons = h.reasons;
  }

  tame_by_step : (s : State K) → Held K s → Tame K s → (c : Call) → TakenSo K (λ o. Tame K o.1) s c
  tame_by_step s held' h (Counts w t) = λ p b n e.
      let q = count_taken K L s.model t n e in
      record {
        few_numbers = leb-true w most_numbers b;
        few_measures = q.0;
        few_clauses = h.few_clauses;
        each_clause = h.each_clause;
        open_clause = h.open_clause;
        no_open = λ _. h.no_open (new_open s.phase p);
        denominator = h.denominator;
        values = h.values;
        reasons = h.reasons;
      }
  tame_by_step s held' h (Declare body) = λ p n e.
      let q = L.declaring s.model body n e in
      with_model_tame s h n s.numbers (or_left (is_drafting s.phase) (is_searching s.phase) p) h.few_numbers q.measures
  tame_by_step s held' h (Admit body) = λ p b n e.
      let q = L.admitting s.model body n e in
      let z = ltb-true s.numbers most_numbers b in
      with_model_tame s h n (s.numbers + 1) p (omega arith) q.measures
  tame_by_step s held' h (Rule ls) = λ _ r _ like _. with_clause_tame s h ls true r like
  tame_by_step s held' h (Seal d) = λ p b. record {
    few_numbers = h.few_numbers;
    few_measures = h.few_measures;
    few_clauses = h.few_clauses;
    each_clause = h.each_clause;
    open_clause = h.open_clause;
    no_open = λ _. h.no_open (drafting_open s.phase p);
    denominator = b;
    values = h.values;
    reasons = h.reasons;
  }
  tame_by_step s held' h (Lemma ls hint) = λ _ r _ like _ _. with_clause_tame s h ls false r like
  tame_by_step s held' h (Choose l) = λ _ _ _ _ _. with_entry_tame s h (Literal l Chosen) (choices s.trail + 1) tt tt
  tame_by_step s held' h (Set j x) = λ _ b _ _. with_entry_tame s h (Value j x) (choices s.trail + 1) (and_parts (within (K.measures s.model) j) (sized most_numerator x) b).1 tt
  tame_by_step s held' h (Propagate c l) = λ _ _ kn _ _ un.
      let k = and_parts (within (length s.clauses) c) (within s.numbers (number l)) kn in
      let u = and_parts (holds_literal l (clause s.clauses c)) (others_false s.trail l (clause s.clauses c)) un in
      with_entry_tame s h (Literal l (Propagated c)) (choices s.trail) tt
      (k.0, u.0, subst (λ v. others_false v l (clause s.clauses c) ≡ true) (sym (up_to_whole (choices s.trail) s.trail held'.core.levels)) u.1)
  tame_by_step s held' h (Read n) = λ _ _ _ _. with_entry_tame s h _ _ tt tt
  tame_by_step s held' h (Conflict c) = λ _ there _. analysing_tame s h _ (clause_of (λ ls. clause_like ls ≡ true) s.clauses c there h.each_clause)
  tame_by_step s held' h (Resolve n) = λ p _ q short.
      let ls = s.open_clause in
      let l = literal_on n ls in
      let because = reason (denial K s l).content in
      let k = and_parts (some (λ k. eqb (number k) n) ls) (ltb 0 because) q in
      let o = opened K L s held' p in
      let r = reason_false K s.model s.switches s.denominator s.clauses s.trail held'.core n ls o k.0 (ltb-true 0 because k.1) in
      let like = clause_of (λ x. clause_like x ≡ true) s.clauses because r.0 h.each_clause in
      analysing_tame s h (resolvent l ls (clause s.clauses because))
      (and_from (leb (length (resolvent l ls (clause s.clauses because))) most_literals) (distinct (resolvent l ls (clause s.clauses because))) short
      (resolvent_distinct s.trail (guaranteed K L s held').no_denial l ls (clause s.clauses because)
      (and_parts (leb (length ls) most_literals) (distinct ls) h.open_clause).1
      (and_parts (leb (length (clause s.clauses because)) most_literals) (distinct (clause s.clauses because)) like).1
      (every_all (false_on s.trail) ls o.0)
      (All-weaker (λ i. (same i (neg_ℤ l) || false_on s.trail i) ≡ true) (λ i. not (same i (neg_ℤ l)) ≡ true → false_on s.trail i ≡ true)
      (λ i x y. ⊎_elim (λ z. absurd (both_ways (same i (neg_ℤ l)) (not-true (same i (neg_ℤ l)) y) z)) (λ z. z) (or_cases (same i (neg_ℤ l)) (false_on s.trail i) x))
      (clause s.clauses because) (every_all (λ i. same i (neg_ℤ l) || false_on s.trail i) (clause s.clauses because) r.1))))
  tame_by_step s held' h (Jump l) = λ p r _ _ il _.
      let next = top_of K s (others l s.open_clause) in
      let q = last_clause s.clauses (record { literals = s.open_clause; rule = false }) in (
        λ _. resumed_tame s h next (Literal l (Propagated (length s.clauses + 1))) next r tt (
          q.0,
          subst (λ ls. holds_literal l ls ≡ true) (sym q.1) il,
          subst (λ ls. others_false (up_to next (up_to next s.trail)) l ls ≡ true) (sym q.1)
              (subst (λ v. others_false v l s.open_clause ≡ true) (sym (up_to_twice next next s.trail (omega arith)))
              (others_below K s.model s.switches s.denominator s.clauses s.trail held'.core l s.open_clause (opened K L s held' p).0)),
        ),
        λ _ _. resumed_tame s h (top_of K s s.open_clause - 1) (Literal l Chosen) _ r tt tt,
      )
  tame_by_step s held' h Concede = λ _ _. closed_tame s h _ refl
  tame_by_step s held' h Claim = λ _ _ _ _. closed_tame s h _ refl
  tame_by_step s held' h Abandon = λ _. closed_tame s h _ refl

  after_tame : (s : State K) → Held K s → Tame K s → (cs : List Call) → Tame K (after K s cs)
  after_tame s held' h [] = h
  after_tame s held' h (c ∷ cs) = after_tame (step K s c).1 (step_held K L s held' c) (stepped K (λ o. Tame K o.1) s (λ _. h) c (tame_by_step s held' h c)) cs

  fresh_tame : Tame K (fresh K)
  fresh_tame = record {
    few_numbers = omega arith;
    few_measures = let z = L.no_measures in omega arith;
    few_clauses = omega arith;
    each_clause = tt;
    open_clause = refl;
    no_open = λ _. refl;
    denominator = refl;
    values = tt;
    reasons = tt;
  }

  content_known : (n t : ℕ) (c : Content) → Known n t c → SizedValue c → ContentUpTo n t c
  content_known n t (Value j x) k v = (k, v)
  content_known n t (Literal l o) k v = k

  -- what was read stands at the highest level of its measures
  read_right : (s : State K) → Held K s → (c : Content) (k : ℕ) → Placed K s.model s.switches s.clauses s.trail c k → ReadRight K s.model s.switches s.trail c k
  read_right s h (Value j x) k p = tt
  read_right s h (Literal l Chosen) k p = tt
  read_right s h (Literal l (Propagated c)) k p = tt
  read_right s h (Literal l AsRead) k p =
      let whole = readable_more K s.model s.switches (up_to k s.trail) s.trail (number l) (λ j. has_whole _ k s.trail) p.0 in
      let level = reading_level K s.model s.switches s.trail (number l) in (
        whole,
        ⊎_elim (λ y. absurd (not_below K s.model s.switches s.trail (number l) k h.core.apart y p.0))
            (λ y. ⊎_elim (λ z. absurd (p.1 level z (read_at K s.model s.switches s.trail (number l) whole))) (λ z. omega arith) (cases_lt level k)) (cases_lt k level),
      )

  pub bounded : EveryRunBounded K
  bounded cs = record {
    numbers_are = h.counted;
    few_numbers = t.few_numbers;
    few_measures = t.few_measures;
    few_clauses = t.few_clauses;
    each_clause = both (λ r. clause_like r.literals ≡ true) (λ r. every (λ l. within s.numbers (number l)) r.literals ≡ true) (λ r. ClauseUpTo s.numbers r.literals) (λ r x y. (x, y)) s.clauses t.each_clause (subst (λ n. AllByRecursion (λ r. every (λ l. within n (number l)) r.literals ≡ true) s.clauses) (sym h.counted) h.core.rows_known);
    open_clause = (t.open_clause, ⊎_elim (λ y. subst (λ n. every (λ l. within n (number l)) s.open_clause ≡ true) (sym h.counted) (opened K L s h y).1) (λ y. subst (λ ls. every (λ l. within s.numbers (number l)) ls ≡ true) (sym (t.no_open y)) refl) (cases_Bool (is_analysing s.phase)));
    no_open = t.no_open;
    denominator = t.denominator;
    short_trail = room s.numbers (K.measures s.model) s.trail h.core.apart known;
    each_entry = both (λ e. Known s.numbers (K.measures s.model) e.content) (λ e. SizedValue e.content) (λ e. ContentUpTo s.numbers (K.measures s.model) e.content) (λ e. content_known s.numbers (K.measures s.model) e.content) s.trail known t.values;
    levels = h.core.levels;
    choice_levels = h.core.numbered;
    reasons = t.reasons;
    readings = All-weaker (λ e. Placed K s.model s.switches s.clauses s.trail e.content e.level) (λ e. ReadRight K s.model s.switches s.trail e.content e.level) (λ e. read_right s h e.content e.level) s.trail h.core.placed;
  }
    where
      s : State K
      s = run K cs

      h : Held K s
      h = held K L cs

      t : Tame K s
      t = after_tame (fresh K) (fresh_held K L) fresh_tame cs

      known : AllByRecursion (λ e. Known s.numbers (K.measures s.model) e.content) s.trail
      known = subst (λ n. AllByRecursion (λ e. Known n (K.measures s.model) e.content) s.trail) (sym h.counted) h.core.known
