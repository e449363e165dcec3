-- A case that is taken to its end leaves what it states.
use Rattle.std.proofs.Common.{◌≡◌, ℕ, true, List, [], ◌∷◌, ◌++◌, map, ℤ, Ok, filter, sym, refl, ap, ◌∙◌, inr, ⊎_elim}
use Rattle.std.proofs.lemmas.List.Elements.{filter-append}
use Rattle.std.proofs.lemmas.List.{append-nil, append_assoc, map-append}
use Rattle.std.proofs.lemmas.Bool.{true≢false, or_cases}
use Rattle.calculus.specs.Calls.{Call}
use Rattle.calculus.specs.Calls.Call.{Counts, Declare, Admit, Rule, Seal, Lemma, Choose, Set, Propagate, Read, Conflict, Resolve, Jump, Concede, Claim, Abandon}
use Rattle.calculus.specs.Kinds.{Kind}
use Rattle.calculus.specs.Questions.{left}
use Rattle.calculus.specs.States.{Phase, Stored, State, fresh, is_new, is_drafting, is_searching}
use Rattle.calculus.specs.States.Phase.{New, Drafting, Searching, Analysing, Closed}
use Rattle.calculus.specs.Steps.{Reply, Outcome, step}
use Rattle.calculus.proofs.Stepping.{TakenSo}
use Rattle.files.specs.declared.records.FileKind.TheVariants.{Case}
use Rattle.files.specs.Records.{Entry, Reading, Ended, Then, read_file}
use Rattle.verdicts.specs.Outcomes.{take_file}
use Rattle.verdicts.specs.Stated.{switches_of, rules_of, theory_of, case_switches, case_theory, case_rules}
use Rattle.verdicts.proofs.Taking.{if_accepted, along}
use Rattle.verdicts.proofs.Writing.{OfCase, of_case}

-- the literals of the stored rules
abbrev pub rules_stored : List Stored → List (List ℤ)
rules_stored rows = map (λ r. r.literals) (filter (λ r. r.rule) rows)

rules_push : (rows : List Stored) (ls : List ℤ) (rs : List (List ℤ)) → rules_stored (rows ++ record { literals = ls; rule = true } ∷ []) ++ rs ≡ rules_stored rows ++ (ls ∷ rs)
rules_push rows ls rs =
    let r : Stored = record { literals = ls; rule = true } in
    ap (λ u. map (λ q. q.literals) u ++ rs) (filter-append (λ q. q.rule) rows (r ∷ []))
    ∙ ap (λ u. u ++ rs) (map-append (λ q. q.literals) (filter (λ q. q.rule) rows) (r ∷ []))
    ∙ append_assoc (rules_stored rows) (ls ∷ []) rs

new_not_drafting : {A : Type 0} (p : Phase) → is_new p ≡ true → is_drafting p ≡ true → A
new_not_drafting New n d = absurd (true≢false (sym d))
new_not_drafting Drafting n d = absurd (true≢false (sym n))
new_not_drafting Searching n d = absurd (true≢false (sym n))
new_not_drafting Analysing n d = absurd (true≢false (sym n))
new_not_drafting (Closed v) n d = absurd (true≢false (sym n))

new_not_searching : {A : Type 0} (p : Phase) → is_new p ≡ true → is_searching p ≡ true → A
new_not_searching New n d = absurd (true≢false (sym d))
new_not_searching Drafting n d = absurd (true≢false (sym n))
new_not_searching Searching n d = absurd (true≢false (sym n))
new_not_searching Analysing n d = absurd (true≢false (sym n))
new_not_searching (Closed v) n d = absurd (true≢false (sym n))

-- From s the rest of a case leads to t: to these switches if s is new, and to those of s if it is drafting, since counts
-- are taken once and before all else; to this theory; and to these rules after those of s.
record Leads (K : Kind) (s t : State K) (w : ℕ) (m : K.Model) (rs : List (List ℤ)) : Type 0 where
  when_new : is_new s.phase ≡ true → s.switches ≡ 0 → t.switches ≡ w
  when_drafting : is_drafting s.phase ≡ true → t.switches ≡ s.switches
  model : t.model ≡ m
  rules : rules_stored t.clauses ≡ rules_stored s.clauses ++ rs

module _ (K : Kind) (t : State K) where
  -- the records lead from s to t
  abbrev LeadsOn : Reading → State K → Type 0
  LeadsOn r s = Leads K s t (switches_of r) (theory_of K r s.model) (rules_of r)

  module _ (e : Entry) (more : Reading) (s : State K) (r : Reply) where
    abbrev Led : Outcome K → Type 0
    Led o = o.0 ≡ Ok r → LeadsOn more o.1 → LeadsOn (Then e more) s

    led : (c : Call) → OfCase K e c → TakenSo K Led s c
    led (Counts w n) a = λ new _ m q _ h. record {
      when_new = λ _ _. h.when_drafting refl ∙ sym (a.switches more);
      when_drafting = λ d. new_not_drafting s.phase new d;
      model = h.model ∙ ap (theory_of K more) (sym (a.model s.model ∙ ap (left K s.model) q));
      rules = h.rules ∙ ap (λ rs. rules_stored s.clauses ++ rs) (sym (a.stated more));
    }
    led (Declare body) a = λ draft m q _ h. record {
      when_new = λ n _. new_not_drafting s.phase n draft;
      when_drafting = λ d. h.when_drafting d;
      model = h.model ∙ ap (theory_of K more) (sym (a.model s.model ∙ ap (left K s.model) q));
      rules = h.rules ∙ ap (λ rs. rules_stored s.clauses ++ rs) (sym (a.stated more));
    }
    led (Admit body) a = λ open_still _ m q _ h. record {
      when_new = λ n _. ⊎_elim (λ d. new_not_drafting s.phase n d) (λ d. new_not_searching s.phase n d) (or_cases (is_drafting s.phase) (is_searching s.phase) open_still);
      when_drafting = λ d. h.when_drafting d;
      model = h.model ∙ ap (theory_of K more) (sym (a.model s.model ∙ ap (left K s.model) q));
      rules = h.rules ∙ ap (λ rs. rules_stored s.clauses ++ rs) (sym (a.stated more));
    }
    led (Rule ls) a = λ draft _ _ _ _ _ h. record {
      when_new = λ n _. new_not_drafting s.phase n draft;
      when_drafting = λ d. h.when_drafting d;
      model = h.model ∙ ap (theory_of K more) (sym (a.model s.model));
      rules = h.rules ∙ rules_push s.clauses ls (rules_of more) ∙ ap (λ rs. rules_stored s.clauses ++ rs) (sym (a.stated more));
    }
    led (Seal d) a = absurd a
    led (Lemma ls hint) a = absurd a
    led (Choose l) a = absurd a
    led (Set j x) a = absurd a
    led (Propagate c l) a = absurd a
    led (Read n) a = absurd a
    led (Conflict c) a = absurd a
    led (Resolve n) a = absurd a
    led (Jump l) a = absurd a
    led Concede a = absurd a
    led Claim a = absurd a
    led Abandon a = absurd a

    led_on : (c : Call) → OfCase K e c → (step K s c).0 ≡ Ok r → LeadsOn more (step K s c).1 → LeadsOn (Then e more) s
    led_on c a = if_accepted K s c r (λ u. LeadsOn more u → LeadsOn (Then e more) s) (led c a)

  nothing_more : LeadsOn Ended t
  nothing_more = record {
    when_new = λ _ z. z;
    when_drafting = λ _. refl;
    model = refl;
    rules = sym (append-nil (rules_stored t.clauses));
  }

  leads : (case : List ℕ) → take_file K Case case (fresh K) ≡ inr t → LeadsOn (read_file Case case) (fresh K)
  leads case = along K Case t LeadsOn nothing_more (λ e more s c r w y h. led_on e more s r c (of_case K e c w) y h) (read_file Case case) (fresh K)

-- the session holds what the case states
pub record Holds (K : Kind) (case : List ℕ) (t : State K) : Type 0 where
  pub switches : t.switches ≡ case_switches K case
  pub model : t.model ≡ case_theory K case
  pub rules : rules_stored t.clauses ≡ case_rules K case

pub case_held : (K : Kind) (case : List ℕ) (t : State K) → take_file K Case case (fresh K) ≡ inr t → Holds K case t
case_held K case t h = let l = leads K t case h in record { switches = l.when_new refl refl; model = l.model; rules = l.rules }
