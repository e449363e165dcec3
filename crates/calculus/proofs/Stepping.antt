-- A step by cases: it is refused and changes nothing, or its tests hold and it does what it says.
use Rattle.std.proofs.Common.{◌≡◌, ◌-◌, Bool, true, false, cond, not, ◌&&◌, ◌||◌, eqb, ltb, leb, ◌⊎◌, [], length, Ok, Err, refl, inl, inr}
use Rattle.std.specs.List.{range_with_len}
use Rattle.faults.specs.declared.TheoryFault.{TheoryFault}
use Rattle.faults.specs.declared.SessionFault.{SessionFault}
use Rattle.faults.specs.declared.SessionFault.TheVariants as session
use Rattle.calculus.specs.Lists.{every, some}
use Rattle.calculus.specs.Limits.{most_numbers, most_literals, most_numerator, most_denominator, within, sized}
use Rattle.calculus.specs.Literals.{number, proper, clause_like, holds_literal}
use Rattle.calculus.specs.Calls.{Call}
use Rattle.calculus.specs.Calls.Call.{Counts, Declare, Admit, Rule, Seal, Lemma, Choose, Set, Propagate, Read, Conflict, Resolve, Jump, Concede, Claim, Abandon}
use Rattle.calculus.specs.Kinds.{Kind, Answer}
use Rattle.calculus.specs.Trails.{false_on, false_at, taken, valued, choices, reason, enter, enter_choice, reading, reading_level}
use Rattle.calculus.specs.Trails.Origin.{Chosen, Propagated, Read as AsRead}
use Rattle.calculus.specs.Trails.Content.{Value, Literal}
use Rattle.calculus.specs.States.{State, is_new, is_drafting, is_searching, is_analysing, clause, meets}
use Rattle.calculus.specs.States.Phase.{Analysing, Closed}
use Rattle.calculus.specs.States.Verdict.{Impossible, Possible, Undecided}
use Rattle.calculus.specs.Steps.{Reply, Outcome, need, asked, if_agreed, there, has_room, readable_in, bears, denial, top_of, arranged, drafted, sealed, with_model, with_atom, with_clause, with_trail, turned, forced, split, literal_on, others, others_false, resolvent, all_read, step}
use Rattle.calculus.specs.Steps.Reply.{Done, Handed}

module _ (K : Kind) (P : Outcome K → Type 0) (s : State K) where
  -- what is to be shown of a call that is taken
  abbrev pub TakenSo : Call → Type 0
  TakenSo (Counts w t) = is_new s.phase ≡ true → leb w most_numbers ≡ true → (n : K.Model) → K.count s.model t ≡ inr n → P (Ok Done, drafted K s w n)
  TakenSo (Declare body) = is_drafting s.phase ≡ true → (n : K.Model) → K.declare s.model body ≡ inr n → P (Ok Done, with_model K s n)
  TakenSo (Admit body) = (is_drafting s.phase || is_searching s.phase) ≡ true → ltb s.numbers most_numbers ≡ true → (n : K.Model) → K.admit s.model body ≡ inr n → P (Ok Done, with_atom K s n)
  TakenSo (Rule ls) = is_drafting s.phase ≡ true → has_room K s ≡ true → every proper ls ≡ true → clause_like ls ≡ true → every (λ l. there K s (number l)) ls ≡ true → P (Ok Done, with_clause K s ls true)
  TakenSo (Seal d) = is_drafting s.phase ≡ true → within most_denominator d ≡ true → P (Ok Done, sealed K s d)
  TakenSo (Lemma ls hint) = is_searching s.phase ≡ true → has_room K s ≡ true → every proper ls ≡ true → clause_like ls ≡ true → every (λ l. there K s (number l)) ls ≡ true → K.vouched s.model s.switches ls hint ≡ Ok tt → P (Ok Done, with_clause K s ls false)
  TakenSo (Choose l) = is_searching s.phase ≡ true → proper l ≡ true → there K s (number l) ≡ true → not (taken (number l) s.trail) ≡ true → not (readable_in K s (number l)) ≡ true → P (Ok Done, with_trail K s (enter_choice s.trail (Literal l Chosen)))
  TakenSo (Set j x) = is_searching s.phase ≡ true → (within (K.measures s.model) j && sized most_numerator x) ≡ true → not (valued j s.trail) ≡ true → bears K s (enter_choice s.trail (Value j x)) ≡ true → P (Ok Done, with_trail K s (enter_choice s.trail (Value j x)))
  TakenSo (Propagate c l) =
      is_searching s.phase ≡ true → proper l ≡ true → (within (length s.clauses) c && there K s (number l)) ≡ true → not (taken (number l) s.trail) ≡ true → not (readable_in K s (number l)) ≡ true
      → (holds_literal l (clause s.clauses c) && others_false s.trail l (clause s.clauses c)) ≡ true → P (Ok Done, with_trail K s (enter s.trail (Literal l (Propagated c)) (choices s.trail)))
  TakenSo (Read n) = is_searching s.phase ≡ true → there K s n ≡ true → not (taken n s.trail) ≡ true → readable_in K s n ≡ true → P (Ok Done, with_trail K s (enter s.trail (Literal (reading K s.model s.switches s.denominator s.trail n) AsRead) (reading_level K s.model s.switches s.trail n)))
  TakenSo (Conflict c) = is_searching s.phase ≡ true → within (length s.clauses) c ≡ true → every (false_on s.trail) (clause s.clauses c) ≡ true → P (Ok Done, turned K s Analysing (clause s.clauses c))
  TakenSo (Resolve n) =
      let l = literal_on n s.open_clause in
      let because = reason (denial K s l).content in
      let resolved = resolvent l s.open_clause (clause s.clauses because) in
      is_analysing s.phase ≡ true → there K s n ≡ true → (some (λ k. eqb (number k) n) s.open_clause && ltb 0 because) ≡ true → leb (length resolved) most_literals ≡ true → P (Ok Done, turned K s Analysing resolved)
  TakenSo (Jump l) =
      let top = top_of K s s.open_clause in
      let next = top_of K s (others l s.open_clause) in
      is_analysing s.phase ≡ true → has_room K s ≡ true → proper l ≡ true → there K s (number l) ≡ true → holds_literal l s.open_clause ≡ true → (ltb 0 top && eqb (false_at s.trail l) top) ≡ true
      → (ltb next top ≡ true → P (Ok Done, forced K s l next)) × (ltb next top ≡ false → all_read s.trail top s.open_clause ≡ true → P (Ok Done, split K s l (top - 1)))
  TakenSo Concede = is_analysing s.phase ≡ true → eqb (top_of K s s.open_clause) 0 ≡ true → P (Ok Done, turned K s (Closed Impossible) [])
  TakenSo Claim =
      is_searching s.phase ≡ true → every (λ j. valued j s.trail) (range_with_len 1 (K.measures s.model)) ≡ true
      → every (λ r. not r.rule || meets K s.model s.switches (arranged K s) r.literals) s.clauses ≡ true
      → K.admitted s.model (arranged K s).numerators (arranged K s).denominator ≡ Ok tt → P (Ok (Handed (arranged K s)), turned K s (Closed (Possible (arranged K s))) [])
  TakenSo Abandon = (is_searching s.phase || is_analysing s.phase) ≡ true → P (Ok Done, turned K s (Closed Undecided) [])

  module _ (refused : (f : SessionFault) → P (Err f, s)) where
    tested : (b : Bool) (f : SessionFault) (next : Outcome K) → (b ≡ true → P next) → P (need K b f s next)
    tested true f next h = h refl
    tested false f next h = refused f

    by_theory : (o : TheoryFault ⊎ K.Model) (next : K.Model → State K) → ((n : K.Model) → o ≡ inr n → P (Ok Done, next n)) → P (asked K o s next)
    by_theory (inl f) next h = refused (session.Theory f)
    by_theory (inr n) next h = h n refl

    by_answer : (a : Answer) (r : Reply) (next : State K) → (a ≡ Ok tt → P (Ok r, next)) → P (if_agreed K a s r next)
    by_answer (Ok u) r next h = h refl
    by_answer (Err f) r next h = refused (session.Theory f)

    either_way : (b : Bool) (o p : Outcome K) → (b ≡ true → P o) → (b ≡ false → P p) → P (cond b o p)
    either_way true o p h k = h refl
    either_way false o p h k = k refl

    pub stepped : (c : Call) → TakenSo c → P (step K s c)
    stepped (Counts w t) h = tested (is_new s.phase) _ _ λ a. tested (leb w most_numbers) _ _ λ b. by_theory (K.count s.model t) (drafted K s w) (h a b)
    stepped (Declare body) h = tested (is_drafting s.phase) _ _ λ a. by_theory (K.declare s.model body) (with_model K s) (h a)
    stepped (Admit body) h = tested (is_drafting s.phase || is_searching s.phase) _ _ λ a. tested (ltb s.numbers most_numbers) _ _ λ b. by_theory (K.admit s.model body) (with_atom K s) (h a b)
    stepped (Rule ls) h =
        tested (is_drafting s.phase) _ _ λ a. tested (has_room K s) _ _ λ b. tested (every proper ls) _ _ λ c. tested (clause_like ls) _ _ λ d. tested (every (λ l. there K s (number l)) ls) _ _ λ e. h a b c d e
    stepped (Seal d) h = tested (is_drafting s.phase) _ _ λ a. tested (within most_denominator d) _ _ λ b. h a b
    stepped (Lemma ls hint) h =
        tested (is_searching s.phase) _ _ λ a. tested (has_room K s) _ _ λ b. tested (every proper ls) _ _ λ c. tested (clause_like ls) _ _ λ d. tested (every (λ l. there K s (number l)) ls) _ _ λ e.
        by_answer (K.vouched s.model s.switches ls hint) Done (with_clause K s ls false) (h a b c d e)
    stepped (Choose l) h =
        tested (is_searching s.phase) _ _ λ a. tested (proper l) _ _ λ b. tested (there K s (number l)) _ _ λ c. tested (not (taken (number l) s.trail)) _ _ λ d. tested (not (readable_in K s (number l))) _ _ λ e. h a b c d e
    stepped (Set j x) h =
        tested (is_searching s.phase) _ _ λ a. tested (within (K.measures s.model) j && sized most_numerator x) _ _ λ b. tested (not (valued j s.trail)) _ _ λ c. tested (bears K s (enter_choice s.trail (Value j x))) _ _ λ d. h a b c d
    stepped (Propagate c l) h =
        tested (is_searching s.phase) _ _ λ a. tested (proper l) _ _ λ b. tested (within (length s.clauses) c && there K s (number l)) _ _ λ d. tested (not (taken (number l) s.trail)) _ _ λ e. tested (not (readable_in K s (number l))) _ _ λ f.
        tested (holds_literal l (clause s.clauses c) && others_false s.trail l (clause s.clauses c)) _ _ λ g. h a b d e f g
    stepped (Read n) h = tested (is_searching s.phase) _ _ λ a. tested (there K s n) _ _ λ b. tested (not (taken n s.trail)) _ _ λ c. tested (readable_in K s n) _ _ λ d. h a b c d
    stepped (Conflict c) h = tested (is_searching s.phase) _ _ λ a. tested (within (length s.clauses) c) _ _ λ b. tested (every (false_on s.trail) (clause s.clauses c)) _ _ λ d. h a b d
    stepped (Resolve n) h =
        let l = literal_on n s.open_clause in
        let because = reason (denial K s l).content in
        let resolved = resolvent l s.open_clause (clause s.clauses because) in
        tested (is_analysing s.phase) _ _ λ a. tested (there K s n) _ _ λ b. tested (some (λ k. eqb (number k) n) s.open_clause && ltb 0 because) _ _ λ c. tested (leb (length resolved) most_literals) _ _ λ d. h a b c d
    stepped (Jump l) h =
        let top = top_of K s s.open_clause in
        let next = top_of K s (others l s.open_clause) in
        tested (is_analysing s.phase) _ _ λ a. tested (has_room K s) _ _ λ b. tested (proper l) _ _ λ c. tested (there K s (number l)) _ _ λ d. tested (holds_literal l s.open_clause) _ _ λ e. tested (ltb 0 top && eqb (false_at s.trail l) top) _ _ λ f.
        either_way (ltb next top) _ _ (λ g. (h a b c d e f).0 g) (λ g. tested (all_read s.trail top s.open_clause) _ _ λ i. (h a b c d e f).1 g i)
    stepped Concede h = tested (is_analysing s.phase) _ _ λ a. tested (eqb (top_of K s s.open_clause) 0) _ _ λ b. h a b
    stepped Claim h =
        tested (is_searching s.phase) _ _ λ a. tested (every (λ j. valued j s.trail) (range_with_len 1 (K.measures s.model))) _ _ λ b.
        tested (every (λ r. not r.rule || meets K s.model s.switches (arranged K s) r.literals) s.clauses) _ _ λ c.
        by_answer (K.admitted s.model (arranged K s).numerators (arranged K s).denominator) _ _ (h a b c)
    stepped Abandon h = tested (is_searching s.phase || is_analysing s.phase) _ _ λ a. h a
