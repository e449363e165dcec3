-- The sentences on what the calls do follow from their definitions.
use Rattle.std.proofs.Common.{◌≡◌, ℕ, ◌+◌, ◌-◌, ◌<◌, ◌≤◌, true, eqb, ltb, ◌⊎◌, length, Ok, Err, Result, sym, refl, ap, subst, inl, inr, arith}
use Rattle.std.proofs.lemmas.Bool.{and_parts, ltb-true, eqb-true}
use Rattle.std.specs.List.{AllByRecursion}
use Rattle.faults.specs.declared.SessionFault.{SessionFault}
use Rattle.calculus.specs.Lists.{every}
use Rattle.calculus.specs.Calls.{Call}
use Rattle.calculus.specs.Calls.Call.{Counts, Declare, Admit, Rule, Seal, Lemma, Choose, Set, Propagate, Read, Conflict, Resolve, Jump, Concede, Claim, Abandon}
use Rattle.calculus.specs.Kinds.{Kind, Lawful}
use Rattle.calculus.specs.Trails.{false_on, false_at, choices, up_to, enter, reading, reading_level}
use Rattle.calculus.specs.Trails.Origin.{Chosen, Propagated, Read as AsRead}
use Rattle.calculus.specs.Trails.Content.{Literal}
use Rattle.calculus.specs.States.{State, clause, meets}
use Rattle.calculus.specs.Steps.{Reply, Outcome, top_of, others, all_read, arranged, step, run}
use Rattle.calculus.specs.Steps.Reply.{Done, Handed}
use Rattle.calculus.specs.Rules.{RefusalChangesNothing, LemmaAsks, ConflictFalse, ReadLevel, ClaimJudges, JumpLands, RulesHold}
use Rattle.calculus.proofs.Stepping.{TakenSo, stepped}
use Rattle.calculus.proofs.Invariant.{count_up_to}
use Rattle.calculus.proofs.Analysis.{level_of_false}
use Rattle.calculus.proofs.Soundness.{Held, held, rules_met}

not_both : {A : Type 0} (f : SessionFault) (r : Reply) → ◌≡◌ {A = Result Reply SessionFault} (Err f) (Ok r) → A
not_both f r e = let z : ◌≡◌ {A = ℕ} 0 1 = cc in absurd (omega arith)

-- what holds of every acceptance
any_taken : (K : Kind) (P : Outcome K → Type 0) (s : State K) → ((r : Reply) (u : State K) → P (Ok r, u)) → (c : Call) → TakenSo K P s c
any_taken K P s h (Counts w t) = λ _ _ n _. h Done _
any_taken K P s h (Declare body) = λ _ n _. h Done _
any_taken K P s h (Admit body) = λ _ _ n _. h Done _
any_taken K P s h (Rule ls) = λ _ _ _ _ _. h Done _
any_taken K P s h (Seal d) = λ _ _. h Done _
any_taken K P s h (Lemma ls hint) = λ _ _ _ _ _ _. h Done _
any_taken K P s h (Choose l) = λ _ _ _ _ _. h Done _
any_taken K P s h (Set j x) = λ _ _ _ _. h Done _
any_taken K P s h (Propagate c l) = λ _ _ _ _ _ _. h Done _
any_taken K P s h (Read n) = λ _ _ _ _. h Done _
any_taken K P s h (Conflict c) = λ _ _ _. h Done _
any_taken K P s h (Resolve n) = λ _ _ _ _. h Done _
any_taken K P s h (Jump l) = λ _ _ _ _ _ _. (λ _. h Done _, λ _ _. h Done _)
any_taken K P s h Concede = λ _ _. h Done _
any_taken K P s h Claim = λ _ _ _ _. h (Handed (arranged K s)) _
any_taken K P s h Abandon = λ _. h Done _

module _ (K : Kind) where
  refusal : RefusalChangesNothing K
  refusal s c = stepped K P s (λ f g e. refl) c (any_taken K P s (λ r u f e. not_both f r (sym e)) c)
    where
      P : Outcome K → Type 0
      P o = (f : SessionFault) → o.0 ≡ Err f → o.1 ≡ s

  -- what is said of an accepted call's state
  if_taken : (s : State K) (c : Call) (r : Reply) (Q : State K → Type 0) → TakenSo K (λ o. o.0 ≡ Ok r → Q o.1) s c → (step K s c).0 ≡ Ok r → Q (step K s c).1
  if_taken s c r Q h = stepped K (λ o. o.0 ≡ Ok r → Q o.1) s (λ f e. not_both f r e) c h

  lemma_asks : LemmaAsks K
  lemma_asks s ls hint r = if_taken s (Lemma ls hint) r (λ _. K.vouched s.model s.switches ls hint ≡ Ok tt) (λ _ _ _ _ _ v _. v)

  conflict_false : ConflictFalse K
  conflict_false s c r = if_taken s (Conflict c) r (λ _. every (false_on s.trail) (clause s.clauses c) ≡ true) (λ _ _ x _. x)

  read_level : ReadLevel K
  read_level s n r =
      if_taken s (Read n) r (λ u. u.trail ≡ enter s.trail (Literal (reading K s.model s.switches s.denominator s.trail n) AsRead) (reading_level K s.model s.switches s.trail n)) (λ _ _ _ _ _. refl)

  claim_judges : ClaimJudges K
  claim_judges s r = if_taken s Claim r Judged (λ _ _ rs y e. (cc, rules_met K s.model s.switches (arranged K s) s.clauses rs, y))
    where
      Judged : State K → Type 0
      Judged _ = (r ≡ Handed (arranged K s)) × AllByRecursion (λ c. c.rule ≡ true → meets K s.model s.switches (arranged K s) c.literals ≡ true) s.clauses
          × (K.admitted s.model (arranged K s).numerators (arranged K s).denominator ≡ Ok tt)

  jump_lands : Lawful K → JumpLands K
  jump_lands L cs l r =
      if_taken s (Jump l) r Lands
      (λ _ _ _ _ _ q.
      let p = and_parts (ltb 0 top) (eqb (false_at s.trail l) top) q in
      let above : 0 < top = ltb-true 0 top p.0 in
      let at_top : false_at s.trail l ≡ top = eqb-true (false_at s.trail l) top p.1 in
      let low : false_at s.trail l ≤ choices s.trail = level_of_false K s.model s.switches s.denominator s.clauses s.trail h.core l in (
        λ y _. inl (ltb-true next top y, refl),
        λ _ y _. inr (
          top - 1,
          omega arith,
          subst (λ k. all_read s.trail k s.open_clause ≡ true) (back above) y,
          ap (λ k. enter (up_to (top - 1) s.trail) (Literal l Chosen) (k + 1)) (count_up_to K s.model s.switches s.denominator s.clauses s.trail (top - 1) (omega arith) h.core),
        ),
      ))
    where
      s : State K
      s = run K cs

      h : Held K s
      h = held K L cs

      top : ℕ
      top = top_of K s s.open_clause

      next : ℕ
      next = top_of K s (others l s.open_clause)

      back : 0 < top → top ≡ top - 1 + 1
      back p = omega arith

      Lands : State K → Type 0
      Lands u =
          ((next < top) × (u.trail ≡ enter (up_to next s.trail) (Literal l (Propagated (length s.clauses + 1))) next))
          ⊎ ((k : ℕ) × (top ≡ k + 1) × (all_read s.trail (k + 1) s.open_clause ≡ true) × (u.trail ≡ enter (up_to k s.trail) (Literal l Chosen) (k + 1)))

  pub rules_hold : Lawful K → RulesHold K
  rules_hold L = record {
    refusal = refusal;
    «lemma» = lemma_asks;
    conflict = conflict_false;
    read = read_level;
    claim = claim_judges;
    jump = jump_lands L;
  }
