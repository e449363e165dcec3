-- The arrangement that a verdict of possible holds was handed out by a claim.
use Rattle.std.proofs.Common.{◌≡◌, ℕ, ◌⊎◌, List, [], ◌∷◌, Ok, inl, inr, ⊎_elim, arith}
use Rattle.std.specs.List.{ContainsAt as Has}
use Rattle.std.proofs.ByRecursion.{has_append_right}
use Rattle.calculus.specs.Calls.{Call}
use Rattle.calculus.specs.Calls.Call.{Counts, Declare, Admit, Rule, Seal, Lemma, Choose, Set, Propagate, Read, Conflict, Resolve, Jump, Concede, Claim, Abandon}
use Rattle.calculus.specs.Arrangements.{Arrangement}
use Rattle.calculus.specs.Kinds.{Kind}
use Rattle.calculus.specs.States.{State, fresh}
use Rattle.calculus.specs.States.Phase.{Drafting, Searching, Analysing, Closed}
use Rattle.calculus.specs.States.Verdict.{Impossible, Possible, Undecided}
use Rattle.calculus.specs.Steps.{Outcome, arranged, step, after, answers}
use Rattle.calculus.specs.Steps.Reply.{Handed}
use Rattle.calculus.specs.Sound.{HandedOut}
use Rattle.calculus.proofs.Stepping.{TakenSo, stepped}

module _ (K : Kind) where
  -- a verdict of possible is the old one, or was handed out just now
  abbrev Honest : State K → Outcome K → Type 0
  Honest s o = (a : Arrangement) → o.1.phase ≡ Closed (Possible a) → (s.phase ≡ Closed (Possible a)) ⊎ (o.0 ≡ Ok (Handed a))

  -- no other phase is a verdict of possible
  not_drafting : (a : Arrangement) → Drafting ≡ Closed (Possible a) → ⊥
  not_drafting a e = let z : ◌≡◌ {A = ℕ} 0 1 = cc in omega arith

  not_searching : (a : Arrangement) → Searching ≡ Closed (Possible a) → ⊥
  not_searching a e = let z : ◌≡◌ {A = ℕ} 0 1 = cc in omega arith

  not_analysing : (a : Arrangement) → Analysing ≡ Closed (Possible a) → ⊥
  not_analysing a e = let z : ◌≡◌ {A = ℕ} 0 1 = cc in omega arith

  not_impossible : (a : Arrangement) → Closed Impossible ≡ Closed (Possible a) → ⊥
  not_impossible a e = let z : ◌≡◌ {A = ℕ} 0 1 = cc in omega arith

  not_undecided : (a : Arrangement) → Closed Undecided ≡ Closed (Possible a) → ⊥
  not_undecided a e = let z : ◌≡◌ {A = ℕ} 0 1 = cc in omega arith

  taken_honest : (s : State K) (c : Call) → TakenSo K (Honest s) s c
  taken_honest s (Counts w t) = λ _ _ n _ a e. absurd (not_drafting a e)
  taken_honest s (Declare body) = λ _ n _ a e. inl e
  taken_honest s (Admit body) = λ _ _ n _ a e. inl e
  taken_honest s (Rule ls) = λ _ _ _ _ _ a e. inl e
  taken_honest s (Seal d) = λ _ _ a e. absurd (not_searching a e)
  taken_honest s (Lemma ls hint) = λ _ _ _ _ _ _ a e. inl e
  taken_honest s (Choose l) = λ _ _ _ _ _ a e. inl e
  taken_honest s (Set j x) = λ _ _ _ _ a e. inl e
  taken_honest s (Propagate c l) = λ _ _ _ _ _ _ a e. inl e
  taken_honest s (Read n) = λ _ _ _ _ a e. inl e
  taken_honest s (Conflict c) = λ _ _ _ a e. absurd (not_analysing a e)
  taken_honest s (Resolve n) = λ _ _ _ _ a e. absurd (not_analysing a e)
  taken_honest s (Jump l) = λ _ _ _ _ _ _. (λ _ a e. absurd (not_searching a e), λ _ _ a e. absurd (not_searching a e))
  taken_honest s Concede = λ _ _ a e. absurd (not_impossible a e)
  taken_honest s Claim = λ _ _ _ _ a e. let same : arranged K s ≡ a = cc in inr (cc)
  taken_honest s Abandon = λ _ a e. absurd (not_undecided a e)

  step_honest : (s : State K) (c : Call) → Honest s (step K s c)
  step_honest s c = stepped K (Honest s) s (λ f a e. inl e) c (taken_honest s c)

  after_honest : (s : State K) (cs : List Call) (a : Arrangement) → (after K s cs).phase ≡ Closed (Possible a) → (s.phase ≡ Closed (Possible a)) ⊎ Has (answers K s cs) (Ok (Handed a))
  after_honest s [] a e = inl e
  after_honest s (c ∷ cs) a e =
      ⊎_elim (λ x. ⊎_elim (λ y. inl y) (λ y. inr (0, omega arith, λ d. y)) (step_honest s c a x))
      (λ h. inr (has_append_right ((step K s c).0 ∷ []) (answers K (step K s c).1 cs) (Ok (Handed a)) h)) (after_honest (step K s c).1 cs a e)

  pub handed_out : (cs : List Call) → HandedOut K cs
  handed_out cs a e = ⊎_elim (λ x. let z : ◌≡◌ {A = ℕ} 0 1 = cc in absurd (omega arith)) (λ h. h) (after_honest (fresh K) cs a e)
