-- Which phase a call leads to, and that a call out of its phase is refused.
use Rattle.std.proofs.Common.{◌≡◌, Bool, true, false, List, ℤ, Ok, Err, refl, ap}
use Rattle.faults.specs.declared.StateCause.TheVariants.{WrongPhase}
use Rattle.faults.specs.declared.SessionFault.{SessionFault}
use Rattle.faults.specs.declared.SessionFault.TheVariants as session
use Rattle.calculus.specs.Calls.{Call}
use Rattle.calculus.specs.Calls.Call.{Counts, Declare, Admit, Rule, Seal, Lemma, Choose, Set, Propagate, Read, Conflict, Resolve, Jump, Concede, Claim, Abandon}
use Rattle.calculus.specs.Kinds.{Kind}
use Rattle.calculus.specs.States.{Phase, State, is_drafting}
use Rattle.calculus.specs.Steps.{Reply, Outcome, need, step}
use Rattle.calculus.proofs.Stepping.{stepped}
use Rattle.verdicts.proofs.Taking.{if_accepted}
use Rattle.driver.specs.Holding.{is_idle, is_token_call, serves}

module _ (K : Kind) where
  wrong : (s : State K) (b : Bool) (next : Outcome K) → b ≡ false → need K b (session.State WrongPhase) s next ≡ (Err (session.State WrongPhase), s)
  wrong s b next h = ap (λ x. need K x (session.State WrongPhase) s next) h

  -- a call out of its phase is refused, and changes nothing
  pub out_of_phase : (c : Call) (s : State K) → serves c s.phase ≡ false → step K s c ≡ (Err (session.State WrongPhase), s)
  out_of_phase (Counts w t) s h = wrong s _ _ h
  out_of_phase (Declare body) s h = wrong s _ _ h
  out_of_phase (Admit body) s h = wrong s _ _ h
  out_of_phase (Rule ls) s h = wrong s _ _ h
  out_of_phase (Seal d) s h = wrong s _ _ h
  out_of_phase (Lemma ls hint) s h = wrong s _ _ h
  out_of_phase (Choose l) s h = wrong s _ _ h
  out_of_phase (Set j x) s h = wrong s _ _ h
  out_of_phase (Propagate c l) s h = wrong s _ _ h
  out_of_phase (Read n) s h = wrong s _ _ h
  out_of_phase (Conflict c) s h = wrong s _ _ h
  out_of_phase (Resolve n) s h = wrong s _ _ h
  out_of_phase (Jump l) s h = wrong s _ _ h
  out_of_phase Concede s h = wrong s _ _ h
  out_of_phase Claim s h = wrong s _ _ h
  out_of_phase Abandon s h = wrong s _ _ h

  abbrev Kept : State K → Outcome K → Type 0
  Kept s o = o.1.phase ≡ s.phase

  kept_if_refused : (c : Call) (s : State K) → serves c s.phase ≡ false → Kept s (step K s c)
  kept_if_refused c s h = ap (λ (o : Outcome K). o.1.phase) (out_of_phase c s h)

  refused_keeps : (s : State K) (f : SessionFault) → Kept s (Err f, s)
  refused_keeps s f = refl

  -- a call that needs no token and gives none keeps the phase, and so does one that is refused out of its phase
  pub plain_keeps : (c : Call) (s : State K) → (is_token_call c ≡ true → serves c s.phase ≡ false) → Kept s (step K s c)
  plain_keeps (Counts w t) s h = kept_if_refused (Counts w t) s (h refl)
  plain_keeps (Declare body) s h = kept_if_refused (Declare body) s (h refl)
  plain_keeps (Admit body) s h = stepped K (Kept s) s (refused_keeps s) (Admit body) (λ _ _ n _. refl)
  plain_keeps (Rule ls) s h = kept_if_refused (Rule ls) s (h refl)
  plain_keeps (Seal d) s h = kept_if_refused (Seal d) s (h refl)
  plain_keeps (Lemma ls hint) s h = stepped K (Kept s) s (refused_keeps s) (Lemma ls hint) (λ _ _ _ _ _ _. refl)
  plain_keeps (Choose l) s h = stepped K (Kept s) s (refused_keeps s) (Choose l) (λ _ _ _ _ _. refl)
  plain_keeps (Set j x) s h = stepped K (Kept s) s (refused_keeps s) (Set j x) (λ _ _ _ _. refl)
  plain_keeps (Propagate c l) s h = stepped K (Kept s) s (refused_keeps s) (Propagate c l) (λ _ _ _ _ _ _. refl)
  plain_keeps (Read n) s h = stepped K (Kept s) s (refused_keeps s) (Read n) (λ _ _ _ _. refl)
  plain_keeps (Conflict c) s h = kept_if_refused (Conflict c) s (h refl)
  plain_keeps (Resolve n) s h = kept_if_refused (Resolve n) s (h refl)
  plain_keeps (Jump l) s h = kept_if_refused (Jump l) s (h refl)
  plain_keeps Concede s h = kept_if_refused Concede s (h refl)
  plain_keeps Claim s h = kept_if_refused Claim s (h refl)
  plain_keeps Abandon s h = kept_if_refused Abandon s (h refl)

  -- where an accepted call leads
  abbrev pub Leads : (Phase → Bool) → State K → Call → Type 0
  Leads q s c = (r : Reply) → (step K s c).0 ≡ Ok r → q (step K s c).1.phase ≡ true

  pub rule_leads : (s : State K) (ls : List ℤ) → Leads is_drafting s (Rule ls)
  rule_leads s ls r = if_accepted K s (Rule ls) r (λ u. is_drafting u.phase ≡ true) (λ p _ _ _ _ _. p)

  pub jump_leads : (s : State K) (l : ℤ) → Leads is_idle s (Jump l)
  jump_leads s l r = if_accepted K s (Jump l) r (λ u. is_idle u.phase ≡ true) (λ _ _ _ _ _ _. (λ _ _. refl, λ _ _ _. refl))
