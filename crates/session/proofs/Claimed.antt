-- What a claim comes to when its tests are known.
use Rattle.std.proofs.Common.{◌≡◌, ℕ, Bool, true, not, ◌||◌, List, [], ◌∙◌}
use Rattle.std.specs.List.{range_with_len}
use Rattle.std.proofs.lemmas.Bool.{cond-true}
use Rattle.faults.specs.declared.StateCause.TheVariants.{WrongPhase, NoValue, RuleUnmet}
use Rattle.faults.specs.declared.SessionFault.TheVariants as session
use Rattle.calculus.specs.Lists.{every}
use Rattle.calculus.specs.Limits.{most_denominator, within}
use Rattle.calculus.specs.Calls.Call.{Claim}
use Rattle.calculus.specs.Kinds.{Kind}
use Rattle.calculus.specs.Questions.{in_limits, says_admitted}
use Rattle.calculus.specs.Trails.{Entry, valued, numerators}
use Rattle.calculus.specs.States.{State, Stored, is_searching, meets}
use Rattle.calculus.specs.States.Phase.{Closed}
use Rattle.calculus.specs.States.Verdict.{Possible}
use Rattle.calculus.specs.Steps.{step, arranged, if_agreed, turned}
use Rattle.calculus.specs.Steps.Reply.{Handed}
use Rattle.tables.specs.Keys.{tidy}
use Rattle.readings.proofs.Asking.{numerators_limited}
use Rattle.session.proofs.Needing.{need_yes}

module _ (K : Kind) (s : State K) where
  abbrev pub rules_met : Bool
  rules_met = every (λ (r : Stored). not r.rule || meets K s.model s.switches (arranged K s) r.literals) s.clauses

  pub claim_tested : is_searching s.phase ≡ true → every (λ j. valued j s.trail) (range_with_len 1 (K.measures s.model)) ≡ true → rules_met ≡ true
      → step K s Claim ≡ if_agreed K (K.admitted s.model (numerators K s.model s.trail) s.denominator) s (Handed (arranged K s)) (turned K s (Closed (Possible (arranged K s))) [])
  claim_tested p v m =
      need_yes K (is_searching s.phase) (session.State WrongPhase) s _ p
      ∙ need_yes K (every (λ j. valued j s.trail) (range_with_len 1 (K.measures s.model))) (session.State NoValue) s _ v
      ∙ need_yes K rules_met (session.State RuleUnmet) s _ m

pub admitted_so : (K : Kind) (m : K.Model) (t : List Entry) (d : ℕ) → tidy t ≡ true → within most_denominator d ≡ true → says_admitted K m (numerators K m t) d ≡ K.admitted m (numerators K m t) d
admitted_so K m t d h e = cond-true (in_limits (K.measures m) (numerators K m t) d) _ _ (numerators_limited K m t d h e)
