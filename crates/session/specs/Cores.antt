-- What the core of a session stands for, and what a call of it does.
use Rattle.std.specs.Prelude.{◌≡◌, Result}
use Rattle.faults.specs.declared.SessionFault.{SessionFault}
use Rattle.calculus.specs.Calls.{Call}
use Rattle.calculus.specs.Calls.Call.{Claim}
use Rattle.calculus.specs.Kinds.{Kind}
use Rattle.calculus.specs.States.{State}
use Rattle.calculus.specs.States.Phase.{New}
use Rattle.calculus.specs.Steps.{step, turned, arranged}
use Rattle.tables.specs.Tables.{trail_of, store_of, literals_of}
use Rattle.claims.specs.declared.arrangement.Arrangement.{Arrangement}
use Rattle.session.specs.Phases.{phase_of}
use Rattle.session.specs.Replies.{answer_of, handed_of, back_of}
use Rattle.session.specs.declared.Core.{Core}

module _ {T : Type 0} (K : Kind) (model : T → K.Model) where
  -- all but the phase
  abbrev pub tables_of : Core T → State K
  tables_of s = record { phase = New; switches = s.counts.switches; numbers = s.counts.numbers; denominator = s.counts.denominator; model = model s.theory; clauses = store_of s.store; trail = trail_of s.trail; open_clause = literals_of s.analysed }

  -- closed as possible, it handed out the arrangement of its trail
  abbrev pub view : Core T → State K
  view s = turned K (tables_of s) (phase_of s.phase (arranged K (tables_of s))) (literals_of s.analysed)

  -- the answer is the calculus' answer, and what it stands for then is the calculus' state
  abbrev pub Steps : {X : Type 0} → Core T → Call → Result X SessionFault → Core T → Type 0
  Steps before call r after = (answer_of r ≡ (step K (view before) call).0) × (view after ≡ (step K (view before) call).1)

  -- so too where the call spends a token
  abbrev pub Spends : {P : Type 0} → Core T → Call → P → Result (Unit {0}) (P × SessionFault) → Core T → Type 0
  Spends before call p r after = (r ≡ back_of p (step K (view before) call).0) × (view after ≡ (step K (view before) call).1)

  -- and where it hands out an arrangement
  abbrev pub Claims : Core T → Result Arrangement SessionFault → Core T → Type 0
  Claims before r after = (handed_of r ≡ (step K (view before) Claim).0) × (view after ≡ (step K (view before) Claim).1)
