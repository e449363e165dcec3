-- What a session stands for, and what a call of it does: what its core stands for and does.
use Rattle.std.specs.Prelude.{Result}
use Rattle.faults.specs.declared.SessionFault.{SessionFault}
use Rattle.calculus.specs.Calls.{Call}
use Rattle.calculus.specs.Kinds.{Kind}
use Rattle.calculus.specs.States.{State}
use Rattle.claims.specs.declared.arrangement.Arrangement.{Arrangement}
use Rattle.session.specs.Cores as cores
use Rattle.session.specs.declared.Session.{Session}

module _ {T : Type 0} {g : _} (K : Kind) (model : T → K.Model) where
  abbrev pub view : Session T g → State K
  view s = cores.view K model s.core

  abbrev pub Steps : {X : Type 0} → Session T g → Call → Result X SessionFault → Session T g → Type 0
  Steps before call r after = cores.Steps K model before.core call r after.core

  abbrev pub Spends : {P : Type 0} → Session T g → Call → P → Result (Unit {0}) (P × SessionFault) → Session T g → Type 0
  Spends before call p r after = cores.Spends K model before.core call p r after.core

  abbrev pub Claims : Session T g → Result Arrangement SessionFault → Session T g → Type 0
  Claims before r after = cores.Claims K model before.core r after.core
