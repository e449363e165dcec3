-- What it means that a session is where its calls led it.
use Rattle.std.specs.Prelude.{◌≡◌, List}
use Rattle.calculus.specs.Calls.{Call}
use Rattle.calculus.specs.Kinds.{Kind}
use Rattle.calculus.specs.States.{State}
use Rattle.calculus.specs.Steps.{run}

-- there is a list of calls, taken or refused, that leads from a fresh session to the state
abbrev pub Reached : (K : Kind) → State K → Type 0
Reached K s = ∥ ((cs : List Call) × (run K cs ≡ s)) ∥₁
