-- What a call answers.
use Rattle.std.specs.Prelude.{Ok, Err, Result}
use Rattle.faults.specs.declared.SessionFault.{SessionFault}
use Rattle.calculus.specs.Steps.{Reply}
use Rattle.calculus.specs.Steps.Reply.{Done, Handed}
use Rattle.claims.specs.declared.arrangement.Arrangement.{Arrangement}
use Rattle.claims.specs.Views.{arrangement_of}

-- what is answered, but for the token that comes with it
abbrev pub answer_of : {X : Type 0} → Result X SessionFault → Result Reply SessionFault
answer_of (Ok x) = Ok Done
answer_of (Err f) = Err f

-- a claim hands out an arrangement
abbrev pub handed_of : Result Arrangement SessionFault → Result Reply SessionFault
handed_of (Ok a) = Ok (Handed (arrangement_of a))
handed_of (Err f) = Err f

-- where a token is given, a refusal gives it back
abbrev pub back_of : {P : Type 0} → P → Result Reply SessionFault → Result (Unit {0}) (P × SessionFault)
back_of p (Ok x) = Ok tt
back_of p (Err f) = Err (p, f)
