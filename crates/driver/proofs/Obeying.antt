-- What a call of the session does, said of the order that it carries out.
use Rattle.std.proofs.Common.{◌≡◌, Ok, Err, Result, sym, refl, ap, ◌∙◌, subst}
use Rattle.faults.specs.declared.SessionFault.{SessionFault}
use Rattle.calculus.specs.Calls.{Call}
use Rattle.calculus.specs.Kinds.{Kind}
use Rattle.calculus.specs.States.{State}
use Rattle.session.specs.declared.Session.{Session}
use Rattle.session.specs.Replies.{answer_of}
use Rattle.session.specs.Views.{view, Steps}
use Rattle.driver.specs.Holding.{taken_of, Obeys, NotServed, SamePhase}
use Rattle.driver.proofs.Leading.{plain_keeps}

taken_answer : (r : Result (Unit {0}) SessionFault) → r ≡ taken_of (answer_of r)
taken_answer (Ok tt) = refl
taken_answer (Err f) = refl

module _ {T : Type 0} {g : _} (K : Kind) (model : T → K.Model) where
  pub plainly : (s t : Session T g) (d c : Call) (r : Result (Unit {0}) SessionFault) → d ≡ c → Steps K model s c r t → NotServed K model d s → Obeys K model s d r t × SamePhase K model s t
  plainly s t d c r e h n =
      let o = subst (λ x. Obeys K model s x r t) (sym e) (taken_answer r ∙ ap taken_of h.0, h.1) in
      (o, ap (λ (u : State K). u.phase) o.1 ∙ plain_keeps K d (view K model s) n)
