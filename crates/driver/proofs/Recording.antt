-- What a record's call does to a session, and to what is held.
use Rattle.std.proofs.Common.{◌≡◌, ◌⊎◌, Ok, Err, Result, sym, refl, ap, ◌∙◌, subst, inr}
use Rattle.faults.specs.declared.InputCause.{InputCause}
use Rattle.faults.specs.declared.SessionFault.{SessionFault}
use Rattle.faults.specs.declared.FileFault.{FileFault}
use Rattle.faults.specs.declared.FileFault.TheVariants.{Session as Refused}
use Rattle.calculus.specs.Calls.{Call}
use Rattle.calculus.specs.Kinds.{Kind}
use Rattle.calculus.specs.Steps.{Reply, step}
use Rattle.session.specs.declared.Session.{Session}
use Rattle.session.specs.Views.{view}
use Rattle.driver.specs.declared.held.Held.{Held}
use Rattle.driver.specs.Holding.{taken_of, Advances}
use Rattle.driver.specs.Taking.{unless_fault, record_view, TakesRecord}

-- the answer of a call, as that of its record
abbrev pub of_file : Result (Unit {0}) SessionFault → Result (Unit {0}) FileFault
of_file (Ok x) = Ok tt
of_file (Err f) = Err (Refused f)

module _ {T : Type 0} {g : _} (K : Kind) (model : T → K.Model) (s t : Session T g) where
  told : (r : Result Reply SessionFault) → record_view K (of_file (taken_of r)) (view K model t) ≡ unless_fault K r (view K model t)
  told (Ok x) = refl
  told (Err f) = refl

  pub recorded : (o : InputCause ⊎ Call) (c d : Call) (h : Held) (r : Result (Unit {0}) SessionFault) → o ≡ inr c → d ≡ c → Advances K model s d (h, r) t → TakesRecord K model s o (h, of_file r) t
  recorded o c d h r p q a =
      subst (λ x. TakesRecord K model s x (h, of_file r) t) (sym p)
      (subst (λ x. TakesRecord K model s (inr x) (h, of_file r) t) q (
        ap (λ x. record_view K (of_file x) (view K model t)) a.0.0
            ∙ told (step K (view K model s) d).0
            ∙ ap (unless_fault K (step K (view K model s) d).0) a.0.1,
        a.1,
      ))
