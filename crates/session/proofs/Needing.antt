-- A call whose tests are known.
use Rattle.std.proofs.Common.{◌≡◌, Bool, true, false, cond, Err, Result, sym, ap}
use Rattle.faults.specs.declared.SessionFault.{SessionFault}
use Rattle.calculus.specs.Kinds.{Kind}
use Rattle.calculus.specs.States.{State}
use Rattle.calculus.specs.Steps.{Reply, Outcome, need}

module _ (K : Kind) where
  pub need_yes : (b : Bool) (f : SessionFault) (s : State K) (next : Outcome K) → b ≡ true → need K b f s next ≡ next
  need_yes b f s next e = ap (λ t. cond t next (Err f, s)) e

  pub need_no : (b : Bool) (f : SessionFault) (s : State K) (next : Outcome K) → b ≡ false → need K b f s next ≡ (Err f, s)
  need_no b f s next e = ap (λ t. cond t next (Err f, s)) e

  -- what it answers, and what it leaves
  pub told : (o : Outcome K) (r : Result Reply SessionFault) (s : State K) → o ≡ (r, s) → (r ≡ o.0) × (s ≡ o.1)
  told o r s e = (sym (ap (λ (p : Outcome K). p.0) e), sym (ap (λ (p : Outcome K). p.1) e))
