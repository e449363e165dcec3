-- A file that is taken to its end is taken record by record, and each of its calls is accepted.
use Rattle.std.proofs.Common.{◌≡◌, ℕ, ◌⊎◌, Ok, Err, Result, sym, refl, subst, inl, inr, arith}
use Rattle.faults.specs.declared.InputCause.{InputCause}
use Rattle.faults.specs.declared.SessionFault.{SessionFault}
use Rattle.faults.specs.declared.FileFault.TheVariants.{Input, Session}
use Rattle.calculus.specs.Calls.{Call}
use Rattle.calculus.specs.Kinds.{Kind, Lawful}
use Rattle.calculus.specs.States.{State}
use Rattle.calculus.specs.Steps.{Reply, step}
use Rattle.calculus.proofs.Stepping.{TakenSo, stepped}
use Rattle.calculus.proofs.Soundness.{Held, step_held}
use Rattle.files.specs.declared.records.FileKind.{FileKind}
use Rattle.files.specs.declared.records.Stop.{Stop}
use Rattle.files.specs.Records.{Entry, Reading, Ended, Stopped, Then}
use Rattle.files.specs.Decoding.{call_of}
use Rattle.verdicts.specs.Outcomes.{stop_at, Taken, unless_refused, with_call, taken}

module _ (K : Kind) where
  -- what is said of an accepted call's state
  pub if_accepted : (s : State K) (c : Call) (r : Reply) (Q : State K → Type 0) → TakenSo K (λ o. o.0 ≡ Ok r → Q o.1) s c → (step K s c).0 ≡ Ok r → Q (step K s c).1
  if_accepted s c r Q h = stepped K (λ o. o.0 ≡ Ok r → Q o.1) s (λ f e. never f e) c h
    where
      never : {A : Type 0} (f : SessionFault) → ◌≡◌ {A = Result Reply SessionFault} (Err f) (Ok r) → A
      never f e = let z : ◌≡◌ {A = ℕ} 0 1 = cc in absurd (omega arith)

  -- a fault is no state
  no_state : {A : Type 0} (stop : Stop) (t : State K) → ◌≡◌ {A = Taken K} (inl stop) (inr t) → A
  no_state stop t e = let z : ◌≡◌ {A = ℕ} 0 1 = cc in absurd (omega arith)

  accepted : (e : Entry) (o : Result Reply SessionFault) (next : Taken K) (t : State K) → unless_refused K e o next ≡ inr t → (r : Reply) × (o ≡ Ok r) × (next ≡ inr t)
  accepted e (Ok r) next t h = (r, refl, h)
  accepted e (Err f) next t h = no_state (stop_at e.number e.start (Session f)) t h

  called : (e : Entry) (s : State K) (next : State K → Taken K) (o : InputCause ⊎ Call) (t : State K) → with_call K e s next o ≡ inr t
      → (c : Call) × (r : Reply) × (o ≡ inr c) × ((step K s c).0 ≡ Ok r) × (next (step K s c).1 ≡ inr t)
  called e s next (inl x) t h = no_state (stop_at e.number e.start (Input x)) t h
  called e s next (inr c) t h = let q = accepted e (step K s c).0 (next (step K s c).1) t h in (c, q.0, refl, q.1, q.2)

  -- what holds at the end, and of a record and what follows it wherever it holds of what follows, holds of the whole file
  module _ (kind : FileKind) (t : State K) (R : Reading → State K → Type 0) (end : R Ended t)
      (before : (e : Entry) (more : Reading) (s : State K) (c : Call) (r : Reply) → call_of kind e.kind e.body ≡ inr c → (step K s c).0 ≡ Ok r → R more (step K s c).1 → R (Then e more) s) where
    pub along : (reading : Reading) (s : State K) → taken K kind reading s ≡ inr t → R reading s
    along Ended s h = let same : s ≡ t = cc in subst (R Ended) (sym same) end
    along (Stopped number byte fault) s h = no_state (stop_at number byte fault) t h
    along (Then e more) s h =
        let q = called e s (taken K kind more) (call_of kind e.kind e.body) t h in
        before e more s q.0 q.1 q.2 q.3 (along more (step K s q.0).1 q.4)

  pub taken_held : Lawful K → (kind : FileKind) (reading : Reading) (s t : State K) → taken K kind reading s ≡ inr t → Held K s → Held K t
  taken_held L kind reading s t = along kind t (λ _ u. Held K u → Held K t) (λ h. h) (λ e more u c r _ _ f h. f (step_held K L u h c)) reading s
