-- How a loop over the records of a file comes to what the whole file does.
use Rattle.std.proofs.Common.{◌≡◌, ℕ, ◌+◌, ◌-◌, ◌≤◌, ◌⊎◌, List, length, drop, Ok, Err, Some, None, Result, sym, refl, ap, ◌∙◌, inl, inr, arith}
use Rattle.faults.specs.declared.InputCause.{InputCause}
use Rattle.faults.specs.declared.SessionFault.{SessionFault}
use Rattle.faults.specs.declared.FileFault.{FileFault}
use Rattle.faults.specs.declared.FileFault.TheVariants.{Input}
use Rattle.calculus.specs.Calls.{Call}
use Rattle.calculus.specs.Kinds.{Kind}
use Rattle.calculus.specs.States.{State}
use Rattle.calculus.specs.Steps.{Reply, step}
use Rattle.files.specs.declared.records.FileKind.{FileKind}
use Rattle.files.specs.Decoding.{call_of}
use Rattle.files.specs.Records.{Entry, size, opened, entry_at, reading, unless_refused}
use Rattle.files.proofs.Rounds.{reads_one, reads_end, reads_fault}
use Rattle.verdicts.specs.Outcomes as outcomes
use Rattle.verdicts.specs.Outcomes.{stop_at, Taken, with_call, taken, take_file}
use Rattle.driver.specs.Taking.{unless_fault, after_record}

module _ (K : Kind) where
  -- what a record comes to, and then what follows it
  abbrev onward : Entry → (State K → Taken K) → FileFault ⊎ State K → Taken K
  onward e next (inl f) = inl (stop_at e.number e.start f)
  onward e next (inr t) = next t

  by_answer : (e : Entry) (next : State K → Taken K) (t : State K) (r : Result Reply SessionFault) → outcomes.unless_refused K e r (next t) ≡ onward e next (unless_fault K r t)
  by_answer e next t (Ok r) = refl
  by_answer e next t (Err f) = refl

  by_call : (e : Entry) (next : State K → Taken K) (s : State K) (o : InputCause ⊎ Call) → with_call K e s next o ≡ onward e next (after_record K s o)
  by_call e next s (inl c) = refl
  by_call e next s (inr c) = by_answer e next (step K s c).1 (step K s c).0

  module _ (kind : FileKind) (file : List ℕ) (before : State K) where
    -- Read up to a place, with so many records: from the state there the rest of the file comes to what all of it comes to
    -- from the state before.
    abbrev pub Reached : ℕ → ℕ → State K → Type 0
    Reached place count s =
        (k : ℕ) × (length file - place ≤ k) × (taken K kind (reading k (count + 1) place (drop place file)) s ≡ take_file K kind file before)

    pub begins : opened kind file ≡ inr tt → Reached 1 0 before
    begins o = (
      length file,
      omega arith,
      sym (ap (λ (x : InputCause ⊎ Unit {0}). taken K kind (unless_refused x (reading (length file) 1 1 (drop 1 file))) before) o),
    )

    pub not_opened : (c : InputCause) → opened kind file ≡ inl c → inl (stop_at 0 0 (Input c)) ≡ take_file K kind file before
    not_opened c o = sym (ap (λ (x : InputCause ⊎ Unit {0}). taken K kind (unless_refused x (reading (length file) 1 1 (drop 1 file))) before) o)

    module _ (place count : ℕ) (s : State K) where
      -- a record at the place: the rest of the file is that record and what follows it
      by_record : (e : Entry) → entry_at count place file ≡ inr (Some e) → Reached place count s
          → (m : ℕ) × (length file - (place + size e) ≤ m) × (onward e (taken K kind (reading m (count + 1 + 1) (place + size e) (drop (place + size e) file))) (after_record K s (call_of kind e.kind e.body)) ≡ take_file K kind file before)
      by_record e h (k, l, v) =
          let one = reads_one file place count k e h l in (
            one.0,
            one.1,
            sym (ap (λ r. taken K kind r s) one.2 ∙ by_call e (taken K kind (reading one.0 (count + 1 + 1) (place + size e) (drop (place + size e) file))) s (call_of kind e.kind e.body)) ∙ v,
          )

      pub goes_on : (e : Entry) (t : State K) → entry_at count place file ≡ inr (Some e) → after_record K s (call_of kind e.kind e.body) ≡ inr t → Reached place count s → Reached (place + size e) (count + 1) t
      goes_on e t h q r =
          let x = by_record e h r in
          (x.0, x.1, sym (ap (onward e (taken K kind (reading x.0 (count + 1 + 1) (place + size e) (drop (place + size e) file)))) q) ∙ x.2)

      pub stops : (e : Entry) (f : FileFault) → entry_at count place file ≡ inr (Some e) → after_record K s (call_of kind e.kind e.body) ≡ inl f → Reached place count s → inl (stop_at e.number e.start f) ≡ take_file K kind file before
      stops e f h q r =
          let x = by_record e h r in
          sym (ap (onward e (taken K kind (reading x.0 (count + 1 + 1) (place + size e) (drop (place + size e) file)))) q) ∙ x.2

      pub ends : entry_at count place file ≡ inr None → Reached place count s → inr s ≡ take_file K kind file before
      ends h (k, l, v) = sym (ap (λ r. taken K kind r s) (reads_end file place count k h)) ∙ v

      pub refuses : (c : InputCause) → entry_at count place file ≡ inl c → Reached place count s → inl (stop_at (count + 1) place (Input c)) ≡ take_file K kind file before
      refuses c h (k, l, v) = sym (ap (λ r. taken K kind r s) (reads_fault file place count k c h l)) ∙ v
