-- What the whole check of a case and its log comes to, over a theory.
use Rattle.std.specs.Prelude.{ℕ, ◌⊎◌, List, Ok, Err, Result}
use Rattle.std.proofs.Common.{inl, inr}
use Rattle.faults.specs.declared.InputCause.{InputCause}
use Rattle.faults.specs.declared.SessionFault.{SessionFault}
use Rattle.faults.specs.declared.FileFault.{FileFault}
use Rattle.faults.specs.declared.FileFault.TheVariants.{Input, Session}
use Rattle.calculus.specs.Calls.{Call}
use Rattle.calculus.specs.Kinds.{Kind}
use Rattle.calculus.specs.States.{Phase, Verdict, State, fresh}
use Rattle.calculus.specs.States.Phase.{New, Drafting, Searching, Analysing, Closed}
use Rattle.calculus.specs.States.Verdict.{Undecided}
use Rattle.calculus.specs.Steps.{Reply, step}
use Rattle.files.specs.declared.records.FileKind.{FileKind}
use Rattle.files.specs.declared.records.FileKind.TheVariants.{Case, Log}
use Rattle.files.specs.declared.records.Stop.{Stop}
use Rattle.files.specs.Records.{Entry, Reading, Ended, Stopped, Then, read_file, file_number}
use Rattle.files.specs.Decoding.{call_of}

-- a fault at a record
abbrev pub stop_at : ℕ → ℕ → FileFault → Stop
stop_at number byte fault = record { number = number; byte = byte; fault = fault }

-- what a session closes with; one that does not close decides nothing
abbrev pub verdict_of : Phase → Verdict
verdict_of New = Undecided
verdict_of Drafting = Undecided
verdict_of Searching = Undecided
verdict_of Analysing = Undecided
verdict_of (Closed v) = v

pub data Outcome : Type 0 where
  -- every record was taken
  Told : Verdict → Outcome
  -- the number of the file in which something is refused, and where; 0 is no file
  Refused : ℕ → Stop → Outcome

module _ (K : Kind) where
  -- a file taken to its end, or to its first fault
  abbrev pub Taken : Type 0
  Taken = Stop ⊎ State K

  -- go on from the state that a call leaves, unless it refused
  abbrev pub unless_refused : Entry → Result Reply SessionFault → Taken → Taken
  unless_refused e (Ok r) next = next
  unless_refused e (Err f) next = inl (stop_at e.number e.start (Session f))

  -- the call that a record writes, and what comes after it
  abbrev pub with_call : Entry → State K → (State K → Taken) → InputCause ⊎ Call → Taken
  with_call e s next (inl c) = inl (stop_at e.number e.start (Input c))
  with_call e s next (inr c) = unless_refused e (step K s c).0 (next (step K s c).1)

  -- the records of a file, one by one, up to the first that is refused
  abbrev pub taken : FileKind → Reading → State K → Taken
  taken kind Ended s = inr s
  taken kind (Stopped number byte fault) s = inl (stop_at number byte fault)
  taken kind (Then e more) s = with_call e s (taken kind more) (call_of kind e.kind e.body)

  abbrev pub take_file : FileKind → List ℕ → State K → Taken
  take_file kind bytes s = taken kind (read_file kind bytes) s

  abbrev pub after_log : Taken → Outcome
  after_log (inl stop) = Refused (file_number Log) stop
  after_log (inr s) = Told (verdict_of s.phase)

  abbrev pub after_case : List ℕ → Taken → Outcome
  after_case log (inl stop) = Refused (file_number Case) stop
  after_case log (inr s) = after_log (take_file Log log s)

  -- the case from a fresh session, and then the log
  abbrev pub checked : List ℕ → List ℕ → Outcome
  checked case log = after_case log (take_file Case case (fresh K))
