-- Records taken to a session.
use Rattle.std.specs.Prelude.{◌≡◌, ℕ, ◌≤◌, cond, ◌⊎◌, List, length, Some, None, Ok, Err, Option, Result, nat_le}
use Rattle.std.proofs.Common.{inl, inr}
use Rattle.faults.specs.declared.InputCause.{InputCause}
use Rattle.faults.specs.declared.SessionFault.{SessionFault}
use Rattle.faults.specs.declared.FileFault.{FileFault}
use Rattle.faults.specs.declared.FileFault.TheVariants.{Input, Session as Refused}
use Rattle.calculus.specs.Calls.{Call}
use Rattle.calculus.specs.Calls.Call.{Counts, Declare, Admit, Rule, Seal, Lemma, Choose, Set, Propagate, Read, Conflict, Resolve, Jump, Concede, Claim, Abandon}
use Rattle.calculus.specs.Kinds.{Kind}
use Rattle.calculus.specs.States.{State}
use Rattle.calculus.specs.Steps.{Reply, step}
use Rattle.files.specs.declared.records.FileKind.{FileKind}
use Rattle.files.specs.declared.records.Stop.{Stop}
use Rattle.files.specs.Records.{most_case_bytes}
use Rattle.session.specs.declared.Session.{Session}
use Rattle.session.specs.Views.{view}
use Rattle.verdicts.specs.Outcomes.{take_file}
use Rattle.driver.specs.declared.held.Held.{Held}
use Rattle.driver.specs.Holding.{Holds}

-- how many literals it writes
abbrev pub literal_count : Call → ℕ
literal_count (Counts w t) = 0
literal_count (Declare body) = 0
literal_count (Admit body) = 0
literal_count (Rule ls) = length ls
literal_count (Seal d) = 0
literal_count (Lemma ls hint) = length ls
literal_count (Choose l) = 0
literal_count (Set j x) = 0
literal_count (Propagate c l) = 0
literal_count (Read n) = 0
literal_count (Conflict c) = 0
literal_count (Resolve n) = 0
literal_count (Jump l) = 0
literal_count Concede = 0
literal_count Claim = 0
literal_count Abandon = 0

-- the call, if there is room for its literals
abbrev pub fitting : ℕ → Call → Option Call
fitting room c = cond (nat_le (literal_count c) room) (Some c) None

-- there is room for the literals of any record that is no longer than a case
abbrev pub HasRoom : InputCause ⊎ Call → Type 0
HasRoom (inl c) = Unit {0}
HasRoom (inr c) = literal_count c ≤ most_case_bytes

module _ (K : Kind) where
  -- the fault of a refused call, or else the state that it leaves
  abbrev pub unless_fault : Result Reply SessionFault → State K → FileFault ⊎ State K
  unless_fault (Ok r) s = inr s
  unless_fault (Err f) s = inl (Refused f)

  -- the same of a record, which may write no call
  abbrev pub after_record : State K → InputCause ⊎ Call → FileFault ⊎ State K
  after_record s (inl c) = inl (Input c)
  after_record s (inr c) = unless_fault (step K s c).0 (step K s c).1

  -- what the code's answer and the session's state stand for: of a record, and of a file
  abbrev pub record_view : Result (Unit {0}) FileFault → State K → FileFault ⊎ State K
  record_view (Ok x) s = inr s
  record_view (Err f) s = inl f

  abbrev pub file_view : Result (Unit {0}) Stop → State K → Stop ⊎ State K
  file_view (Ok x) s = inr s
  file_view (Err stop) s = inl stop

module _ {T : Type 0} {g : _} (K : Kind) (model : T → K.Model) where
  -- the answer and the state are the calculus', and what is held then is right: of a record, and of a file
  abbrev pub TakesRecord : Session T g → InputCause ⊎ Call → Held × Result (Unit {0}) FileFault → Session T g → Type 0
  TakesRecord before o r after = (record_view K r.1 (view K model after) ≡ after_record K (view K model before) o) × Holds K model r.0 after

  abbrev pub TakesFile : Session T g → FileKind → List ℕ → Held × Result (Unit {0}) Stop → Session T g → Type 0
  TakesFile before kind file r after = (file_view K r.1 (view K model after) ≡ take_file K kind file (view K model before)) × Holds K model r.0 after
