-- What the values of the code stand for.
use Rattle.std.specs.Prelude.{ℕ, ◌+◌, cond, ◌⊎◌, List, [], ◌∷◌, ◌++◌, map, length, drop, ℤ, Some, None, Ok, Err, vec_items, Option, Result, nat_le}
use Rattle.std.proofs.Common.{inl, inr}
use Rattle.faults.specs.declared.InputCause.{InputCause}
use Rattle.faults.specs.declared.FileFault.{FileFault}
use Rattle.faults.specs.declared.FileFault.TheVariants.{Input}
use Rattle.calculus.specs.Calls as call
use Rattle.files.specs.declared.calls.Call.{Call}
use Rattle.files.specs.declared.calls.Call.TheVariants as code
use Rattle.files.specs.declared.calls.Literals.{Literals}
use Rattle.files.specs.declared.records.Record.{Record}
use Rattle.files.specs.declared.whole.Listing.{Listing}
use Rattle.files.specs.declared.records.Stop.{Stop}
use Rattle.numerals.specs.Numbers.{signed_bytes}
use Rattle.files.specs.Records.{Entry, Reading, Ended, Stopped, Then}

-- the literals that a part of a file writes, one to a byte
abbrev pub literals : Literals → List ℤ
literals l = signed_bytes l.bytes.now

-- a list written over the front of another, which stays as it is where it is too short
abbrev pub copied : List ℤ → List ℤ → List ℤ
copied xs out = cond (nat_le (length xs) (length out)) (xs ++ drop (length xs) out) out

-- how many were written, if they fit
abbrev pub copied_count : List ℤ → List ℤ → Option ℕ
copied_count xs out = cond (nat_le (length xs) (length out)) (Some (length xs)) None

-- the call that a decoded record stands for
abbrev pub call_view : Call → call.Call
call_view (code.Counts switches measures) = call.Counts switches measures
call_view (code.Declare body) = call.Declare body.now
call_view (code.Admit body) = call.Admit body.now
call_view (code.Rule l) = call.Rule (literals l)
call_view (code.Seal denominator) = call.Seal denominator
call_view (code.Lemma l hint) = call.Lemma (literals l) hint.now
call_view (code.Choose literal) = call.Choose literal
call_view (code.Set measure numerator) = call.Set measure numerator
call_view (code.Propagate clause literal) = call.Propagate clause literal
call_view (code.Read number) = call.Read number
call_view (code.Conflict clause) = call.Conflict clause
call_view (code.Resolve number) = call.Resolve number
call_view (code.Jump literal) = call.Jump literal
call_view code.Concede = call.Concede
call_view code.Claim = call.Claim
call_view code.Abandon = call.Abandon

-- a decoded record, or why it is none
abbrev pub viewed : Result Call FileFault → FileFault ⊎ call.Call
viewed (Ok c) = inr (call_view c)
viewed (Err f) = inl f

-- a cause in the form of a file is a fault of the file
abbrev pub in_file : {X : Type 0} → InputCause ⊎ X → FileFault ⊎ X
in_file (inl c) = inl (Input c)
in_file (inr x) = inr x

-- a record that the reader hands out
abbrev pub entry_view : Record → Entry
entry_view r = record { number = r.number; start = r.start; kind = r.kind; body = r.body.now }

-- the answer of one step of the reader
abbrev pub step_view : Result (Option Record) FileFault → FileFault ⊎ Option Entry
step_view (Ok None) = inr None
step_view (Ok (Some r)) = inr (Some (entry_view r))
step_view (Err f) = inl f

-- the answer of a test
abbrev pub test_view : Result (Unit {0}) FileFault → FileFault ⊎ Unit {0}
test_view (Ok x) = inr x
test_view (Err f) = inl f

-- a fault at the record that follows so many others, and starts at a place
abbrev pub stop_at : ℕ → ℕ → FileFault → Stop
stop_at count place fault = record { number = count + 1; byte = place; fault = fault }

-- records in front of a reading
abbrev pub onto : List Entry → Reading → Reading
onto [] r = r
onto (e ∷ es) r = Then e (onto es r)

-- how a reading ends
abbrev pub ending : Option Stop → Reading
ending None = Ended
ending (Some s) = Stopped s.number s.byte s.fault

-- what was read of a whole file
abbrev pub listing_view : Listing → Reading
listing_view l = onto (map entry_view (vec_items l.records)) (ending l.stop)
