-- The number of each cause, and the number and layer of each fault.
use Rattle.std.specs.Prelude.{ℕ, ◌+◌, min}
use Rattle.faults.specs.declared.InputCause.{InputCause}
use Rattle.faults.specs.declared.InputCause.TheVariants.{WrongVersion, FileTooLong, BadRecordLength, UnknownKind, WrongLength, OutOfRange, BadLiteral, BadClause, ShortBuffer}
use Rattle.faults.specs.declared.StateCause.{StateCause}
use Rattle.faults.specs.declared.StateCause.TheVariants.{WrongPhase, Full, Absent, Taken, WrongReadability, NotUnit, ContradictsTrail, NotFalse, NotResolvable, ResolventTooLong, NotAllowed, NotVouched, NoValue, RuleUnmet, NotAdmitted}
use Rattle.faults.specs.declared.TheoryFault.{TheoryFault}
use Rattle.faults.specs.declared.TheoryFault.TheVariants as theory
use Rattle.faults.specs.declared.SessionFault.{SessionFault}
use Rattle.faults.specs.declared.SessionFault.TheVariants as session
use Rattle.faults.specs.declared.FileFault.{FileFault}
use Rattle.faults.specs.declared.FileFault.TheVariants as file
use Rattle.faults.specs.declared.Code.{Code}

-- the causes in the input are numbered from 1
abbrev pub input_number : InputCause → ℕ
input_number WrongVersion = 1
input_number FileTooLong = 2
input_number BadRecordLength = 3
input_number UnknownKind = 4
input_number WrongLength = 5
input_number OutOfRange = 6
input_number BadLiteral = 7
input_number BadClause = 8
input_number ShortBuffer = 9

-- and the causes in the state from 20
abbrev pub state_number : StateCause → ℕ
state_number WrongPhase = 20
state_number Full = 21
state_number Absent = 22
state_number Taken = 23
state_number WrongReadability = 24
state_number NotUnit = 25
state_number ContradictsTrail = 26
state_number NotFalse = 27
state_number NotResolvable = 28
state_number ResolventTooLong = 29
state_number NotAllowed = 30
state_number NotVouched = 31
state_number NoValue = 32
state_number RuleUnmet = 33
state_number NotAdmitted = 34

abbrev pub coded : ℕ → ℕ → Code
coded cause layer = record { cause = cause; layer = layer }

-- a theory's fault carries its layer, 1 for the top of the pile
abbrev pub theory_code : TheoryFault → Code
theory_code (theory.Input c layer) = coded (input_number c) layer
theory_code (theory.State c layer) = coded (state_number c) layer

-- the session's own faults, and the file's, are of layer 0
abbrev pub session_code : SessionFault → Code
session_code (session.Input c) = coded (input_number c) 0
session_code (session.State c) = coded (state_number c) 0
session_code (session.Theory f) = theory_code f

abbrev pub file_code : FileFault → Code
file_code (file.Input c) = coded (input_number c) 0
file_code (file.Session f) = session_code f

-- one layer further down than it was, 255 at most
abbrev pub one_lower : ℕ → ℕ
one_lower layer = min (layer + 1) 255

abbrev pub raised : TheoryFault → TheoryFault
raised (theory.Input c layer) = theory.Input c (one_lower layer)
raised (theory.State c layer) = theory.State c (one_lower layer)
