-- Computed examples of reports.
use Rattle.std.specs.Prelude.{◌≡◌, ℕ, ◌*◌, ◌^◌, true, false, List, [], ◌∷◌, map, pos, negsuc, codes}
use Rattle.std.specs.List.{AllByRecursion, range_with_len}
use Rattle.faults.specs.declared.InputCause.{InputCause}
use Rattle.faults.specs.declared.InputCause.TheVariants.{WrongVersion, FileTooLong, BadRecordLength, UnknownKind, WrongLength, OutOfRange, BadLiteral, BadClause, ShortBuffer}
use Rattle.faults.specs.declared.StateCause.{StateCause}
use Rattle.faults.specs.declared.StateCause.TheVariants.{WrongPhase, Full, Absent, Taken, WrongReadability, NotUnit, ContradictsTrail, NotFalse, NotResolvable, ResolventTooLong, NotAllowed, NotVouched, NoValue, RuleUnmet, NotAdmitted}
use Rattle.faults.specs.declared.TheoryFault.TheVariants as theory
use Rattle.faults.specs.declared.SessionFault.TheVariants.{Theory}
use Rattle.faults.specs.declared.FileFault.TheVariants.{Input, Session}
use Rattle.faults.specs.Causes.{input_number, state_number}
use Rattle.calculus.specs.States.Verdict.{Impossible, Possible, Undecided}
use Rattle.verdicts.specs.Outcomes.{Outcome, Told, Refused, stop_at}
use Rattle.report.specs.Lines.{lines}

pub record Example : Type 0 where
  pub outcome : Outcome
  pub report : List ℕ

abbrev pub examples : List Example
examples =
    record { outcome = Told Impossible; report = codes "impossible\n" }
    ∷ record { outcome = Told Undecided; report = codes "none\n" }
    ∷ record { outcome = Told (Possible (record { switches = true ∷ false ∷ []; numerators = pos 50 ∷ negsuc 11 ∷ []; denominator = 100 })); report = codes "possible 100\ns1 yes\ns2 no\nm1 50\nm2 -12\n" }
    ∷ record { outcome = Told (Possible (record { switches = []; numerators = []; denominator = 1 })); report = codes "possible 1\n" }
    ∷ record { outcome = Refused 2 (stop_at 6 27 (Session (Theory (theory.State NotVouched 2)))); report = codes "refused 31 file 2 record 6 byte 27 layer 2\n" }
    ∷ record { outcome = Refused 1 (stop_at 0 0 (Input FileTooLong)); report = codes "refused 2 file 1 record 0 byte 0 layer 0\n" }
    -- the last record that a log can have, and the lowest layer
    ∷ record { outcome = Refused 2 (stop_at 13333 39997 (Session (Theory (theory.State NotVouched 255)))); report = codes "refused 31 file 2 record 13333 byte 39997 layer 255\n" }
    ∷ []

-- all causes, in their order
abbrev pub input_causes : List InputCause
input_causes = WrongVersion ∷ FileTooLong ∷ BadRecordLength ∷ UnknownKind ∷ WrongLength ∷ OutOfRange ∷ BadLiteral ∷ BadClause ∷ ShortBuffer ∷ []

abbrev pub state_causes : List StateCause
state_causes =
    WrongPhase ∷ Full ∷ Absent ∷ Taken ∷ WrongReadability ∷ NotUnit ∷ ContradictsTrail ∷ NotFalse ∷ NotResolvable ∷ ResolventTooLong ∷ NotAllowed
    ∷ NotVouched ∷ NoValue ∷ RuleUnmet ∷ NotAdmitted ∷ []

-- a verdict with no switch and no measure
abbrev pub over : ℕ → Outcome
over d = Told (Possible (record { switches = []; numerators = []; denominator = d }))

pub record ExamplesStand : Type 0 where
  pub reports : AllByRecursion (λ e. lines e.outcome ≡ e.report) examples
  -- numbered from 1 on, and from 20 on
  pub input_numbers : map input_number input_causes ≡ range_with_len 1 9
  pub state_numbers : map state_number state_causes ≡ range_with_len 20 15
  -- numbers of more than 64 digits can look alike
  pub cut : lines (over (10 ^ 64)) ≡ lines (over (2 * 10 ^ 64))
