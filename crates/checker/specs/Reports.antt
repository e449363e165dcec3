-- The report of a whole check, from the number of a theory and the bytes of a case and its log alone.
use Rattle.std.specs.Prelude.{ℕ, cond, ◌⊎◌, List, ◌==◌}
use Rattle.std.proofs.Common.{inl, inr}
use Rattle.faults.specs.declared.InputCause.{InputCause}
use Rattle.faults.specs.declared.InputCause.TheVariants.{OutOfRange}
use Rattle.faults.specs.declared.FileFault.{FileFault}
use Rattle.faults.specs.declared.FileFault.TheVariants.{Input}
use Rattle.files.specs.Frames.{Framed, framed}
use Rattle.switches.specs.Switches.{switches_only}
use Rattle.piles.specs.Piles.{congruent_linear}
use Rattle.verdicts.specs.Outcomes.{Outcome, Refused, stop_at, checked}
use Rattle.report.specs.Lines.{lines}

-- refused before any file is read: no file, no record and no byte
abbrev pub refused_with : FileFault → Outcome
refused_with fault = Refused 0 (stop_at 0 0 fault)

-- 1 is the theory of switches only, and 2 congruence over linear
abbrev pub outcome_by : ℕ → List ℕ → List ℕ → Outcome
outcome_by theory case log =
    cond (theory == 1) (checked switches_only case log)
    (cond (theory == 2) (checked congruent_linear case log)
    (refused_with (Input OutOfRange)))

abbrev pub report_by : ℕ → List ℕ → List ℕ → List ℕ
report_by theory case log = lines (outcome_by theory case log)

-- the same, from one frame that holds all three
abbrev pub outcome_in : InputCause ⊎ Framed → Outcome
outcome_in (inl cause) = refused_with (Input cause)
outcome_in (inr f) = outcome_by f.theory f.case_file f.log_file

abbrev pub report_of_frame : List ℕ → List ℕ
report_of_frame input = lines (outcome_in (framed input))
