-- The lines of a report, as bytes; each ends with the byte 10.
use Rattle.std.specs.Prelude.{ℕ, ◌+◌, Bool, cond, List, [], ◌∷◌, ◌++◌, ℤ, codes, decimal}
use Rattle.std.specs.Fmt.{signed_decimal}
use Rattle.faults.specs.Causes.{file_code}
use Rattle.calculus.specs.Arrangements.{Arrangement}
use Rattle.calculus.specs.States.{Verdict}
use Rattle.calculus.specs.States.Verdict.{Impossible, Possible, Undecided}
use Rattle.files.specs.declared.records.Stop.{Stop}
use Rattle.verdicts.specs.Outcomes.{Outcome, Told, Refused}

-- `possible 100`: the denominator of all values
abbrev pub possible_line : ℕ → List ℕ
possible_line d = codes "possible " ++ decimal d ++ codes "\n"

-- `s1 yes` or `s1 no`: a switch by its number
abbrev pub switch_line : ℕ → Bool → List ℕ
switch_line number on = codes "s" ++ decimal number ++ cond on (codes " yes\n") (codes " no\n")

-- `m1 50`: the numerator of a measure by its number
abbrev pub measure_line : ℕ → ℤ → List ℕ
measure_line number x = codes "m" ++ decimal number ++ codes " " ++ signed_decimal x ++ codes "\n"

-- `refused 31 file 2 record 6 byte 27 layer 2`: the cause, where it stands, and the layer that refuses
abbrev pub refused_line : ℕ → ℕ → ℕ → ℕ → ℕ → List ℕ
refused_line cause file number byte layer =
    codes "refused "
    ++ decimal cause
    ++ codes " file "
    ++ decimal file
    ++ codes " record "
    ++ decimal number
    ++ codes " byte "
    ++ decimal byte
    ++ codes " layer "
    ++ decimal layer
    ++ codes "\n"

-- the switches in order, numbered from the first argument on
abbrev pub switch_lines : ℕ → List Bool → List ℕ
switch_lines number [] = []
switch_lines number (on ∷ rest) = switch_line number on ++ switch_lines (number + 1) rest

-- and the measures
abbrev pub measure_lines : ℕ → List ℤ → List ℕ
measure_lines number [] = []
measure_lines number (x ∷ rest) = measure_line number x ++ measure_lines (number + 1) rest

abbrev pub stop_line : ℕ → Stop → List ℕ
stop_line file stop =
    refused_line (file_code stop.fault).cause file stop.number stop.byte (file_code stop.fault).layer

abbrev pub arrangement_lines : Arrangement → List ℕ
arrangement_lines a = possible_line a.denominator ++ switch_lines 1 a.switches ++ measure_lines 1 a.numerators

abbrev pub verdict_lines : Verdict → List ℕ
verdict_lines Impossible = codes "impossible\n"
verdict_lines (Possible a) = arrangement_lines a
verdict_lines Undecided = codes "none\n"

-- the report of a check
abbrev pub lines : Outcome → List ℕ
lines (Told v) = verdict_lines v
lines (Refused file stop) = stop_line file stop
