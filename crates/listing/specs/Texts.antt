-- The text of a refusal.
use Rattle.std.specs.Prelude.{ℕ, List, ◌++◌, codes, decimal}
use Rattle.faults.specs.Causes.{file_code}
use Rattle.files.specs.declared.records.Stop.{Stop}

-- the number of the cause, the file, the record and its byte, and the layer
abbrev pub refusal_text : ℕ → Stop → List ℕ
refusal_text file stop =
    codes "refused " ++ (decimal (file_code stop.fault).cause
    ++ (codes " file " ++ (decimal file
    ++ (codes " record " ++ (decimal stop.number
    ++ (codes " byte " ++ (decimal stop.byte
    ++ (codes " layer " ++ decimal (file_code stop.fault).layer))))))))
