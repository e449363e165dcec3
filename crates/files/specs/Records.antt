-- A file: the version byte 1, and then records. A record is a length in two bytes and that many bytes, of which
-- the first is its kind and the rest its body.
use Rattle.std.specs.Prelude.{ℕ, zero, suc, ◌+◌, cond, ◌⊎◌, List, [], ◌∷◌, length, take, drop, Some, None, Option, ◌==◌, nat_le}
use Rattle.std.proofs.Common.{inl, inr}
use Rattle.faults.specs.declared.InputCause.{InputCause}
use Rattle.faults.specs.declared.InputCause.TheVariants.{WrongVersion, FileTooLong, BadRecordLength}
use Rattle.faults.specs.declared.FileFault.{FileFault}
use Rattle.faults.specs.declared.FileFault.TheVariants.{Input}
use Rattle.files.specs.declared.records.FileKind.{FileKind}
use Rattle.files.specs.declared.records.FileKind.TheVariants.{Case, Log}
use Rattle.numerals.specs.Numbers.{two_bytes}

-- the number of a file in a report
abbrev pub file_number : FileKind → ℕ
file_number Case = 1
file_number Log = 2

abbrev pub most_case_bytes : ℕ
most_case_bytes = 20000

abbrev pub most_log_bytes : ℕ
most_log_bytes = 40000

-- how long a file may be
abbrev pub most_bytes : FileKind → ℕ
most_bytes Case = most_case_bytes
most_bytes Log = most_log_bytes

-- the tests of a file before its records: its first byte, and then its length
abbrev pub opened : FileKind → List ℕ → InputCause ⊎ Unit {0}
opened kind [] = inl WrongVersion
opened kind (version ∷ rest) =
    cond (version == 1)
    (cond (nat_le (length (version ∷ rest)) (most_bytes kind)) (inr tt) (inl FileTooLong))
    (inl WrongVersion)

-- a record: its number from 1, the byte from 0 where its length stands, its kind and its body
pub record Entry : Type 0 where
  pub number : ℕ
  pub start : ℕ
  pub kind : ℕ
  pub body : List ℕ

-- the bytes that a record takes: its length, its kind and its body
abbrev pub size : Entry → ℕ
size e = 3 + length e.body

-- the record of the bytes that its length counts
abbrev pub entry_of : ℕ → ℕ → List ℕ → InputCause ⊎ Option Entry
entry_of number start [] = inl BadRecordLength
entry_of number start (kind ∷ body) = inr (Some (record { number = number; start = start; kind = kind; body = body }))

-- what stands at a place, from the bytes there on: the end, a whole record, or a length that is cut short,
-- 0 or beyond the end
abbrev pub next_entry : ℕ → ℕ → List ℕ → InputCause ⊎ Option Entry
next_entry number start [] = inr None
next_entry number start (a ∷ []) = inl BadRecordLength
next_entry number start (a ∷ b ∷ rest) =
    cond (nat_le (two_bytes a b) (length rest)) (entry_of number start (take (two_bytes a b) rest)) (inl BadRecordLength)

-- what stands at a place of a file, with so many records before it
abbrev pub entry_at : ℕ → ℕ → List ℕ → InputCause ⊎ Option Entry
entry_at count place file = next_entry (count + 1) place (drop place file)

-- the place after such a step: a refusal and the end leave it
abbrev pub place_after : ℕ → InputCause ⊎ Option Entry → ℕ
place_after place (inl c) = place
place_after place (inr None) = place
place_after place (inr (Some e)) = place + size e

-- and how many records were handed out by then
abbrev pub count_after : ℕ → InputCause ⊎ Option Entry → ℕ
count_after count (inl c) = count
count_after count (inr None) = count
count_after count (inr (Some e)) = count + 1

-- what reading a whole file gives: its records in order, and then its end, or the number and the place of what
-- is refused, with the fault
pub data Reading : Type 0 where
  Ended : Reading
  Stopped : ℕ → ℕ → FileFault → Reading
  Then : Entry → Reading → Reading

abbrev pub onward : ℕ → ℕ → (Entry → Reading) → InputCause ⊎ Option Entry → Reading
onward number start more (inl c) = Stopped number start (Input c)
onward number start more (inr None) = Ended
onward number start more (inr (Some e)) = Then e (more e)

-- the records from a place on, at most as many as the first number
abbrev pub reading : ℕ → ℕ → ℕ → List ℕ → Reading
reading zero number start bytes = Ended
reading (suc most) number start bytes =
    onward number start (λ e. reading most (number + 1) (start + size e) (drop (size e) bytes)) (next_entry number start bytes)

abbrev pub unless_refused : InputCause ⊎ Unit {0} → Reading → Reading
unless_refused (inl c) r = Stopped 0 0 (Input c)
unless_refused (inr ok) r = r

-- all of a file: it has fewer records than bytes
abbrev pub read_file : FileKind → List ℕ → Reading
read_file kind file = unless_refused (opened kind file) (reading (length file) 1 1 (drop 1 file))
