-- What holds of every file that is read.
use Rattle.std.specs.Prelude.{◌≡◌, ℕ, suc, ◌+◌, ◌/◌, ◌%◌, ◌<◌, ◌≤◌, ◌⊎◌, List, [], ◌∷◌, ◌++◌, length, take, drop}
use Rattle.faults.specs.declared.FileFault.{FileFault}
use Rattle.files.specs.Records.{Entry, size, Reading, Ended, Stopped, Then}

-- the bytes of a record: its length in two bytes, its kind and its body
abbrev pub written : Entry → List ℕ
written e = suc (length e.body) / 256 ∷ suc (length e.body) % 256 ∷ e.kind ∷ e.body

-- the bytes of all the records that were read, in order
abbrev pub put_back : Reading → List ℕ
put_back Ended = []
put_back (Stopped number start fault) = []
put_back (Then e more) = written e ++ put_back more

abbrev pub Ends : Reading → Type 0
Ends Ended = Unit {0}
Ends (Stopped number start fault) = ⊥
Ends (Then e more) = Ends more

-- Nothing is lost, and nothing is read twice: where reading ends without a fault, the version byte and the
-- records put back together are the file; in any case they are the front of what follows the version byte.
abbrev pub Rebuilds : List ℕ → Reading → Type 0
Rebuilds file r = (Ends r → file ≡ 1 ∷ put_back r) × ((rest : List ℕ) × (drop 1 file ≡ put_back r ++ rest))

-- The records from a number and a place on lie one behind the other, each inside the file and the part of it
-- that its start and size say; the end is that of the file, and a refusal is at a place in it.
abbrev pub InOrder : List ℕ → ℕ → ℕ → Reading → Type 0
InOrder file number place Ended = place ≡ length file
InOrder file number place (Stopped n p fault) = (n ≡ number) × (p ≡ place) × (place < length file)
InOrder file number place (Then e more) =
    (e.number ≡ number)
    × (e.start ≡ place)
    × (place + size e ≤ length file)
    × (e.kind ∷ e.body ≡ take (suc (length e.body)) (drop (place + 2) file))
    × InOrder file (number + 1) (place + size e) more

-- a file that is refused before its records has none; in any other the first has the number 1 and starts at byte 1
abbrev pub Parts : List ℕ → Reading → Type 0
Parts file r = ((fault : FileFault) × (r ≡ Stopped 0 0 fault)) ⊎ InOrder file 1 1 r
