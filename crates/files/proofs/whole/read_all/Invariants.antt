use Rattle.std.proofs.Common.{◌≡◌, ◌-◌, map, length, vec_items}
use Rattle.files.specs.Views.{entry_view}
use Rattle.files.proofs.Rounds.{Sofar}
use Rattle.files.proofs.whole.read_all.Given as goal

abbrev pub invariant-loop-record : goal.invariant-loop-record
invariant-loop-record l =
    (l.reader.file.now ≡ l.file)
    × Sofar l.initial.reader.kind l.file (map entry_view (vec_items l.records)) l.reader.place l.reader.count

abbrev pub decreases-loop-record : goal.decreases-loop-record
decreases-loop-record l = length l.file - l.reader.place
