use Rattle.std.proofs.Common.{◌≡◌, ◌-◌, length, inr}
use Rattle.files.specs.Records.{opened}
use Rattle.session.specs.Views.{view}
use Rattle.driver.specs.Holding.{Holds}
use Rattle.driver.proofs.Reading.{Reached}
use Rattle.driver.proofs.taking.take_file.Given as goal

abbrev pub invariant-loop-entry : goal.invariant-loop-entry
invariant-loop-entry g l =
    (l.reader.file.now ≡ l.file)
    × (opened l.kind l.file ≡ inr tt)
    × Reached g.T.Theory.kind l.kind l.file (view g.T.Theory.kind g.T.Theory.model l.initial.session) l.reader.place l.reader.count (view g.T.Theory.kind g.T.Theory.model l.session)
    × Holds g.T.Theory.kind g.T.Theory.model l.held l.session

abbrev pub decreases-loop-entry : goal.decreases-loop-entry
decreases-loop-entry g l = length l.file - l.reader.place
