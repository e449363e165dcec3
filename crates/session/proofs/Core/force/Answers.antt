use Rattle.std.proofs.Common.{ap}
use Rattle.calculus.specs.States.{State}
use Rattle.calculus.specs.Trails.Origin.{Chosen}
use Rattle.tables.specs.Tables.{trail_of}
use Rattle.tables.proofs.Dropping.{enters_again}
use Rattle.session.proofs.Core.force.Goals as goal

pub push-requires-clause-off_trail : goal.push-requires-clause-off_trail
push-requires-clause-off_trail g c =
    let t = c.args.self.now.trail in
    let kept = ap (λ (s : State g.T.Theory.kind). s.trail) c.resume.ensures in
    (enters_again (trail_of t) (trail_of c.resume.new.self.trail) c.args.literal c.args.level Chosen t.tidied c.ranges.literal c.requires.proper_literal c.requires.below_denial kept).1
