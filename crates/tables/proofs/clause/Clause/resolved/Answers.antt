use Rattle.std.proofs.Common.{arith, to_z-of_z}
use Rattle.tables.specs.Tables.{literals_of}
use Rattle.tables.proofs.Resolving.{joined, joined_fits, joined_long}
use Rattle.tables.proofs.clause.Clause.resolved.Goals as goal

pub returns-in_err-ok : goal.returns-in_err-ok
returns-in_err-ok c =
    let long = joined_long c.args.literal _ (literals_of c.args.self.now) c.args.reason.now _ _ (to_z-of_z c.ranges.literal) c.without-resolvent.ensures c.followers-followers.ensures in
    grind (arith, long)

pub returns : goal.returns
returns c =
    let fits = joined_fits c.args.literal _ (literals_of c.args.self.now) c.args.reason.now _ _ (to_z-of_z c.ranges.literal) c.without-resolvent.ensures c.followers-followers.ensures in
    let whole = joined c.args.literal _ (literals_of c.args.self.now) c.args.reason.now _ _ (to_z-of_z c.ranges.literal) c.without-resolvent.ensures c.followers-followers.ensures in
    grind (arith, fits, whole)
