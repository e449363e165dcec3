use Rattle.std.proofs.Common.{max, arith, rules}
use Rattle.std.proofs.lemmas.Iterator.{YieldsList-from_slice}
use Rattle.std.proofs.lemmas.Iterator.Consumers.{fold_from_yields_List}
use Rattle.calculus.specs.Trails.{false_at}
use Rattle.tables.specs.Tables.{trail_of}
use Rattle.tables.proofs.Weighing.{highest_fold}
use Rattle.tables.proofs.trail.Trail.top_level.Goals as goal

pub returns : goal.returns
returns c =
    let e = fold_from_yields_List _ (λ top k. max top (false_at (trail_of c.args.self.now) k)) 0 _ c.fold.ensures.ran (YieldsList-from_slice c.args.clause.now cc) (λ a x b q k. search rules) in
    omega (arith, e, highest_fold (false_at (trail_of c.args.self.now)) c.args.clause.now 0)
