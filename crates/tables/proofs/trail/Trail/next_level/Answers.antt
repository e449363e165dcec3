use Rattle.std.proofs.Common.{not, max, arith, rules, tests}
use Rattle.std.proofs.lemmas.Iterator.{YieldsList-from_slice}
use Rattle.std.proofs.lemmas.Iterator.Consumers.{fold_from_yields_List, YieldsList-from_filter}
use Rattle.calculus.specs.Literals.{same}
use Rattle.calculus.specs.Trails.{false_at}
use Rattle.calculus.specs.Steps.{others}
use Rattle.tables.specs.Tables.{trail_of}
use Rattle.tables.proofs.Weighing.{highest_fold}
use Rattle.tables.proofs.trail.Trail.next_level.Goals as goal

pub returns : goal.returns
returns c =
    let e = fold_from_yields_List _ (λ top k. max top (false_at (trail_of c.args.self.now) k)) 0 _ c.fold.ensures.ran (YieldsList-from_filter _ (λ k. not (same k c.args.literal)) (YieldsList-from_slice c.args.clause.now cc) c.filter.ensures.closure (λ x b q k. search (rules, tests))) (λ a x b q k. search (rules, tests)) in
    omega (arith, e, highest_fold (false_at (trail_of c.args.self.now)) (others c.args.literal c.args.clause.now) 0)
