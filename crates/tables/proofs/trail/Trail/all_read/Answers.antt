use Rattle.std.proofs.Common.{eqb, neg_ℤ, ◌∙◌, rules, tests}
use Rattle.std.proofs.lemmas.Iterator.{YieldsList-from_slice}
use Rattle.std.proofs.lemmas.Iterator.Consumers.{YieldsList-from_filter}
use Rattle.std.proofs.lemmas.Iterator.Search.{all_from_yields_List}
use Rattle.calculus.specs.Trails.{entry_for, affirms, was_read, false_at}
use Rattle.tables.specs.Tables.{trail_of}
use Rattle.tables.proofs.Weighing.{every_kept}
use Rattle.tables.proofs.trail.Trail.all_read.Goals as goal

pub returns : goal.returns
returns c =
    all_from_yields_List (λ k. was_read (entry_for (affirms (neg_ℤ k)) (trail_of c.args.self.now)).content) _ _ _ c.all.ensures.ran (YieldsList-from_filter _ (λ k. eqb (false_at (trail_of c.args.self.now) k) c.args.level) (YieldsList-from_slice c.args.clause.now cc) c.filter.ensures.closure (λ x b q k. search (rules, tests))) (λ x b q k. search (rules, tests))
    ∙ every_kept _ _ c.args.clause.now
