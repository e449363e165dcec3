use Rattle.std.proofs.Common.{◌+◌, not, ◌||◌, refl, ◌∙◌, rules, tests, arith}
use Rattle.std.proofs.lemmas.Iterator.{YieldsList-from_range}
use Rattle.std.proofs.lemmas.Iterator.Search.{all_from_yields_List}
use Rattle.calculus.specs.Questions.{says_mentioned}
use Rattle.calculus.specs.Trails.{valued}
use Rattle.tables.specs.Tables.{trail_of}
use Rattle.readings.proofs.Asking.{settled_so}
use Rattle.readings.proofs.Atoms.are_settled.Goals as goal

pub returns : goal.returns
returns g c =
    let m = g.T.Theory.model c.args.self.now.theory.now in
    all_from_yields_List (λ j. not (says_mentioned g.T.Theory.kind m c.args.atom j) || valued j (trail_of c.args.trail.now)) _ _ _ c.all.ensures.ran (YieldsList-from_range {s = record { start = 1; end = c.measures-measures.result + 1 }} 1 (c.measures-measures.result + 1) c.measures-measures.result refl (omega arith)) (λ x b q k. search (rules, tests))
    ∙ settled_so g.T.Theory.kind g.met.T.Theory.lawful m c.args.atom c.measures-measures.result c.measures-measures.ensures (λ j. valued j (trail_of c.args.trail.now))
