use Rattle.std.proofs.Common.{◌+◌, ◌-◌, max, cond, ℕ, refl, rules, tests, arith}
use Rattle.std.specs.List.{range_with_len}
use Rattle.std.proofs.lemmas.Iterator.{YieldsList-from_range}
use Rattle.std.proofs.lemmas.Iterator.Consumers.{fold_from_yields_List}
use Rattle.calculus.specs.Questions.{says_mentioned}
use Rattle.calculus.specs.Trails.{entry_for, values}
use Rattle.tables.specs.Tables.{trail_of}
use Rattle.tables.proofs.Weighing.{highest_fold}
use Rattle.readings.proofs.Asking.{levels_so}
use Rattle.readings.proofs.Atoms.reading_level.Goals as goal

pub returns : goal.returns
returns g c =
    let K = g.T.Theory.kind in
    let m = g.T.Theory.model c.args.self.now.theory.now in
    let n = c.measures-measures.result in
    let at : ℕ → ℕ = λ j. (entry_for (values j) (trail_of c.args.trail.now)).level in
    let a = c.args.number - c.args.self.now.switches in
    let e = fold_from_yields_List _ (λ top j. max top (cond (says_mentioned K m a j) (at j) 0)) 0 _ c.fold.ensures.ran (YieldsList-from_range {s = record { start = 1; end = n + 1 }} 1 (n + 1) n refl (omega arith)) (λ t x b q k. search (rules, tests)) in
    omega (arith, e, highest_fold (λ j. cond (says_mentioned K m a j) (at j) 0) (range_with_len 1 n) 0, levels_so K g.met.T.Theory.lawful m a n c.measures-measures.ensures at)
