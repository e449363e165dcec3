use Rattle.std.proofs.Common.{◌≡◌, true, not, map, filter, sym, ap, ◌∙◌, rules, tests}
use Rattle.std.specs.List.{range_with_len}
use Rattle.std.proofs.lemmas.Iterator.{YieldsList-from_slice}
use Rattle.std.proofs.lemmas.Iterator.Search.{all_from_yields_List}
use Rattle.std.proofs.lemmas.List.Folds.{list_all-map}
use Rattle.calculus.specs.Questions.{in_limits}
use Rattle.calculus.specs.Trails.{Entry, stays_true, valued, value, numerators}
use Rattle.tables.specs.Views.{entry_of, entries_of}
use Rattle.tables.specs.Tables.{trail_of}
use Rattle.readings.proofs.Asking.{numerators_limited}
use Rattle.readings.proofs.Reading.bears.Goals as goal

pub returns : goal.returns
returns g c just there =
    let K = g.T.Theory.kind in
    let r = c.args.self.now in
    let m = g.T.Theory.model r.atoms.theory.now in
    let t = entries_of c.args.old.now in
    let u = trail_of c.args.new.now in
    let d = r.denominator in
    let now = range_with_len 1 (K.measures m) in
    let without : c.as_slice-unvalued.result.now ≡ filter (λ j. not (valued j u)) now = c.as_slice-unvalued.ensures.value ∙ c.unvalued-unvalued_now.ensures ∙ ap (λ k. filter (λ j. not (valued j u)) (range_with_len 1 k)) c.measures-measures.ensures in
    let values : c.numerators-numerators.result.now ≡ numerators K m u = c.numerators-numerators.ensures ∙ ap (λ k. map (λ j. value j u) (range_with_len 1 k)) c.measures-measures.ensures in
    let limited : in_limits (K.measures m) c.numerators-numerators.result.now d ≡ true = ap (λ xs. in_limits (K.measures m) xs d) values ∙ numerators_limited K m u d c.args.new.now.tidied r.divides in
    let p = λ (e : Entry). stays_true K m r.atoms.switches d t u e.content in
    all_from_yields_List (λ e. p (entry_of e)) _ _ _ c.all.ensures.ran (YieldsList-from_slice c.args.old.now cc) (λ x b q k. search (rules, tests, just, there, without, values, limited))
    ∙ sym (list_all-map p entry_of c.args.old.now)
