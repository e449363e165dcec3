use Rattle.std.proofs.Common.{◌≡◌, ℕ, ◌+◌, ◌-◌, map, take, drop, pos, ap, ◌∙◌, rules, tests, arith}
use Rattle.std.specs.List.{range_with_len}
use Rattle.std.proofs.lemmas.Iterator.{YieldsList-from_slice}
use Rattle.std.proofs.lemmas.Iterator.Search.{all_from_yields_List}
use Rattle.std.proofs.lemmas.List.Folds.{list_all-map}
use Rattle.std.proofs.lemmas.List.FromFn.{fill_by_all, take-map-range_with_len}
use Rattle.calculus.specs.Lists.{every}
use Rattle.calculus.specs.Literals.{same}
use Rattle.rows.specs.Hints.{column}
use Rattle.linear.specs.Refutations.{parts_of}
use Rattle.linear.proofs.refutations.Refutation.columns_zero.Goals as goal

pub returns : goal.returns
returns c =
    let ps = parts_of c.args.self.now in
    let f = λ (j : ℕ). column j ps in
    let sums = c.columns-columns.result in
    let t = c.from-measures.result in
    let filled : sums ≡ map f (range_with_len 0 17) = fill_by_all f sums 17 (pos 0) c.columns-columns.ensures.long c.columns-columns.ensures.sums in
    let there : take t (drop 1 sums) ≡ map f (range_with_len 1 t) = ap (λ xs. take t (drop 1 xs)) filled ∙ take-map-range_with_len f 1 16 t (omega (arith, c.from-measures.ensures, c.measure_count.ensures.few)) in
    let short : t + 1 - 1 ≡ t = omega arith in
    all_from_yields_List (λ x. same x (pos 0)) _ _ _ c.all.ensures.ran (YieldsList-from_slice (take t (drop 1 sums)) (c.iter.ensures.rest ∙ ap (λ n. take n (drop 1 sums)) short)) (λ x b q k. search (rules, tests))
    ∙ ap (every (λ x. same x (pos 0))) there
    ∙ list_all-map (λ x. same x (pos 0)) f (range_with_len 1 t)
    ∙ ap (λ n. every (λ j. same (f j) (pos 0)) (range_with_len 1 n)) (c.from-measures.ensures ∙ c.measure_count.ensures.value)
