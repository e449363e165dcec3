use Rattle.std.proofs.Common.{◌<◌, get_or, take, pos, ◌+ℤ◌, ◌*ℤ◌, sym, ap, ◌∙◌, arith, w32, SFits, rules}
use Rattle.std.proofs.lemmas.Int.{ints}
use Rattle.calculus.specs.Lists.{nth}
use Rattle.rows.specs.Rows.{weight}
use Rattle.linear.proofs.Sums.{back₂, sum_step, total_more}
use Rattle.linear.proofs.Listed.{no_entry, small_at, nth_sized}
use Rattle.linear.proofs.entries.Entries.weighed.Goals as goal

pub product-sum-requires : goal.product-sum-requires
product-sum-requires c =
    let x = get_or c.as_slice-entries.result.now c.loop-e.e-index no_entry in
    let s = small_at c.as_slice-entries.result.now c.loop-e.e-index c.as_slice-entries.ensures.small c.loop-e-test.true in
    let n = nth_sized 1000000000 c.args.numerators.now x.measure c.requires in
    record { left = omega (arith, ints); right = omega (arith, ints) }

pub loop-e-preserved : goal.loop-e-preserved
loop-e-preserved c =
    let i = c.loop-e.e-index in
    let es = c.as_slice-entries.result.now in
    let xs = c.args.numerators.now in
    let x = get_or es i no_entry in
    let s = small_at es i c.as_slice-entries.ensures.small c.loop-e-test.true in
    let f : SFits w32 x.coefficient = omega (arith, ints) in
    let g : SFits w32 c.value_at.result = search rules in
    let e = c.product-sum.ensures.value ∙ back₂ x.coefficient c.value_at.result f g ∙ ap (λ z. x.coefficient *ℤ z) c.value_at.ensures in
    let v = total_more (λ y. y.coefficient *ℤ nth (pos 0) xs y.measure) es i no_entry c.loop-e-test.true in
    let h : i < 16 = omega (arith, c.as_slice-entries.ensures.few) in
    sum_step _ c.product-sum.result _ _ i h c.loop-e.invariant.0 c.loop-e.invariant.1 c.product-sum.ensures.small (v ∙ ap (λ z. weight (take i es) xs +ℤ z) (sym e))
