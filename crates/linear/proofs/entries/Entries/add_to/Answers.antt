use Rattle.std.proofs.Common.{◌≡◌, ◌+◌, ◌*◌, ◌≤◌, length, get_or, ℤ, pos, ◌+ℤ◌, ◌*ℤ◌, nat_abs, ap, ◌∙◌, arith, w32, SFits, to_z, of_z}
use Rattle.std.specs.Int.{w128}
use Rattle.std.proofs.lemmas.Int.{ints, to_z-of_z}
use Rattle.std.proofs.lemmas.List.{length-set}
use Rattle.linear.proofs.Listed.{no_entry, small_at}
use Rattle.linear.proofs.Columns.{sum_fits, column_more, column_same, column_small}
use Rattle.linear.proofs.entries.Entries.add_to.Goals as goal
use Rattle.linear.proofs.entries.Entries.add_to.Goals.{then-place-lt-PLACES, else-place-lt-PLACES}

pub overflow_add-sums : goal.overflow_add-sums
overflow_add-sums c =
    let p = c.from-place.result in
    let room = c.loop-e.invariant.2 _ c.requires.room p c.if-place-lt-PLACES.true in
    let few = c.as_slice-entries.ensures.few in
    let small = c.product.ensures.small in
    let same : c.from.result ≡ c.product.result = omega (arith, ints, c.from.ensures, small) in
    let k : nat_abs c.from.result ≤ 160000000000000000 = omega (arith, ints, same, small) in
    sum_fits (get_or c.loop-e.sums p (pos 0)) c.from.result (omega (arith, room, few, c.loop-e-test.true)) k

pub loop-e-preserved : goal.loop-e-preserved
loop-e-preserved c =
    let i = c.loop-e.e-index in
    let l = c.loop-e-test.true in
    let es = c.as_slice-entries.result.now in
    let f : ℤ = to_z w32 (of_z w32 c.args.factor) in
    let e = get_or es i no_entry in
    let sums = c.loop-e.sums in
    let m = c.from-place.result in
    let old = c.args.sums.now in
    elim c.if-place-lt-PLACES.branch [
      | then-place-lt-PLACES w ↦ (
          let low = w.if-place-lt-PLACES.true in
          let small = w.product.ensures.small in
          let x = w.from.result in
          let room = c.loop-e.invariant.2 _ c.requires.room m low in
          let few = c.as_slice-entries.ensures.few in
          let near = small_at es i c.as_slice-entries.ensures.small l in
          let fits : SFits w32 e.coefficient = omega (arith, ints, near) in
          let same : x ≡ w.product.result = omega (arith, ints, w.from.ensures, small) in
          let is : x ≡ f *ℤ e.coefficient = same ∙ w.product.ensures.value ∙ ap (λ z. f *ℤ z) (to_z-of_z w32 e.coefficient fits) in
          let y = to_z w128 (of_z w128 (to_z w128 (of_z w128 (get_or sums m (pos 0))) +ℤ to_z w128 (of_z w128 x))) in
          let now : y ≡ get_or sums m (pos 0) +ℤ x = omega (arith, ints, room, few, small, same) in
          let k : nat_abs x ≤ 160000000000000000 = omega (arith, ints, same, small) in
          let long = c.loop-e.invariant.0 in
          let at = c.from-place.ensures in (
            ap length w.sums-is ∙ length-set sums m y ∙ long,
            λ j h. ap (λ s. get_or s j (pos 0)) w.sums-is ∙ column_more es i l f sums long m low at x y is now old c.loop-e.invariant.1 j h,
            λ b h j q. omega (arith, ap (λ s. nat_abs (get_or s j (pos 0))) w.sums-is, column_small es i l f sums long m low at x y is now (b + i * 160000000000000000) k (c.loop-e.invariant.2 b h) j q),
          )
          )
      | else-place-lt-PLACES w ↦ (
        ap length w.sums-is ∙ c.loop-e.invariant.0,
        λ j h. ap (λ s. get_or s j (pos 0)) w.sums-is ∙ column_same es i l f (get_or sums j (pos 0)) (get_or old j (pos 0)) j (λ q. omega (arith, q, h, w.if-place-lt-PLACES.false, c.from-place.ensures)) (c.loop-e.invariant.1 j h),
        λ b h j q. omega (arith, ap (λ s. nat_abs (get_or s j (pos 0))) w.sums-is, c.loop-e.invariant.2 b h j q),
      )
    ]

pub returns-clause-small : goal.returns-clause-small
returns-clause-small c = λ b h j l. omega (arith, c.loop-e.invariant.2 b h j l, c.as_slice-entries.ensures.few, c.loop-e.auto.e-index-end)
