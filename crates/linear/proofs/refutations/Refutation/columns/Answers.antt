use Rattle.std.proofs.Common.{◌<◌, ◌≤◌, length, take, pos, ◌+ℤ◌, ◌*ℤ◌, refl, sym, ap, ◌∙◌, arith, rules}
use Rattle.std.proofs.lemmas.Int.{ints}
use Rattle.std.proofs.lemmas.List.{get_or-replicate, take_all}
use Rattle.rows.specs.Hints.{Part, column, coefficient_in}
use Rattle.linear.specs.Refutations.{part, parts_of}
use Rattle.linear.proofs.Sums.{total_more}
use Rattle.linear.proofs.Hinted.{no_part, parts_length_is}
use Rattle.linear.proofs.refutations.Refutation.columns.Goals as goal

pub loop-i-init : goal.loop-i-init
loop-i-init c = (refl, λ j h. get_or-replicate 17 j (pos 0) (pos 0) h, λ j h. omega (arith, ints, get_or-replicate 17 j (pos 0) (pos 0) h))

pub loop-i-preserved : goal.loop-i-preserved
loop-i-preserved c =
    let ps = parts_of c.args.self.now in
    let n = parts_length_is c.args.self.now in
    let i = c.loop-i.i in
    let l : i < length ps = omega arith in (
      search rules,
      λ j h.
          let t = λ (p : Part). p.0 *ℤ coefficient_in j p.1 in
          c.add_to.ensures.sums j h ∙ ap (λ z. z +ℤ t (part c.summand.result)) (c.loop-i.invariant.1 j h) ∙ ap (λ p. column j (take i ps) +ℤ t p) c.summand.ensures ∙ sym (total_more t ps i no_part l),
      λ j h. omega (arith, c.add_to.ensures.small _ c.loop-i.invariant.2 j h),
    )

pub returns-clause-sums : goal.returns-clause-sums
returns-clause-sums c = λ j h.
    let ps = parts_of c.args.self.now in
    let n = parts_length_is c.args.self.now in
    let l : length ps ≤ c.loop-i.i = omega arith in
    c.loop-i.invariant.1 j h ∙ ap (column j) (take_all c.loop-i.i ps l)
