use Rattle.std.proofs.Common.{◌≡◌, ◌^◌, ◌<◌, ◌≤◌, length, take, ◌+ℤ◌, sym, refl, ap, ◌∙◌, arith, rules}
use Rattle.std.proofs.lemmas.Int.{ints}
use Rattle.std.proofs.lemmas.List.{take_all}
use Rattle.rows.specs.Rows.{total}
use Rattle.linear.specs.Refutations.{parts_of}
use Rattle.linear.proofs.Sums.{total_more}
use Rattle.linear.proofs.Hinted.{no_part, parts_length_is, long_sum_step}
use Rattle.linear.proofs.refutations.Refutation.total.Goals as goal

pub loop-i-preserved : goal.loop-i-preserved
loop-i-preserved g c =
    let ps = parts_of c.args.self.now in
    let n = parts_length_is c.args.self.now in
    let i = c.loop-i.i in
    let h : i < 2 ^ 64 = search rules in
    let l : i < length ps = omega arith in
    let e : c.from-sum.result ≡ c.term.result = omega (arith, ints) in
    let b = c.requires.small _ c.term.result c.term.ensures in
    record {
      so_far = λ f terms. (long_sum_step _ c.term.result c.from-sum.result _ _ i h (c.loop-i.invariant.so_far f terms) c.loop-i.invariant.small e b (total_more f ps i no_part l ∙ ap (λ z. total f (take i ps) +ℤ z) (sym (terms _ c.term.result c.term.ensures ∙ ap f c.summand.ensures)))).0;
      small = (long_sum_step _ c.term.result c.from-sum.result _ _ i h refl c.loop-i.invariant.small e b refl).1;
    }

pub returns : goal.returns
returns g c f terms =
    let ps = parts_of c.args.self.now in
    let n = parts_length_is c.args.self.now in
    let h : length ps ≤ c.loop-i.i = omega arith in
    c.loop-i.invariant.so_far f terms ∙ ap (total f) (take_all c.loop-i.i ps h)
