use Rattle.std.proofs.Common.{◌≡◌, length, ℤ, Option, sym, ap, ◌∙◌, ap₂, arith, w8, w32, to_z, of_z}
use Rattle.std.proofs.lemmas.Int.{ints, to_z-of_z}
use Rattle.calculus.specs.Limits.{sized}
use Rattle.linear.specs.Models.{table}
use Rattle.rows.specs.Bounds.{most_size}
use Rattle.rows.specs.Rows.{Row}
use Rattle.rows.specs.Hints.{denial}
use Rattle.linear.proofs.Hinted.{multiplier_at, multiplier_sized, multiplier_small, hinted_at}
use Rattle.linear.proofs.refutations.Refutation.summand.Goals as goal

pub invariant_of-result : goal.invariant_of-result
invariant_of-result c =
    let ls = c.args.self.now.clause.literals.now in
    let hint = c.args.self.now.hint.now in
    let m = multiplier_small (length ls) hint c.args.i c.requires.place c.args.self.now.multiplied.sized in
    let e : to_z w32 (of_z w32 c.word.result) ≡ multiplier_at hint c.args.i = omega (arith, ints, c.word.ensures) in
    record { near = ap (sized most_size) e ∙ multiplier_sized (length ls) hint c.args.i c.requires.place c.args.self.now.multiplied.sized }

pub returns : goal.returns
returns c =
    let rows = (table c.args.self.now.clause.linear.now).rows in
    let s = c.args.self.now.clause.switches in
    let ls = c.args.self.now.clause.literals.now in
    let hint = c.args.self.now.hint.now in
    let m = multiplier_small (length ls) hint c.args.i c.requires.place c.args.self.now.multiplied.sized in
    let e : to_z w32 (of_z w32 c.word.result) ≡ multiplier_at hint c.args.i = omega (arith, ints, c.word.ensures) in
    let l : to_z w8 (of_z w8 c.args.literal) ≡ c.args.literal = to_z-of_z w8 c.args.literal c.ranges.literal in
    ap₂ (λ (x : ℤ) (y : Option Row). (x, y)) e (c.denial.ensures ∙ ap (denial rows s) (l ∙ c.requires.literal)) ∙ sym (hinted_at rows s ls hint c.args.i c.requires.place)
