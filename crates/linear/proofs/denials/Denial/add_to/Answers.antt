use Rattle.std.proofs.Common.{◌≡◌, ◌+ℤ◌, ◌*ℤ◌, pos, neg_ℤ, ◌-ℤ◌, get_or, sym, ap, ◌∙◌, arith, w32, to_z, of_z}
use Rattle.std.proofs.lemmas.Int.{ints}
use Rattle.fixedvec.specs.Items.{items_of}
use Rattle.rows.specs.Rows.{coefficient_of}
use Rattle.linear.specs.Denials.{denied}
use Rattle.linear.proofs.Sums.{sized_abs}
use Rattle.linear.proofs.Columns.{turned_column}
use Rattle.linear.proofs.denials.Denial.add_to.Goals as goal

pub returns-in-Turned-clause-sums : goal.returns-in-Turned-clause-sums
returns-in-Turned-clause-sums c = λ j h.
    let es = items_of c.in-Turned.atom.now.entries.items in
    let m = c.args.factor in
    let near = sized_abs 100000000 m c.requires.factor in
    let w = to_z w32 (of_z w32 m) in
    let same : w ≡ m = omega (arith, ints, near) in
    let f = to_z w32 (of_z w32 (pos 0 -ℤ w)) in
    let turned : f ≡ neg_ℤ w = omega (arith, ints, near) in
    let old = get_or c.args.sums.now j (pos 0) in
    c.add_to-in-Turned.ensures.sums j h
    ∙ ap (λ z. old +ℤ z *ℤ coefficient_of j es) turned
    ∙ ap (λ z. old +ℤ z) (turned_column w j es)
    ∙ ap (λ d. old +ℤ w *ℤ coefficient_of j (denied d).entries) (sym c.in-Turned.is)
    ∙ ap (λ z. old +ℤ z *ℤ coefficient_of j (denied c.args.self.now).entries) same
