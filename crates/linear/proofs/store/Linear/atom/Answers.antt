use Rattle.std.proofs.Common.{◌≡◌, List, length, get_or, ltb, IfSome, ap, ◌∙◌, subst, arith}
use Rattle.fixedvec.specs.Items.{items_of}
use Rattle.linear.specs.declared.atoms.Atom.{Atom}
use Rattle.linear.proofs.Tabled.{row_found}
use Rattle.linear.proofs.store.Linear.atom.Goals as goal

pub returns-clause-row : goal.returns-clause-row
returns-clause-row c =
    let e = c.as_slice.ensures.value in
    let got : IfSome c.get.result (λ a. a.now ≡ get_or (items_of c.args.self.now.atoms) c.in_ok-place.place a.now) = subst (λ (atoms : List Atom). IfSome c.get.result (λ a. a.now ≡ get_or atoms c.in_ok-place.place a.now)) e c.get.ensures.lookup.1 in
    row_found (items_of c.args.self.now.atoms) c.in_ok-place.place c.args.number c.get.result (c.get.ensures.lookup.0 ∙ ap (λ atoms. ltb c.in_ok-place.place (length atoms)) e) got (omega (arith, c.in_ok-place.ensures))
