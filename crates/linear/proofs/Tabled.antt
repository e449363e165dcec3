-- What the proofs on the table of atoms want.
use Rattle.std.proofs.Common.{◌≡◌, ℕ, suc, ltb, List, map, length, get_or, Some, None, Option, IfSome, is_some, Bor, sym, ap, ◌∙◌}
use Rattle.std.proofs.lemmas.List.{get_or-map}
use Rattle.std.proofs.lemmas.Bool.{ltb-true}
use Rattle.calculus.specs.Lists.{nth}
use Rattle.linear.specs.declared.atoms.Atom.{Atom}
use Rattle.rows.specs.Rows.{no_row}
use Rattle.linear.specs.Views.{row}

-- the atom that was found at a place has the row of the number one higher
pub row_found : (atoms : List Atom) (place number : ℕ) (found : Option (Bor Atom)) → is_some found ≡ ltb place (length atoms) → IfSome found (λ a. a.now ≡ get_or atoms place a.now) → number ≡ suc place → IfSome found (λ a. row a.now ≡ nth no_row (map row atoms) number)
row_found atoms place number None h e n = tt
row_found atoms place number (Some a) h e n = ap row e ∙ sym (get_or-map row atoms place a.now no_row (ltb-true place (length atoms) (sym h))) ∙ ap (nth no_row (map row atoms)) (sym n)
