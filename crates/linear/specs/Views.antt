-- Which rows the code's atoms stand for.
use Rattle.std.specs.Prelude.{Some, None, Option}
use Rattle.fixedvec.specs.Items.{items_of}
use Rattle.rows.specs.Rows.{Row}
use Rattle.linear.specs.declared.atoms.Atom.{Atom}

abbrev pub row : Atom → Row
row a = record { relation = a.relation; entries = items_of a.entries.items; constant = a.constant }

abbrev pub row_if : Option Atom → Option Row
row_if None = None
row_if (Some a) = Some (row a)
