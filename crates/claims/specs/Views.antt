-- What the arrangement of the code stands for.
use Rattle.fixedvec.specs.Items.{items_of}
use Rattle.calculus.specs.Arrangements.{Arrangement}
use Rattle.claims.specs.declared.arrangement.Arrangement as code

abbrev pub arrangement_of : code.Arrangement → Arrangement
arrangement_of a = record { switches = items_of a.switches; numerators = items_of a.numerators; denominator = a.denominator }
