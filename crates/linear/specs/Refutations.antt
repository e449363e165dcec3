-- The parts of the sum that a hint makes of a clause.
use Rattle.std.specs.Prelude.{List}
use Rattle.rows.specs.Hints.{Part, hinted_parts}
use Rattle.linear.specs.declared.denials.Summand.{Summand}
use Rattle.linear.specs.declared.refutations.Refutation.{Refutation}
use Rattle.linear.specs.Denials.{denied_if}
use Rattle.linear.specs.Models.{table}

abbrev pub part : Summand → Part
part s = (s.multiplier, denied_if s.denial)

-- the multipliers with the denials that they are for
abbrev pub parts_of : Refutation → List Part
parts_of r = hinted_parts (table r.clause.linear.now).rows r.clause.switches r.clause.literals.now r.hint.now
