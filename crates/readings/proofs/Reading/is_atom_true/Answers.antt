use Rattle.std.proofs.Common.{◌∙◌}
use Rattle.readings.proofs.Asking.{true_so}
use Rattle.readings.proofs.Reading.is_atom_true.Goals as goal

pub returns : goal.returns
returns g c h = c.holds.ensures ∙ true_so g.T.Theory.kind g.met.T.Theory.lawful (g.T.Theory.model c.args.self.now.atoms.theory.now) c.args.atom c.args.numerators.now c.args.self.now.denominator h
