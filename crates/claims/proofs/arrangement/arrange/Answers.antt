use Rattle.std.proofs.Common.{length, ap, ◌∙◌, arith}
use Rattle.std.proofs.lemmas.List.FromFn.{length-map-range_with_len}
use Rattle.calculus.specs.Trails.{value}
use Rattle.tables.specs.Tables.{trail_of}
use Rattle.claims.proofs.arrangement.arrange.Goals as goal

pub copied-requires : goal.copied-requires
copied-requires g c = omega (arith, ap length c.numerators.ensures ∙ length-map-range_with_len (λ j. value j (trail_of c.args.trail.now)) 1 c.measures.result, g.met.T.Theory.few c.args.theory.now, c.measures.ensures)
