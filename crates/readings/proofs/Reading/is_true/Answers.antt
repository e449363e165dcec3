use Rattle.std.proofs.Common.{◌≡◌, ◌-◌, true, map, ap, ◌∙◌, List, ℤ, w8, to_z, of_z, to_z-of_z}
use Rattle.std.specs.List.{range_with_len}
use Rattle.calculus.specs.Literals.{signed}
use Rattle.calculus.specs.Questions.{in_limits}
use Rattle.calculus.specs.Trails.{value, numerators}
use Rattle.tables.specs.Tables.{trail_of}
use Rattle.readings.proofs.Asking.{numerators_limited}
use Rattle.readings.proofs.Reading.is_true.Goals as goal

pub returns : goal.returns
returns g c =
    let K = g.T.Theory.kind in
    let m = g.T.Theory.model c.args.self.now.atoms.theory.now in
    let t = c.args.trail.now in
    let d = c.args.self.now.denominator in
    let values : c.numerators-numerators.result.now ≡ numerators K m (trail_of t) = c.numerators-numerators.ensures ∙ ap (λ k. map (λ j. value j (trail_of t)) (range_with_len 1 k)) c.measures.ensures in
    let limited : in_limits (K.measures m) c.numerators-numerators.result.now d ≡ true = ap (λ xs. in_limits (K.measures m) xs d) values ∙ numerators_limited K m (trail_of t) d t.tidied c.args.self.now.divides in
    let says = λ (xs : List ℤ) (k : ℤ). signed k (λ n. K.truth m (n - c.args.self.now.atoms.switches) xs d) in
    c.is_true_of.ensures limited ∙ ap (λ xs. says xs (to_z w8 (of_z w8 c.args.literal))) values ∙ ap (says (numerators K m (trail_of t))) (to_z-of_z c.ranges.literal)
