use Rattle.std.proofs.Common.{◌≡◌, ℕ, ◌+◌, ◌-◌, map, take, drop, pos, ap, ◌∙◌, arith}
use Rattle.std.specs.List.{range_with_len}
use Rattle.std.proofs.lemmas.List.FromFn.{fill_by_all, take-map-range_with_len}
use Rattle.calculus.specs.Trails.{value}
use Rattle.tables.specs.Tables.{trail_of}
use Rattle.tables.proofs.trail.Trail.numerators.Goals as goal

pub returns : goal.returns
returns c =
    let f = λ (j : ℕ). value j (trail_of c.args.self.now) in
    let xs = c.args.self.now.numerators in
    let t = c.from.result in
    let filled : xs ≡ map f (range_with_len 0 17) = fill_by_all f xs 17 (pos 0) c.args.self.now.wide (λ j l. c.args.self.now.weighed j (omega (arith, l))) in
    let short : t + 1 - 1 ≡ t = omega arith in
    ap (λ ys. take (t + 1 - 1) (drop 1 ys)) filled ∙ ap (λ n. take n (map f (range_with_len 1 16))) short ∙ take-map-range_with_len f 1 16 t (omega (arith, c.from.ensures, c.requires)) ∙ ap (λ n. map f (range_with_len 1 n)) c.from.ensures
