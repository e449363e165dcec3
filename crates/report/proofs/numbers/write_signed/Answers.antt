use Rattle.std.proofs.Common.{◌≡◌, [], ◌∷◌, ◌++◌, ℤ, pos, negsuc, nat_abs, ◌≤ℤ◌, ◌<ℤ◌, decimal, refl, ap, ◌∙◌, arith}
use Rattle.std.specs.Fmt.{signed_decimal}
use Rattle.std.proofs.lemmas.Int.{to_z-of_z, ints}
use Rattle.report.proofs.Writing.{nothing, one_more, then}
use Rattle.report.proofs.numbers.write_signed.Goals as goal

minus : (z : ℤ) → z <ℤ pos 0 → signed_decimal z ≡ (45 ∷ []) ++ decimal (nat_abs z)
minus (pos n) h = absurd (let k : ⊥ = grind (arith, ints) in k)
minus (negsuc n) h = refl

plain : (z : ℤ) → pos 0 ≤ℤ z → signed_decimal z ≡ decimal (nat_abs z)
plain (pos n) h = refl
plain (negsuc n) h = absurd (let k : ⊥ = grind (arith, ints) in k)

pub returns-then-z-lt0 : goal.returns-then-z-lt0
returns-then-z-lt0 c =
    let e : c.unsigned_abs-size.result ≡ nat_abs c.args.z = c.unsigned_abs-size.ensures.value ∙ ap nat_abs (to_z-of_z _ _ c.ranges.z) in
    record {
      wrote = rw (minus c.args.z (omega (arith, ints)), ← e) (then (one_more [] c.args.rest.now c.args.rest.now 0 45 (nothing c.args.rest.now) (omega arith)) c.write_number.ensures.wrote);
      bound = omega arith;
    }
