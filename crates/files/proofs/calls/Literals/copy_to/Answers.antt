use Rattle.std.proofs.Common.{List, set, ℤ, Some, refl, ap, ◌∙◌, arith, w8, SFits, to_z, of_z, rules}
use Rattle.std.proofs.lemmas.Int.{to_z-of_z}
use Rattle.files.proofs.Copies.{signed_length, one_more, fits_count, fits_after, short_count, short_after}
use Rattle.files.proofs.calls.Literals.copy_to.Goals as goal

pub returns-then-n-out : goal.returns-then-n-out
returns-then-n-out c =
    record {
      count = short_count c.args.self.now.bytes.now c.args.out.now (omega (arith, c.len-n.ensures, signed_length c.args.self.now.bytes.now));
      after = short_after c.args.self.now.bytes.now c.args.out.now (omega (arith, c.len-n.ensures, signed_length c.args.self.now.bytes.now));
    }

pub loop-i-init : goal.loop-i-init
loop-i-init c = refl

pub loop-i-preserved : goal.loop-i-preserved
loop-i-preserved c =
    let z : ℤ = to_z w8 (of_z w8 c.signed_byte.result) in
    let f : SFits w8 c.signed_byte.result = search rules in
    ap (λ (l : List ℤ). set l c.loop-i.i z) c.loop-i.invariant
    ∙ one_more c.args.self.now.bytes.now c.args.out.now c.loop-i.i z (omega arith) (omega (arith, c.len-n.ensures, signed_length c.args.self.now.bytes.now)) (to_z-of_z w8 c.signed_byte.result f ∙ c.signed_byte.ensures)

pub returns : goal.returns
returns c =
    record {
      count =
          ap Some (c.len-n.ensures ∙ signed_length c.args.self.now.bytes.now)
          ∙ fits_count c.args.self.now.bytes.now c.args.out.now (omega (arith, c.len-n.ensures, signed_length c.args.self.now.bytes.now));
      after = c.loop-i.invariant ∙ fits_after c.args.self.now.bytes.now c.args.out.now c.loop-i.i (omega (arith, c.len-n.ensures, signed_length c.args.self.now.bytes.now)) (omega arith);
    }

pub bounds-out-i : goal.bounds-out-i
bounds-out-i c = omega (arith, c.len-n.ensures, signed_length c.args.self.now.bytes.now)
