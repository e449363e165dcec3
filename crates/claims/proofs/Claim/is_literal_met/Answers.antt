use Rattle.std.proofs.Common.{◌≡◌, ◌≤◌, nat_abs, ap, ◌∙◌, arith, to_z-of_z, w8, SFits, to_z, of_z, rules}
use Rattle.calculus.specs.Literals.{number}
use Rattle.tables.specs.Tables.{trail_of}
use Rattle.tables.proofs.Narrowing.{abs_number}
use Rattle.claims.proofs.Meeting.{affirmed_by, by_switch}
use Rattle.claims.proofs.Claim.is_literal_met.Goals as goal

pub returns-then-unsigned_abs-self : goal.returns-then-unsigned_abs-self
returns-then-unsigned_abs-self g c =
    let l = c.args.literal in
    let r = c.args.self.now.reading in
    let t = trail_of c.args.self.now.trail.now in
    let f : SFits w8 l = search rules in
    let own : to_z w8 (of_z w8 l) ≡ l = to_z-of_z f in
    let n : c.unsigned_abs.result ≡ number l = c.unsigned_abs.ensures.value ∙ ap nat_abs own ∙ abs_number l in
    let h : number l ≤ r.atoms.switches = omega (arith, n, c.if-unsigned_abs-self.true) in
    c.is_affirmed.ensures ∙ ap (affirmed_by t) own ∙ by_switch g.T.Theory.kind (g.T.Theory.model r.atoms.theory.now) r.atoms.switches r.denominator t l h
