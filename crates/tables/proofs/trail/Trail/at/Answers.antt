use Rattle.std.proofs.Common.{◌≡◌, ◌<◌, length, get_or, sym, ap, ◌∙◌, subst, arith}
use Rattle.fixedvec.specs.Items.{items_of}
use Rattle.tables.specs.Views.{Finds}
use Rattle.tables.proofs.Placing.{stands, fails, behind}
use Rattle.tables.proofs.trail.Trail.at.Goals as goal

pub returns-in_err-entry : goal.returns-in_err-entry
returns-in_err-entry g c p says under =
    let h = c.in_err-entry.ensures.lookup in
    let kept : c.from-place.result ≡ get_or c.args.self.now.places c.args.key 0 = c.from-place.ensures ∙ ap (λ j. get_or c.args.self.now.places j 0) c.from.ensures in
    subst (Finds p _) (sym c.from_residual.ensures) (behind p c.args.key under c.args.self.now c.from-place.result kept (omega (arith, h.3, ap length c.as_slice.ensures.value)))

pub returns-then-test : goal.returns-then-test
returns-then-test g c p says under =
    let h = c.in_ok-entry.ensures.lookup in
    let kept : c.from-place.result ≡ get_or c.args.self.now.places c.args.key 0 = c.from-place.ensures ∙ ap (λ j. get_or c.args.self.now.places j 0) c.from.ensures in
    let low : c.from-place.result < length (items_of c.args.self.now.entries) = omega (arith, h.3.0, ap length c.as_slice.ensures.value) in
    stands p c.args.key under c.args.self.now c.from-place.result kept c.in_ok-entry.field-0.now low (h.1 ∙ ap (λ es. get_or es c.from-place.result c.in_ok-entry.field-0.now) c.as_slice.ensures.value) (sym (says _ _ c.test.ensures) ∙ c.if-test.true)

pub returns : goal.returns
returns g c p says under =
    let h = c.in_ok-entry.ensures.lookup in
    let kept : c.from-place.result ≡ get_or c.args.self.now.places c.args.key 0 = c.from-place.ensures ∙ ap (λ j. get_or c.args.self.now.places j 0) c.from.ensures in
    let low : c.from-place.result < length (items_of c.args.self.now.entries) = omega (arith, h.3.0, ap length c.as_slice.ensures.value) in
    fails p c.args.key under c.args.self.now c.from-place.result kept c.in_ok-entry.field-0.now low (h.1 ∙ ap (λ es. get_or es c.from-place.result c.in_ok-entry.field-0.now) c.as_slice.ensures.value) (sym (says _ _ c.test.ensures) ∙ c.if-test.false)
