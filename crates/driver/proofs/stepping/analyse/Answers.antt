use Rattle.std.proofs.Common.{rules, sym, ap, ◌∙◌, subst, to_z-of_z, w8, SFits, to_z, of_z}
use Rattle.calculus.specs.Calls.Call.{Jump}
use Rattle.session.specs.Views.{view}
use Rattle.driver.specs.declared.held.Held.TheVariants.{Analysis}
use Rattle.session.specs.Orders.{call_of}
use Rattle.driver.specs.Holding.{Advances}
use Rattle.driver.proofs.Leading.{jump_leads}
use Rattle.driver.proofs.Advancing.{spending, left_alone}
use Rattle.driver.proofs.stepping.analyse.Goals as goal

pub returns-in-Jump : goal.returns-in-Jump
returns-in-Jump g c h =
    let K = g.T.Theory.kind in
    let s = c.args.session.now in
    let t = c.jump.new.self in
    let d = call_of c.args.order in
    let f : SFits w8 c.in-Jump.literal = search rules in
    let j = jump_leads K (view K g.T.Theory.model s) (to_z w8 (of_z w8 c.in-Jump.literal)) in
    let a = spending K g.met.T.Theory.lawful g.T.Theory.model s t d _ (ap call_of c.in-Jump.is ∙ ap Jump (sym (to_z-of_z f))) c.jump.ensures.steps.1 Analysis c.args.conflict c.jump.result j c.jump.ensures.steps.0 h in
    subst (λ x. Advances K g.T.Theory.model s d x t) (sym c.unless_back.ensures) a

pub returns-in_default : goal.returns-in_default
returns-in_default g c = left_alone g.T.Theory.kind g.T.Theory.model c.args.session.now c.plain.new.session (call_of c.args.order) (Analysis c.args.conflict) c.plain.result c.plain.ensures (search rules)
