use Rattle.std.proofs.Common.{rules, ap}
use Rattle.calculus.specs.Calls.Call.{Rule}
use Rattle.session.specs.Views.{view}
use Rattle.driver.specs.declared.held.Held.TheVariants.{Draft}
use Rattle.session.specs.Orders.{call_of}
use Rattle.driver.proofs.Leading.{rule_leads}
use Rattle.driver.proofs.Advancing.{staying, left_alone}
use Rattle.driver.proofs.stepping.draft.Goals as goal

pub returns-in-Rule : goal.returns-in-Rule
returns-in-Rule g c =
    let K = g.T.Theory.kind in
    let s = c.args.session.now in
    let ls = c.in-Rule.literals.now in
    staying K g.met.T.Theory.lawful g.T.Theory.model s c.rule-done.new.self (call_of c.args.order) (Rule ls) (ap call_of c.in-Rule.is) c.rule-done.ensures.steps.1 (Draft c.args.permit) c.rule-done.result (rule_leads K (view K g.T.Theory.model s) ls) c.rule-done.ensures.steps.0

pub returns-in_default : goal.returns-in_default
returns-in_default g c = left_alone g.T.Theory.kind g.T.Theory.model c.args.session.now c.plain.new.session (call_of c.args.order) (Draft c.args.permit) c.plain.result c.plain.ensures (search rules)
