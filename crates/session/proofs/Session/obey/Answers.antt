use Rattle.std.proofs.Common.{sym, ap, ◌∙◌, to_z-of_z, w8, w32, SFits, rules}
use Rattle.calculus.specs.Calls.Call.{Choose, Set, Propagate, Jump}
use Rattle.calculus.specs.Steps.{step}
use Rattle.session.specs.Orders.{call_of}
use Rattle.session.specs.Views.{view}
use Rattle.session.proofs.Session.obey.Goals as goal

pub returns-in-Choose : goal.returns-in-Choose
returns-in-Choose g c =
    let K = g.T.Theory.kind in
    let v = view K g.T.Theory.model c.args.self.now in
    let f : SFits w8 c.in-Choose.literal = search rules in
    c.choose.ensures.steps.1 ∙ ap (λ m. (step K v (Choose m)).1) (to_z-of_z f) ∙ ap (λ o. (step K v (call_of o)).1) (sym c.in-Choose.is)

pub returns-in-Set : goal.returns-in-Set
returns-in-Set g c =
    let K = g.T.Theory.kind in
    let v = view K g.T.Theory.model c.args.self.now in
    let f : SFits w32 c.in-Set.numerator = search rules in
    c.set.ensures.steps.1 ∙ ap (λ x. (step K v (Set c.in-Set.measure x)).1) (to_z-of_z f) ∙ ap (λ o. (step K v (call_of o)).1) (sym c.in-Set.is)

pub returns-in-Propagate : goal.returns-in-Propagate
returns-in-Propagate g c =
    let K = g.T.Theory.kind in
    let v = view K g.T.Theory.model c.args.self.now in
    let f : SFits w8 c.in-Propagate.literal = search rules in
    c.propagate.ensures.steps.1 ∙ ap (λ m. (step K v (Propagate c.in-Propagate.clause m)).1) (to_z-of_z f) ∙ ap (λ o. (step K v (call_of o)).1) (sym c.in-Propagate.is)

pub returns-in-Read : goal.returns-in-Read
returns-in-Read g c =
    let K = g.T.Theory.kind in
    let v = view K g.T.Theory.model c.args.self.now in
    c.read.ensures.steps.1 ∙ ap (λ o. (step K v (call_of o)).1) (sym c.in-Read.is)

pub returns-in-Resolve : goal.returns-in-Resolve
returns-in-Resolve g c =
    let K = g.T.Theory.kind in
    let v = view K g.T.Theory.model c.args.self.now in
    c.resolve_once.ensures ∙ ap (λ o. (step K v (call_of o)).1) (sym c.in-Resolve.is)

pub returns-in-Jump : goal.returns-in-Jump
returns-in-Jump g c =
    let K = g.T.Theory.kind in
    let v = view K g.T.Theory.model c.args.self.now in
    let f : SFits w8 c.in-Jump.literal = search rules in
    c.jump_once.ensures ∙ ap (λ m. (step K v (Jump m)).1) (to_z-of_z f) ∙ ap (λ o. (step K v (call_of o)).1) (sym c.in-Jump.is)
