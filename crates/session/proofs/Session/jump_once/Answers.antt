use Rattle.std.proofs.Common.{ap, ◌∙◌, to_z-of_z}
use Rattle.calculus.specs.Calls.Call.{Jump}
use Rattle.calculus.specs.Steps.{step}
use Rattle.session.specs.Views.{view}
use Rattle.session.proofs.Session.jump_once.Goals as goal

pub returns-in-Ok : goal.returns-in-Ok
returns-in-Ok g c =
    let K = g.T.Theory.kind in
    let v = view K g.T.Theory.model c.args.self.now in
    c.jump.ensures.steps.1 ∙ ap (λ l. (step K v (Jump l)).1) (to_z-of_z c.ranges.literal)

pub returns-in-Err : goal.returns-in-Err
returns-in-Err g c =
    let K = g.T.Theory.kind in
    let v = view K g.T.Theory.model c.args.self.now in
    c.jump.ensures.steps.1 ∙ ap (λ l. (step K v (Jump l)).1) (to_z-of_z c.ranges.literal)
