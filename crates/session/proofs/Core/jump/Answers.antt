use Rattle.std.proofs.Common.{ap, ◌∙◌, to_z-of_z}
use Rattle.calculus.specs.Calls.Call.{Jump}
use Rattle.calculus.specs.Steps.{Outcome, step}
use Rattle.session.specs.Cores.{view}
use Rattle.session.specs.Replies.{back_of}
use Rattle.session.proofs.Core.jump.Goals as goal

pub returns : goal.returns
returns g c =
    let K = g.T.Theory.kind in
    let same = ap (λ l. step K (view K g.T.Theory.model c.args.self.now) (Jump l)) (to_z-of_z c.ranges.literal) in (
      c.spent.ensures ∙ ap (back_of c.args.conflict) (c.backjump.ensures.0 ∙ ap (λ (o : Outcome K). o.0) same),
      c.backjump.ensures.1 ∙ ap (λ (o : Outcome K). o.1) same,
    )
