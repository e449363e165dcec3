use Rattle.std.proofs.Common.{ap, ◌∙◌, to_z-of_z}
use Rattle.calculus.specs.Calls.Call.{Jump}
use Rattle.calculus.specs.Steps.{Outcome, step}
use Rattle.calculus.proofs.Reaching.{reached_more, guaranteed_after}
use Rattle.session.specs.Views.{view}
use Rattle.session.specs.Replies.{back_of}
use Rattle.session.proofs.Session.jump.Goals as goal

pub invariant_of-self : goal.invariant_of-self
invariant_of-self g c =
    let K = g.T.Theory.kind in
    let same = ap (λ l. step K (view K g.T.Theory.model c.args.self.now) (Jump l)) (to_z-of_z c.ranges.literal) in
    record { reached = reached_more K _ _ (Jump c.args.literal) c.args.self.now.reached (c.jump.ensures.1 ∙ ap (λ (o : Outcome K). o.1) same) }

pub returns : goal.returns
returns g c =
    let K = g.T.Theory.kind in
    let same = ap (λ l. step K (view K g.T.Theory.model c.args.self.now) (Jump l)) (to_z-of_z c.ranges.literal) in
    let e = c.jump.ensures.1 ∙ ap (λ (o : Outcome K). o.1) same in
    record { steps = (c.jump.ensures.0 ∙ ap (λ (o : Outcome K). back_of c.args.conflict o.0) same, e); sound = guaranteed_after K g.met.T.Theory.lawful _ _ (Jump c.args.literal) c.args.self.now.reached e }
