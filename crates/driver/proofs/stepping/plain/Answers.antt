use Rattle.std.proofs.Common.{sym, ap, ◌∙◌, to_z-of_z, w8, w32, SFits, rules}
use Rattle.calculus.specs.Calls.Call.{Lemma, Choose, Set, Propagate}
use Rattle.session.specs.Orders.{call_of}
use Rattle.driver.proofs.Obeying.{plainly}
use Rattle.driver.proofs.stepping.plain.Goals as goal

pub returns-in-Lemma : goal.returns-in-Lemma
returns-in-Lemma g c =
    plainly g.T.Theory.kind g.T.Theory.model c.args.session.now c.«lemma».new.self (call_of c.args.order) (Lemma c.in-Lemma.literals.now c.in-Lemma.hint.now) c.«lemma».result (ap call_of c.in-Lemma.is) c.«lemma».ensures.steps

pub returns-in-Choose : goal.returns-in-Choose
returns-in-Choose g c =
    let f : SFits w8 c.in-Choose.literal = search rules in
    plainly g.T.Theory.kind g.T.Theory.model c.args.session.now c.choose.new.self (call_of c.args.order) _ c.choose.result (ap call_of c.in-Choose.is ∙ ap Choose (sym (to_z-of_z f))) c.choose.ensures.steps

pub returns-in-Set : goal.returns-in-Set
returns-in-Set g c =
    let f : SFits w32 c.in-Set.numerator = search rules in
    plainly g.T.Theory.kind g.T.Theory.model c.args.session.now c.set.new.self (call_of c.args.order) _ c.set.result (ap call_of c.in-Set.is ∙ ap (Set c.in-Set.measure) (sym (to_z-of_z f))) c.set.ensures.steps

pub returns-in-Propagate : goal.returns-in-Propagate
returns-in-Propagate g c =
    let f : SFits w8 c.in-Propagate.literal = search rules in
    plainly g.T.Theory.kind g.T.Theory.model c.args.session.now c.propagate.new.self (call_of c.args.order) _ c.propagate.result (ap call_of c.in-Propagate.is ∙ ap (Propagate c.in-Propagate.clause) (sym (to_z-of_z f))) c.propagate.ensures.steps
