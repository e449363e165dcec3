use Rattle.std.proofs.Common.{◌≡◌, true, false, List, Ok, Err, sym, ap, ◌∙◌, to_z-of_z, w32, to_z, of_z}
use Rattle.std.proofs.lemmas.Bool.{and_parts}
use Rattle.faults.specs.declared.StateCause.TheVariants.{ContradictsTrail}
use Rattle.faults.specs.declared.SessionFault.TheVariants as session
use Rattle.calculus.specs.States.{is_searching}
use Rattle.calculus.specs.Calls.Call.{Set}
use Rattle.calculus.specs.Trails.{Entry, valued}
use Rattle.calculus.specs.Steps.{step, arranged, turned, with_trail}
use Rattle.calculus.specs.Steps.Reply.{Done}
use Rattle.tables.specs.Tables.{trail_of}
use Rattle.session.specs.Phases.{phase_of}
use Rattle.session.specs.Cores.{tables_of, view}
use Rattle.session.proofs.Needing.{told}
use Rattle.session.proofs.Setting.{searching_same, just_valued, set_done, set_refused, taken_back}
use Rattle.session.proofs.Core.set.Goals as goal

pub returns : goal.returns
returns g c =
    let K = g.T.Theory.kind in
    let model = g.T.Theory.model in
    let s = c.args.self.now in
    let v = view K model s in
    let p : is_searching v.phase ≡ true = sym (c.if-not-serves.ensures (arranged K (tables_of K model s))) in
    let x = to_z w32 (of_z w32 c.args.numerator) in
    let same : x ≡ c.args.numerator = to_z-of_z c.ranges.numerator in
    let n : valued c.args.measure v.trail ≡ false = sym c.is_valued.ensures ∙ c.if-is_valued.false in
    let range = sym c.if-not-takes_value.ensures in
    let just = just_valued v.trail c.args.measure x _ n c.enter_value.ensures in
    let bears = c.if-not-bears_value.ensures v.trail just (and_parts _ _ range).0 in
    let done = set_done K v c.args.measure x p range n _ c.enter_value.ensures (sym bears) in
    let after = trail_of c.enter_value.new.trail in
    let stays = searching_same s.phase _ (arranged K (with_trail K (tables_of K model s) after)) p in
    told K _ _ _ (ap (λ y. step K v (Set c.args.measure y)) (sym same) ∙ done ∙ ap (λ q. (Ok Done, turned K (with_trail K v after) q v.open_clause)) stays)

pub returns-then-not-bears_value : goal.returns-then-not-bears_value
returns-then-not-bears_value g c =
    let K = g.T.Theory.kind in
    let model = g.T.Theory.model in
    let s = c.args.self.now in
    let v = view K model s in
    let p : is_searching v.phase ≡ true = sym (c.if-not-serves.ensures (arranged K (tables_of K model s))) in
    let x = to_z w32 (of_z w32 c.args.numerator) in
    let same : x ≡ c.args.numerator = to_z-of_z c.ranges.numerator in
    let n : valued c.args.measure v.trail ≡ false = sym c.is_valued.ensures ∙ c.if-is_valued.false in
    let range = sym c.if-not-takes_value.ensures in
    let just = just_valued v.trail c.args.measure x _ n c.enter_value.ensures in
    let bears = c.bears_value.ensures v.trail just (and_parts _ _ range).0 in
    let refused = set_refused K v c.args.measure x p range n _ c.enter_value.ensures (sym bears ∙ c.if-not-bears_value.true) in
    let back = taken_back v.trail _ _ _ c.enter_value.ensures c.pop.ensures in
    let left = λ (t : List Entry). let tables = with_trail K (tables_of K model s) t in turned K tables (phase_of s.phase (arranged K tables)) v.open_clause in
    told K _ _ _ (ap (λ y. step K v (Set c.args.measure y)) (sym same) ∙ refused ∙ ap (λ t. (Err (session.State ContradictsTrail), left t)) (sym back))
