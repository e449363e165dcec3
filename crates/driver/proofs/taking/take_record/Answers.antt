use Rattle.std.proofs.Common.{◌≡◌, leb, length, inr, sym, subst, rules}
use Rattle.std.proofs.lemmas.Option.{cond_some}
use Rattle.files.specs.Decoding.{call_of}
use Rattle.files.specs.Views.{call_view}
use Rattle.files.proofs.Rounds.{from_inr}
use Rattle.session.specs.Orders as orders
use Rattle.driver.specs.Taking.{literal_count, TakesRecord}
use Rattle.driver.proofs.Recording.{of_file, recorded}
use Rattle.driver.proofs.taking.take_record.Goals as goal

pub returns : goal.returns
returns g c =
    let K = g.T.Theory.kind in
    let o = call_of c.args.kind c.args.entry.now.kind c.args.entry.now.body.now in
    let p : o ≡ inr (call_view c.in-Ok.call) = from_inr o (call_view c.in-Ok.call) c.in-Ok.ensures in
    let q : orders.call_of c.in-Some.order ≡ call_view c.in-Ok.call = sym (cond_some (leb (literal_count (call_view c.in-Ok.call)) (length c.args.room.now)) (call_view c.in-Ok.call) (orders.call_of c.in-Some.order) (sym c.in-Some.ensures)).1 in
    let a = c.step-held.ensures c.requires.holds in
    let m : c.map_err.result ≡ of_file c.step-held.result.1 = search (rules, c.map_err.ensures.cases) in
    subst (λ x. TakesRecord K g.T.Theory.model c.args.session.now o (c.step-held.result.0, x) c.step-held.new.session) (sym m)
    (recorded K g.T.Theory.model c.args.session.now c.step-held.new.session o _ _ c.step-held.result.0 c.step-held.result.1 p q a)
