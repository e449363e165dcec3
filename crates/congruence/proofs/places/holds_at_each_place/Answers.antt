use Rattle.std.proofs.Common.{◌∙◌, rules, tests}
use Rattle.std.proofs.lemmas.Iterator.{YieldsList-from_slice, YieldsList-from_zip}
use Rattle.std.proofs.lemmas.Iterator.Search.{all_from_yields_List}
use Rattle.congruence.proofs.Placing.{at_places, uneven}
use Rattle.congruence.proofs.places.holds_at_each_place.Goals.{then-left-right, else-left-right}
use Rattle.congruence.proofs.places.holds_at_each_place.Goals as goal

pub returns : goal.returns
returns g c f h =
    let is = c.args.left.now in
    let js = c.args.right.now in
    elim c.if-left-right.branch [
      | then-left-right w ↦ w.result-is ∙ at_places f is js w.all.result w.if-left-right.true
          (all_from_yields_List (λ p. f p.0 p.1) w.all.new.self _ w.all.result w.all.ensures.ran (YieldsList-from_zip (YieldsList-from_slice is cc) (YieldsList-from_slice js cc)) (λ x b q k. search (rules, tests, h)))
      | else-left-right w ↦ w.result-is ∙ uneven f is js w.if-left-right.false
    ]
