use Rattle.std.proofs.Common.{not, ◌||◌, sym, ap, ◌∙◌, rules, tests}
use Rattle.std.proofs.lemmas.Iterator.{YieldsList-from_slice}
use Rattle.std.proofs.lemmas.Iterator.Search.{all_from_yields_List}
use Rattle.std.proofs.lemmas.List.Folds.{list_all-map}
use Rattle.calculus.specs.Lists.{every}
use Rattle.calculus.specs.States.{Stored, meets}
use Rattle.tables.specs.Tables.{trail_of, stored_of}
use Rattle.claims.specs.Arranging.{arrangement}
use Rattle.claims.proofs.Claim.are_rules_met.Goals as goal

pub returns : goal.returns
returns g c =
    let r = c.args.self.now.reading in
    let K = g.T.Theory.kind in
    let m = g.T.Theory.model r.atoms.theory.now in
    let p = λ (x : Stored). not x.rule || meets K m r.atoms.switches (arrangement K m r.atoms.switches r.denominator (trail_of c.args.self.now.trail.now)) x.literals in
    all_from_yields_List (λ x. p (stored_of x)) _ _ _ c.all.ensures.ran (YieldsList-from_slice c.rows.result.now cc) (λ x b q k. search (rules, tests))
    ∙ sym (list_all-map p stored_of c.rows.result.now)
    ∙ ap (every p) c.rows.ensures
