use Rattle.std.proofs.Common.{not, ◌∙◌, refl, rules, tests}
use Rattle.std.proofs.lemmas.Iterator.{YieldsList-from_slice}
use Rattle.std.proofs.lemmas.Iterator.Search.{all_from_yields_List}
use Rattle.calculus.specs.Questions.{says_mentioned}
use Rattle.readings.proofs.Asking.{none_so}
use Rattle.readings.proofs.Atoms.mentions_none.Goals as goal

pub returns : goal.returns
returns g c t e =
    let m = g.T.Theory.model c.args.self.now.theory.now in
    all_from_yields_List (λ j. not (says_mentioned g.T.Theory.kind m c.args.atom j)) _ _ _ c.all.ensures.ran (YieldsList-from_slice c.args.unvalued.now cc) (λ x b q k. search (rules, tests))
    ∙ none_so g.T.Theory.kind g.met.T.Theory.lawful m c.args.atom (g.T.Theory.kind.measures m) refl t c.args.unvalued.now e
