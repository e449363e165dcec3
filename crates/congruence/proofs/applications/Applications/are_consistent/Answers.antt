use Rattle.std.proofs.Common.{Bool, rules, tests}
use Rattle.std.proofs.lemmas.Iterator.{YieldsList-from_slice}
use Rattle.std.proofs.lemmas.Iterator.Search.{all_from_yields_List}
use Rattle.calculus.specs.Lists.{every}
use Rattle.congruences.specs.Applications.{Application, agree}
use Rattle.congruence.specs.Views.{application_of, applications_of}
use Rattle.congruence.proofs.Tables.{all_rows}
use Rattle.congruence.proofs.applications.Applications.are_consistent.Goals as goal

pub returns : goal.returns
returns c =
    let test : Application → Bool = λ p. every (agree c.args.numerators.now p) (applications_of c.args.self.now) in
    let rows = c.args.self.now.rows.items in
    all_rows test rows c.all.result (all_from_yields_List (λ a. test (application_of a)) _ _ _ c.all.ensures.ran (YieldsList-from_slice rows cc) (λ x b q k. search (rules, tests)))
