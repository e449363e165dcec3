use Rattle.std.proofs.Common.{◌≡◌, true, false, ◌∙◌, sym, rules, subst, eqb, Option, ℤ}
use Rattle.std.specs.Prelude.{MatchOption}
use Rattle.std.proofs.lemmas.Iterator.{YieldsList-from_slice}
use Rattle.std.proofs.lemmas.Iterator.Search.{find_from_yields_List}
use Rattle.calculus.specs.Lists.{some}
use Rattle.calculus.specs.Literals.{number}
use Rattle.calculus.specs.Steps.{literal_on}
use Rattle.tables.proofs.Finding.{literal_found}
use Rattle.tables.proofs.literals.literal_on.Goals as goal

pub returns : goal.returns
returns c =
    let e = c.copied.ensures ∙ find_from_yields_List (λ k. eqb (number k) c.args.n) _ _ _ c.find.ensures.ran (YieldsList-from_slice c.args.literals.now cc) (λ x b q k. search rules) in
    subst (λ (r : Option ℤ). MatchOption r (some (λ l. eqb (number l) c.args.n) c.args.literals.now ≡ false) (λ l. (some (λ k. eqb (number k) c.args.n) c.args.literals.now ≡ true) × (l ≡ literal_on c.args.n c.args.literals.now))) (sym e) (literal_found c.args.n c.args.literals.now)
