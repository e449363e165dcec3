use Rattle.std.proofs.Common.{◌≡◌, Bool, true, false, ◌&&◌, List, [], ◌∷◌, refl, ◌∙◌, rules, tests}
use Rattle.std.specs.List.{fold}
use Rattle.std.proofs.lemmas.Iterator.{YieldsList-from_slice}
use Rattle.std.proofs.lemmas.Iterator.Consumers.{fold_from_yields_List}
use Rattle.calculus.specs.Limits.{most_numerator, sized}
use Rattle.calculus.specs.Lists.{every}
use Rattle.calculus.proofs.limits.are_numerators.Goals as goal

and_fold : {X : Type 0} (p : X → Bool) (b : Bool) (xs : List X) → fold (λ all x. all && p x) b xs ≡ (b && every p xs)
and_fold p true [] = refl
and_fold p false [] = refl
and_fold p true (x ∷ xs) = and_fold p (p x) xs
and_fold p false (x ∷ xs) = and_fold p false xs

pub returns : goal.returns
returns c =
    fold_from_yields_List _ (λ all x. all && sized most_numerator x) true _ c.fold.ensures.ran (YieldsList-from_slice c.args.xs.now cc) (λ a x b q k. search (rules, tests))
    ∙ and_fold (sized most_numerator) true c.args.xs.now
