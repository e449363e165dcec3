-- Reports that are not true of their cases.
use Rattle.std.specs.Prelude.{codes}
use Rattle.checker.specs.Truth.{Truthful}
use Rattle.checker.specs.Worked.{file, wall}
use Rattle.checker.specs.Solutions.{not_both}

-- each case has arrangements that solve it, and the one that is printed here does not
pub record UntrueRefuted : Type 0 where
  pub impossible : Truthful 2 (file wall) (codes "impossible\n") → ⊥
  pub possible : Truthful 2 (file wall) (codes "possible 1\ns1 no\nm1 50\nm2 10\n") → ⊥
  -- over switches only
  pub switches_impossible : Truthful 1 not_both (codes "impossible\n") → ⊥
  pub switches_possible : Truthful 1 not_both (codes "possible 1\ns1 yes\ns2 yes\n") → ⊥
