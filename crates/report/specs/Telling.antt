-- What the bytes of a report tell.
use Rattle.std.specs.Prelude.{◌≡◌, ◌^◌, ◌<◌}
use Rattle.std.specs.Int.Signed.{mag}
use Rattle.std.specs.List.{AllByRecursion}
use Rattle.calculus.specs.Arrangements.{Arrangement}
use Rattle.calculus.specs.States.Verdict.{Impossible, Possible, Undecided}
use Rattle.verdicts.specs.Outcomes.{Outcome, Told}
use Rattle.report.specs.Lines.{lines}

-- Its numbers are of 64 bits. A decimal has 64 digits at most, so that numbers of any size can look alike.
pub record Sized (a : Arrangement) : Type 0 where
  pub denominator : a.denominator < 2 ^ 64
  pub numerators : AllByRecursion (λ x. mag x < 2 ^ 63) a.numerators

-- No two outcomes have the same report, if one of them is a verdict.
pub record LinesTell : Type 0 where
  pub impossible : (o : Outcome) → lines o ≡ lines (Told Impossible) → o ≡ Told Impossible
  pub none : (o : Outcome) → lines o ≡ lines (Told Undecided) → o ≡ Told Undecided
  -- the arrangement too can be read back
  pub possible : (o : Outcome) (a : Arrangement) → Sized a → lines o ≡ lines (Told (Possible a)) → o ≡ Told (Possible a)
