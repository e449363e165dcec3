-- What the outcome of the code stands for.
use Rattle.calculus.specs.States.Verdict.{Impossible, Possible, Undecided}
use Rattle.claims.specs.Views.{arrangement_of}
use Rattle.verdicts.specs.Outcomes.{Outcome, Told, Refused}
use Rattle.report.specs.declared.outcome.Outcome as code
use Rattle.report.specs.declared.outcome.Outcome.TheVariants as code_variants

abbrev pub outcome_of : code.Outcome → Outcome
outcome_of code_variants.Impossible = Told Impossible
outcome_of (code_variants.Possible a) = Told (Possible (arrangement_of a))
outcome_of code_variants.Undecided = Told Undecided
outcome_of (code_variants.Refused file stop) = Refused file stop
