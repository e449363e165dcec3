-- What a report tells of its case.
use Rattle.std.specs.Prelude.{◌≡◌, ℕ, ◌⊎◌, List, ◌++◌, codes}
use Rattle.std.proofs.Common.{inl, inr}
use Rattle.faults.specs.declared.InputCause.{InputCause}
use Rattle.calculus.specs.Arrangements.{Arrangement}
use Rattle.calculus.specs.Kinds.{Kind}
use Rattle.calculus.specs.States.Verdict.{Impossible, Possible}
use Rattle.files.specs.Frames.{Framed}
use Rattle.switches.specs.Switches.{switches_only}
use Rattle.piles.specs.Piles.{congruent_linear}
use Rattle.verdicts.specs.Stated.{Solves}
use Rattle.report.specs.Lines.{verdict_lines}
use Rattle.report.specs.Telling.{Sized}

-- The report prints an arrangement, and that arrangement solves the case: the theory of the case admits it, and it meets
-- every rule of the case. No other arrangement is printed so (with numbers of 64 bits, as those of every report are).
pub record PrintsSolution (K : Kind) (case reported : List ℕ) : Type 0 where
  pub arrangement : Arrangement
  pub printed : reported ≡ verdict_lines (Possible arrangement)
  pub solves : Solves K case arrangement
  pub only : (a : Arrangement) → Sized a → reported ≡ verdict_lines (Possible a) → a ≡ arrangement

-- The report is true of the case.
pub record TrueOf (K : Kind) (case reported : List ℕ) : Type 0 where
  -- impossible: no arrangement that the theory of the case admits meets every rule of the case
  pub impossible : reported ≡ verdict_lines Impossible → (a : Arrangement) → Solves K case a → ⊥
  -- possible, whatever follows that word: the arrangement in the lines solves the case
  pub possible : (rest : List ℕ) → reported ≡ codes "possible " ++ rest → PrintsSolution K case reported

-- The same over the theory of this number; there are no others.
pub record Truthful (theory : ℕ) (case reported : List ℕ) : Type 0 where
  pub switches : theory ≡ 1 → TrueOf switches_only case reported
  pub pile : theory ≡ 2 → TrueOf congruent_linear case reported

-- The same of the case that an input frames, where it frames one.
abbrev pub TruthfulOf : InputCause ⊎ Framed → List ℕ → Type 0
TruthfulOf (inl cause) reported = Unit {0}
TruthfulOf (inr f) reported = Truthful f.theory f.case_file reported
