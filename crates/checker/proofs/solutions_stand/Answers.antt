use Rattle.std.proofs.Common.{◌≡◌, ℕ, refl, sym, arith}
use Rattle.std.proofs.lemmas.Bool.{true≢false}
use Rattle.checker.proofs.solutions_stand.Goals as goal

pub returns : goal.returns
returns c = record {
  one = record { switches = refl; measures = refl; positive = omega arith; admitted = refl; rules = (refl, tt) };
  both = λ s. absurd (true≢false (sym s.rules.0));
  no_switch = λ s. absurd (omega (arith, s.switches));
  three_switches = λ s. absurd (omega (arith, s.switches));
  whole = record { switches = refl; measures = refl; positive = omega arith; admitted = refl; rules = (refl, (refl, (refl, tt))) };
  halves = record { switches = refl; measures = refl; positive = omega arith; admitted = refl; rules = (refl, (refl, (refl, tt))) };
  off = λ s. absurd (true≢false (sym s.rules.1.1.0));
  small = λ s. absurd (true≢false (sym s.rules.1.0));
  long = λ s. absurd (true≢false (sym s.rules.0));
  one_measure = λ s. absurd (omega (arith, s.measures));
  three_measures = λ s. absurd (omega (arith, s.measures));
  no_denominator = λ s. absurd (omega (arith, s.positive));
  equal = record { switches = refl; measures = refl; positive = omega arith; admitted = refl; rules = tt };
  apart = record { switches = refl; measures = refl; positive = omega arith; admitted = refl; rules = tt };
  unequal = λ s. let no : ◌≡◌ {A = ℕ} 0 1 = (let e = s.admitted in cc) in absurd (omega (arith, no));
}
