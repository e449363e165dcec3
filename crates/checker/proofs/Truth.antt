-- What a report tells of its case is so.
use Rattle.std.proofs.Common.{◌≡◌, ℕ, false, ltb, List, ◌++◌, length, get_or, take, drop, codes, refl, sym, ap, ◌∙◌, subst, arith}
use Rattle.std.proofs.lemmas.Bool.{cond-false}
use Rattle.std.proofs.Math.Seq.{take-append_seam}
use Rattle.calculus.specs.Arrangements.{Arrangement}
use Rattle.calculus.specs.Kinds.{Kind, Lawful}
use Rattle.calculus.specs.States.Verdict.{Impossible, Possible, Undecided}
use Rattle.switches.specs.Switches.{switches_only}
use Rattle.switches.specs.Lawfulness.{switches_lawful}
use Rattle.rows.specs.Linear.{linear}
use Rattle.rows.proofs.Lawfulness.{linear_lawful}
use Rattle.congruences.proofs.Lawfulness.{congruence_lawful}
use Rattle.piles.specs.Piles.{congruent_linear}
use Rattle.verdicts.specs.Outcomes.{Outcome, Told, Refused, checked}
use Rattle.verdicts.proofs.Telling.{honest}
use Rattle.report.specs.Buffers.{least_buffer, Written}
use Rattle.report.specs.Lines.{lines}
use Rattle.report.proofs.Told.{lines_tell}
use Rattle.checker.specs.Reports.{report_by}
use Rattle.checker.specs.Truth.{PrintsSolution, TrueOf, Truthful}

-- where the buffer is long enough, its front is the report
pub front : (bytes before : List ℕ) (n : ℕ) (after : List ℕ) → ltb (length before) least_buffer ≡ false → Written bytes before n after → take n after ≡ bytes
front bytes before n after l w =
    let count = w.count ∙ cond-false (ltb (length before) least_buffer) 0 (length bytes) l in
    let holds = w.holds ∙ cond-false (ltb (length before) least_buffer) before (bytes ++ drop n before) l in
    ap (take n) holds ∙ ap (λ k. take k (bytes ++ drop n before)) count ∙ take-append_seam bytes (drop n before)

-- no other line begins with the word possible
told_possible : (o : Outcome) (rest : List ℕ) → lines o ≡ codes "possible " ++ rest → (a : Arrangement) × (o ≡ Told (Possible a))
told_possible (Told Impossible) rest e = absurd (let f : 105 ≡ 112 = ap (λ l. get_or l 0 0) e in omega arith)
told_possible (Told Undecided) rest e = absurd (let f : 110 ≡ 112 = ap (λ l. get_or l 0 0) e in omega arith)
told_possible (Told (Possible a)) rest e = (a, refl)
told_possible (Refused file stop) rest e = absurd (let f : 114 ≡ 112 = ap (λ l. get_or l 0 0) e in omega arith)

same_arrangement : (a b : Arrangement) → Told (Possible a) ≡ Told (Possible b) → b ≡ a
same_arrangement a b e = cc

module _ (K : Kind) (l : Lawful K) (case log : List ℕ) where
  solution : (o : Outcome) → checked K case log ≡ o → (a : Arrangement) × (o ≡ Told (Possible a)) → PrintsSolution K case (lines o)
  solution o c (a, p) = record {
    arrangement = a;
    printed = ap lines p;
    solves = (honest K l).possible case log a (c ∙ p);
    only = λ b z e. same_arrangement a b (sym p ∙ lines_tell.possible o b z e);
  }

  true_of : TrueOf K case (lines (checked K case log))
  true_of = record {
    impossible = λ e a s. (honest K l).impossible case log (lines_tell.impossible (checked K case log) e) a s;
    possible = λ rest e. solution (checked K case log) refl (told_possible (checked K case log) rest e);
  }

pub truthful : (theory : ℕ) (case log reported : List ℕ) → reported ≡ report_by theory case log → Truthful theory case reported
truthful theory case log reported e = record {
  switches = λ n. subst (TrueOf switches_only case) (sym (e ∙ ap (λ t. report_by t case log) n)) (true_of switches_only switches_lawful case log);
  pile = λ n. subst (TrueOf congruent_linear case) (sym (e ∙ ap (λ t. report_by t case log) n)) (true_of congruent_linear (congruence_lawful linear linear_lawful) case log);
}
