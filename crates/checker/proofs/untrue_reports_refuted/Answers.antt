use Rattle.std.proofs.Common.{◌≡◌, ℕ, true, false, List, [], ◌∷◌, ◌++◌, pos, codes, refl, sym, subst, arith}
use Rattle.std.proofs.lemmas.Bool.{true≢false}
use Rattle.std.specs.Fmt.{digits}
use Rattle.calculus.specs.Arrangements.{Arrangement}
use Rattle.calculus.specs.Kinds.{Kind}
use Rattle.calculus.specs.States.Verdict.{Possible}
use Rattle.switches.specs.Switches.{switches_only}
use Rattle.piles.specs.Piles.{congruent_linear}
use Rattle.report.specs.Lines.{verdict_lines}
use Rattle.report.specs.Telling.{Sized}
use Rattle.verdicts.specs.Stated.{Solves}
use Rattle.checker.specs.Truth.{TrueOf}
use Rattle.checker.specs.Worked.{file, wall}
use Rattle.checker.specs.Solutions.{not_both}
use Rattle.checker.proofs.untrue_reports_refuted.Goals as goal

-- of a true report, the arrangement that is printed solves the case
printed_solves : (K : Kind) (case reported rest : List ℕ) (a : Arrangement) → TrueOf K case reported → reported ≡ codes "possible " ++ rest → Sized a → reported ≡ verdict_lines (Possible a) → Solves K case a
printed_solves K case reported rest a t begins s e = let p = t.possible rest begins in subst (Solves K case) (sym (p.only a s e)) p.solves

pub returns : goal.returns
unfolding digits
returns c = record {
  impossible = λ t.
      (t.pile refl).impossible refl (record { switches = true ∷ []; numerators = pos 50 ∷ pos 10 ∷ []; denominator = 1 })
      (record { switches = refl; measures = refl; positive = omega arith; admitted = refl; rules = (refl, (refl, (refl, tt))) });
  possible = λ t.
      let a : Arrangement = record { switches = false ∷ []; numerators = pos 50 ∷ pos 10 ∷ []; denominator = 1 } in
      let s = printed_solves congruent_linear (file wall) _ _ a (t.pile refl) refl (record { denominator = omega arith; numerators = (omega arith, (omega arith, tt)) }) refl in
      absurd (true≢false (sym s.rules.1.1.0));
  switches_impossible = λ t.
      (t.switches refl).impossible refl (record { switches = true ∷ false ∷ []; numerators = []; denominator = 1 })
      (record { switches = refl; measures = refl; positive = omega arith; admitted = refl; rules = (refl, tt) });
  switches_possible = λ t.
      let a : Arrangement = record { switches = true ∷ true ∷ []; numerators = []; denominator = 1 } in
      let s = printed_solves switches_only not_both _ _ a (t.switches refl) refl (record { denominator = omega arith; numerators = tt }) refl in
      absurd (true≢false (sym s.rules.0));
}
