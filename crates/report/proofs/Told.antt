-- A report tells its verdict.
use Rattle.std.proofs.Common.{◌≡◌, ℕ, List, ◌++◌, get_or, sym, refl, ap, ◌∙◌, append_assoc, arith}
use Rattle.calculus.specs.Arrangements.{Arrangement}
use Rattle.calculus.specs.States.Verdict.{Impossible, Possible, Undecided}
use Rattle.verdicts.specs.Outcomes.{Outcome, Told, Refused}
use Rattle.report.specs.Lines.{possible_line, switch_lines, measure_lines, arrangement_lines, lines}
use Rattle.report.specs.Telling.{Sized, LinesTell}
use Rattle.report.proofs.Cutting.{possible_cut, rest_same}

abbrev first : List ℕ → ℕ
first l = get_or l 0 0

impossible : (o : Outcome) → lines o ≡ lines (Told Impossible) → o ≡ Told Impossible
impossible (Told Impossible) e = refl
impossible (Told (Possible a)) e = absurd (omega (arith, ap first e))
impossible (Told Undecided) e = absurd (omega (arith, ap first e))
impossible (Refused file stop) e = absurd (omega (arith, ap first e))

none : (o : Outcome) → lines o ≡ lines (Told Undecided) → o ≡ Told Undecided
none (Told Impossible) e = absurd (omega (arith, ap first e))
none (Told (Possible a)) e = absurd (omega (arith, ap first e))
none (Told Undecided) e = refl
none (Refused file stop) e = absurd (omega (arith, ap first e))

same_arrangement : (a b : Arrangement) → Sized b → arrangement_lines a ≡ arrangement_lines b → a ≡ b
same_arrangement a b small e =
    let rest = λ (x : Arrangement). switch_lines 1 x.switches ++ measure_lines 1 x.numerators in
    let grouped : (x : Arrangement) → arrangement_lines x ≡ possible_line x.denominator ++ rest x = λ x. append_assoc (possible_line x.denominator) (switch_lines 1 x.switches) (measure_lines 1 x.numerators) in
    let r = possible_cut a.denominator b.denominator (rest a) (rest b) small.denominator (sym (grouped a) ∙ e ∙ grouped b) in
    let parts = rest_same 1 a.switches b.switches a.numerators b.numerators small.numerators r.1 in
    λ i. record { switches = parts.0 i; numerators = parts.1 i; denominator = r.0 i }

possible : (o : Outcome) (a : Arrangement) → Sized a → lines o ≡ lines (Told (Possible a)) → o ≡ Told (Possible a)
possible (Told Impossible) a small e = absurd (omega (arith, ap first e))
possible (Told (Possible b)) a small e = ap (λ x. Told (Possible x)) (same_arrangement b a small e)
possible (Told Undecided) a small e = absurd (omega (arith, ap first e))
possible (Refused file stop) a small e = absurd (omega (arith, ap first e))

pub lines_tell : LinesTell
lines_tell = record { impossible = impossible; none = none; possible = possible }
