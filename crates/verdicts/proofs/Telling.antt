-- A check that tells impossible or possible tells the truth about the case.
use Rattle.std.proofs.Common.{◌≡◌, ℕ, List, refl, ap, inl, inr, arith}
use Rattle.calculus.specs.Arrangements.{Arrangement}
use Rattle.calculus.specs.Kinds.{Kind, Lawful}
use Rattle.calculus.specs.States.{Phase, Verdict, State, fresh}
use Rattle.calculus.specs.States.Phase.{New, Drafting, Searching, Analysing, Closed}
use Rattle.calculus.specs.States.Verdict.{Impossible, Possible, Undecided}
use Rattle.calculus.proofs.Soundness.{Held, fresh_held, guaranteed}
use Rattle.files.specs.declared.records.FileKind.TheVariants.{Case, Log}
use Rattle.files.specs.Records.{read_file}
use Rattle.verdicts.specs.Outcomes.{Told, verdict_of, Taken, take_file, after_log, after_case, checked}
use Rattle.verdicts.specs.Stated.{Solves}
use Rattle.verdicts.specs.Honest.{Honest}
use Rattle.verdicts.proofs.Taking.{taken_held}
use Rattle.verdicts.proofs.Drafting.{case_held}
use Rattle.verdicts.proofs.Searching.{log_adds}
use Rattle.verdicts.proofs.Solving.{solves, allowed}

-- only a closed session gives another verdict than undecided
closed : (p : Phase) (v : Verdict) → (Undecided ≡ v → ⊥) → verdict_of p ≡ v → p ≡ Closed v
closed New v n h = absurd (n h)
closed Drafting v n h = absurd (n h)
closed Searching v n h = absurd (n h)
closed Analysing v n h = absurd (n h)
closed (Closed u) v n h = ap Closed h

module _ (K : Kind) where
  told_log : (o : Taken K) (v : Verdict) → after_log K o ≡ Told v → (t : State K) × (o ≡ inr t) × (verdict_of t.phase ≡ v)
  told_log (inl stop) v e = let z : ◌≡◌ {A = ℕ} 0 1 = cc in absurd (omega arith)
  told_log (inr t) v e = (t, refl, cc)

  told_case : (log : List ℕ) (o : Taken K) (v : Verdict) → after_case K log o ≡ Told v → (s : State K) × (o ≡ inr s) × (after_log K (take_file K Log log s) ≡ Told v)
  told_case log (inl stop) v e = let z : ◌≡◌ {A = ℕ} 0 1 = cc in absurd (omega arith)
  told_case log (inr s) v e = (s, refl, e)

-- a check that took both files: the states that the case and the log left, and the verdict
record BothTaken (K : Kind) (case log : List ℕ) (v : Verdict) : Type 0 where
  after_the_case : State K
  after_the_log : State K
  case_taken : take_file K Case case (fresh K) ≡ inr after_the_case
  log_taken : take_file K Log log after_the_case ≡ inr after_the_log
  verdict : verdict_of after_the_log.phase ≡ v

both_taken : (K : Kind) (case log : List ℕ) (v : Verdict) → checked K case log ≡ Told v → BothTaken K case log v
both_taken K case log v e =
    let c = told_case K log (take_file K Case case (fresh K)) v e in
    let l = told_log K (take_file K Log log c.0) v c.2 in
    record { after_the_case = c.0; after_the_log = l.0; case_taken = c.1; log_taken = l.1; verdict = l.2 }

module _ (K : Kind) (L : Lawful K) where
  case_keeps : (case : List ℕ) (s : State K) → take_file K Case case (fresh K) ≡ inr s → Held K s
  case_keeps case s h = taken_held K L Case (read_file Case case) (fresh K) s h (fresh_held K L)

  log_keeps : (log : List ℕ) (s t : State K) → take_file K Log log s ≡ inr t → Held K s → Held K t
  log_keeps log s t h = taken_held K L Log (read_file Log log) s t h

  no_solution : (case log : List ℕ) → checked K case log ≡ Told Impossible → (a : Arrangement) → Solves K case a → ⊥
  no_solution case log e a h =
      let b = both_taken K case log Impossible e in
      let s = b.after_the_case in
      let t = b.after_the_log in
      let kept = case_keeps case s b.case_taken in
      let shut = closed t.phase Impossible (λ x. undecided_not_impossible x) b.verdict in
      (guaranteed K L t (log_keeps log s t b.log_taken kept)).impossible shut a
      (allowed K case s t (case_held K case s b.case_taken) kept (log_adds K L log s t b.log_taken) a h)
    where
      undecided_not_impossible : Undecided ≡ Impossible → ⊥
      undecided_not_impossible x = let z : ◌≡◌ {A = ℕ} 0 1 = cc in omega arith

  solution : (case log : List ℕ) (a : Arrangement) → checked K case log ≡ Told (Possible a) → Solves K case a
  solution case log a e =
      let b = both_taken K case log (Possible a) e in
      let s = b.after_the_case in
      let t = b.after_the_log in
      let kept = case_keeps case s b.case_taken in
      let shut = closed t.phase (Possible a) (λ x. undecided_not_possible x) b.verdict in
      solves K case s t (case_held K case s b.case_taken) kept (log_adds K L log s t b.log_taken) a
      ((guaranteed K L t (log_keeps log s t b.log_taken kept)).possible a shut)
    where
      undecided_not_possible : Undecided ≡ Possible a → ⊥
      undecided_not_possible x = let z : ◌≡◌ {A = ℕ} 0 1 = cc in omega arith

  pub honest : Honest K
  honest = record {
    impossible = no_solution;
    possible = solution;
    log_adds_atoms = λ case log s t _ h. log_adds K L log s t h;
  }
