-- What is allowed at the end of a log is what solves its case.
use Rattle.std.proofs.Common.{◌≡◌, ℕ, ◌+◌, ◌-◌, true, false, cond, ◌||◌, leb, List, [], ◌∷◌, map, ℤ, filter, sym, refl, ap, ◌∙◌, subst, ⊎_elim, arith}
use Rattle.std.specs.List.{AllByRecursion}
use Rattle.std.proofs.ByRecursion.{All-map, all_kept_by}
use Rattle.std.proofs.lemmas.Bool.{and_parts, cases_Bool, cond-true, leb-false}
use Rattle.calculus.specs.Lists.{every, nth}
use Rattle.calculus.specs.Limits.{within}
use Rattle.calculus.specs.Literals.{number, signed}
use Rattle.calculus.specs.Arrangements.{Arrangement}
use Rattle.calculus.specs.Kinds.{Kind}
use Rattle.calculus.specs.States.{Stored, State, holds, meets}
use Rattle.calculus.specs.Sound.{Fits, Allowed}
use Rattle.calculus.proofs.Testing.{both, kept_all, kept_back, within_true, signed_ap}
use Rattle.calculus.proofs.Soundness.{Held}
use Rattle.verdicts.specs.Stated.{case_switches, case_theory, Solves}
use Rattle.verdicts.specs.Honest.{OnlyAtomsAdded}
use Rattle.verdicts.proofs.Drafting.{Holds}

all_unmap : {X Y : Type 0} (P : X → Type 0) (f : Y → X) (ys : List Y) → AllByRecursion P (map f ys) → AllByRecursion (λ y. P (f y)) ys
all_unmap P f [] h = tt
all_unmap P f (y ∷ ys) h = (h.0, all_unmap P f ys h.1)

module _ (K : Kind) (s t : State K) (added : OnlyAtomsAdded K s t) (a : Arrangement) where
  literal_same : (l : ℤ) → within (s.switches + K.atoms s.model) (number l) ≡ true → signed l (holds K t.model s.switches a) ≡ signed l (holds K s.model s.switches a)
  literal_same l h =
      let w = s.switches in
      let n = number l in
      let yes = nth false a.switches n in
      let at = λ (m : K.Model). K.truth m (n - w) a.numerators a.denominator in
      let b = (within_true (w + K.atoms s.model) n h).1 in
      signed_ap l (holds K t.model w a) (holds K s.model w a)
      (⊎_elim (λ y. cond-true (leb n w) yes (at t.model) y ∙ sym (cond-true (leb n w) yes (at s.model) y))
      (λ y. let p = leb-false n w y in ap (λ f. cond (leb n w) yes (f a.numerators a.denominator)) (added.truth (n - w) (omega arith) (omega arith)))
      (cases_Bool (leb n w)))

  -- a clause on the numbers of s is met in t as in s
  meets_same : (ls : List ℤ) → every (λ l. within (s.switches + K.atoms s.model) (number l)) ls ≡ true → meets K t.model t.switches a ls ≡ meets K s.model s.switches a ls
  meets_same ls h = ap (λ w. meets K t.model w a ls) added.switches ∙ each ls h
    where
      each : (ls : List ℤ) → every (λ l. within (s.switches + K.atoms s.model) (number l)) ls ≡ true → meets K t.model s.switches a ls ≡ meets K s.model s.switches a ls
      each [] h = refl
      each (l ∷ ls) h =
          let p = and_parts (within (s.switches + K.atoms s.model) (number l)) (every (λ k. within (s.switches + K.atoms s.model) (number k)) ls) h in
          ap (λ b. b || meets K t.model s.switches a ls) (literal_same l p.0) ∙ ap (λ b. signed l (holds K s.model s.switches a) || b) (each ls p.1)

-- what is allowed at the end of the log is what solves the case
module _ (K : Kind) (case : List ℕ) (s t : State K) (said : Holds K case s) (held : Held K s) (added : OnlyAtomsAdded K s t) (a : Arrangement) where
  abbrev Known : Stored → Type 0
  Known r = every (λ l. within (s.switches + K.atoms s.model) (number l)) r.literals ≡ true

  abbrev InLog : Stored → Type 0
  InLog r = meets K t.model t.switches a r.literals ≡ true

  abbrev InCase : List ℤ → Type 0
  InCase ls = meets K (case_theory K case) (case_switches K case) a ls ≡ true

  known : AllByRecursion Known (filter (λ r. r.rule) s.clauses)
  known = all_kept_by (λ r. r.rule) Known s.clauses held.core.rows_known

  as_stated : (r : Stored) → Known r → meets K t.model t.switches a r.literals ≡ meets K (case_theory K case) (case_switches K case) a r.literals
  as_stated r q =
      let ls = r.literals in
      meets_same K s t added a ls q ∙ ap (λ m. meets K m s.switches a ls) said.model ∙ ap (λ w. meets K (case_theory K case) w a ls) said.switches

  admitted_same : K.admitted t.model a.numerators a.denominator ≡ K.admitted (case_theory K case) a.numerators a.denominator
  admitted_same = ap (λ f. f a.numerators a.denominator) (added.admitted ∙ ap K.admitted said.model)

  pub solves : Allowed K t a → Solves K case a
  solves h =
      let rows = filter (λ r. r.rule) s.clauses in
      let in_log = subst (AllByRecursion InLog) added.rules (kept_all (λ r. r.rule) InLog t.clauses h.2) in
      let in_case = both Known InLog (λ r. InCase r.literals) (λ r q x. sym (as_stated r q) ∙ x) rows known in_log in
      record {
        switches = h.0.0 ∙ added.switches ∙ said.switches;
        measures = h.0.1 ∙ added.measures ∙ ap K.measures said.model;
        positive = h.0.2;
        admitted = sym admitted_same ∙ h.1;
        rules = subst (AllByRecursion InCase) said.rules (All-map InCase (λ r. r.literals) rows in_case);
      }

  pub allowed : Solves K case a → Allowed K t a
  allowed h =
      let rows = filter (λ r. r.rule) s.clauses in
      let in_case = all_unmap InCase (λ r. r.literals) rows (subst (AllByRecursion InCase) (sym said.rules) h.rules) in
      let in_log = both Known (λ r. InCase r.literals) InLog (λ r q x. as_stated r q ∙ x) rows known in_case in
      let fits : Fits K t a = (
        h.switches ∙ sym (added.switches ∙ said.switches),
        h.measures ∙ sym (added.measures ∙ ap K.measures said.model),
        h.positive,
      ) in (
        fits,
        admitted_same ∙ h.admitted,
        kept_back (λ r. r.rule) InLog t.clauses (subst (AllByRecursion InLog) (sym added.rules) in_log),
      )
