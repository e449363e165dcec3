-- A log adds atoms to what a case left, and changes nothing else that the case states.
use Rattle.std.proofs.Common.{◌≡◌, ℕ, false, List, [], ◌∷◌, ◌++◌, ℤ, Ok, filter, refl, ap, ◌∙◌, inr, arith}
use Rattle.std.proofs.lemmas.List.Elements.{filter-append}
use Rattle.std.proofs.lemmas.List.{append-nil}
use Rattle.calculus.specs.Calls.{Call}
use Rattle.calculus.specs.Calls.Call.{Counts, Declare, Admit, Rule, Seal, Lemma, Choose, Set, Propagate, Read, Conflict, Resolve, Jump, Concede, Claim, Abandon}
use Rattle.calculus.specs.Kinds.{Kind, Lawful}
use Rattle.calculus.specs.States.{Stored, State}
use Rattle.calculus.specs.Steps.{Reply, Outcome, step}
use Rattle.calculus.proofs.Stepping.{TakenSo}
use Rattle.files.specs.declared.records.FileKind.TheVariants.{Log}
use Rattle.files.specs.Records.{read_file}
use Rattle.verdicts.specs.Outcomes.{take_file}
use Rattle.verdicts.specs.Honest.{OnlyAtomsAdded}
use Rattle.verdicts.proofs.Taking.{if_accepted, along}
use Rattle.verdicts.proofs.Writing.{OfLog, of_log}

-- a clause that is no rule adds no rule
no_rule : (rows : List Stored) (ls : List ℤ) → filter (λ r. r.rule) (rows ++ record { literals = ls; rule = false } ∷ []) ≡ filter (λ r. r.rule) rows
no_rule rows ls = filter-append (λ r. r.rule) rows (record { literals = ls; rule = false } ∷ []) ∙ append-nil (filter (λ r. r.rule) rows)

module _ (K : Kind) where
  -- the same switches, theory and rules
  same : (s t : State K) → t.switches ≡ s.switches → t.model ≡ s.model → filter (λ r. r.rule) t.clauses ≡ filter (λ r. r.rule) s.clauses → OnlyAtomsAdded K s t
  same s t w m rs = record {
    switches = w;
    rules = rs;
    measures = ap K.measures m;
    admitted = ap K.admitted m;
    atoms = let q = ap K.atoms m in omega arith;
    truth = λ a _ _. ap (λ n. K.truth n a) m;
  }

  onward : (s t u : State K) → OnlyAtomsAdded K s t → OnlyAtomsAdded K t u → OnlyAtomsAdded K s u
  onward s t u p q =
      let few = p.atoms in
      record {
        switches = q.switches ∙ p.switches;
        rules = q.rules ∙ p.rules;
        measures = q.measures ∙ p.measures;
        admitted = q.admitted ∙ p.admitted;
        atoms = let more = q.atoms in omega arith;
        truth = λ a z l. q.truth a z (omega arith) ∙ p.truth a z l;
      }

  module _ (L : Lawful K) (s : State K) (r : Reply) where
    abbrev AddsAtoms : Outcome K → Type 0
    AddsAtoms o = o.0 ≡ Ok r → OnlyAtomsAdded K s o.1

    adds : (c : Call) → OfLog c → TakenSo K AddsAtoms s c
    adds (Counts w t) a = absurd a
    adds (Declare body) a = absurd a
    adds (Admit body) a = λ _ _ n q _.
        let more = L.admitting s.model body n q in
        record {
          switches = refl;
          rules = refl;
          measures = more.measures;
          admitted = more.admitted;
          atoms = let z = more.atoms in omega arith;
          truth = more.truth;
        }
    adds (Rule ls) a = absurd a
    adds (Seal d) a = λ _ _ _. same s _ refl refl refl
    adds (Lemma ls hint) a = λ _ _ _ _ _ _ _. same s _ refl refl (no_rule s.clauses ls)
    adds (Choose l) a = λ _ _ _ _ _ _. same s _ refl refl refl
    adds (Set j x) a = λ _ _ _ _ _. same s _ refl refl refl
    adds (Propagate c l) a = λ _ _ _ _ _ _ _. same s _ refl refl refl
    adds (Read n) a = λ _ _ _ _ _. same s _ refl refl refl
    adds (Conflict c) a = λ _ _ _ _. same s _ refl refl refl
    adds (Resolve n) a = λ _ _ _ _ _. same s _ refl refl refl
    adds (Jump l) a = λ _ _ _ _ _ _. (λ _ _. same s _ refl refl (no_rule s.clauses s.open_clause), λ _ _ _. same s _ refl refl (no_rule s.clauses s.open_clause))
    adds Concede a = λ _ _ _. same s _ refl refl refl
    adds Claim a = λ _ _ _ _ _. same s _ refl refl refl
    adds Abandon a = λ _ _. same s _ refl refl refl

    added : (c : Call) → OfLog c → (step K s c).0 ≡ Ok r → OnlyAtomsAdded K s (step K s c).1
    added c a = if_accepted K s c r (OnlyAtomsAdded K s) (adds c a)

  pub log_adds : Lawful K → (log : List ℕ) (s t : State K) → take_file K Log log s ≡ inr t → OnlyAtomsAdded K s t
  log_adds L log s t =
      along K Log t (λ _ u. OnlyAtomsAdded K u t) (same t t refl refl refl)
      (λ e more u c r w y h. onward u (step K u c).1 t (added L u r c (of_log e.kind e.body c w) y) h) (read_file Log log) s
