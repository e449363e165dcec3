-- The laws of the whole check.
use Rattle.std.specs.Prelude.{◌≡◌, ℕ, ◌<◌, ◌≤◌, List, filter}
use Rattle.std.proofs.Common.{inr}
use Rattle.calculus.specs.Arrangements.{Arrangement}
use Rattle.calculus.specs.Kinds.{Kind}
use Rattle.calculus.specs.States.{State, fresh}
use Rattle.calculus.specs.States.Verdict.{Impossible, Possible}
use Rattle.files.specs.declared.records.FileKind.TheVariants.{Case, Log}
use Rattle.verdicts.specs.Outcomes.{Told, take_file, checked}
use Rattle.verdicts.specs.Stated.{Solves}

-- From the one state to the other only atoms were added: the switches and rules are the same, the theory admits the
-- same, and the atoms that there were mean the same.
pub record OnlyAtomsAdded (K : Kind) (s t : State K) : Type 0 where
  pub switches : t.switches ≡ s.switches
  pub rules : filter (λ r. r.rule) t.clauses ≡ filter (λ r. r.rule) s.clauses
  pub measures : K.measures t.model ≡ K.measures s.model
  pub admitted : K.admitted t.model ≡ K.admitted s.model
  pub atoms : K.atoms s.model ≤ K.atoms t.model
  pub truth : (a : ℕ) → 0 < a → a ≤ K.atoms s.model → K.truth t.model a ≡ K.truth s.model a

pub record Honest (K : Kind) : Type 0 where
  -- a check tells impossible only if no arrangement solves the case
  pub impossible : (case log : List ℕ) → checked K case log ≡ Told Impossible → (a : Arrangement) → Solves K case a → ⊥
  -- and possible only with an arrangement that solves it
  pub possible : (case log : List ℕ) (a : Arrangement) → checked K case log ≡ Told (Possible a) → Solves K case a
  -- a log adds neither rules nor declarations
  pub log_adds_atoms : (case log : List ℕ) (s t : State K) → take_file K Case case (fresh K) ≡ inr s → take_file K Log log s ≡ inr t → OnlyAtomsAdded K s t
