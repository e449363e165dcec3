-- Trials: lists of calls with what they must lead to.
use Rattle.std.specs.Prelude.{◌≡◌, List, map, ℤ, Result}
use Rattle.std.specs.List.{AllByRecursion}
use Rattle.faults.specs.declared.SessionFault.{SessionFault}
use Rattle.calculus.specs.Calls.{Call}
use Rattle.calculus.specs.Kinds.{Kind}
use Rattle.calculus.specs.Trails.{Entry}
use Rattle.calculus.specs.States.{Phase}
use Rattle.calculus.specs.Steps.{Reply, step, run}

-- from a state that some calls lead to, what each of some other calls answers there
pub record Answers : Type 0 where
  pub after : List Call
  pub calls : List Call
  pub answers : List (Result Reply SessionFault)

-- the phase, the trail and the open clause that some calls lead to
pub record Leads : Type 0 where
  pub after : List Call
  pub phase : Phase
  pub trail : List Entry
  pub open_clause : List ℤ

abbrev pub AnswersStand : Kind → List Answers → Type 0
AnswersStand K rows = AllByRecursion (λ r. map (λ c. (step K (run K r.after) c).0) r.calls ≡ r.answers) rows

abbrev pub LeadsStand : Kind → List Leads → Type 0
LeadsStand K rows = AllByRecursion (λ r. ((run K r.after).phase ≡ r.phase) × ((run K r.after).trail ≡ r.trail) × ((run K r.after).open_clause ≡ r.open_clause)) rows
