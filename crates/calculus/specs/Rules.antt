-- What the calls do, in a few sentences above their definitions.
use Rattle.std.specs.Prelude.{◌≡◌, ℕ, ◌+◌, ◌<◌, true, ◌⊎◌, List, length, ℤ, Ok, Err}
use Rattle.std.specs.List.{AllByRecursion}
use Rattle.faults.specs.declared.SessionFault.{SessionFault}
use Rattle.calculus.specs.Lists.{every}
use Rattle.calculus.specs.Calls.{Call}
use Rattle.calculus.specs.Calls.Call.{Lemma, Read, Conflict, Jump, Claim}
use Rattle.calculus.specs.Kinds.{Kind}
use Rattle.calculus.specs.Trails.{false_on, up_to, enter, reading, reading_level}
use Rattle.calculus.specs.Trails.Origin.{Chosen, Propagated, Read as AsRead}
use Rattle.calculus.specs.Trails.Content.{Literal}
use Rattle.calculus.specs.States.{State, clause, meets}
use Rattle.calculus.specs.Steps.{Reply, step, run, top_of, others, all_read, arranged}
use Rattle.calculus.specs.Steps.Reply.{Handed}

module _ (K : Kind) where
  -- a refused call changes nothing
  abbrev pub RefusalChangesNothing : Type 0
  RefusalChangesNothing = (s : State K) (c : Call) (f : SessionFault) → (step K s c).0 ≡ Err f → (step K s c).1 ≡ s

  -- a lemma is taken only if the theory vouches for it
  abbrev pub LemmaAsks : Type 0
  LemmaAsks = (s : State K) (ls : List ℤ) (hint : List ℕ) (r : Reply) → (step K s (Lemma ls hint)).0 ≡ Ok r → K.vouched s.model s.switches ls hint ≡ Ok tt

  -- a conflict is taken only if every literal of its clause is false
  abbrev pub ConflictFalse : Type 0
  ConflictFalse = (s : State K) (c : ℕ) (r : Reply) → (step K s (Conflict c)).0 ≡ Ok r → every (false_on s.trail) (clause s.clauses c) ≡ true

  -- a reading enters at the highest level of its measures
  abbrev pub ReadLevel : Type 0
  ReadLevel = (s : State K) (n : ℕ) (r : Reply) → (step K s (Read n)).0 ≡ Ok r
      → (step K s (Read n)).1.trail ≡ enter s.trail (Literal (reading K s.model s.switches s.denominator s.trail n) AsRead) (reading_level K s.model s.switches s.trail n)

  -- a claim hands out the arrangement that the trail makes, which meets every rule and is admitted
  abbrev pub ClaimJudges : Type 0
  ClaimJudges = (s : State K) (r : Reply) → (step K s Claim).0 ≡ Ok r
      → (r ≡ Handed (arranged K s)) × AllByRecursion (λ c. c.rule ≡ true → meets K s.model s.switches (arranged K s) c.literals ≡ true) s.clauses
      × (K.admitted s.model (arranged K s).numerators (arranged K s).denominator ≡ Ok tt)

  -- A jump from a state that calls lead to leaves no entry above its target, and enters its literal last. Where no other
  -- literal of the open clause has the top level, the target is the next highest level, at which the literal stands with the clause
  -- just stored as its reason. Else all literals at the top were read, the target is one below the top, and the literal is chosen, at the top level.
  abbrev pub JumpLands : Type 0
  JumpLands = (cs : List Call) (l : ℤ) (r : Reply) → (step K (run K cs) (Jump l)).0 ≡ Ok r
      → ((top_of K (run K cs) (others l (run K cs).open_clause) < top_of K (run K cs) (run K cs).open_clause)
      × ((step K (run K cs) (Jump l)).1.trail ≡ enter (up_to (top_of K (run K cs) (others l (run K cs).open_clause)) (run K cs).trail) (Literal l (Propagated (length (run K cs).clauses + 1))) (top_of K (run K cs) (others l (run K cs).open_clause))))
      ⊎ ((k : ℕ) × (top_of K (run K cs) (run K cs).open_clause ≡ k + 1) × (all_read (run K cs).trail (k + 1) (run K cs).open_clause ≡ true)
      × ((step K (run K cs) (Jump l)).1.trail ≡ enter (up_to k (run K cs).trail) (Literal l Chosen) (k + 1)))

-- the sentences together
pub record RulesHold (K : Kind) : Type 0 where
  pub refusal : RefusalChangesNothing K
  pub «lemma» : LemmaAsks K
  pub conflict : ConflictFalse K
  pub read : ReadLevel K
  pub claim : ClaimJudges K
  pub jump : JumpLands K
