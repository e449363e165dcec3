-- The phases of the code, and which calls serve in them.
use Rattle.std.specs.Prelude.{◌≡◌, Bool, ◌||◌}
use Rattle.calculus.specs.Arrangements.{Arrangement}
use Rattle.calculus.specs.States as states
use Rattle.calculus.specs.States.{is_new, is_drafting, is_searching, is_analysing}
use Rattle.calculus.specs.States.Phase.{New, Drafting, Searching, Analysing, Closed}
use Rattle.calculus.specs.States.Verdict.{Impossible, Possible, Undecided}
use Rattle.session.specs.declared.phase as code
use Rattle.session.specs.declared.phase.Phase.TheVariants as phase
use Rattle.session.specs.declared.phase.Kind.TheVariants as kind

-- a session that closed as possible handed out this arrangement
abbrev pub phase_of : code.Phase.Phase → Arrangement → states.Phase
phase_of phase.New a = New
phase_of phase.Drafting a = Drafting
phase_of phase.Searching a = Searching
phase_of phase.Analysing a = Analysing
phase_of phase.Impossible a = Closed Impossible
phase_of phase.Possible a = Closed (Possible a)
phase_of phase.Undecided a = Closed Undecided

-- in which phases a call of this kind serves
abbrev pub serving : code.Kind.Kind → states.Phase → Bool
serving kind.Counts p = is_new p
serving kind.Declare p = is_drafting p
serving kind.Admit p = is_drafting p || is_searching p
serving kind.Rule p = is_drafting p
serving kind.Seal p = is_drafting p
serving kind.Lemma p = is_searching p
serving kind.Choose p = is_searching p
serving kind.Set p = is_searching p
serving kind.Propagate p = is_searching p
serving kind.Read p = is_searching p
serving kind.Conflict p = is_searching p
serving kind.Resolve p = is_analysing p
serving kind.Jump p = is_analysing p
serving kind.Concede p = is_analysing p
serving kind.Claim p = is_searching p
serving kind.Abandon p = is_searching p || is_analysing p

-- the answer whether a call of this kind serves in this phase
abbrev pub Serves : code.Kind.Kind → code.Phase.Phase → Bool → Type 0
Serves k p r = (a : Arrangement) → r ≡ serving k (phase_of p a)
