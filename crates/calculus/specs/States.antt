-- The states of a session.
use Rattle.std.specs.Prelude.{ℕ, ◌-◌, Bool, true, false, cond, List, [], ℤ, nat_le, slice_index_or}
use Rattle.calculus.specs.Lists.{some, nth}
use Rattle.calculus.specs.Literals.{signed}
use Rattle.calculus.specs.Arrangements.{Arrangement}
use Rattle.calculus.specs.Kinds.{Kind}
use Rattle.calculus.specs.Trails.{Entry}

-- what a session closes with; possible holds the arrangement that was handed out
pub data Verdict : Type 0 where
  Impossible : Verdict
  Possible : Arrangement → Verdict
  Undecided : Verdict

pub data Phase : Type 0 where
  New : Phase
  Drafting : Phase
  Searching : Phase
  Analysing : Phase
  Closed : Verdict → Phase

abbrev pub is_new : Phase → Bool
is_new New = true
is_new Drafting = false
is_new Searching = false
is_new Analysing = false
is_new (Closed v) = false

abbrev pub is_drafting : Phase → Bool
is_drafting New = false
is_drafting Drafting = true
is_drafting Searching = false
is_drafting Analysing = false
is_drafting (Closed v) = false

abbrev pub is_searching : Phase → Bool
is_searching New = false
is_searching Drafting = false
is_searching Searching = true
is_searching Analysing = false
is_searching (Closed v) = false

abbrev pub is_analysing : Phase → Bool
is_analysing New = false
is_analysing Drafting = false
is_analysing Searching = false
is_analysing Analysing = true
is_analysing (Closed v) = false

-- a stored clause, and whether it is a rule; lemmas and learnt clauses are not
pub record Stored : Type 0 where
  pub literals : List ℤ
  pub rule : Bool

-- the literals of the clause number c, counted from 1
abbrev pub clause : List Stored → ℕ → List ℤ
clause store c = (slice_index_or store (c - 1) (record { literals = []; rule = false })).literals

pub record State (K : Kind) : Type 0 where
  pub phase : Phase
  pub switches : ℕ
  -- the numbers in use: the switches, then the atoms
  pub numbers : ℕ
  -- of all values; 1 until the draft is sealed
  pub denominator : ℕ
  pub model : K.Model
  -- in the order of their numbers, from 1
  pub clauses : List Stored
  -- in the order of entry
  pub trail : List Entry
  -- the clause under analysis; else empty
  pub open_clause : List ℤ

module _ (K : Kind) where
  -- just made: nothing is stored, nothing is on the trail, the theory is as it begins
  abbrev pub fresh : State K
  fresh = record { phase = New; switches = 0; numbers = 0; denominator = 1; model = K.begun; clauses = []; trail = []; open_clause = [] }

  -- the number is true in the arrangement: its switch is yes, or its atom true, where the numbers up to w are switches
  abbrev pub holds : K.Model → ℕ → Arrangement → ℕ → Bool
  holds m w a n = cond (nat_le n w) (nth false a.switches n) (K.truth m (n - w) a.numerators a.denominator)

  -- an arrangement meets a clause when one of its literals is true in it
  abbrev pub meets : K.Model → ℕ → Arrangement → List ℤ → Bool
  meets m w a ls = some (λ l. signed l (holds m w a)) ls
