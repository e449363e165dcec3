-- The sixteen calls of the calculus, with their arguments as they are given: nothing here is in range yet.
use Rattle.std.specs.Prelude.{ℕ, List, ℤ}

-- A literal is a whole number: n affirms the number n, and -n denies it. Bodies and hints are bytes.
pub data Call : Type 0 where
  -- how many switches and how many measures
  Counts : ℕ → ℕ → Call
  -- a body for the theory that may narrow what it admits
  Declare : List ℕ → Call
  -- a body for the theory that adds an atom
  Admit : List ℕ → Call
  -- the literals of a clause that must be met
  Rule : List ℤ → Call
  -- the denominator of every value
  Seal : ℕ → Call
  -- the literals of a clause, and a hint why the theory vouches for it
  Lemma : List ℤ → List ℕ → Call
  -- a literal
  Choose : ℤ → Call
  -- a measure and the numerator of its value
  Set : ℕ → ℤ → Call
  -- a clause and a literal
  Propagate : ℕ → ℤ → Call
  -- a number
  Read : ℕ → Call
  -- a clause
  Conflict : ℕ → Call
  -- a number
  Resolve : ℕ → Call
  -- a literal
  Jump : ℤ → Call
  Concede : Call
  Claim : Call
  Abandon : Call
