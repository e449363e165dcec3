-- Computed examples of the linear theory, over two measures.
use Rattle.std.specs.Prelude.{◌≡◌, ℕ, Bool, true, false, List, [], ◌∷◌, map, replicate, ℤ, pos, negsuc, Ok, Err}
use Rattle.std.specs.List.{AllByRecursion}
use Rattle.faults.specs.declared.InputCause.TheVariants.{WrongLength, OutOfRange}
use Rattle.faults.specs.declared.StateCause.TheVariants.{Full}
use Rattle.faults.specs.declared.TheoryFault.TheVariants as theory
use Rattle.calculus.specs.Kinds.{Answer, not_vouched}
use Rattle.calculus.specs.Questions.{answered, left, says_mentioned, says_true}
use Rattle.rows.specs.Linear.{Table, input, linear}

-- two measures, and these atoms
abbrev pub admitted_all : Table → List (List ℕ) → Table
admitted_all m [] = m
admitted_all m (body ∷ bodies) = admitted_all (left linear m (linear.admit m body)) bodies

abbrev pub with_atoms : List (List ℕ) → Table
with_atoms bodies = admitted_all (left linear linear.begun (linear.count linear.begun 2)) bodies

-- m1 + m2 ≤ 60, m1 < 50, m2 < 12
abbrev pub budget : List (List ℕ)
budget =
    (2 ∷ 2 ∷ 1 ∷ 0 ∷ 0 ∷ 0 ∷ 1 ∷ 2 ∷ 0 ∷ 0 ∷ 0 ∷ 1 ∷ 0 ∷ 0 ∷ 0 ∷ 60 ∷ [])
    ∷ (1 ∷ 1 ∷ 1 ∷ 0 ∷ 0 ∷ 0 ∷ 1 ∷ 0 ∷ 0 ∷ 0 ∷ 50 ∷ [])
    ∷ (1 ∷ 1 ∷ 2 ∷ 0 ∷ 0 ∷ 0 ∷ 1 ∷ 0 ∷ 0 ∷ 0 ∷ 12 ∷ [])
    ∷ []

-- m1 = 3, m1 < 3, -m1 < -3
abbrev pub three : List (List ℕ)
three =
    (3 ∷ 1 ∷ 1 ∷ 0 ∷ 0 ∷ 0 ∷ 1 ∷ 0 ∷ 0 ∷ 0 ∷ 3 ∷ [])
    ∷ (1 ∷ 1 ∷ 1 ∷ 0 ∷ 0 ∷ 0 ∷ 1 ∷ 0 ∷ 0 ∷ 0 ∷ 3 ∷ [])
    ∷ (1 ∷ 1 ∷ 1 ∷ 255 ∷ 255 ∷ 255 ∷ 255 ∷ 255 ∷ 255 ∷ 255 ∷ 253 ∷ [])
    ∷ []

-- m1 ≤ 3, -m1 ≤ -3, m1 < 3, -m1 < -3
abbrev pub sides : List (List ℕ)
sides =
    (2 ∷ 1 ∷ 1 ∷ 0 ∷ 0 ∷ 0 ∷ 1 ∷ 0 ∷ 0 ∷ 0 ∷ 3 ∷ [])
    ∷ (2 ∷ 1 ∷ 1 ∷ 255 ∷ 255 ∷ 255 ∷ 255 ∷ 255 ∷ 255 ∷ 255 ∷ 253 ∷ [])
    ∷ (1 ∷ 1 ∷ 1 ∷ 0 ∷ 0 ∷ 0 ∷ 1 ∷ 0 ∷ 0 ∷ 0 ∷ 3 ∷ [])
    ∷ (1 ∷ 1 ∷ 1 ∷ 255 ∷ 255 ∷ 255 ∷ 255 ∷ 255 ∷ 255 ∷ 255 ∷ 253 ∷ [])
    ∷ []

-- m1 < 50, m2 < 50
abbrev pub apart : List (List ℕ)
apart = (1 ∷ 1 ∷ 1 ∷ 0 ∷ 0 ∷ 0 ∷ 1 ∷ 0 ∷ 0 ∷ 0 ∷ 50 ∷ []) ∷ (1 ∷ 1 ∷ 2 ∷ 0 ∷ 0 ∷ 0 ∷ 1 ∷ 0 ∷ 0 ∷ 0 ∷ 50 ∷ []) ∷ []

-- a clause with a hint
pub record Asked : Type 0 where
  pub atoms : List (List ℕ)
  pub switches : ℕ
  pub clause : List ℤ
  pub hint : List ℕ
  pub answer : Answer

abbrev pub asked : List Asked
asked =
    -- the multipliers 1, 1, 1 refute m1 + m2 ≤ 60, m1 ≥ 50 and m2 ≥ 12
    record { atoms = budget; switches = 0; clause = negsuc 0 ∷ pos 2 ∷ pos 3 ∷ []; hint = 1 ∷ 0 ∷ 0 ∷ 0 ∷ 1 ∷ 0 ∷ 0 ∷ 0 ∷ 1 ∷ 0 ∷ 0 ∷ 0 ∷ 1 ∷ []; answer = Ok tt }
    ∷ record { atoms = budget; switches = 0; clause = negsuc 0 ∷ pos 2 ∷ pos 3 ∷ []; hint = 1 ∷ 0 ∷ 0 ∷ 0 ∷ 1 ∷ 0 ∷ 0 ∷ 0 ∷ 1 ∷ 0 ∷ 0 ∷ 0 ∷ 0 ∷ []; answer = not_vouched 1 }
    -- five switches before the atoms, one of them in the clause with the multiplier 0, and with 1
    ∷ record { atoms = budget; switches = 5; clause = pos 5 ∷ negsuc 5 ∷ pos 7 ∷ pos 8 ∷ []; hint = 1 ∷ 0 ∷ 0 ∷ 0 ∷ 0 ∷ 0 ∷ 0 ∷ 0 ∷ 1 ∷ 0 ∷ 0 ∷ 0 ∷ 1 ∷ 0 ∷ 0 ∷ 0 ∷ 1 ∷ []; answer = Ok tt }
    ∷ record { atoms = budget; switches = 5; clause = pos 5 ∷ negsuc 5 ∷ pos 7 ∷ pos 8 ∷ []; hint = 1 ∷ 0 ∷ 0 ∷ 0 ∷ 1 ∷ 0 ∷ 0 ∷ 0 ∷ 1 ∷ 0 ∷ 0 ∷ 0 ∷ 1 ∷ 0 ∷ 0 ∷ 0 ∷ 1 ∷ []; answer = not_vouched 1 }
    -- a negative multiplier on a ≤
    ∷ record { atoms = budget; switches = 0; clause = negsuc 0 ∷ []; hint = 1 ∷ 255 ∷ 255 ∷ 255 ∷ 255 ∷ []; answer = not_vouched 1 }
    -- -1 times an equality and 1 time a <: 0 < 0
    ∷ record { atoms = three; switches = 0; clause = negsuc 0 ∷ negsuc 1 ∷ []; hint = 1 ∷ 255 ∷ 255 ∷ 255 ∷ 255 ∷ 0 ∷ 0 ∷ 0 ∷ 1 ∷ []; answer = Ok tt }
    -- what is not ≤ is <; what is not < is ≤ alone, and 0 ≤ 0 refutes nothing, with 0 times a < either
    ∷ record { atoms = sides; switches = 0; clause = pos 1 ∷ pos 2 ∷ []; hint = 1 ∷ 0 ∷ 0 ∷ 0 ∷ 1 ∷ 0 ∷ 0 ∷ 0 ∷ 1 ∷ []; answer = Ok tt }
    ∷ record { atoms = sides; switches = 0; clause = pos 3 ∷ pos 4 ∷ []; hint = 1 ∷ 0 ∷ 0 ∷ 0 ∷ 1 ∷ 0 ∷ 0 ∷ 0 ∷ 1 ∷ []; answer = not_vouched 1 }
    ∷ record { atoms = sides; switches = 0; clause = pos 3 ∷ pos 4 ∷ negsuc 2 ∷ []; hint = 1 ∷ 0 ∷ 0 ∷ 0 ∷ 1 ∷ 0 ∷ 0 ∷ 0 ∷ 1 ∷ 0 ∷ 0 ∷ 0 ∷ 0 ∷ []; answer = not_vouched 1 }
    -- an atom that is not there
    ∷ record { atoms = budget; switches = 0; clause = negsuc 0 ∷ pos 2 ∷ pos 3 ∷ pos 4 ∷ []; hint = 1 ∷ 0 ∷ 0 ∷ 0 ∷ 1 ∷ 0 ∷ 0 ∷ 0 ∷ 1 ∷ 0 ∷ 0 ∷ 0 ∷ 1 ∷ 0 ∷ 0 ∷ 0 ∷ 0 ∷ []; answer = not_vouched 1 }
    -- a multiplier too few, the greatest, one beyond its range, and a kind that is not known
    ∷ record { atoms = budget; switches = 0; clause = negsuc 0 ∷ pos 2 ∷ pos 3 ∷ []; hint = 1 ∷ 0 ∷ 0 ∷ 0 ∷ 1 ∷ 0 ∷ 0 ∷ 0 ∷ 1 ∷ []; answer = Err (input WrongLength) }
    ∷ record { atoms = budget; switches = 0; clause = pos 2 ∷ []; hint = 1 ∷ 5 ∷ 245 ∷ 225 ∷ 0 ∷ []; answer = not_vouched 1 }
    ∷ record { atoms = budget; switches = 0; clause = pos 2 ∷ []; hint = 1 ∷ 5 ∷ 245 ∷ 225 ∷ 1 ∷ []; answer = Err (input OutOfRange) }
    ∷ record { atoms = budget; switches = 0; clause = pos 2 ∷ []; hint = 3 ∷ []; answer = Err (input OutOfRange) }
    -- a split, the same with a longer hint and without its last part, and of what is no equality
    ∷ record { atoms = three; switches = 0; clause = pos 1 ∷ pos 2 ∷ pos 3 ∷ []; hint = 2 ∷ []; answer = Ok tt }
    ∷ record { atoms = three; switches = 0; clause = pos 1 ∷ pos 2 ∷ pos 3 ∷ []; hint = 2 ∷ 0 ∷ []; answer = Err (input WrongLength) }
    ∷ record { atoms = three; switches = 0; clause = pos 1 ∷ pos 2 ∷ []; hint = 2 ∷ []; answer = not_vouched 1 }
    ∷ record { atoms = sides; switches = 0; clause = pos 1 ∷ pos 3 ∷ pos 4 ∷ []; hint = 2 ∷ []; answer = not_vouched 1 }
    -- m1 < 50 and m2 ≥ 50 do not refute one another: each row lacks the other's measure
    ∷ record { atoms = apart; switches = 0; clause = negsuc 0 ∷ pos 2 ∷ []; hint = 1 ∷ 0 ∷ 0 ∷ 0 ∷ 1 ∷ 0 ∷ 0 ∷ 0 ∷ 1 ∷ []; answer = not_vouched 1 }
    ∷ []

-- a body, and whether it is taken
pub record Offered : Type 0 where
  pub body : List ℕ
  pub answer : Answer

abbrev pub offered : List Offered
offered =
    -- the coefficients 100,000,000 and 100,000,001
    record { body = 1 ∷ 1 ∷ 1 ∷ 5 ∷ 245 ∷ 225 ∷ 0 ∷ 0 ∷ 0 ∷ 0 ∷ 0 ∷ []; answer = Ok tt }
    ∷ record { body = 1 ∷ 1 ∷ 1 ∷ 5 ∷ 245 ∷ 225 ∷ 1 ∷ 0 ∷ 0 ∷ 0 ∷ 0 ∷ []; answer = Err (input OutOfRange) }
    -- the constants -100,000,000 and -100,000,001
    ∷ record { body = 1 ∷ 0 ∷ 250 ∷ 10 ∷ 31 ∷ 0 ∷ []; answer = Ok tt }
    ∷ record { body = 1 ∷ 0 ∷ 250 ∷ 10 ∷ 30 ∷ 255 ∷ []; answer = Err (input OutOfRange) }
    -- no entries: 0 < 1
    ∷ record { body = 1 ∷ 0 ∷ 0 ∷ 0 ∷ 0 ∷ 1 ∷ []; answer = Ok tt }
    -- the coefficient 0, the measures 0 and 3, a measure twice, and 1 after 2
    ∷ record { body = 1 ∷ 1 ∷ 1 ∷ 0 ∷ 0 ∷ 0 ∷ 0 ∷ 0 ∷ 0 ∷ 0 ∷ 0 ∷ []; answer = Err (input OutOfRange) }
    ∷ record { body = 1 ∷ 1 ∷ 0 ∷ 0 ∷ 0 ∷ 0 ∷ 1 ∷ 0 ∷ 0 ∷ 0 ∷ 0 ∷ []; answer = Err (input OutOfRange) }
    ∷ record { body = 1 ∷ 1 ∷ 3 ∷ 0 ∷ 0 ∷ 0 ∷ 1 ∷ 0 ∷ 0 ∷ 0 ∷ 0 ∷ []; answer = Err (input OutOfRange) }
    ∷ record { body = 1 ∷ 2 ∷ 1 ∷ 0 ∷ 0 ∷ 0 ∷ 1 ∷ 1 ∷ 0 ∷ 0 ∷ 0 ∷ 1 ∷ 0 ∷ 0 ∷ 0 ∷ 0 ∷ []; answer = Err (input OutOfRange) }
    ∷ record { body = 1 ∷ 2 ∷ 2 ∷ 0 ∷ 0 ∷ 0 ∷ 1 ∷ 1 ∷ 0 ∷ 0 ∷ 0 ∷ 1 ∷ 0 ∷ 0 ∷ 0 ∷ 0 ∷ []; answer = Err (input OutOfRange) }
    -- two unknown relations, no count, too few bytes for the measure 3, and a byte too many
    ∷ record { body = 0 ∷ []; answer = Err (input OutOfRange) }
    ∷ record { body = 4 ∷ []; answer = Err (input OutOfRange) }
    ∷ record { body = 3 ∷ []; answer = Err (input WrongLength) }
    ∷ record { body = 1 ∷ 1 ∷ 3 ∷ []; answer = Err (input WrongLength) }
    ∷ record { body = 1 ∷ 0 ∷ 0 ∷ 0 ∷ 0 ∷ 1 ∷ 0 ∷ []; answer = Err (input WrongLength) }
    ∷ []

-- what an unknown relation is answered after so many atoms 0 < 1
abbrev pub after_trivial : ℕ → Answer
after_trivial n = answered linear (linear.admit (with_atoms (replicate n (1 ∷ 0 ∷ 0 ∷ 0 ∷ 0 ∷ 1 ∷ []))) (4 ∷ []))

-- values, and whether an atom is true of them
pub record Valued : Type 0 where
  pub atoms : List (List ℕ)
  pub atom : ℕ
  pub numerators : List ℤ
  pub denominator : ℕ
  pub answer : Bool

abbrev pub valued : List Valued
valued =
    record { atoms = budget; atom = 1; numerators = pos 50 ∷ pos 10 ∷ []; denominator = 1; answer = true }
    ∷ record { atoms = budget; atom = 1; numerators = pos 101 ∷ pos 20 ∷ []; denominator = 2; answer = false }
    ∷ record { atoms = budget; atom = 2; numerators = pos 50 ∷ pos 10 ∷ []; denominator = 1; answer = false }
    ∷ record { atoms = three; atom = 1; numerators = pos 6 ∷ pos 0 ∷ []; denominator = 2; answer = true }
    ∷ record { atoms = three; atom = 1; numerators = pos 2 ∷ pos 0 ∷ []; denominator = 1; answer = false }
    ∷ record { atoms = three; atom = 3; numerators = pos 4 ∷ pos 0 ∷ []; denominator = 1; answer = true }
    ∷ []

-- which of the two measures each atom of the budget mentions
abbrev pub mentioned : List (List Bool)
mentioned = map (λ a. map (says_mentioned linear (with_atoms budget) a) (1 ∷ 2 ∷ [])) (1 ∷ 2 ∷ 3 ∷ [])

abbrev pub ExamplesStand : Type 0
ExamplesStand =
    AllByRecursion (λ e. linear.vouched (with_atoms e.atoms) e.switches e.clause e.hint ≡ e.answer) asked
    × AllByRecursion (λ e. answered linear (linear.admit (with_atoms []) e.body) ≡ e.answer) offered
    × (after_trivial 126 ≡ Err (input OutOfRange))
    × (after_trivial 127 ≡ Err (theory.State Full 1))
    × AllByRecursion (λ e. says_true linear (with_atoms e.atoms) e.atom e.numerators e.denominator ≡ e.answer) valued
    × (mentioned ≡ (true ∷ true ∷ []) ∷ (true ∷ false ∷ []) ∷ (false ∷ true ∷ []) ∷ [])
