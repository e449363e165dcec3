-- For every call, each cause that it can give, and which comes first where two meet.
use Rattle.std.specs.Prelude.{ℕ, List, [], ◌∷◌, ◌++◌, map, replicate, ℤ, pos, negsuc, Ok, Err, Result}
use Rattle.std.specs.List.{range_with_len}
use Rattle.faults.specs.declared.InputCause.{InputCause}
use Rattle.faults.specs.declared.InputCause.TheVariants.{WrongLength, OutOfRange, BadLiteral, BadClause}
use Rattle.faults.specs.declared.StateCause.{StateCause}
use Rattle.faults.specs.declared.StateCause.TheVariants.{WrongPhase, Full, Absent, Taken, WrongReadability, NotUnit, ContradictsTrail, NotFalse, NotResolvable, ResolventTooLong, NotAllowed, NotVouched, NoValue, RuleUnmet, NotAdmitted}
use Rattle.faults.specs.declared.TheoryFault.TheVariants as theory
use Rattle.faults.specs.declared.SessionFault.{SessionFault}
use Rattle.faults.specs.declared.SessionFault.TheVariants as session
use Rattle.calculus.specs.Calls.{Call}
use Rattle.calculus.specs.Calls.Call.{Counts, Declare, Admit, Rule, Seal, Lemma, Choose, Set, Propagate, Read, Conflict, Resolve, Jump, Concede, Claim, Abandon}
use Rattle.calculus.specs.Steps.{Reply}
use Rattle.calculus.specs.Steps.Reply.{Done}
use Rattle.trials.specs.Trials.{Answers}
use Rattle.trials.specs.Runs.{four, clash, learnt, draft, zero_read}

abbrev pub input : InputCause → Result Reply SessionFault
input c = Err (session.Input c)

abbrev pub state : StateCause → Result Reply SessionFault
state c = Err (session.State c)

-- the theory's own, in layer 1
abbrev pub theirs_input : InputCause → Result Reply SessionFault
theirs_input c = Err (session.Theory (theory.Input c 1))

abbrev pub theirs_state : StateCause → Result Reply SessionFault
theirs_state c = Err (session.Theory (theory.State c 1))

abbrev pub done : Result Reply SessionFault
done = Ok Done

-- every call once, with arguments that are as wrong as can be
abbrev pub all_calls : List Call
all_calls =
    Counts 200 200 ∷ Declare [] ∷ Admit [] ∷ Rule (pos 0 ∷ []) ∷ Seal 0 ∷ Lemma (pos 0 ∷ []) [] ∷ Choose (pos 0) ∷ Set 0 (pos 0) ∷ Propagate 0 (pos 0) ∷ Read 0 ∷ Conflict 0 ∷ Resolve 0 ∷ Jump (pos 0) ∷ Concede ∷ Claim ∷ Abandon ∷ []

-- 16 and k + 1 literals around one number: the resolvent has 15 + k
abbrev pub affirmed : ℕ → ℕ → List ℤ
affirmed a n = map (λ j. pos j) (range_with_len a n)

abbrev pub denied : ℕ → ℕ → List Call
denied a n = map (λ j. Choose (negsuc j)) (range_with_len a n)

abbrev pub long_clauses : ℕ → List Call
long_clauses k = Counts 31 0 ∷ Rule (affirmed 1 16) ∷ Rule (negsuc 15 ∷ affirmed 17 k) ∷ Seal 1 ∷ denied 0 15 ++ Propagate 1 (pos 16) ∷ denied 16 k ++ Conflict 2 ∷ []

-- a store without room, and a conflict in it
abbrev pub full_store : List Call
full_store = Counts 1 0 ∷ Rule (pos 1 ∷ []) ∷ replicate 249 (Rule [])

-- a lemma is learnt again by a jump, and both are false in the end, as two rules forbid the literal that was chosen
abbrev pub forgotten : List Call
forgotten =
    draft ++ Declare (1 ∷ []) ∷ Rule (pos 1 ∷ negsuc 1 ∷ []) ∷ Rule (negsuc 0 ∷ negsuc 1 ∷ []) ∷ Seal 1
    ∷ Lemma (pos 2 ∷ pos 3 ∷ []) (1 ∷ []) ∷ Set 1 (pos 0) ∷ Read 2 ∷ Read 3 ∷ Conflict 3 ∷ Jump (pos 2)
    ∷ Propagate 1 (pos 1) ∷ Conflict 2 ∷ Resolve 1 ∷ Jump (negsuc 1) ∷ Set 1 (pos 0) ∷ []

-- over switches only
unfoldable pub switch_refusals : List Answers
switch_refusals =
    -- in another phase a call is refused for that, whatever its arguments
    record { after = []; calls = all_calls; answers = input OutOfRange ∷ replicate 15 (state WrongPhase) }
    ∷ record { after = four ++ Abandon ∷ []; calls = all_calls; answers = replicate 16 (state WrongPhase) }
    ∷ record { after = four; calls = Counts 200 200 ∷ Declare [] ∷ Rule (pos 0 ∷ []) ∷ Seal 0 ∷ Resolve 0 ∷ Jump (pos 0) ∷ Concede ∷ []; answers = replicate 7 (state WrongPhase) }
    ∷ record {
      after = clash;
      calls = Counts 200 200 ∷ Declare [] ∷ Admit [] ∷ Rule (pos 0 ∷ []) ∷ Seal 0 ∷ Lemma (pos 0 ∷ []) [] ∷ Choose (pos 0) ∷ Set 0 (pos 0) ∷ Propagate 0 (pos 0) ∷ Read 0 ∷ Conflict 0 ∷ Claim ∷ [];
      answers = replicate 12 (state WrongPhase);
    }
    ∷ record { after = Counts 1 0 ∷ []; calls = Counts 1 0 ∷ Lemma (pos 0 ∷ []) [] ∷ Choose (pos 0) ∷ Set 0 (pos 0) ∷ Propagate 0 (pos 0) ∷ Read 0 ∷ Conflict 0 ∷ Resolve 0 ∷ Jump (pos 0) ∷ Concede ∷ Claim ∷ Abandon ∷ []; answers = replicate 12 (state WrongPhase) }
    -- counts: the switches before the measures, and then the theory
    ∷ record { after = []; calls = Counts 128 1 ∷ Counts 127 1 ∷ Counts 127 0 ∷ []; answers = input OutOfRange ∷ theirs_input OutOfRange ∷ done ∷ [] }
    -- 127 numbers are in use, whatever the body
    ∷ record { after = Counts 127 0 ∷ []; calls = Admit [] ∷ []; answers = state Full ∷ [] }
    ∷ record { after = Counts 126 0 ∷ []; calls = Admit [] ∷ Admit (1 ∷ []) ∷ Declare (1 ∷ []) ∷ []; answers = theirs_input WrongLength ∷ theirs_input OutOfRange ∷ theirs_input OutOfRange ∷ [] }
    -- 250 clauses are stored, whatever the literals
    ∷ record { after = full_store; calls = Rule (pos 0 ∷ []) ∷ []; answers = state Full ∷ [] }
    ∷ record { after = full_store ++ Seal 1 ∷ []; calls = Lemma (pos 0 ∷ []) [] ∷ []; answers = state Full ∷ [] }
    ∷ record { after = full_store ++ Seal 1 ∷ Choose (negsuc 0) ∷ Conflict 1 ∷ []; calls = Jump (pos 0) ∷ Resolve 1 ∷ Concede ∷ []; answers = state Full ∷ state NotResolvable ∷ state NotAllowed ∷ [] }
    -- a literal that is not in the clause
    ∷ record { after = Counts 2 0 ∷ Rule (pos 1 ∷ []) ∷ Seal 1 ∷ Choose (negsuc 0) ∷ []; calls = Propagate 1 (pos 2) ∷ []; answers = state NotUnit ∷ [] }
    -- a resolvent of 30 literals, one of 17, and one of 16
    ∷ record { after = long_clauses 15; calls = Resolve 16 ∷ []; answers = state ResolventTooLong ∷ [] }
    ∷ record { after = long_clauses 2; calls = Resolve 16 ∷ []; answers = state ResolventTooLong ∷ [] }
    ∷ record { after = long_clauses 1; calls = Resolve 16 ∷ []; answers = done ∷ [] }
    -- the clause of a jump is stored, once
    ∷ record { after = learnt; calls = Conflict 5 ∷ Conflict 6 ∷ []; answers = state NotFalse ∷ state Absent ∷ [] }
    -- two literals at the top level, and not both read
    ∷ record { after = clash; calls = Jump (negsuc 0) ∷ Jump (negsuc 1) ∷ Concede ∷ []; answers = state NotAllowed ∷ state NotAllowed ∷ state NotAllowed ∷ [] }
    -- an open clause of level 0 cannot be jumped from, and an empty one holds no literal
    ∷ record { after = Counts 1 0 ∷ Rule (pos 1 ∷ []) ∷ Rule (negsuc 0 ∷ []) ∷ Seal 1 ∷ Propagate 1 (pos 1) ∷ Conflict 2 ∷ []; calls = Jump (negsuc 0) ∷ []; answers = state NotAllowed ∷ [] }
    ∷ record { after = Counts 1 0 ∷ Rule [] ∷ Seal 1 ∷ Conflict 1 ∷ []; calls = Jump (pos 1) ∷ Resolve 1 ∷ []; answers = state NotResolvable ∷ state NotResolvable ∷ [] }
    -- a literal below the top
    ∷ record {
      after = Counts 2 0 ∷ Rule (pos 1 ∷ pos 2 ∷ []) ∷ Seal 1 ∷ Choose (negsuc 0) ∷ Choose (negsuc 1) ∷ Conflict 1 ∷ [];
      calls = Jump (pos 1) ∷ Jump (pos 2) ∷ [];
      answers = state NotAllowed ∷ done ∷ [];
    }
    ∷ []

-- over the theory of signs
unfoldable pub sign_refusals : List Answers
sign_refusals =
    record { after = []; calls = Counts 1 17 ∷ Counts 1 16 ∷ []; answers = theirs_input OutOfRange ∷ done ∷ [] }
    -- rules: a literal 0 or -128, then the shape of the clause, then the numbers
    ∷ record {
      after = draft;
      calls = Rule (replicate 17 (pos 0)) ∷ Rule (negsuc 127 ∷ []) ∷ Rule (pos 1 ∷ pos 1 ∷ pos 0 ∷ []) ∷ Rule (replicate 17 (pos 9)) ∷ Rule (pos 9 ∷ negsuc 8 ∷ []) ∷ Rule (affirmed 1 17) ∷ Rule (pos 9 ∷ []) ∷ Rule (pos 1 ∷ negsuc 1 ∷ pos 3 ∷ []) ∷ [];
      answers = input BadLiteral ∷ input BadLiteral ∷ input BadLiteral ∷ input BadClause ∷ input BadClause ∷ input BadClause ∷ state Absent ∷ done ∷ [];
    }
    ∷ record { after = draft; calls = Seal 0 ∷ Seal 1000001 ∷ Seal 1000000 ∷ []; answers = input OutOfRange ∷ input OutOfRange ∷ done ∷ [] }
    ∷ record {
      after = draft;
      calls = Declare [] ∷ Declare (2 ∷ []) ∷ Declare (1 ∷ []) ∷ Admit [] ∷ Admit (2 ∷ 0 ∷ []) ∷ Admit (1 ∷ 1 ∷ []) ∷ [];
      answers = theirs_input WrongLength ∷ theirs_input OutOfRange ∷ done ∷ theirs_input WrongLength ∷ theirs_input OutOfRange ∷ done ∷ [];
    }
    -- a lemma: as a rule, and then the theory: a bad hint, or a clause that it does not vouch for
    ∷ record {
      after = draft ++ Seal 1 ∷ [];
      calls = Lemma (replicate 17 (pos 0)) [] ∷ Lemma (pos 9 ∷ pos 9 ∷ []) [] ∷ Lemma (pos 9 ∷ []) [] ∷ Lemma (pos 2 ∷ pos 3 ∷ []) [] ∷ Lemma (pos 2 ∷ pos 3 ∷ []) (2 ∷ []) ∷ Lemma (pos 2 ∷ pos 3 ∷ []) (1 ∷ []) ∷ [];
      answers = input BadLiteral ∷ input BadClause ∷ state Absent ∷ theirs_input WrongLength ∷ theirs_input OutOfRange ∷ theirs_state NotVouched ∷ [];
    }
    -- declared, and with one sign only
    ∷ record { after = draft ++ Declare (1 ∷ []) ∷ Seal 1 ∷ []; calls = Lemma (pos 2 ∷ pos 3 ∷ []) (1 ∷ []) ∷ Lemma (pos 2 ∷ []) (1 ∷ []) ∷ Lemma [] (1 ∷ []) ∷ []; answers = done ∷ theirs_state NotVouched ∷ theirs_state NotVouched ∷ [] }
    -- a value, a choice and two readings are on the trail
    ∷ record {
      after = zero_read;
      calls = Choose (pos 0) ∷ Choose (negsuc 127) ∷ Choose (pos 9) ∷ Choose (negsuc 0) ∷ Choose (pos 2) ∷ [];
      answers = input BadLiteral ∷ input BadLiteral ∷ state Absent ∷ state Taken ∷ state Taken ∷ [];
    }
    ∷ record {
      after = zero_read;
      calls = Set 0 (pos 1) ∷ Set 2 (pos 1) ∷ Set 1 (pos 1000000001) ∷ Set 1 (negsuc 1000000000) ∷ Set 1 (pos 1) ∷ [];
      answers = input OutOfRange ∷ input OutOfRange ∷ input OutOfRange ∷ input OutOfRange ∷ state Taken ∷ [];
    }
    ∷ record {
      after = zero_read;
      calls = Propagate 0 (pos 0) ∷ Propagate 0 (negsuc 127) ∷ Propagate 0 (pos 1) ∷ Propagate 2 (pos 1) ∷ Propagate 1 (pos 9) ∷ Propagate 1 (pos 1) ∷ Propagate 1 (pos 2) ∷ [];
      answers = input BadLiteral ∷ input BadLiteral ∷ state Absent ∷ state Absent ∷ state Absent ∷ state Taken ∷ state Taken ∷ [];
    }
    ∷ record { after = zero_read; calls = Read 0 ∷ Read 4 ∷ Read 200 ∷ Read 2 ∷ Read 1 ∷ Conflict 0 ∷ Conflict 2 ∷ Conflict 1 ∷ Claim ∷ []; answers = state Absent ∷ state Absent ∷ state Absent ∷ state Taken ∷ state Taken ∷ state Absent ∷ state Absent ∷ done ∷ state RuleUnmet ∷ [] }
    -- a choice and no value yet
    ∷ record {
      after = draft ++ Rule (pos 2 ∷ pos 3 ∷ []) ∷ Seal 10 ∷ Choose (pos 2) ∷ [];
      calls = Read 1 ∷ Read 3 ∷ Set 1 (pos 5) ∷ Set 1 (negsuc 4) ∷ Propagate 1 (pos 3) ∷ Propagate 1 (pos 1) ∷ Conflict 1 ∷ Claim ∷ [];
      answers = state WrongReadability ∷ state WrongReadability ∷ state ContradictsTrail ∷ done ∷ state NotUnit ∷ state NotUnit ∷ state NotFalse ∷ state NoValue ∷ [];
    }
    -- a value and no reading yet: what is readable may be neither chosen nor propagated
    ∷ record {
      after = draft ++ Rule (pos 2 ∷ pos 3 ∷ []) ∷ Seal 10 ∷ Set 1 (pos 5) ∷ [];
      calls = Choose (pos 2) ∷ Propagate 1 (pos 2) ∷ Read 1 ∷ Read 2 ∷ Conflict 1 ∷ [];
      answers = state WrongReadability ∷ state WrongReadability ∷ state WrongReadability ∷ done ∷ state NotFalse ∷ [];
    }
    -- a claim: a value for each measure, then the rules, then the theory
    ∷ record { after = draft ++ Declare (1 ∷ []) ∷ Rule (pos 1 ∷ []) ∷ Seal 1 ∷ []; calls = Claim ∷ []; answers = state NoValue ∷ [] }
    ∷ record { after = draft ++ Declare (1 ∷ []) ∷ Rule (pos 1 ∷ []) ∷ Seal 1 ∷ Set 1 (pos 0) ∷ []; calls = Claim ∷ []; answers = state RuleUnmet ∷ [] }
    ∷ record { after = draft ++ Declare (1 ∷ []) ∷ Rule (pos 1 ∷ []) ∷ Seal 1 ∷ Set 1 (pos 0) ∷ Choose (pos 1) ∷ []; calls = Claim ∷ []; answers = theirs_state NotAdmitted ∷ [] }
    -- a claim judges neither lemmas nor learnt clauses: it is the theory that says no
    ∷ record { after = forgotten; calls = Claim ∷ []; answers = theirs_state NotAdmitted ∷ [] }
    -- a literal below the top, where all at the top were read
    ∷ record {
      after = draft ++ Rule (negsuc 0 ∷ pos 2 ∷ []) ∷ Seal 1 ∷ Choose (pos 1) ∷ Set 1 (pos 5) ∷ Read 2 ∷ Conflict 1 ∷ [];
      calls = Jump (negsuc 0) ∷ Jump (pos 2) ∷ [];
      answers = state NotAllowed ∷ done ∷ [];
    }
    -- an open clause of two readings
    ∷ record {
      after = zero_read ++ Conflict 1 ∷ [];
      calls = Resolve 0 ∷ Resolve 4 ∷ Resolve 1 ∷ Resolve 2 ∷ Jump (pos 0) ∷ Jump (negsuc 127) ∷ Jump (pos 9) ∷ Jump (pos 1) ∷ Jump (negsuc 1) ∷ Jump (pos 3) ∷ Concede ∷ [];
      answers = state Absent ∷ state Absent ∷ state NotResolvable ∷ state NotResolvable ∷ input BadLiteral ∷ input BadLiteral ∷ state Absent ∷ state NotResolvable ∷ state NotResolvable ∷ done ∷ state NotAllowed ∷ [];
    }
    ∷ []
