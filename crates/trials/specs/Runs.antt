-- Runs that reach every phase, every kind of entry, both cases of a jump and all three verdicts.
use Rattle.std.specs.Prelude.{ℕ, true, false, List, [], ◌∷◌, ◌++◌, ℤ, pos, negsuc}
use Rattle.calculus.specs.Calls.{Call}
use Rattle.calculus.specs.Calls.Call.{Counts, Declare, Admit, Rule, Seal, Lemma, Choose, Set, Propagate, Read, Conflict, Resolve, Jump, Concede, Claim, Abandon}
use Rattle.calculus.specs.Trails.{Entry, Origin}
use Rattle.calculus.specs.Trails.Origin.{Chosen, Propagated, Read as AsRead}
use Rattle.calculus.specs.Trails.Content.{Value, Literal}
use Rattle.calculus.specs.States.Phase.{New, Drafting, Searching, Analysing, Closed}
use Rattle.calculus.specs.States.Verdict.{Impossible, Possible, Undecided}
use Rattle.trials.specs.Trials.{Leads}

abbrev pub value : ℕ → ℤ → ℕ → Entry
value j x k = record { content = Value j x; level = k }

abbrev pub literal : ℤ → Origin → ℕ → Entry
literal l o k = record { content = Literal l o; level = k }

-- four rules over two switches that no arrangement meets
abbrev pub four : List Call
four = Counts 2 0 ∷ Rule (pos 1 ∷ pos 2 ∷ []) ∷ Rule (pos 1 ∷ negsuc 1 ∷ []) ∷ Rule (negsuc 0 ∷ pos 2 ∷ []) ∷ Rule (negsuc 0 ∷ negsuc 1 ∷ []) ∷ Seal 1 ∷ []

-- a choice and what follows from it make the fourth rule false
abbrev pub clash : List Call
clash = four ++ Choose (pos 1) ∷ Propagate 3 (pos 2) ∷ Conflict 4 ∷ []

-- analysis learns that the choice was wrong
abbrev pub learnt : List Call
learnt = clash ++ Resolve 2 ∷ Jump (negsuc 0) ∷ []

-- over switches only
unfoldable pub switch_runs : List Leads
switch_runs =
    record { after = []; phase = New; trail = []; open_clause = [] }
    ∷ record { after = Counts 2 0 ∷ []; phase = Drafting; trail = []; open_clause = [] }
    ∷ record { after = four; phase = Searching; trail = []; open_clause = [] }
    ∷ record { after = clash; phase = Analysing; trail = literal (pos 1) Chosen 1 ∷ literal (pos 2) (Propagated 3) 1 ∷ []; open_clause = negsuc 0 ∷ negsuc 1 ∷ [] }
    -- the literal goes, and the reason's other literal is there already
    ∷ record { after = clash ++ Resolve 2 ∷ []; phase = Analysing; trail = literal (pos 1) Chosen 1 ∷ literal (pos 2) (Propagated 3) 1 ∷ []; open_clause = negsuc 0 ∷ [] }
    -- first case of a jump: the target is 0, and the clause just stored is the reason
    ∷ record { after = learnt; phase = Searching; trail = literal (negsuc 0) (Propagated 5) 0 ∷ []; open_clause = [] }
    ∷ record {
      after = learnt ++ Propagate 1 (pos 2) ∷ Conflict 2 ∷ Concede ∷ [];
      phase = Closed Impossible;
      trail = literal (negsuc 0) (Propagated 5) 0 ∷ literal (pos 2) (Propagated 1) 0 ∷ [];
      open_clause = [];
    }
    -- a switch that is not on the trail counts as no
    ∷ record {
      after = Counts 3 0 ∷ Rule (pos 1 ∷ pos 2 ∷ []) ∷ Seal 1 ∷ Choose (negsuc 0) ∷ Propagate 1 (pos 2) ∷ Claim ∷ [];
      phase = Closed (Possible (record { switches = false ∷ true ∷ false ∷ []; numerators = []; denominator = 1 }));
      trail = literal (negsuc 0) Chosen 1 ∷ literal (pos 2) (Propagated 1) 1 ∷ [];
      open_clause = [];
    }
    ∷ record { after = four ++ Abandon ∷ []; phase = Closed Undecided; trail = []; open_clause = [] }
    ∷ record { after = clash ++ Abandon ∷ []; phase = Closed Undecided; trail = literal (pos 1) Chosen 1 ∷ literal (pos 2) (Propagated 3) 1 ∷ []; open_clause = [] }
    -- an empty rule is conceded
    ∷ record { after = Counts 0 0 ∷ Rule [] ∷ Seal 1 ∷ Conflict 1 ∷ Concede ∷ []; phase = Closed Impossible; trail = []; open_clause = [] }
    -- nothing to settle: a claim right after the seal
    ∷ record { after = Counts 0 0 ∷ Seal 7 ∷ Claim ∷ []; phase = Closed (Possible (record { switches = []; numerators = []; denominator = 7 })); trail = []; open_clause = [] }
    ∷ []

-- one switch, one measure; the atom 2 says that the measure is negative, 3 that it is positive
abbrev pub draft : List Call
draft = Counts 1 1 ∷ Admit (1 ∷ 0 ∷ []) ∷ Admit (1 ∷ 1 ∷ []) ∷ []

-- the measure is 0 against the rule, and both atoms are read after another choice
abbrev pub zero_read : List Call
zero_read = draft ++ Rule (pos 2 ∷ pos 3 ∷ []) ∷ Seal 10 ∷ Set 1 (pos 0) ∷ Choose (pos 1) ∷ Read 2 ∷ Read 3 ∷ []

-- a reading of level 1 that stands behind a choice of level 2
abbrev pub late_reading : List Call
late_reading = draft ++ Rule (negsuc 0 ∷ pos 2 ∷ []) ∷ Seal 1 ∷ Set 1 (pos 5) ∷ Choose (pos 1) ∷ Read 2 ∷ []

-- over the theory of signs
unfoldable pub sign_runs : List Leads
sign_runs =
    -- a reading stands at the level of its measure, not at the present one
    record {
      after = zero_read;
      phase = Searching;
      trail = value 1 (pos 0) 1 ∷ literal (pos 1) Chosen 2 ∷ literal (negsuc 1) AsRead 1 ∷ literal (negsuc 2) AsRead 1 ∷ [];
      open_clause = [];
    }
    -- second case of a jump: all at the top were read, the value and all above it goes, and the literal is chosen
    ∷ record { after = zero_read ++ Conflict 1 ∷ Jump (pos 2) ∷ []; phase = Searching; trail = literal (pos 2) Chosen 1 ∷ []; open_clause = [] }
    -- and from level 2: the target is 1, so the choice of that level stays
    ∷ record {
      after = draft ++ Rule (pos 2 ∷ pos 3 ∷ []) ∷ Seal 10 ∷ Choose (pos 1) ∷ Set 1 (pos 0) ∷ Read 2 ∷ Read 3 ∷ Conflict 1 ∷ Jump (pos 2) ∷ [];
      phase = Searching;
      trail = literal (pos 1) Chosen 1 ∷ literal (pos 2) Chosen 2 ∷ [];
      open_clause = [];
    }
    -- a value must agree with what was chosen
    ∷ record {
      after = zero_read ++ Conflict 1 ∷ Jump (pos 2) ∷ Set 1 (pos 7) ∷ Set 1 (negsuc 6) ∷ Claim ∷ [];
      phase = Closed (Possible (record { switches = false ∷ []; numerators = negsuc 6 ∷ []; denominator = 10 }));
      trail = literal (pos 2) Chosen 1 ∷ value 1 (negsuc 6) 2 ∷ [];
      open_clause = [];
    }
    -- entries go by their level and not by their place: the reading survives, and nothing above the target does
    ∷ record {
      after = late_reading ++ Conflict 1 ∷ Jump (negsuc 0) ∷ [];
      phase = Searching;
      trail = value 1 (pos 5) 1 ∷ literal (negsuc 1) AsRead 1 ∷ literal (negsuc 0) (Propagated 2) 1 ∷ [];
      open_clause = [];
    }
    -- a lemma that the theory vouches for: the measure is not 0, so it is negative or positive
    ∷ record {
      after = draft ++ Declare (1 ∷ []) ∷ Seal 1 ∷ Lemma (pos 2 ∷ pos 3 ∷ []) (1 ∷ []) ∷ Choose (negsuc 1) ∷ Propagate 1 (pos 3) ∷ [];
      phase = Searching;
      trail = literal (negsuc 1) Chosen 1 ∷ literal (pos 3) (Propagated 1) 1 ∷ [];
      open_clause = [];
    }
    -- atoms may be admitted in the search
    ∷ record {
      after = Counts 0 1 ∷ Seal 1 ∷ Set 1 (pos 3) ∷ Admit (1 ∷ 1 ∷ []) ∷ Read 1 ∷ [];
      phase = Searching;
      trail = value 1 (pos 3) 1 ∷ literal (pos 1) AsRead 1 ∷ [];
      open_clause = [];
    }
    ∷ []
