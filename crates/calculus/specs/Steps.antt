-- The calculus: what each call answers, and what the state becomes.
-- A call is a list of tests, each with the fault that it gives, and then what is done: read it from the top.
use Rattle.std.specs.Prelude.{ℕ, ◌+◌, ◌-◌, Bool, true, false, cond, not, ◌&&◌, ◌||◌, ◌⊎◌, List, [], ◌∷◌, ◌++◌, map, length, ℤ, pos, neg_ℤ, Ok, Err, filter, Result, ◌==◌, nat_eq, nat_le, nat_lt}
use Rattle.std.proofs.Common.{inl, inr}
use Rattle.std.specs.List.{range_with_len}
use Rattle.faults.specs.declared.InputCause.TheVariants.{OutOfRange, BadLiteral, BadClause}
use Rattle.faults.specs.declared.StateCause.TheVariants.{WrongPhase, Full, Absent, Taken, WrongReadability, NotUnit, ContradictsTrail, NotFalse, NotResolvable, ResolventTooLong, NotAllowed, NoValue, RuleUnmet}
use Rattle.faults.specs.declared.TheoryFault.{TheoryFault}
use Rattle.faults.specs.declared.SessionFault.{SessionFault}
use Rattle.faults.specs.declared.SessionFault.TheVariants as session
use Rattle.calculus.specs.Lists.{every, some, highest}
use Rattle.calculus.specs.Limits.{most_numbers, most_clauses, most_literals, most_numerator, most_denominator, within, sized}
use Rattle.calculus.specs.Literals.{same, number, proper, clause_like, holds_literal}
use Rattle.calculus.specs.Calls.{Call}
use Rattle.calculus.specs.Calls.Call.{Counts, Declare, Admit, Rule, Seal, Lemma, Choose, Set, Propagate, Read, Conflict, Resolve, Jump, Concede, Claim, Abandon}
use Rattle.calculus.specs.Arrangements.{Arrangement}
use Rattle.calculus.specs.Kinds.{Kind, Answer}
use Rattle.calculus.specs.Trails.{Entry, entry_for, affirms, was_read, reason, on_trail, false_on, false_at, taken, valued, choices, up_to, enter, enter_choice, readable, reading_level, numerators, reading, stays_true}
use Rattle.calculus.specs.Trails.Origin.{Chosen, Propagated, Read as AsRead}
use Rattle.calculus.specs.Trails.Content.{Value, Literal}
use Rattle.calculus.specs.States.{Phase, State, is_new, is_drafting, is_searching, is_analysing, clause, fresh, meets}
use Rattle.calculus.specs.States.Phase.{Drafting, Searching, Analysing, Closed}
use Rattle.calculus.specs.States.Verdict.{Impossible, Possible, Undecided}

-- the literal on the number n, or 0
abbrev pub literal_on : ℕ → List ℤ → ℤ
literal_on n [] = pos 0
literal_on n (l ∷ ls) = cond (number l == n) l (literal_on n ls)

-- the clause without l
abbrev pub others : ℤ → List ℤ → List ℤ
others l ls = filter (λ k. not (same k l)) ls

-- each literal is l or false
abbrev pub others_false : List Entry → ℤ → List ℤ → Bool
others_false t l ls = every (λ k. same k l || false_on t k) ls

-- the clause without l, then the reason's literals but the denial of l that are not there yet, in their order
abbrev pub resolvent : ℤ → List ℤ → List ℤ → List ℤ
resolvent l ls because = others l ls ++ filter (λ k. not (holds_literal k (others l ls))) (others (neg_ℤ l) because)

-- every literal that is false at the level k had its denial read
abbrev pub all_read : List Entry → ℕ → List ℤ → Bool
all_read t k ls = every (λ l. not (false_at t l == k) || was_read (entry_for (affirms (neg_ℤ l)) t).content) ls

-- what an accepted call hands out: a claim the arrangement, the others nothing
pub data Reply : Type 0 where
  Done : Reply
  Handed : Arrangement → Reply

module _ (K : Kind) where
  -- what a call answers, and the state that it leaves
  abbrev pub Outcome : Type 0
  Outcome = Result Reply SessionFault × State K

  -- go on where the test holds; else refuse and change nothing
  abbrev pub need : Bool → SessionFault → State K → Outcome → Outcome
  need b f s next = cond b next (Err f, s)

  -- what the theory makes of it: a refusal that changes nothing, or a new model
  abbrev pub asked : TheoryFault ⊎ K.Model → State K → (K.Model → State K) → Outcome
  asked (inl f) s next = (Err (session.Theory f), s)
  asked (inr m) s next = (Ok Done, next m)

  -- go on where the theory says yes; else refuse with its fault and change nothing
  abbrev pub if_agreed : Answer → State K → Reply → State K → Outcome
  if_agreed (Ok u) s reply next = (Ok reply, next)
  if_agreed (Err f) s reply next = (Err (session.Theory f), s)

  -- one of the numbers in use
  abbrev pub there : State K → ℕ → Bool
  there s n = within s.numbers n

  -- room for one clause more
  abbrev pub has_room : State K → Bool
  has_room s = nat_lt (length s.clauses) most_clauses

  abbrev pub readable_in : State K → ℕ → Bool
  readable_in s n = readable K s.model s.switches s.trail n

  -- each literal of the trail that becomes readable on the trail u is true there
  abbrev pub bears : State K → List Entry → Bool
  bears s u = every (λ e. stays_true K s.model s.switches s.denominator s.trail u e.content) s.trail

  -- the entry that makes a literal false
  abbrev pub denial : State K → ℤ → Entry
  denial s l = entry_for (affirms (neg_ℤ l)) s.trail

  -- the highest level at which one of the literals is false, or 0
  abbrev pub top_of : State K → List ℤ → ℕ
  top_of s ls = highest (false_at s.trail) ls

  -- the arrangement that the trail makes: a switch that it does not affirm counts as no
  abbrev pub arranged : State K → Arrangement
  arranged s = record { switches = map (λ n. on_trail (pos n) s.trail) (range_with_len 1 s.switches); numerators = numerators K s.model s.trail; denominator = s.denominator }

  abbrev pub drafted : State K → ℕ → K.Model → State K
  drafted s w m = record { phase = Drafting; switches = w; numbers = w; denominator = s.denominator; model = m; clauses = s.clauses; trail = s.trail; open_clause = s.open_clause }

  abbrev pub sealed : State K → ℕ → State K
  sealed s d = record { phase = Searching; switches = s.switches; numbers = s.numbers; denominator = d; model = s.model; clauses = s.clauses; trail = s.trail; open_clause = s.open_clause }

  abbrev pub with_model : State K → K.Model → State K
  with_model s m = record { phase = s.phase; switches = s.switches; numbers = s.numbers; denominator = s.denominator; model = m; clauses = s.clauses; trail = s.trail; open_clause = s.open_clause }

  -- with one number more, for the atom just admitted
  abbrev pub with_atom : State K → K.Model → State K
  with_atom s m = record { phase = s.phase; switches = s.switches; numbers = s.numbers + 1; denominator = s.denominator; model = m; clauses = s.clauses; trail = s.trail; open_clause = s.open_clause }

  abbrev pub with_clause : State K → List ℤ → Bool → State K
  with_clause s ls rule = record { phase = s.phase; switches = s.switches; numbers = s.numbers; denominator = s.denominator; model = s.model; clauses = s.clauses ++ record { literals = ls; rule = rule } ∷ []; trail = s.trail; open_clause = s.open_clause }

  abbrev pub with_trail : State K → List Entry → State K
  with_trail s t = record { phase = s.phase; switches = s.switches; numbers = s.numbers; denominator = s.denominator; model = s.model; clauses = s.clauses; trail = t; open_clause = s.open_clause }

  -- another phase, with another open clause
  abbrev pub turned : State K → Phase → List ℤ → State K
  turned s p ls = record { phase = p; switches = s.switches; numbers = s.numbers; denominator = s.denominator; model = s.model; clauses = s.clauses; trail = s.trail; open_clause = ls }

  -- back to the level k: the entries above it go, the open clause is stored, the search resumes
  abbrev pub resumed : State K → ℕ → State K
  resumed s k = with_clause (with_trail (turned s Searching []) (up_to k s.trail)) s.open_clause false

  -- and the literal follows at that level, with the clause just stored as its reason
  abbrev pub forced : State K → ℤ → ℕ → State K
  forced s l k = with_trail (resumed s k) (enter (up_to k s.trail) (Literal l (Propagated (length s.clauses + 1))) k)

  -- or is chosen
  abbrev pub split : State K → ℤ → ℕ → State K
  split s l k = with_trail (resumed s k) (enter_choice (up_to k s.trail) (Literal l Chosen))

  abbrev pub step : State K → Call → Outcome
  step s (Counts w t) =
      need (is_new s.phase) (session.State WrongPhase) s
      (need (nat_le w most_numbers) (session.Input OutOfRange) s
      (asked (K.count s.model t) s (drafted s w)))
  step s (Declare body) =
      need (is_drafting s.phase) (session.State WrongPhase) s
      (asked (K.declare s.model body) s (with_model s))
  step s (Admit body) =
      need (is_drafting s.phase || is_searching s.phase) (session.State WrongPhase) s
      (need (nat_lt s.numbers most_numbers) (session.State Full) s
      (asked (K.admit s.model body) s (with_atom s)))
  step s (Rule ls) =
      need (is_drafting s.phase) (session.State WrongPhase) s
      (need (has_room s) (session.State Full) s
      (need (every proper ls) (session.Input BadLiteral) s
      (need (clause_like ls) (session.Input BadClause) s
      (need (every (λ l. there s (number l)) ls) (session.State Absent) s
      (Ok Done, with_clause s ls true)))))
  step s (Seal d) =
      need (is_drafting s.phase) (session.State WrongPhase) s
      (need (within most_denominator d) (session.Input OutOfRange) s
      (Ok Done, sealed s d))
  step s (Lemma ls hint) =
      need (is_searching s.phase) (session.State WrongPhase) s
      (need (has_room s) (session.State Full) s
      (need (every proper ls) (session.Input BadLiteral) s
      (need (clause_like ls) (session.Input BadClause) s
      (need (every (λ l. there s (number l)) ls) (session.State Absent) s
      (if_agreed (K.vouched s.model s.switches ls hint) s Done (with_clause s ls false))))))
  step s (Choose l) =
      need (is_searching s.phase) (session.State WrongPhase) s
      (need (proper l) (session.Input BadLiteral) s
      (need (there s (number l)) (session.State Absent) s
      (need (not (taken (number l) s.trail)) (session.State Taken) s
      (need (not (readable_in s (number l))) (session.State WrongReadability) s
      (Ok Done, with_trail s (enter_choice s.trail (Literal l Chosen)))))))
  step s (Set j x) =
      let u = enter_choice s.trail (Value j x) in
      need (is_searching s.phase) (session.State WrongPhase) s
      (need (within (K.measures s.model) j && sized most_numerator x) (session.Input OutOfRange) s
      (need (not (valued j s.trail)) (session.State Taken) s
      (need (bears s u) (session.State ContradictsTrail) s
      (Ok Done, with_trail s u))))
  step s (Propagate c l) =
      let ls = clause s.clauses c in
      need (is_searching s.phase) (session.State WrongPhase) s
      (need (proper l) (session.Input BadLiteral) s
      (need (within (length s.clauses) c && there s (number l)) (session.State Absent) s
      (need (not (taken (number l) s.trail)) (session.State Taken) s
      (need (not (readable_in s (number l))) (session.State WrongReadability) s
      (need (holds_literal l ls && others_false s.trail l ls) (session.State NotUnit) s
      (Ok Done, with_trail s (enter s.trail (Literal l (Propagated c)) (choices s.trail))))))))
  step s (Read n) =
      let l = reading K s.model s.switches s.denominator s.trail n in
      need (is_searching s.phase) (session.State WrongPhase) s
      (need (there s n) (session.State Absent) s
      (need (not (taken n s.trail)) (session.State Taken) s
      (need (readable_in s n) (session.State WrongReadability) s
      (Ok Done, with_trail s (enter s.trail (Literal l AsRead) (reading_level K s.model s.switches s.trail n))))))
  step s (Conflict c) =
      let ls = clause s.clauses c in
      need (is_searching s.phase) (session.State WrongPhase) s
      (need (within (length s.clauses) c) (session.State Absent) s
      (need (every (false_on s.trail) ls) (session.State NotFalse) s
      (Ok Done, turned s Analysing ls)))
  step s (Resolve n) =
      let l = literal_on n s.open_clause in
      let because = reason (denial s l).content in
      let resolved = resolvent l s.open_clause (clause s.clauses because) in
      need (is_analysing s.phase) (session.State WrongPhase) s
      (need (there s n) (session.State Absent) s
      (need (some (λ k. nat_eq (number k) n) s.open_clause && nat_lt 0 because) (session.State NotResolvable) s
      (need (nat_le (length resolved) most_literals) (session.State ResolventTooLong) s
      (Ok Done, turned s Analysing resolved))))
  step s (Jump l) =
      let top = top_of s s.open_clause in
      let next = top_of s (others l s.open_clause) in
      need (is_analysing s.phase) (session.State WrongPhase) s
      (need (has_room s) (session.State Full) s
      (need (proper l) (session.Input BadLiteral) s
      (need (there s (number l)) (session.State Absent) s
      (need (holds_literal l s.open_clause) (session.State NotResolvable) s
      (need (nat_lt 0 top && false_at s.trail l == top) (session.State NotAllowed) s
      (cond (nat_lt next top)
      (Ok Done, forced s l next)
      (need (all_read s.trail top s.open_clause) (session.State NotAllowed) s
      (Ok Done, split s l (top - 1)))))))))
  step s Concede =
      need (is_analysing s.phase) (session.State WrongPhase) s
      (need (top_of s s.open_clause == 0) (session.State NotAllowed) s
      (Ok Done, turned s (Closed Impossible) []))
  step s Claim =
      let a = arranged s in
      need (is_searching s.phase) (session.State WrongPhase) s
      (need (every (λ j. valued j s.trail) (range_with_len 1 (K.measures s.model))) (session.State NoValue) s
      (need (every (λ r. not r.rule || meets K s.model s.switches a r.literals) s.clauses) (session.State RuleUnmet) s
      (if_agreed (K.admitted s.model a.numerators a.denominator) s (Handed a) (turned s (Closed (Possible a)) []))))
  step s Abandon =
      need (is_searching s.phase || is_analysing s.phase) (session.State WrongPhase) s
      (Ok Done, turned s (Closed Undecided) [])

  -- the state after a list of calls, taken or refused
  abbrev pub after : State K → List Call → State K
  after s [] = s
  after s (c ∷ cs) = after (step s c).1 cs

  -- and what each of them answered
  abbrev pub answers : State K → List Call → List (Result Reply SessionFault)
  answers s [] = []
  answers s (c ∷ cs) = (step s c).0 ∷ answers (step s c).1 cs

  -- a session's life: the state that calls lead to from a fresh one
  abbrev pub run : List Call → State K
  run cs = after (fresh K) cs
