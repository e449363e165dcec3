-- What is held between two calls, and what a call does.
use Rattle.std.specs.Prelude.{◌≡◌, Bool, true, false, not, ◌||◌, Ok, Err, Result}
use Rattle.faults.specs.declared.SessionFault.{SessionFault}
use Rattle.calculus.specs.Calls.{Call}
use Rattle.calculus.specs.Calls.Call.{Counts, Declare, Admit, Rule, Seal, Lemma, Choose, Set, Propagate, Read, Conflict, Resolve, Jump, Concede, Claim, Abandon}
use Rattle.calculus.specs.Kinds.{Kind}
use Rattle.calculus.specs.States.{Phase, is_new, is_drafting, is_searching, is_analysing}
use Rattle.calculus.specs.Steps.{Reply, step}
use Rattle.session.specs.declared.Session.{Session}
use Rattle.session.specs.Views.{view}
use Rattle.driver.specs.declared.held.Held.{Held}
use Rattle.driver.specs.declared.held.Held.TheVariants.{Nothing, Draft, Analysis}

-- no permit is out, and no conflict
abbrev pub is_idle : Phase → Bool
is_idle p = not (is_drafting p || is_analysing p)

-- a permit while drafting, a conflict while analysing, and else nothing
abbrev pub held_in : Held → Phase → Bool
held_in Nothing p = is_idle p
held_in (Draft permit) p = is_drafting p
held_in (Analysis conflict) p = is_analysing p

-- taken, or refused with a fault
abbrev pub taken_of : Result Reply SessionFault → Result (Unit {0}) SessionFault
taken_of (Ok r) = Ok tt
taken_of (Err f) = Err f

-- after a call that spends a token: nothing is held, or the token that a refusal gave back
abbrev pub back_held : {P : Type 0} → (P → Held) → Result (Unit {0}) (P × SessionFault) → Held × Result (Unit {0}) SessionFault
back_held hold (Ok x) = (Nothing, Ok tt)
back_held hold (Err x) = (hold x.0, Err x.1)

-- the calls that need a token, give one out or close the session
abbrev pub is_token_call : Call → Bool
is_token_call (Counts w t) = true
is_token_call (Declare body) = true
is_token_call (Admit body) = false
is_token_call (Rule ls) = true
is_token_call (Seal d) = true
is_token_call (Lemma ls hint) = false
is_token_call (Choose l) = false
is_token_call (Set j x) = false
is_token_call (Propagate c l) = false
is_token_call (Read n) = false
is_token_call (Conflict c) = true
is_token_call (Resolve n) = true
is_token_call (Jump l) = true
is_token_call Concede = true
is_token_call Claim = true
is_token_call Abandon = true

-- in which phases a call serves
abbrev pub serves : Call → Phase → Bool
serves (Counts w t) p = is_new p
serves (Declare body) p = is_drafting p
serves (Admit body) p = is_drafting p || is_searching p
serves (Rule ls) p = is_drafting p
serves (Seal d) p = is_drafting p
serves (Lemma ls hint) p = is_searching p
serves (Choose l) p = is_searching p
serves (Set j x) p = is_searching p
serves (Propagate c l) p = is_searching p
serves (Read n) p = is_searching p
serves (Conflict c) p = is_searching p
serves (Resolve n) p = is_analysing p
serves (Jump l) p = is_analysing p
serves Concede p = is_analysing p
serves Claim p = is_searching p
serves Abandon p = is_searching p || is_analysing p

module _ {T : Type 0} {g : _} (K : Kind) (model : T → K.Model) where
  -- what is held is what its phase asks for
  abbrev pub Holds : Held → Session T g → Type 0
  Holds h s = held_in h (view K model s).phase ≡ true

  abbrev pub NotServed : Call → Session T g → Type 0
  NotServed c s = is_token_call c ≡ true → serves c (view K model s).phase ≡ false

  abbrev pub SamePhase : Session T g → Session T g → Type 0
  SamePhase before after = (view K model after).phase ≡ (view K model before).phase

  -- the answer and the state are the calculus'
  abbrev pub Obeys : Session T g → Call → Result (Unit {0}) SessionFault → Session T g → Type 0
  Obeys before call r after = (r ≡ taken_of (step K (view K model before) call).0) × (view K model after ≡ (step K (view K model before) call).1)

  -- and what is held then is right again
  abbrev pub Advances : Session T g → Call → Held × Result (Unit {0}) SessionFault → Session T g → Type 0
  Advances before call r after = Obeys before call r.1 after × Holds r.0 after
