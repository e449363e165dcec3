-- What a set comes to when its tests are known.
use Rattle.std.proofs.Common.{◌≡◌, ℕ, ◌+◌, ◌-◌, Bool, true, false, not, ◌&&◌, List, [], ◌∷◌, ◌++◌, length, take, ℤ, Ok, Err, sym, refl, ap, ◌∙◌, arith}
use Rattle.std.proofs.lemmas.Bool.{true≢false, not_from_false, eq-eqb}
use Rattle.std.proofs.lemmas.List.{length_push, take-append-le, take_all}
use Rattle.faults.specs.declared.InputCause.TheVariants.{OutOfRange}
use Rattle.faults.specs.declared.StateCause.TheVariants.{WrongPhase, Taken, ContradictsTrail}
use Rattle.faults.specs.declared.SessionFault.TheVariants as session
use Rattle.calculus.specs.Lists.{every}
use Rattle.calculus.specs.Limits.{most_numerator, within, sized}
use Rattle.calculus.specs.Calls.Call.{Set}
use Rattle.calculus.specs.Kinds.{Kind}
use Rattle.calculus.specs.Trails.{Content, Entry, choices, valued, stays_true, enter_choice}
use Rattle.calculus.specs.Trails.Content.{Value}
use Rattle.calculus.specs.States.{State, is_searching}
use Rattle.calculus.specs.Steps.{step, with_trail}
use Rattle.calculus.specs.Steps.Reply.{Done}
use Rattle.calculus.specs.Arrangements.{Arrangement}
use Rattle.readings.specs.Valuing.{JustValued}
use Rattle.session.specs.declared.phase.Phase.{Phase}
use Rattle.session.specs.declared.phase.Phase.TheVariants as phase
use Rattle.session.specs.Phases.{phase_of}
use Rattle.session.proofs.Needing.{need_yes, need_no}

-- without its last entry it is what it was
pub all_but_last : (t : List Entry) (e : Entry) → take (length (t ++ e ∷ []) - 1) (t ++ e ∷ []) ≡ t
all_but_last t e =
    let n : length (t ++ e ∷ []) - 1 ≡ length t = omega (arith, length_push t e) in
    ap (λ k. take k (t ++ e ∷ [])) n ∙ take-append-le (length t) t (e ∷ []) (omega arith) ∙ take_all (length t) t (omega arith)

pub just_valued : (t : List Entry) (j : ℕ) (x : ℤ) (after : List Entry) → valued j t ≡ false → after ≡ enter_choice t (Value j x) → JustValued j t after
just_valued t j x after n is = record { before = n; entry = record { content = Value j x; level = choices t + 1 }; values = eq-eqb j j refl; now = is }

-- while it searches, its phase says nothing of an arrangement
pub searching_same : (p : Phase) (a b : Arrangement) → is_searching (phase_of p a) ≡ true → phase_of p a ≡ phase_of p b
searching_same phase.New a b h = refl
searching_same phase.Drafting a b h = refl
searching_same phase.Searching a b h = refl
searching_same phase.Analysing a b h = refl
searching_same phase.Impossible a b h = refl
searching_same phase.Possible a b h = absurd (true≢false (sym h))
searching_same phase.Undecided a b h = refl

module _ (K : Kind) (s : State K) (j : ℕ) (x : ℤ) where
  pub set_done : is_searching s.phase ≡ true → (within (K.measures s.model) j && sized most_numerator x) ≡ true → valued j s.trail ≡ false
      → (after : List Entry) → after ≡ enter_choice s.trail (Value j x)
      → every (λ e. stays_true K s.model s.switches s.denominator s.trail after e.content) s.trail ≡ true
      → step K s (Set j x) ≡ (Ok Done, with_trail K s after)
  set_done p r n after is b =
      let bearing : List Entry → Bool = λ new. every (λ (e : Entry). stays_true K s.model s.switches s.denominator s.trail new e.content) s.trail in
      need_yes K (is_searching s.phase) (session.State WrongPhase) s _ p
      ∙ need_yes K (within (K.measures s.model) j && sized most_numerator x) (session.Input OutOfRange) s _ r
      ∙ need_yes K (not (valued j s.trail)) (session.State Taken) s _ (not_from_false _ n)
      ∙ need_yes K (bearing (enter_choice s.trail (Value j x))) (session.State ContradictsTrail) s _ (sym (ap bearing is) ∙ b)
      ∙ ap (λ t. (Ok Done, with_trail K s t)) (sym is)

  pub set_refused : is_searching s.phase ≡ true → (within (K.measures s.model) j && sized most_numerator x) ≡ true → valued j s.trail ≡ false
      → (after : List Entry) → after ≡ enter_choice s.trail (Value j x)
      → every (λ e. stays_true K s.model s.switches s.denominator s.trail after e.content) s.trail ≡ false
      → step K s (Set j x) ≡ (Err (session.State ContradictsTrail), s)
  set_refused p r n after is b =
      let bearing : List Entry → Bool = λ new. every (λ (e : Entry). stays_true K s.model s.switches s.denominator s.trail new e.content) s.trail in
      need_yes K (is_searching s.phase) (session.State WrongPhase) s _ p
      ∙ need_yes K (within (K.measures s.model) j && sized most_numerator x) (session.Input OutOfRange) s _ r
      ∙ need_yes K (not (valued j s.trail)) (session.State Taken) s _ (not_from_false _ n)
      ∙ need_no K (bearing (enter_choice s.trail (Value j x))) (session.State ContradictsTrail) s _ (sym (ap bearing is) ∙ b)

-- the trail without the value that was entered
pub taken_back : (t : List Entry) (c : Content) (after left : List Entry) → after ≡ enter_choice t c → left ≡ take (length after - 1) after → left ≡ t
taken_back t c after left is e = e ∙ ap (λ u. take (length u - 1) u) is ∙ all_but_last t _
