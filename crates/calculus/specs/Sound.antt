-- The law of the calculus: what holds of every state that calls lead to, over every lawful theory.
use Rattle.std.specs.Prelude.{◌≡◌, ℕ, ◌<◌, ◌≤◌, true, List, length, ℤ, pos, neg_ℤ, Ok, filter, ◌≢◌}
use Rattle.std.specs.List.{ContainsAt as Has, AllByRecursion}
use Rattle.calculus.specs.Lists.{nth}
use Rattle.calculus.specs.Literals.{number, signed}
use Rattle.calculus.specs.Calls.{Call}
use Rattle.calculus.specs.Arrangements.{Arrangement, SameFraction}
use Rattle.calculus.specs.Kinds.{Kind}
use Rattle.calculus.specs.Trails.{Content, choice, values, on_trail, readable, by_values}
use Rattle.calculus.specs.Trails.Content.{Value, Literal}
use Rattle.calculus.specs.States.{State, fresh, holds, meets}
use Rattle.calculus.specs.States.Phase.{Closed}
use Rattle.calculus.specs.States.Verdict.{Impossible, Possible}
use Rattle.calculus.specs.Steps.{answers, run}
use Rattle.calculus.specs.Steps.Reply.{Handed}

-- the arrangement meets the literal, or gives the measure its fraction over d
abbrev pub Keeps : (K : Kind) → K.Model → ℕ → ℕ → Arrangement → Content → Type 0
Keeps K m w d a (Value j x) = SameFraction (nth (pos 0) a.numerators j) a.denominator x d
Keeps K m w d a (Literal l o) = signed l (holds K m w a) ≡ true

module _ (K : Kind) (s : State K) (a : Arrangement) where
  -- it gives each switch yes or no, and each measure a fraction
  abbrev pub Fits : Type 0
  Fits = (length a.switches ≡ s.switches) × (length a.numerators ≡ K.measures s.model) × (0 < a.denominator)

  -- the theory admits it, and it meets every rule
  abbrev pub Allowed : Type 0
  Allowed = Fits × (K.admitted s.model a.numerators a.denominator ≡ Ok tt) × AllByRecursion (λ r. r.rule ≡ true → meets K s.model s.switches a r.literals ≡ true) s.clauses

  -- it agrees with the choices up to the level k
  abbrev pub Agrees : ℕ → Type 0
  Agrees k = AllByRecursion (λ e. choice e.content ≡ true → e.level ≤ k → Keeps K s.model s.switches s.denominator a e.content) s.trail

pub record Guarantees (K : Kind) (s : State K) : Type 0 where
  -- every arrangement that the theory admits and that meets every rule meets every stored clause
  pub clauses_follow : (a : Arrangement) → Allowed K s a → AllByRecursion (λ r. meets K s.model s.switches a r.literals ≡ true) s.clauses
  -- and if it agrees with the choices up to level k, it meets each trail literal of level up to k
  pub trail_follows : (a : Arrangement) → Allowed K s a → (k : ℕ) → Agrees K s a k
      → AllByRecursion (λ e. e.level ≤ k → Keeps K s.model s.switches s.denominator a e.content) s.trail
  -- the trail holds no literal with its denial
  pub no_denial : (l : ℤ) → on_trail l s.trail ≡ true → on_trail (neg_ℤ l) s.trail ≢ true
  -- no two values for one measure
  pub one_value : (j : ℕ) → length (filter (λ e. values j e.content) s.trail) ≤ 1
  -- and no readable literal that its values make false
  pub readable_true : (l : ℤ) → on_trail l s.trail ≡ true → readable K s.model s.switches s.trail (number l) ≡ true
      → by_values K s.model s.switches s.denominator s.trail l ≡ true
  -- the verdict is impossible only if no admitted arrangement meets every rule
  pub impossible : s.phase ≡ Closed Impossible → (a : Arrangement) → Allowed K s a → ⊥
  -- and possible only if the arrangement that it holds is admitted and meets every rule
  pub possible : (a : Arrangement) → s.phase ≡ Closed (Possible a) → Allowed K s a

-- the arrangement that a verdict of possible holds is the one that claim handed out
abbrev pub HandedOut : (K : Kind) → List Call → Type 0
HandedOut K cs = (a : Arrangement) → (run K cs).phase ≡ Closed (Possible a) → Has (answers K (fresh K) cs) (Ok (Handed a))

-- after every list of calls, taken or refused
abbrev pub EveryRunSound : Kind → Type 0
EveryRunSound K = (cs : List Call) → Guarantees K (run K cs) × HandedOut K cs
