-- What a call does to what is held.
use Rattle.std.proofs.Common.{◌≡◌, true, Ok, Err, Result, sym, refl, ap, ◌∙◌, subst}
use Rattle.faults.specs.declared.SessionFault.{SessionFault}
use Rattle.calculus.specs.Calls.{Call}
use Rattle.calculus.specs.Kinds.{Kind, Lawful}
use Rattle.calculus.specs.States.{State}
use Rattle.calculus.specs.Steps.{Reply, step}
use Rattle.calculus.specs.Steps.Reply.{Done}
use Rattle.calculus.proofs.Ruling.{rules_hold}
use Rattle.session.specs.declared.Session.{Session}
use Rattle.session.specs.Replies.{answer_of, back_of}
use Rattle.session.specs.Views.{view}
use Rattle.driver.specs.declared.held.Held.{Held}
use Rattle.driver.specs.declared.held.Held.TheVariants.{Nothing}
use Rattle.driver.specs.Holding.{is_idle, held_in, back_held, taken_of, Holds, Obeys, Advances, NotServed, SamePhase}
use Rattle.driver.proofs.Leading.{Leads}

module _ {T : Type 0} {g : _} (K : Kind) (L : Lawful K) (model : T → K.Model) (s t : Session T g) (d c : Call) (e : d ≡ c) (v : view K model t ≡ (step K (view K model s) c).1) where
  -- accepted: the call leads to a phase that asks for what is held then
  landed : (h : Held) (r : Reply) → (step K (view K model s) c).0 ≡ Ok r → held_in h (step K (view K model s) c).1.phase ≡ true → Advances K model s d (h, Ok tt) t
  landed h r o l = subst (λ x. Advances K model s x (h, Ok tt) t) (sym e) ((sym (ap taken_of o), v), ap (λ (u : State K). held_in h u.phase) v ∙ l)

  -- refused: nothing changes
  stayed : (h : Held) (f : SessionFault) → (step K (view K model s) c).0 ≡ Err f → Holds K model h s → Advances K model s d (h, Err f) t
  stayed h f o l = subst (λ x. Advances K model s x (h, Err f) t) (sym e) ((sym (ap taken_of o), v), ap (λ (u : State K). held_in h u.phase) (v ∙ (rules_hold K L).refusal (view K model s) c f o) ∙ l)

  -- what is held stays, where an accepted call leads to a phase that asks for it
  pub staying : (h : Held) (r : Result (Unit {0}) SessionFault) → Leads K (held_in h) (view K model s) c → answer_of r ≡ (step K (view K model s) c).0 → Holds K model h s → Advances K model s d (h, r) t
  staying h (Ok tt) l q o = landed h Done (sym q) (l Done (sym q))
  staying h (Err f) l q o = stayed h f (sym q) o

  -- a call that spends a token: nothing is held where it is accepted, and the token where it is refused
  pub spending : {P : Type 0} (hold : P → Held) (p : P) (r : Result (Unit {0}) (P × SessionFault)) → Leads K is_idle (view K model s) c → r ≡ back_of p (step K (view K model s) c).0 → Holds K model (hold p) s → Advances K model s d (back_held hold r) t
  spending hold p r l q h = subst (λ x. Advances K model s d (back_held hold x) t) (sym q) (by_answer (step K (view K model s) c).0 refl)
    where
      by_answer : (o : Result Reply SessionFault) → (step K (view K model s) c).0 ≡ o → Advances K model s d (back_held hold (back_of p o)) t
      by_answer (Ok x) o = landed Nothing x o (l x o)
      by_answer (Err f) o = stayed (hold p) f o h

module _ {T : Type 0} {g : _} (K : Kind) (model : T → K.Model) (s t : Session T g) (d : Call) where
  -- a call that needs nothing of what is held keeps the phase, so that is still right
  pub left_alone : (h : Held) (r : Result (Unit {0}) SessionFault) → (NotServed K model d s → Obeys K model s d r t × SamePhase K model s t) → (Holds K model h s → NotServed K model d s) → Holds K model h s → Advances K model s d (h, r) t
  left_alone h r p n l = let q = p (n l) in (q.0, ap (held_in h) q.1 ∙ l)
