-- A state that calls lead to: with one call more, and what the law says of it.
use Rattle.std.proofs.Common.{◌≡◌, List, [], ◌∷◌, ◌++◌, sym, refl, ap, ◌∙◌, subst}
use Rattle.std.proofs.Math.Logic.{∥∥₁_map, ∥∥₁_elim}
use Rattle.calculus.specs.Calls.{Call}
use Rattle.calculus.specs.Kinds.{Kind, Lawful}
use Rattle.calculus.specs.States.{State, fresh}
use Rattle.calculus.specs.Steps.{step, after, run}
use Rattle.calculus.specs.Sound.{Guarantees}
use Rattle.calculus.specs.Reached.{Reached}
use Rattle.calculus.proofs.Soundness.{sound}
use Rattle.calculus.proofs.OneProof.{guarantees_prop}

module _ (K : Kind) where
  pub after_push : (s : State K) (cs : List Call) (c : Call) → after K s (cs ++ c ∷ []) ≡ (step K (after K s cs) c).1
  after_push s [] c = refl
  after_push s (d ∷ cs) c = after_push (step K s d).1 cs c

  pub reached_run : (cs : List Call) → Reached K (run K cs)
  reached_run cs = ∣ (cs, refl) ∣₁

  pub reached_more : (s t : State K) (c : Call) → Reached K s → t ≡ (step K s c).1 → Reached K t
  reached_more s t c r e = ∥∥₁_map r (λ p. (p.0 ++ c ∷ [], after_push (fresh K) p.0 c ∙ ap (λ q. (step K q c).1) p.1 ∙ sym e))

  pub guaranteed : Lawful K → (s : State K) → Reached K s → Guarantees K s
  guaranteed w s r = ∥∥₁_elim r (guarantees_prop K s) (λ p. subst (Guarantees K) p.1 (sound K w p.0).0)

  pub guaranteed_after : Lawful K → (s t : State K) (c : Call) → Reached K s → t ≡ (step K s c).1 → Guarantees K t
  guaranteed_after w s t c r e = guaranteed w t (reached_more s t c r e)
