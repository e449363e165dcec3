-- A run with one call more.
use Rattle.std.proofs.Common.{◌≡◌, ℕ, ◌+◌, ◌<◌, List, [], ◌∷◌, map, length, get_or, take, sym, ap, ◌∙◌}
use Rattle.std.proofs.lemmas.List.{take_more, map-append}
use Rattle.calculus.specs.Kinds.{Kind}
use Rattle.calculus.specs.States.{State, fresh}
use Rattle.calculus.specs.Steps.{step, run}
use Rattle.calculus.proofs.Reaching.{after_push}
use Rattle.session.specs.declared.replaying.Order.{Order}
use Rattle.session.specs.Orders.{call_of}

module _ (K : Kind) where
  pub one_more : (os : List Order) (i : ℕ) (before next : State K) (o : Order) → i < length os → before ≡ run K (map call_of (take i os)) → next ≡ (step K before (call_of (get_or os i o))).1 → next ≡ run K (map call_of (take (i + 1) os))
  one_more os i before next o h b a =
      let c = call_of (get_or os i o) in
      a ∙ ap (λ q. (step K q c).1) b ∙ sym (after_push K (fresh K) (map call_of (take i os)) c) ∙ ap (run K) (sym (ap (map call_of) (take_more os i o h) ∙ map-append call_of (take i os) (get_or os i o ∷ [])))
