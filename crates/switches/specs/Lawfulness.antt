-- The theory of switches only keeps the laws.
use Rattle.std.specs.Prelude.{◌≡◌, ℕ, zero, suc, ◌<◌, ◌≤◌, Bool, true, false, List, [], ◌∷◌, ◌==◌, refl}
use Rattle.std.proofs.Common.{sym, subst, inl, inr, arith}
use Rattle.std.proofs.lemmas.Bool.{true≢false, ne_eqb, cond-false, cond_both}
use Rattle.faults.specs.declared.InputCause.TheVariants.{OutOfRange}
use Rattle.faults.specs.declared.StateCause.TheVariants.{WrongPhase}
use Rattle.faults.specs.declared.TheoryFault.{TheoryFault}
use Rattle.faults.specs.declared.TheoryFault.TheVariants as theory
use Rattle.faults.specs.Causes.{theory_code}
use Rattle.calculus.specs.Kinds.{Lawful, OnlyCounted, InPile}
use Rattle.calculus.proofs.Refusing.{refused_not_taken, taken_not_refused, no_not_yes, yes_not_no, first_in_pile, refused_in_pile, no_in_pile}
use Rattle.switches.specs.Switches.{unknown, none_counted, switches_only}

unknown_layer : (body : List ℕ) → (theory_code (unknown body)).layer ≡ 1
unknown_layer [] = refl
unknown_layer (b ∷ bs) = refl

unknown_in_pile : (body : List ℕ) → InPile (theory_code (unknown body)).layer
unknown_in_pile body = subst InPile (sym (unknown_layer body)) first_in_pile

many : (t : ℕ) → 0 < t → (layer : ℕ) × (none_counted false t ≡ inl (theory.Input OutOfRange layer))
many t p = (1, cond-false (t == 0) (inr true) (inl (theory.Input OutOfRange 1)) (ne_eqb t 0 (λ e. omega arith)))

none : (t : ℕ) → t ≤ 0 → (n : Bool) × (none_counted false t ≡ inr n) × OnlyCounted switches_only false n t
none zero p = (true, refl, record { counted = refl; measures = refl; atoms = refl; mentioned = refl; truth = refl; admitted = refl })
none (suc t) p = absurd (omega arith)

again : (m : Bool) (t : ℕ) → m ≡ true → (layer : ℕ) × (none_counted m t ≡ inl (theory.State WrongPhase layer))
again true t e = (1, refl)
again false t e = absurd (true≢false (sym e))

count_layer : (m : Bool) (t : ℕ) (f : TheoryFault) → none_counted m t ≡ inl f → InPile (theory_code f).layer
count_layer true t f e = refused_in_pile first_in_pile e
count_layer false t f e =
    cond_both (t == 0) (inr true) (inl (theory.Input OutOfRange 1)) (λ o. o ≡ inl f → InPile (theory_code f).layer)
    (λ _ q. taken_not_refused q) (λ _ q. refused_in_pile first_in_pile q) e

pub switches_lawful : Lawful switches_only
switches_lawful = record {
  few = omega arith;
  not_counted = refl;
  no_measures = refl;
  no_atoms = refl;
  count_again = again;
  count_many = λ m t e p. subst (λ b. (layer : ℕ) × (none_counted b t ≡ inl (theory.Input OutOfRange layer))) (sym e) (many t p);
  counting = λ m t e p. subst (λ b. (n : Bool) × (none_counted b t ≡ inr n) × OnlyCounted switches_only b n t) (sym e) (none t p);
  declaring = λ m body n e. refused_not_taken e;
  admitting = λ m body n e. refused_not_taken e;
  declare_empty = λ m. (1, refl);
  admit_empty = λ m. (1, refl);
  vouch_empty = λ m s ls. (1, refl);
  count_layer = count_layer;
  declare_layer = λ m body f e. refused_in_pile (unknown_in_pile body) e;
  admit_layer = λ m body f e. refused_in_pile (unknown_in_pile body) e;
  admitted_layer = λ m xs d f e. yes_not_no e;
  vouched_layer = λ m s ls hint f e. no_in_pile (unknown_in_pile hint) e;
  local = λ m a xs ys d e p q h. refl;
  fair = λ m xs ys d e p q h y. y;
  absent_mentions = λ m a j e p. refl;
  absent_false = λ m a xs d e. refl;
  equated_there = λ m a i j e. absurd (true≢false (sym e));
  equating = λ m a i j e. absurd (true≢false (sym e));
  vouched_there = λ m s ls hint e. no_not_yes e;
  vouching = λ m s ls hint e. no_not_yes e;
}
