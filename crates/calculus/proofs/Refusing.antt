-- What is refused is not taken, and the fault that is told is the one that refuses.
use Rattle.std.proofs.Common.{◌≡◌, ℕ, Bool, true, false, cond, ◌⊎◌, Ok, Err, refl, subst, inl, inr, arith}
use Rattle.faults.specs.declared.TheoryFault.{TheoryFault}
use Rattle.faults.specs.Causes.{theory_code}
use Rattle.calculus.specs.Kinds.{Answer, not_admitted, InPile}

pub refused_not_taken : {A B : Type 0} {f : TheoryFault} {n : A} → ◌≡◌ {A = TheoryFault ⊎ A} (inl f) (inr n) → B
refused_not_taken e = let z : ◌≡◌ {A = ℕ} 0 1 = cc in absurd (omega arith)

pub taken_not_refused : {A B : Type 0} {f : TheoryFault} {n : A} → ◌≡◌ {A = TheoryFault ⊎ A} (inr n) (inl f) → B
taken_not_refused e = let z : ◌≡◌ {A = ℕ} 0 1 = cc in absurd (omega arith)

pub no_not_yes : {B : Type 0} {f : TheoryFault} → ◌≡◌ {A = Answer} (Err f) (Ok tt) → B
no_not_yes e = let z : ◌≡◌ {A = ℕ} 0 1 = cc in absurd (omega arith)

pub yes_not_no : {B : Type 0} {f : TheoryFault} → ◌≡◌ {A = Answer} (Ok tt) (Err f) → B
yes_not_no e = let z : ◌≡◌ {A = ℕ} 0 1 = cc in absurd (omega arith)

-- what a test admits has passed it
pub admitted_so : (b : Bool) → cond b (Ok tt) (not_admitted 1) ≡ Ok tt → b ≡ true
admitted_so true e = refl
admitted_so false e = no_not_yes e

-- the top layer is one of the pile
pub first_in_pile : InPile 1
first_in_pile = (omega arith, omega arith)

pub refused_in_pile : {M : Type 0} {f g : TheoryFault} → InPile (theory_code f).layer → ◌≡◌ {A = TheoryFault ⊎ M} (inl f) (inl g) → InPile (theory_code g).layer
refused_in_pile {M} {f} {g} h e = let same : f ≡ g = cc in subst (λ x. InPile (theory_code x).layer) same h

pub no_in_pile : {f g : TheoryFault} → InPile (theory_code f).layer → ◌≡◌ {A = Answer} (Err f) (Err g) → InPile (theory_code g).layer
no_in_pile {f} {g} h e = let same : f ≡ g = cc in subst (λ x. InPile (theory_code x).layer) same h
