-- The theory of switches only: no measures, no atoms, and every arrangement is admitted.
use Rattle.std.specs.Prelude.{ℕ, Bool, true, false, cond, ◌⊎◌, List, [], ◌∷◌, Ok, Err, ◌==◌}
use Rattle.std.proofs.Common.{inl, inr}
use Rattle.faults.specs.declared.InputCause.TheVariants.{WrongLength, OutOfRange}
use Rattle.faults.specs.declared.StateCause.TheVariants.{WrongPhase}
use Rattle.faults.specs.declared.TheoryFault.{TheoryFault}
use Rattle.faults.specs.declared.TheoryFault.TheVariants as theory
use Rattle.calculus.specs.Kinds.{Kind}

-- it knows no kind of body or hint
abbrev pub unknown : List ℕ → TheoryFault
unknown [] = theory.Input WrongLength 1
unknown (b ∷ bs) = theory.Input OutOfRange 1

-- its count can only be 0, and is taken once
abbrev pub none_counted : Bool → ℕ → TheoryFault ⊎ Bool
none_counted true t = inl (theory.State WrongPhase 1)
none_counted false t = cond (t == 0) (inr true) (inl (theory.Input OutOfRange 1))

-- a model is whether it has its count
abbrev pub switches_only : Kind
switches_only = record {
  Model = Bool;
  begun = false;
  most = 0;
  count = none_counted;
  declare = λ m body. inl (unknown body);
  admit = λ m body. inl (unknown body);
  counted = λ m. m;
  measures = λ m. 0;
  atoms = λ m. 0;
  mentioned = λ m a j. false;
  truth = λ m a xs d. false;
  admitted = λ m xs d. Ok tt;
  equated = λ m a i j. false;
  vouched = λ m s ls hint. Err (unknown hint);
}
