-- What a theory's calls and questions answer: what it means, within the limits.
use Rattle.std.specs.Prelude.{◌≡◌, ℕ, Bool, cond, ◌&&◌, ◌⊎◌, List, length, ℤ, Ok, Err, ◌==◌}
use Rattle.std.proofs.Common.{inl, inr}
use Rattle.faults.specs.declared.TheoryFault.{TheoryFault}
use Rattle.calculus.specs.Lists.{every}
use Rattle.calculus.specs.Limits.{most_numerator, most_denominator, within, sized}
use Rattle.calculus.specs.Kinds.{Kind, Answer, not_admitted}

-- t numerators and a denominator that a session can be given
abbrev pub in_limits : ℕ → List ℤ → ℕ → Bool
in_limits t xs d = length xs == t && (every (sized most_numerator) xs && within most_denominator d)

module _ (K : Kind) where
  abbrev pub answered : TheoryFault ⊎ K.Model → Answer
  answered (inl f) = Err f
  answered (inr n) = Ok tt

  -- a refusal leaves the model as it was
  abbrev pub left : K.Model → TheoryFault ⊎ K.Model → K.Model
  left m (inl f) = m
  left m (inr n) = n

  -- a call's answer, and the model that it leaves
  abbrev pub Moves : K.Model → TheoryFault ⊎ K.Model → Answer → K.Model → Type 0
  Moves m o r n = (r ≡ answered o) × (n ≡ left m o)

  -- A question about an atom or a measure that is not there, with a list of the wrong length or with numbers beyond
  -- the limits is answered no, by the layer that is asked.
  abbrev pub says_mentioned : K.Model → ℕ → ℕ → Bool
  says_mentioned m a j = within (K.atoms m) a && (within (K.measures m) j && K.mentioned m a j)

  abbrev pub says_true : K.Model → ℕ → List ℤ → ℕ → Bool
  says_true m a xs d = within (K.atoms m) a && (in_limits (K.measures m) xs d && K.truth m a xs d)

  abbrev pub says_admitted : K.Model → List ℤ → ℕ → Answer
  says_admitted m xs d = cond (in_limits (K.measures m) xs d) (K.admitted m xs d) (not_admitted 1)
