-- A loop over a list that stops at the first element that fails a test, or that passes one.
use Rattle.std.proofs.Common.{◌≡◌, ℕ, ◌+◌, ◌<◌, ◌≤◌, Bool, true, false, ◌||◌, List, length, get_or, drop, sym, ap, ◌∙◌}
use Rattle.std.proofs.lemmas.List.{at_drop_more, at_drop_all}
use Rattle.calculus.specs.Lists.{every, some}

-- the place i is reached only if no element before it failed
abbrev pub Unfailed : {X : Type 0} → (X → Bool) → List X → ℕ → Type 0
Unfailed p xs i = every p (drop i xs) ≡ every p xs

-- the place i is reached only if no element before it passed
abbrev pub Unmet : {X : Type 0} → (X → Bool) → List X → ℕ → Type 0
Unmet p xs i = some p (drop i xs) ≡ some p xs

pub every_end : {X : Type 0} (p : X → Bool) (xs : List X) (i : ℕ) → length xs ≤ i → Unfailed p xs i → every p xs ≡ true
every_end p xs i h inv = sym inv ∙ at_drop_all (every p) xs i h

pub some_end : {X : Type 0} (p : X → Bool) (xs : List X) (i : ℕ) → length xs ≤ i → Unmet p xs i → some p xs ≡ false
some_end p xs i h inv = sym inv ∙ at_drop_all (some p) xs i h
