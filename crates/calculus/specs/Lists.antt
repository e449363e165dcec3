-- Words on lists.
use Rattle.std.specs.Prelude.{ℕ, zero, suc, max, Bool, List, [], ◌∷◌, slice_index_or}
use Rattle.std.specs.List.{list_all, list_any}

abbrev pub every : {X : Type 0} → (X → Bool) → List X → Bool
every p xs = list_all p xs

abbrev pub some : {X : Type 0} → (X → Bool) → List X → Bool
some p xs = list_any p xs

-- the highest number that f gives, or 0
abbrev pub highest : {X : Type 0} → (X → ℕ) → List X → ℕ
highest f [] = 0
highest f (x ∷ xs) = max (f x) (highest f xs)

-- the element j of a list, counted from 1, or else d
abbrev pub nth : {X : Type 0} → X → List X → ℕ → X
nth d xs zero = d
nth d xs (suc j) = slice_index_or xs j d
