-- What the proofs of the sums want: one more summand.
use Rattle.std.proofs.Common.{◌≡◌, ℕ, zero, suc, ◌+◌, ◌*◌, ◌<◌, ◌≤◌, Bool, true, List, [], ◌∷◌, ◌++◌, length, get_or, take, ℤ, pos, negsuc, neg_ℤ, ◌+ℤ◌, ◌*ℤ◌, nat_abs, sym, ap, ◌∙◌, ap₂, arith, w32, w64, SFits, to_z, of_z}
use lib.IntN.{+ℤ_idl, +ℤ_idr, +ℤ_assoc}
use Rattle.std.proofs.lemmas.Int.{ints, to_z-of_z}
use Rattle.std.proofs.lemmas.List.{take_more}
use Rattle.std.proofs.lemmas.Bool.{and_parts, leb-true, ltb-true}
use Rattle.calculus.specs.Limits.{sized}
use Rattle.calculus.specs.Lists.{every}
use Rattle.rows.specs.Rows.{total}

-- a product of two numbers that were read back from 32 bits
pub back₂ : (x y : ℤ) → SFits w32 x → SFits w32 y → to_z w32 (of_z w32 x) *ℤ to_z w32 (of_z w32 y) ≡ x *ℤ y
back₂ x y f g = ap₂ ◌*ℤ◌ (to_z-of_z w32 x f) (to_z-of_z w32 y g)

-- a turn of a loop that adds the product x to the sum S, which is w so far
pub sum_step : (S x w next : ℤ) (i : ℕ) → i < 16 → S ≡ w → nat_abs S ≤ i * 160000000000000000 → nat_abs x ≤ 160000000000000000 → next ≡ w +ℤ x → (to_z w64 (of_z w64 (S +ℤ to_z w64 (of_z w64 x))) ≡ next) × (nat_abs (to_z w64 (of_z w64 (S +ℤ to_z w64 (of_z w64 x)))) ≤ (i + 1) * 160000000000000000)
sum_step S x w next i h e b k n = (omega (arith, ints), omega (arith, ints))

total_push : {X : Type 0} (f : X → ℤ) (xs : List X) (x : X) → total f (xs ++ x ∷ []) ≡ total f xs +ℤ f x
total_push f [] x = +ℤ_idr (f x) ∙ sym (+ℤ_idl (f x))
total_push f (y ∷ xs) x = ap (λ z. f y +ℤ z) (total_push f xs x) ∙ sym (+ℤ_assoc (f y) (total f xs) (f x))

pub total_more : {X : Type 0} (f : X → ℤ) (xs : List X) (i : ℕ) (d : X) → i < length xs → total f (take (i + 1) xs) ≡ total f (take i xs) +ℤ f (get_or xs i d)
total_more f xs i d h = ap (total f) (take_more xs i d h) ∙ total_push f (take i xs) (get_or xs i d)

pub sized_abs : (n : ℕ) (z : ℤ) → sized n z ≡ true → nat_abs z ≤ n
sized_abs n (pos a) t = leb-true a n t
sized_abs n (negsuc a) t = ltb-true a n t

pub every_at : {X : Type 0} (p : X → Bool) (xs : List X) (i : ℕ) (d : X) → every p xs ≡ true → i < length xs → p (get_or xs i d) ≡ true
every_at p [] i d t h = absurd (omega arith)
every_at p (x ∷ xs) zero d t h = (and_parts (p x) (every p xs) t).0
every_at p (x ∷ xs) (suc i) d t h = every_at p xs i d (and_parts (p x) (every p xs) t).1 (omega arith)

pub sized_turned : (n : ℕ) (z : ℤ) → sized n z ≡ true → sized n (neg_ℤ z) ≡ true
sized_turned n (pos zero) t = t
sized_turned n (pos (suc a)) t = t
sized_turned n (negsuc a) t = t
