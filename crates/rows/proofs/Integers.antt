-- Laws of sums and products of whole numbers.
use Rattle.std.proofs.Common.{◌≡◌, ℕ, ◌+◌, ◌*◌, ◌<◌, ◌≤◌, true, ℤ, pos, negsuc, ◌+ℤ◌, ◌*ℤ◌, neg_ℤ, ◌≤ℤ◌, ◌<ℤ◌, sym, ap, ◌∙◌, subst, mul_assoc, add-mul, mul-le-mul_left, mul-lt-mul_of_pos_right, mul-add, arith}
use native.Mathlib.Nat.{mul-lt-mul_of_pos_left}
use lib.IntN.{*ℤ_comm}
use lib.Signed.{lt_z}
use Rattle.std.proofs.lemmas.Int.{ints}
use borrow.Author.Differences.{up, down, sum_is_lem, product_is, neg_is, same_in}
use Rattle.calculus.specs.Literals.{same}
use Rattle.calculus.proofs.Testing.{same_refl}

pub lt_z_true : (a b : ℤ) → lt_z a b ≡ true → a <ℤ b
lt_z_true a b t = omega (arith, ints)

-- n * (a + b + c) = n * (d + e + f)
times₃ : (n a b c d e f : ℕ) → a + b + c ≡ d + e + f → n * a + n * b + n * c ≡ n * d + n * e + n * f
times₃ n a b c d e f h = sym (mul-add n (a + b) c ∙ ap (λ x. x + n * c) (mul-add n a b)) ∙ ap (λ x. n * x) h ∙ (mul-add n (d + e) f ∙ ap (λ x. x + n * f) (mul-add n d e))

pub *ℤ-+ℤ : (a b c : ℤ) → a *ℤ (b +ℤ c) ≡ a *ℤ b +ℤ a *ℤ c
*ℤ-+ℤ a b c = same_in (a *ℤ (b +ℤ c)) (a *ℤ b +ℤ a *ℤ c) (omega (arith, product_is a (b +ℤ c), product_is a b, product_is a c, sum_is_lem (a *ℤ b) (a *ℤ c), times₃ (up a) (up (b +ℤ c)) (down b) (down c) (down (b +ℤ c)) (up b) (up c) (sum_is_lem b c), times₃ (down a) (up (b +ℤ c)) (down b) (down c) (down (b +ℤ c)) (up b) (up c) (sum_is_lem b c)))

pub +ℤ-*ℤ : (a b c : ℤ) → (a +ℤ b) *ℤ c ≡ a *ℤ c +ℤ b *ℤ c
+ℤ-*ℤ a b c = *ℤ_comm (a +ℤ b) c ∙ *ℤ-+ℤ c a b ∙ ap (λ x. x +ℤ c *ℤ b) (*ℤ_comm c a) ∙ ap (λ x. a *ℤ c +ℤ x) (*ℤ_comm c b)

-- (p q + r s) t
spread_left : (p q r s t : ℕ) → (p * q + r * s) * t ≡ p * (q * t) + r * (s * t)
spread_left p q r s t = add-mul (p * q) (r * s) t ∙ ap (λ x. x + r * s * t) (mul_assoc p q t) ∙ ap (λ x. p * (q * t) + x) (mul_assoc r s t)

pub *ℤ-assoc : (a b c : ℤ) → a *ℤ b *ℤ c ≡ a *ℤ (b *ℤ c)
*ℤ-assoc a b c =
    let x₁ = ap (λ (x : ℕ). x * up c) (product_is a b).0 ∙ spread_left (up a) (up b) (down a) (down b) (up c) in
    let x₂ = ap (λ (x : ℕ). x * down c) (product_is a b).1 ∙ spread_left (up a) (down b) (down a) (up b) (down c) in
    let x₃ = ap (λ (x : ℕ). x * down c) (product_is a b).0 ∙ spread_left (up a) (up b) (down a) (down b) (down c) in
    let x₄ = ap (λ (x : ℕ). x * up c) (product_is a b).1 ∙ spread_left (up a) (down b) (down a) (up b) (up c) in
    let y₁ = ap (λ (x : ℕ). up a * x) (product_is b c).0 ∙ mul-add (up a) (up b * up c) (down b * down c) in
    let y₂ = ap (λ (x : ℕ). down a * x) (product_is b c).1 ∙ mul-add (down a) (up b * down c) (down b * up c) in
    let y₃ = ap (λ (x : ℕ). up a * x) (product_is b c).1 ∙ mul-add (up a) (up b * down c) (down b * up c) in
    let y₄ = ap (λ (x : ℕ). down a * x) (product_is b c).0 ∙ mul-add (down a) (up b * up c) (down b * down c) in
    same_in (a *ℤ b *ℤ c) (a *ℤ (b *ℤ c)) (omega (arith, product_is (a *ℤ b) c, product_is a (b *ℤ c)))

pub neg-*ℤ : (a b : ℤ) → neg_ℤ a *ℤ b ≡ neg_ℤ (a *ℤ b)
neg-*ℤ a b = omega (arith, ints, ap (λ (x : ℕ). x * up b) (neg_is a).0, ap (λ (x : ℕ). x * up b) (neg_is a).1, ap (λ (x : ℕ). x * down b) (neg_is a).0, ap (λ (x : ℕ). x * down b) (neg_is a).1)

pub swap_sums : (a b c d : ℤ) → (a +ℤ b) +ℤ (c +ℤ d) ≡ (a +ℤ c) +ℤ (b +ℤ d)
swap_sums a b c d = omega (arith, ints)

pub same_same : (a b : ℤ) → a ≡ b → same a b ≡ true
same_same a b e = subst (λ (x : ℤ). same a x ≡ true) e (same_refl a)

pub times_le : (m a b : ℤ) → pos 0 ≤ℤ m → a ≤ℤ b → (m *ℤ a) ≤ℤ (m *ℤ b)
times_le (pos n) a b h k =
    let f : up a + down b ≤ up b + down a = omega (arith, ints) in
    omega (arith, ints, mul-le-mul_left n f, mul-add n (up a) (down b), mul-add n (up b) (down a))
times_le (negsuc n) a b h k = absurd h.le

pub times_lt : (m a b : ℤ) → pos 0 <ℤ m → a <ℤ b → (m *ℤ a) <ℤ (m *ℤ b)
times_lt (pos n) a b h k =
    let f : up a + down b < up b + down a = omega (arith, ints) in
    let g : 0 < n = omega (arith, ints) in
    omega (arith, ints, mul-lt-mul_of_pos_left f g, mul-add n (up a) (down b), mul-add n (up b) (down a))
times_lt (negsuc n) a b h k = absurd h.lt

-- a negative number times a positive one is negative
pub neg_times : (a : ℤ) (d : ℕ) → a <ℤ pos 0 → 0 < d → (a *ℤ pos d) <ℤ pos 0
neg_times a d h k =
    let f : up a < down a = omega (arith, ints) in
    omega (arith, ints, mul-lt-mul_of_pos_right f k)
