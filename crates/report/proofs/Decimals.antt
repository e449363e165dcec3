-- Decimals tell numbers apart, where one of them is of 64 bits.
use Rattle.std.proofs.Common.{◌≡◌, ℕ, zero, suc, ◌+◌, ◌-◌, ◌*◌, ◌/◌, ◌%◌, ◌^◌, ◌<◌, ◌≤◌, Bool, true, false, cond, eqb, List, [], ◌∷◌, length, drop, ℤ, pos, negsuc, decimal, sym, refl, ap, ◌∙◌, subst, ⊎_elim, arith, lt-ltb, ne_eqb, eqb-true}
use native.Mathlib.Nat.{one-le-pow}
use lib.Signed.{mag}
use Rattle.std.specs.Fmt.{digit_glyph, digits_onto, digits, signed_decimal}
use Rattle.std.specs.List.{AllByRecursion}
use Rattle.std.proofs.lemmas.Fmt.{length-decimal-le}
use Rattle.std.proofs.ByRecursion.{All-weaker}
use Rattle.std.proofs.lemmas.Bool.{cases_lt}

abbrev spelt : ℕ → ℕ → List ℕ → List ℕ
spelt k n acc = digits_onto k 10 false n acc

begun : (n : ℕ) → decimal n ≡ spelt 64 n []
unfolding digits
begun n = refl

abbrev last : ℕ → ℕ
last n = digit_glyph false (n % 10)

last_is : (n : ℕ) → last n ≡ 48 + n % 10
last_is n = ap (λ (b : Bool). cond b (48 + n % 10) (87 + n % 10)) (lt-ltb (n % 10) 10 (omega arith))

-- each byte is a digit, however large the number
abbrev Figures : List ℕ → Type 0
Figures = AllByRecursion (λ c. 48 ≤ c)

either : (b : Bool) (xs ys : List ℕ) → Figures xs → Figures ys → Figures (cond b xs ys)
either true xs ys p q = p
either false xs ys p q = q

spelt_figures : (k n : ℕ) (acc : List ℕ) → Figures acc → Figures (spelt k n acc)
spelt_figures zero n acc h = h
spelt_figures (suc k) n acc h =
    let more : Figures (last n ∷ acc) = (omega (arith, last_is n), h) in
    either (eqb (n / 10) 0) (last n ∷ acc) (spelt k (n / 10) (last n ∷ acc)) more (spelt_figures k (n / 10) (last n ∷ acc) more)

pub figures : (n : ℕ) → Figures (decimal n)
figures n = subst Figures (sym (begun n)) (spelt_figures 64 n [] tt)

-- the number that digits write, after one that is read
abbrev read : ℕ → List ℕ → ℕ
read n [] = n
read n (c ∷ cs) = read (n * 10 + (c - 48)) cs

-- a number that is not cut reads back
spelt_reads : (k n : ℕ) (acc : List ℕ) → n < 10 ^ k → read 0 (spelt k n acc) ≡ read n acc
spelt_reads zero n acc h = ap (λ m. read m acc) {x = 0} {y = n} (omega arith)
spelt_reads (suc k) n acc h = by (eqb (n / 10) 0) refl (spelt_reads k (n / 10) (last n ∷ acc) (omega arith))
  where
    more : List ℕ
    more = spelt k (n / 10) (last n ∷ acc)

    by : (b : Bool) → eqb (n / 10) 0 ≡ b → read 0 more ≡ read (n / 10) (last n ∷ acc) → read 0 (cond (eqb (n / 10) 0) (last n ∷ acc) more) ≡ read n acc
    by true e r =
        ap (λ t. read 0 (cond t (last n ∷ acc) more)) e
        ∙ ap (λ m. read m acc) {x = 0 * 10 + (last n - 48)} {y = n} (omega (arith, last_is n, eqb-true (n / 10) 0 e))
    by false e r =
        ap (λ t. read 0 (cond t (last n ∷ acc) more)) e
        ∙ r
        ∙ ap (λ m. read m acc) {x = n / 10 * 10 + (last n - 48)} {y = n} (omega (arith, last_is n))

-- and one that is cut has all the digits that it may
spelt_long : (k n : ℕ) (acc : List ℕ) → 10 ^ k ≤ n → length (spelt k n acc) ≡ k + length acc
spelt_long zero n acc h = omega arith
spelt_long (suc k) n acc h =
    let some : n / 10 ≡ 0 → ⊥ = λ e. omega (arith, one-le-pow k 10 (omega arith)) in
    ap (λ t. length (cond t (last n ∷ acc) (spelt k (n / 10) (last n ∷ acc)))) (ne_eqb (n / 10) 0 some)
    ∙ spelt_long k (n / 10) (last n ∷ acc) (omega arith)
    ∙ omega arith

reads : (n : ℕ) → n < 10 ^ 64 → read 0 (decimal n) ≡ n
reads n h = ap (read 0) (begun n) ∙ spelt_reads 64 n [] h

pub same_decimal : (m n : ℕ) → n < 2 ^ 64 → decimal m ≡ decimal n → m ≡ n
same_decimal m n small e = ⊎_elim
    (λ h. sym (reads m h) ∙ ap (read 0) e ∙ reads n (omega arith))
    (λ h. absurd (omega (arith, ap length (begun m), spelt_long 64 m [] h, ap length e, length-decimal-le 20 n (omega arith) (omega arith) small)))
    (cases_lt m (10 ^ 64))

no_minus : (n : ℕ) (ds : List ℕ) → decimal n ≡ 45 ∷ ds → ⊥
no_minus n ds e = omega (arith, (subst Figures e (figures n)).0)

pub same_signed : (y z : ℤ) → mag z < 2 ^ 63 → signed_decimal y ≡ signed_decimal z → y ≡ z
same_signed (pos m) (pos n) h e = ap pos (same_decimal m n (omega arith) e)
same_signed (pos m) (negsuc n) h e = absurd (no_minus m _ e)
same_signed (negsuc m) (pos n) h e = absurd (no_minus n _ (sym e))
same_signed (negsuc m) (negsuc n) h e = ap negsuc (omega (arith, same_decimal (suc m) (suc n) (omega arith) (ap (drop 1) e)))

-- the bytes of a number lie above the blank
abbrev pub Word : List ℕ → Type 0
Word = AllByRecursion (λ c. 32 < c)

pub word_decimal : (n : ℕ) → Word (decimal n)
word_decimal n = All-weaker (λ c. 48 ≤ c) (λ c. 32 < c) (λ c h. omega arith) (decimal n) (figures n)

pub word_signed : (z : ℤ) → Word (signed_decimal z)
word_signed (pos n) = word_decimal n
word_signed (negsuc n) = (omega arith, word_decimal (suc n))
