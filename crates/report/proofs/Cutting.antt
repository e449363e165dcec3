-- Lines that are equal have equal parts.
use Rattle.std.proofs.Common.{◌≡◌, ℕ, ◌+◌, ◌^◌, ◌<◌, ◌≤◌, Bool, true, false, cond, List, [], ◌∷◌, ◌++◌, get_or, drop, ℤ, codes, decimal, sym, refl, ap, ◌∙◌, append_assoc, arith}
use lib.Signed.{mag}
use Rattle.std.specs.Fmt.{signed_decimal}
use Rattle.std.specs.List.{AllByRecursion}
use Rattle.std.proofs.lemmas.List.{append_cancel_left}
use Rattle.report.specs.Lines.{possible_line, switch_line, measure_line, switch_lines, measure_lines}
use Rattle.report.proofs.Decimals.{Word, word_decimal, word_signed, same_decimal, same_signed}

abbrev first : List ℕ → ℕ
first l = get_or l 0 0

-- a word ends at the first byte that is not above the blank
cut : (xs ys : List ℕ) (x y : ℕ) (p q : List ℕ) → Word xs → Word ys → x ≤ 32 → y ≤ 32 → xs ++ x ∷ p ≡ ys ++ y ∷ q → (xs ≡ ys) × (p ≡ q)
cut [] [] x y p q u v h k e = (refl, ap (drop 1) e)
cut [] (b ∷ ys) x y p q u v h k e = absurd (omega (arith, ap first e, v.0))
cut (a ∷ xs) [] x y p q u v h k e = absurd (omega (arith, ap first e, u.0))
cut (a ∷ xs) (b ∷ ys) x y p q u v h k e =
    let r = cut xs ys x y p q u.1 v.1 h k (ap (drop 1) e) in
    ((λ i. ap first e i ∷ r.0 i), r.1)

-- the first line
pub possible_cut : (d e : ℕ) (p q : List ℕ) → e < 2 ^ 64 → possible_line d ++ p ≡ possible_line e ++ q → (d ≡ e) × (p ≡ q)
possible_cut d e p q small h =
    let grouped : decimal d ++ 10 ∷ p ≡ decimal e ++ 10 ∷ q = sym (append_assoc (decimal d) (10 ∷ []) p) ∙ ap (drop 9) h ∙ append_assoc (decimal e) (10 ∷ []) q in
    let r = cut (decimal d) (decimal e) 10 10 p q (word_decimal d) (word_decimal e) (omega arith) (omega arith) grouped in
    (same_decimal d e small r.0, r.1)

answer_cut : (x y : Bool) (p q : List ℕ) → cond x (codes " yes\n") (codes " no\n") ++ p ≡ cond y (codes " yes\n") (codes " no\n") ++ q → (x ≡ y) × (p ≡ q)
answer_cut true true p q e = (refl, ap (drop 5) e)
answer_cut true false p q e = absurd (omega (arith, ap (λ (l : List ℕ). get_or l 1 0) e))
answer_cut false true p q e = absurd (omega (arith, ap (λ (l : List ℕ). get_or l 1 0) e))
answer_cut false false p q e = (refl, ap (drop 4) e)

-- the line of a switch, under one number
switch_cut : (n : ℕ) (x y : Bool) (p q : List ℕ) → switch_line n x ++ p ≡ switch_line n y ++ q → (x ≡ y) × (p ≡ q)
switch_cut n x y p q e =
    let answer = λ (b : Bool). cond b (codes " yes\n") (codes " no\n") in
    answer_cut x y p q
    (append_cancel_left (decimal n) (answer x ++ p) (answer y ++ q)
    (sym (append_assoc (decimal n) (answer x) p) ∙ ap (drop 1) e ∙ append_assoc (decimal n) (answer y) q))

-- the line of a measure, under one number
measure_cut : (n : ℕ) (x y : ℤ) (p q : List ℕ) → mag y < 2 ^ 63 → measure_line n x ++ p ≡ measure_line n y ++ q → (x ≡ y) × (p ≡ q)
measure_cut n x y p q small e =
    let grouped : (z : ℤ) (l : List ℕ) → decimal n ++ (32 ∷ []) ++ signed_decimal z ++ (10 ∷ []) ++ l ≡ decimal n ++ (32 ∷ (signed_decimal z ++ 10 ∷ l)) = λ z l. simp append_assoc in
    let rest : signed_decimal x ++ 10 ∷ p ≡ signed_decimal y ++ 10 ∷ q = ap (drop 1) (append_cancel_left (decimal n) (32 ∷ (signed_decimal x ++ 10 ∷ p)) (32 ∷ (signed_decimal y ++ 10 ∷ q)) (sym (grouped x p) ∙ ap (drop 1) e ∙ grouped y q)) in
    let r = cut (signed_decimal x) (signed_decimal y) 10 10 p q (word_signed x) (word_signed y) (omega arith) (omega arith) rest in
    (same_signed x y small r.0, r.1)

measures_same : (n : ℕ) (xs ys : List ℤ) → AllByRecursion (λ x. mag x < 2 ^ 63) ys → measure_lines n xs ≡ measure_lines n ys → xs ≡ ys
measures_same n [] [] small e = refl
measures_same n [] (y ∷ ys) small e = absurd (omega (arith, ap first e))
measures_same n (x ∷ xs) [] small e = absurd (omega (arith, ap first e))
measures_same n (x ∷ xs) (y ∷ ys) small e =
    let r = measure_cut n x y (measure_lines (n + 1) xs) (measure_lines (n + 1) ys) small.0 e in
    let more = measures_same (n + 1) xs ys small.1 r.1 in
    λ i. r.0 i ∷ more i

-- a measure's line is not a switch's
apart : (n m : ℕ) (y : Bool) (us : List ℤ) (p : List ℕ) → measure_lines m us ≡ switch_line n y ++ p → ⊥
apart n m y [] p e = omega (arith, ap first e)
apart n m y (u ∷ us) p e = omega (arith, ap first e)

-- the lines behind the first
pub rest_same : (n : ℕ) (xs ys : List Bool) (us vs : List ℤ) → AllByRecursion (λ x. mag x < 2 ^ 63) vs → switch_lines n xs ++ measure_lines 1 us ≡ switch_lines n ys ++ measure_lines 1 vs → (xs ≡ ys) × (us ≡ vs)
rest_same n [] [] us vs small e = (refl, measures_same 1 us vs small e)
rest_same n [] (y ∷ ys) us vs small e = absurd (apart n 1 y us _ (e ∙ append_assoc (switch_line n y) (switch_lines (n + 1) ys) (measure_lines 1 vs)))
rest_same n (x ∷ xs) [] us vs small e = absurd (apart n 1 x vs _ (sym e ∙ append_assoc (switch_line n x) (switch_lines (n + 1) xs) (measure_lines 1 us)))
rest_same n (x ∷ xs) (y ∷ ys) us vs small e =
    let left = append_assoc (switch_line n x) (switch_lines (n + 1) xs) (measure_lines 1 us) in
    let right = append_assoc (switch_line n y) (switch_lines (n + 1) ys) (measure_lines 1 vs) in
    let r = switch_cut n x y (switch_lines (n + 1) xs ++ measure_lines 1 us) (switch_lines (n + 1) ys ++ measure_lines 1 vs) (sym left ∙ e ∙ right) in
    let more = rest_same (n + 1) xs ys us vs small r.1 in
    ((λ i. r.0 i ∷ more.0 i), more.1)
