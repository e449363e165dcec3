-- One numbered line more.
use Rattle.std.proofs.Common.{◌≡◌, ℕ, ◌+◌, ◌<◌, Bool, List, [], ◌∷◌, ◌++◌, length, get_or, take, ℤ, sym, ap, ◌∙◌, append_assoc, arith}
use Rattle.std.proofs.lemmas.List.{append-nil, length-take-le, take_more}
use Rattle.report.specs.Lines.{switch_line, measure_line, switch_lines, measure_lines}

pub switch_more : (n : ℕ) (xs : List Bool) (x : Bool) → switch_lines n (xs ++ x ∷ []) ≡ switch_lines n xs ++ switch_line (n + length xs) x
switch_more n [] x = append-nil (switch_line n x) ∙ ap (λ k. switch_line k x) (omega arith)
switch_more n (y ∷ xs) x =
    ap (λ (l : List ℕ). switch_line n y ++ l) (switch_more (n + 1) xs x)
    ∙ sym (append_assoc (switch_line n y) (switch_lines (n + 1) xs) (switch_line (n + 1 + length xs) x))
    ∙ ap (λ k. switch_line n y ++ switch_lines (n + 1) xs ++ switch_line k x) (omega arith)

pub measure_more : (n : ℕ) (xs : List ℤ) (x : ℤ) → measure_lines n (xs ++ x ∷ []) ≡ measure_lines n xs ++ measure_line (n + length xs) x
measure_more n [] x = append-nil (measure_line n x) ∙ ap (λ k. measure_line k x) (omega arith)
measure_more n (y ∷ xs) x =
    ap (λ (l : List ℕ). measure_line n y ++ l) (measure_more (n + 1) xs x)
    ∙ sym (append_assoc (measure_line n y) (measure_lines (n + 1) xs) (measure_line (n + 1 + length xs) x))
    ∙ ap (λ k. measure_line n y ++ measure_lines (n + 1) xs ++ measure_line k x) (omega arith)

-- the line that a loop writes after the first i
pub switch_next : (xs : List Bool) (i : ℕ) (d : Bool) → i < length xs → switch_lines 1 (take i xs) ++ switch_line (i + 1) (get_or xs i d) ≡ switch_lines 1 (take (i + 1) xs)
switch_next xs i d h =
    let place : i + 1 ≡ 1 + length (take i xs) = omega (arith, length-take-le i xs (omega arith)) in
    ap (λ k. switch_lines 1 (take i xs) ++ switch_line k (get_or xs i d)) place
    ∙ sym (ap (switch_lines 1) (take_more xs i d h) ∙ switch_more 1 (take i xs) (get_or xs i d))

pub measure_next : (xs : List ℤ) (i : ℕ) (d : ℤ) → i < length xs → measure_lines 1 (take i xs) ++ measure_line (i + 1) (get_or xs i d) ≡ measure_lines 1 (take (i + 1) xs)
measure_next xs i d h =
    let place : i + 1 ≡ 1 + length (take i xs) = omega (arith, length-take-le i xs (omega arith)) in
    ap (λ k. measure_lines 1 (take i xs) ++ measure_line k (get_or xs i d)) place
    ∙ sym (ap (measure_lines 1) (take_more xs i d h) ∙ measure_more 1 (take i xs) (get_or xs i d))
