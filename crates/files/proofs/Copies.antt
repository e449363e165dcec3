-- Literals read one by one, and written over the front of a list.
use Rattle.std.proofs.Common.{◌≡◌, ℕ, ◌+◌, ◌<◌, ◌≤◌, leb, List, [], ◌∷◌, ◌++◌, length, get_or, take, drop, set, ℤ, pos, Some, None, sym, ap, ◌∙◌, arith}
use Rattle.std.proofs.lemmas.List.{length-map, length-take-le, drop_more, set_at, append_assoc, map_more, take_all}
use Rattle.std.proofs.lemmas.Bool.{le-leb, lt-leb, cond-true, cond-false}
use Rattle.numerals.specs.Numbers.{signed_byte, signed_bytes}
use Rattle.files.specs.Views.{copied, copied_count}

pub signed_length : (bytes : List ℕ) → length (signed_bytes bytes) ≡ length bytes
signed_length bytes = length-map bytes signed_byte

-- the first i literals over the front of a list
abbrev pub over_front : List ℕ → ℕ → List ℤ → List ℤ
over_front bytes i out = signed_bytes (take i bytes) ++ drop i out

pub one_more : (bytes : List ℕ) (out : List ℤ) (i : ℕ) (z : ℤ) → i < length bytes → length bytes ≤ length out → z ≡ signed_byte (get_or bytes i 0) → set (over_front bytes i out) i z ≡ over_front bytes (i + 1) out
one_more bytes out i z h k e =
    let front : length (signed_bytes (take i bytes)) ≡ i = signed_length (take i bytes) ∙ length-take-le i bytes (omega arith) in
    ap (λ (l : List ℤ). set (signed_bytes (take i bytes) ++ l) i z) (drop_more out i (pos 0) (omega arith))
    ∙ set_at (signed_bytes (take i bytes)) (get_or out i (pos 0)) (drop (i + 1) out) z i front
    ∙ ap (λ (x : ℤ). signed_bytes (take i bytes) ++ x ∷ drop (i + 1) out) e
    ∙ sym (append_assoc (signed_bytes (take i bytes)) (signed_byte (get_or bytes i 0) ∷ []) (drop (i + 1) out))
    ∙ ap (λ (l : List ℤ). l ++ drop (i + 1) out) (sym (map_more signed_byte bytes i 0 h))

pub all_over : (bytes : List ℕ) (out : List ℤ) (i : ℕ) → i ≡ length bytes → over_front bytes i out ≡ signed_bytes bytes ++ drop (length (signed_bytes bytes)) out
all_over bytes out i e =
    ap (λ (l : List ℕ). signed_bytes l ++ drop i out) (take_all i bytes (omega arith))
    ∙ ap (λ (n : ℕ). signed_bytes bytes ++ drop n out) (e ∙ sym (signed_length bytes))

-- the two ways of a copy
pub fits_count : (bytes : List ℕ) (out : List ℤ) → length bytes ≤ length out → Some (length bytes) ≡ copied_count (signed_bytes bytes) out
fits_count bytes out h =
    let e = signed_length bytes in
    ap Some (sym e)
    ∙ sym (cond-true (leb (length (signed_bytes bytes)) (length out)) (Some (length (signed_bytes bytes))) None (le-leb _ _ (omega arith)))

pub fits_after : (bytes : List ℕ) (out : List ℤ) (i : ℕ) → length bytes ≤ length out → i ≡ length bytes → over_front bytes i out ≡ copied (signed_bytes bytes) out
fits_after bytes out i h k =
    let e = signed_length bytes in
    all_over bytes out i k
    ∙ sym (cond-true (leb (length (signed_bytes bytes)) (length out)) (signed_bytes bytes ++ drop (length (signed_bytes bytes)) out) out (le-leb _ _ (omega arith)))

pub short_count : (bytes : List ℕ) (out : List ℤ) → length out < length bytes → None ≡ copied_count (signed_bytes bytes) out
short_count bytes out h =
    let e = signed_length bytes in
    sym (cond-false (leb (length (signed_bytes bytes)) (length out)) (Some (length (signed_bytes bytes))) None (lt-leb _ _ (omega arith)))

pub short_after : (bytes : List ℕ) (out : List ℤ) → length out < length bytes → out ≡ copied (signed_bytes bytes) out
short_after bytes out h =
    let e = signed_length bytes in
    sym (cond-false (leb (length (signed_bytes bytes)) (length out)) (signed_bytes bytes ++ drop (length (signed_bytes bytes)) out) out (lt-leb _ _ (omega arith)))
