-- A body that begins with a count: what follows the count is cut in two there.
use Rattle.std.proofs.Common.{◌≡◌, ℕ, ◌-◌, ◌≤◌, leb, List, [], ◌∷◌, length, get_or, take, drop, sym, ap, ◌∙◌, inl, inr, arith}
use Rattle.std.proofs.lemmas.List.{take_all}
use Rattle.std.proofs.lemmas.Bool.{le-leb, cond-true}
use Rattle.faults.specs.declared.InputCause.TheVariants.{WrongLength}
use Rattle.calculus.specs.Calls.{Lemma}
use Rattle.numerals.specs.Numbers.{signed_bytes}
use Rattle.files.specs.Decoding.{counted}

pub counted_is : (s : List ℕ) (n : ℕ) (front back : List ℕ) → 1 ≤ length s → n ≡ get_or s 0 0 → n ≤ length s - 1 → front ≡ take n (take (length s - 1) (drop 1 s)) → back ≡ drop n (take (length s - 1) (drop 1 s)) → inr (Lemma (signed_bytes front) back) ≡ counted s
counted_is [] n front back h e l f b = absurd (let no : ⊥ = omega arith in no)
counted_is (x ∷ more) n front back h e l f b =
    let whole : take (length (x ∷ more) - 1) more ≡ more = take_all _ more (omega arith) in
    let small : x ≤ length more = omega arith in
    let f' : front ≡ take x more = f ∙ ap (take n) whole ∙ ap (λ m. take m more) e in
    let b' : back ≡ drop x more = b ∙ ap (drop n) whole ∙ ap (λ m. drop m more) e in
    ap (λ (l : List ℕ). inr (Lemma (signed_bytes l) back)) f'
    ∙ ap (λ (l : List ℕ). inr (Lemma (signed_bytes (take x more)) l)) b'
    ∙ sym (cond-true (leb x (length more)) (inr (Lemma (signed_bytes (take x more)) (drop x more))) (inl WrongLength) (le-leb x (length more) small))
