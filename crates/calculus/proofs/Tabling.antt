-- Places counted from 1.
use Rattle.std.proofs.Common.{◌≡◌, ℕ, zero, suc, ◌<◌, ◌≤◌, false, ltb, leb, ◌⊎◌, List, length, refl, inl, inr, ⊎_elim, arith}
use lib.ListN.{get_or-eq_default}
use Rattle.std.proofs.lemmas.Bool.{and_cases, ltb-false, leb-false}
use Rattle.calculus.specs.Lists.{nth}
use Rattle.calculus.specs.Limits.{within}

-- the place before the first is none, and so is one past the last
pub nth_none : {X : Type 0} (d : X) (xs : List X) (a : ℕ) → (a ≡ 0) ⊎ (length xs < a) → nth d xs a ≡ d
nth_none d xs zero h = refl
nth_none d xs (suc a) (inl e) = absurd (omega arith)
nth_none d xs (suc a) (inr l) = let k : length xs ≤ a = omega arith in get_or-eq_default xs d k

pub nth_absent : {X : Type 0} (d : X) (xs : List X) (a : ℕ) → within (length xs) a ≡ false → nth d xs a ≡ d
nth_absent d xs a h =
    ⊎_elim (λ e. nth_none d xs a (inl (let z = ltb-false 0 a e in omega arith))) (λ e. nth_none d xs a (inr (leb-false a (length xs) e)))
    (and_cases (ltb 0 a) (leb a (length xs)) h)
