-- A literal by its switch.
use Rattle.std.proofs.Common.{◌≡◌, ℕ, zero, suc, ◌-◌, ◌≤◌, Bool, false, cond, ◌&&◌, ltb, List, map, ℤ, pos, sym, refl, ap, ◌∙◌, arith}
use Rattle.std.specs.List.{range_with_len}
use Rattle.std.proofs.lemmas.List.FromFn.{get_or-map-range_with_len}
use Rattle.std.proofs.lemmas.Bool.{lt-ltb, le-leb}
use Rattle.calculus.specs.Lists.{nth}
use Rattle.calculus.specs.Literals.{number, signed}
use Rattle.calculus.specs.Kinds.{Kind}
use Rattle.calculus.specs.Trails.{Entry, on_trail, numerators}
use Rattle.calculus.specs.States.{holds}
use Rattle.calculus.proofs.Testing.{signed_ap}
use Rattle.claims.specs.Arranging.{arrangement}

-- the literal is true where the numbers that the trail affirms are
abbrev pub affirmed_by : List Entry → ℤ → Bool
affirmed_by t l = signed l (λ n. ltb 0 n && on_trail (pos n) t)

switch_at : (p : ℕ → Bool) (w n : ℕ) → n ≤ w → (ltb 0 n && p n) ≡ nth false (map p (range_with_len 1 w)) n
switch_at p w zero h = refl
switch_at p w (suc n) h = ap (λ b. b && p (suc n)) (lt-ltb 0 (suc n) (omega arith)) ∙ sym (get_or-map-range_with_len p 1 w n (suc n) false (omega arith) (omega arith))

module _ (K : Kind) (m : K.Model) (w d : ℕ) (t : List Entry) (l : ℤ) where
  pub by_switch : number l ≤ w → affirmed_by t l ≡ signed l (holds K m w (arrangement K m w d t))
  by_switch h = signed_ap l (λ n. ltb 0 n && on_trail (pos n) t) (holds K m w (arrangement K m w d t)) (switch_at (λ n. on_trail (pos n) t) w (number l) h ∙ sym (ap (λ b. cond b (nth false (map (λ n. on_trail (pos n) t) (range_with_len 1 w)) (number l)) (K.truth m (number l - w) (numerators K m t) d)) (le-leb (number l) w h)))
