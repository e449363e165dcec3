-- What the proofs on the atoms that a clause affirms want.
use Rattle.std.proofs.Common.{◌≡◌, ℕ, Bool, true, false, cond, leb, List, ℤ, pos, negsuc, ◌<ℤ◌, ◌≤ℤ◌, sym, refl, ap, ◌∙◌, arith}
use Rattle.std.proofs.lemmas.Bool.{le-leb}
use Rattle.std.proofs.lemmas.Int.{ints}
use Rattle.rows.specs.Rows.{Row}
use Rattle.calculus.specs.Literals.{number}
use Rattle.rows.specs.Hints.{row_of, affirms}

module _ (rows : List Row) (s : ℕ) (p : Row → Bool) where
  -- a literal on an atom affirms it
  pub affirms_atom : (l : ℤ) (r : Row) (b : Bool) → pos 0 <ℤ l → leb (number l) s ≡ false → r ≡ row_of rows s l → b ≡ p r → b ≡ affirms rows s p l
  affirms_atom (pos n) r b h f e q = q ∙ ap p e ∙ sym (ap (λ x. cond x false (p (row_of rows s (pos n)))) f)
  affirms_atom (negsuc n) r b h f e q = absurd h.lt

  -- one on a switch does not
  pub affirms_switch : (l : ℤ) → leb (number l) s ≡ true → affirms rows s p l ≡ false
  affirms_switch (pos n) t = ap (λ x. cond x false (p (row_of rows s (pos n)))) t
  affirms_switch (negsuc n) t = refl

  pub affirms_denied : (l : ℤ) → l ≤ℤ pos 0 → affirms rows s p l ≡ false
  affirms_denied (pos n) h = affirms_switch (pos n) (le-leb n s (omega (arith, ints, h)))
  affirms_denied (negsuc n) h = refl
