-- A clause that affirms row = c, row < c and turned row < turned c is true in every arrangement.
use Rattle.std.proofs.Common.{◌≡◌, ℕ, Bool, true, false, cond, ◌&&◌, eqb, leb, ◌⊎◌, List, [], ◌∷◌, map, ℤ, pos, negsuc, ◌*ℤ◌, neg_ℤ, refl, ◌∙◌, subst, ap₂, inl, inr, arith}
use lib.Signed.{lt_z}
use Rattle.std.proofs.lemmas.Int.{ints}
use Rattle.std.proofs.lemmas.Bool.{eqb-true, cases_Bool, and_parts, or_cases, or_parts, both_ways, false≢true}
use Rattle.calculus.specs.Lists.{some}
use Rattle.calculus.specs.Literals.{same}
use Rattle.rows.specs.declared.Relation.{Relation}
use Rattle.rows.specs.declared.Relation.TheVariants.{Less, AtMost, Equal}
use Rattle.rows.specs.declared.Entry.{Entry}
use Rattle.rows.specs.Rows.{Row, weight, compares, true_of, turned_entry, turned, related_by, same_relation, same_entries, same_row}
use Rattle.rows.specs.Hints.{row_of, affirms, some_affirms, halved, splits}
use Rattle.calculus.proofs.Testing.{same_true}
use Rattle.rows.proofs.Integers.{same_same, neg-*ℤ}
use Rattle.rows.proofs.Farkas.{weight_turned, true_by}

relations : (R Q : Relation) → same_relation R Q ≡ true → R ≡ Q
relations Less Less t = refl
relations Less AtMost t = absurd (false≢true t)
relations Less Equal t = absurd (false≢true t)
relations AtMost Less t = absurd (false≢true t)
relations AtMost AtMost t = refl
relations AtMost Equal t = absurd (false≢true t)
relations Equal Less t = absurd (false≢true t)
relations Equal AtMost t = absurd (false≢true t)
relations Equal Equal t = refl

entries_same : (es fs : List Entry) → same_entries es fs ≡ true → es ≡ fs
entries_same [] [] t = refl
entries_same [] (f ∷ fs) t = absurd (false≢true t)
entries_same (e ∷ es) [] t = absurd (false≢true t)
entries_same (e ∷ es) (f ∷ fs) t =
    let a = and_parts (eqb e.measure f.measure && same e.coefficient f.coefficient) (same_entries es fs) t in
    let b = and_parts (eqb e.measure f.measure) (same e.coefficient f.coefficient) a.0 in
    let m : e.measure ≡ f.measure = eqb-true e.measure f.measure b.0 in
    let k : e.coefficient ≡ f.coefficient = same_true e.coefficient f.coefficient b.1 in
    ap₂ (λ (x : Entry) xs. x ∷ xs) (ap₂ (λ (i : ℕ) (c : ℤ). record { measure = i; coefficient = c }) m k) (entries_same es fs a.1)

-- rows that are written alike are true alike
pub alike : (r q : Row) (xs : List ℤ) (d : ℕ) → same_row r q ≡ true → true_of r xs d ≡ true_of q xs d
alike r q xs d t =
    let a = and_parts (same_relation r.relation q.relation) (same_entries r.entries q.entries && same r.constant q.constant) t in
    let b = and_parts (same_entries r.entries q.entries) (same r.constant q.constant) a.1 in
    let x = relations r.relation q.relation a.0 in
    let y = entries_same r.entries q.entries b.0 in
    let z = same_true r.constant q.constant b.1 in
    cc

-- a number is equal to another, or less, or its negation is less
three_ways : (v b v' b' : ℤ) → v' ≡ neg_ℤ v → b' ≡ neg_ℤ b → same v b ≡ false → lt_z v b ≡ false → lt_z v' b' ≡ false → ⊥
three_ways v b v' b' e f x y z = let s : v ≡ b = omega (arith, ints) in both_ways (same v b) x (same_same v b s)

module _ (rows : List Row) (s : ℕ) (xs : List ℤ) (d : ℕ) where
  -- in a clause that is false, a literal that affirms a row affirms a false one
  affirmed_false : (p : Row → Bool) (l : ℤ) → affirms rows s p l ≡ true → true_by rows s xs d l ≡ false → (p (row_of rows s l) ≡ true) × (true_of (row_of rows s l) xs d ≡ false)
  affirmed_false p (pos n) t f = go (leb n s) t f
    where
      go : (b : Bool) → cond b false (p (row_of rows s (pos n))) ≡ true → cond b false (true_of (row_of rows s (pos n)) xs d) ≡ false → (p (row_of rows s (pos n)) ≡ true) × (true_of (row_of rows s (pos n)) xs d ≡ false)
      go true u v = absurd (false≢true u)
      go false u v = (u, v)
  affirmed_false p (negsuc n) t f = absurd (false≢true t)

  some_false : (p : Row → Bool) (ls : List ℤ) → some (affirms rows s p) ls ≡ true → some (true_by rows s xs d) ls ≡ false → (r : Row) × (p r ≡ true) × (true_of r xs d ≡ false)
  some_false p [] t f = absurd (false≢true t)
  some_false p (l ∷ ls) t f = by (or_cases (affirms rows s p l) (some (affirms rows s p) ls) t) (λ e. some_false p ls e b.1)
    where
      b : (true_by rows s xs d l ≡ false) × (some (true_by rows s xs d) ls ≡ false)
      b = or_parts (true_by rows s xs d l) (some (true_by rows s xs d) ls) f

      by : (affirms rows s p l ≡ true) ⊎ (some (affirms rows s p) ls ≡ true) → (some (affirms rows s p) ls ≡ true → (r : Row) × (p r ≡ true) × (true_of r xs d ≡ false)) → (r : Row) × (p r ≡ true) × (true_of r xs d ≡ false)
      by (inl e) ih = let a = affirmed_false p l e b.0 in (row_of rows s l, a.0, a.1)
      by (inr e) ih = ih e

  row_false : (q : Row) (ls : List ℤ) → some_affirms rows s ls q ≡ true → some (true_by rows s xs d) ls ≡ false → true_of q xs d ≡ false
  row_false q ls t f = let w = some_false (same_row q) ls t f in alike q w.0 xs d w.1 ∙ w.2

  pub split : (ls : List ℤ) → splits rows s ls ≡ true → some (true_by rows s xs d) ls ≡ true
  split ls t = by (cases_Bool (some (true_by rows s xs d) ls))
    where
      no_way : some (true_by rows s xs d) ls ≡ false → ⊥
      no_way f =
          let w = some_false (halved rows s ls) ls t f in
          let r = w.0 in
          let a = and_parts (same_relation r.relation Equal) (some_affirms rows s ls (related_by Less r) && some_affirms rows s ls (turned Less r)) w.1 in
          let b = and_parts (some_affirms rows s ls (related_by Less r)) (some_affirms rows s ls (turned Less r)) a.1 in
          let e : compares r.relation (weight r.entries xs) (r.constant *ℤ pos d) ≡ false = w.2 in
          let q : compares Equal (weight r.entries xs) (r.constant *ℤ pos d) ≡ false = subst (λ (R : Relation). compares R (weight r.entries xs) (r.constant *ℤ pos d) ≡ false) (relations r.relation Equal a.0) e in
          three_ways (weight r.entries xs) (r.constant *ℤ pos d) (weight (map turned_entry r.entries) xs) (neg_ℤ r.constant *ℤ pos d) (weight_turned r.entries xs) (neg-*ℤ r.constant (pos d)) q (row_false (related_by Less r) ls b.0 f) (row_false (turned Less r) ls b.1 f)

      by : (some (true_by rows s xs d) ls ≡ true) ⊎ (some (true_by rows s xs d) ls ≡ false) → some (true_by rows s xs d) ls ≡ true
      by (inl e) = e
      by (inr e) = absurd (no_way e)
