-- Rows: a sum of coefficients times measures, and how it compares with a constant.
use Rattle.std.specs.Prelude.{ℕ, Bool, true, false, cond, ◌&&◌, List, [], ◌∷◌, map, ℤ, pos, ◌+ℤ◌, ◌*ℤ◌, neg_ℤ, ◌==◌, int_le, int_lt, nat_eq}
use Rattle.calculus.specs.Lists.{some, nth}
use Rattle.calculus.specs.Literals.{same}
use Rattle.rows.specs.declared.Relation.{Relation}
use Rattle.rows.specs.declared.Relation.TheVariants.{Less, AtMost, Equal}
use Rattle.rows.specs.declared.Entry.{Entry}

pub record Row : Type 0 where
  pub relation : Relation
  -- which measure, counted from 1, with which coefficient
  pub entries : List Entry
  pub constant : ℤ

-- 0 < 0, which is never true: the row of an atom that is not there
abbrev pub no_row : Row
no_row = record { relation = Less; entries = []; constant = pos 0 }

abbrev pub total : {X : Type 0} → (X → ℤ) → List X → ℤ
total f [] = pos 0
total f (x ∷ xs) = f x +ℤ total f xs

-- the sum of coefficient times numerator; a measure that is not there counts as 0
abbrev pub weight : List Entry → List ℤ → ℤ
weight es xs = total (λ e. e.coefficient *ℤ nth (pos 0) xs e.measure) es

abbrev pub compares : Relation → ℤ → ℤ → Bool
compares Less a b = int_lt a b
compares AtMost a b = int_le a b
compares Equal a b = same a b

-- the row is true of these numerators over the denominator d
abbrev pub true_of : Row → List ℤ → ℕ → Bool
true_of r xs d = compares r.relation (weight r.entries xs) (r.constant *ℤ pos d)

abbrev pub mentions : ℕ → Row → Bool
mentions j r = some (λ e. nat_eq e.measure j) r.entries

-- the coefficient of a measure, 0 where the row lacks it
abbrev pub coefficient_of : ℕ → List Entry → ℤ
coefficient_of j es = total (λ e. cond (e.measure == j) e.coefficient (pos 0)) es

-- all signs turned
abbrev pub turned_entry : Entry → Entry
turned_entry e = record { measure = e.measure; coefficient = neg_ℤ e.coefficient }

-- the row with all signs turned, in another relation
abbrev pub turned : Relation → Row → Row
turned R r = record { relation = R; entries = map turned_entry r.entries; constant = neg_ℤ r.constant }

abbrev pub related_by : Relation → Row → Row
related_by R r = record { relation = R; entries = r.entries; constant = r.constant }

abbrev pub same_relation : Relation → Relation → Bool
same_relation Less Less = true
same_relation Less AtMost = false
same_relation Less Equal = false
same_relation AtMost Less = false
same_relation AtMost AtMost = true
same_relation AtMost Equal = false
same_relation Equal Less = false
same_relation Equal AtMost = false
same_relation Equal Equal = true

abbrev pub same_entries : List Entry → List Entry → Bool
same_entries [] [] = true
same_entries [] (f ∷ fs) = false
same_entries (e ∷ es) [] = false
same_entries (e ∷ es) (f ∷ fs) = (e.measure == f.measure && same e.coefficient f.coefficient) && same_entries es fs

-- the two rows are written alike
abbrev pub same_row : Row → Row → Bool
same_row r q = same_relation r.relation q.relation && (same_entries r.entries q.entries && same r.constant q.constant)
