-- The linear theory: its atoms are rows over the measures, and it admits every arrangement.
use Rattle.std.specs.Prelude.{ℕ, ◌+◌, ◌*◌, Bool, true, false, cond, not, ◌&&◌, ◌||◌, ◌⊎◌, List, [], ◌∷◌, ◌++◌, length, ℤ, pos, ◌+ℤ◌, Ok, Err, ◌==◌, nat_le, nat_lt}
use Rattle.std.proofs.Common.{inl, inr}
use Rattle.faults.specs.declared.InputCause.{InputCause}
use Rattle.faults.specs.declared.InputCause.TheVariants.{WrongLength, OutOfRange}
use Rattle.faults.specs.declared.StateCause.TheVariants.{WrongPhase, Full}
use Rattle.faults.specs.declared.TheoryFault.{TheoryFault}
use Rattle.faults.specs.declared.TheoryFault.TheVariants as theory
use Rattle.calculus.specs.Lists.{every, nth}
use Rattle.calculus.specs.Limits.{most_measures, within, sized}
use Rattle.calculus.specs.Literals.{same}
use Rattle.calculus.specs.Kinds.{Kind, Answer, not_vouched}
use Rattle.rows.specs.declared.Relation.TheVariants.{Equal}
use Rattle.rows.specs.declared.Entry.{Entry}
use Rattle.rows.specs.Bounds.{most_atoms, most_size}
use Rattle.rows.specs.Rows.{Row, no_row, true_of, mentions, same_relation}
use Rattle.rows.specs.Bodies.{byte_at, row_in, proper_row}
use Rattle.rows.specs.Hints.{multipliers, hinted_parts, refutes, splits, all_known}

pub record Table : Type 0 where
  pub counted : Bool
  pub measures : ℕ
  pub rows : List Row

-- all its refusals are of layer 1
abbrev pub input : InputCause → TheoryFault
input c = theory.Input c 1

-- refused for this fault unless the test passes
abbrev pub need : {M : Type 0} → Bool → TheoryFault → TheoryFault ⊎ M → TheoryFault ⊎ M
need test f next = cond test next (inl f)

-- the count is taken once
abbrev pub counting_of : Table → ℕ → TheoryFault ⊎ Table
counting_of m t =
    need (not m.counted) (theory.State WrongPhase 1)
    (need (nat_le t most_measures) (input OutOfRange)
    (inr (record { counted = true; measures = t; rows = m.rows })))

-- it knows no declaration
abbrev pub declaring : Table → List ℕ → TheoryFault ⊎ Table
declaring m body = need (nat_lt 0 (length body)) (input WrongLength) (inl (input OutOfRange))

abbrev pub with_row : Table → Row → Table
with_row m r = record { counted = m.counted; measures = m.measures; rows = m.rows ++ r ∷ [] }

-- a body is tested in this order, and its row is added
abbrev pub admitting : Table → List ℕ → TheoryFault ⊎ Table
admitting m body =
    need (nat_lt 0 (length body)) (input WrongLength)
    (need (nat_lt (length m.rows) most_atoms) (theory.State Full 1)
    (need (within 3 (byte_at body 0)) (input OutOfRange)
    (need (length body == 6 + 5 * byte_at body 1) (input WrongLength)
    (need (proper_row m.measures (row_in body)) (input OutOfRange)
    (inr (with_row m (row_in body)))))))

-- the row of an atom, counted from 1
abbrev pub atom : Table → ℕ → Row
atom m a = nth no_row m.rows a

-- one of two entries is on i, and the other on j
abbrev pub on_both : ℕ → ℕ → Entry → Entry → Bool
on_both i j e f = (e.measure == i && f.measure == j) || (e.measure == j && f.measure == i)

-- their coefficients add to 0, and are not 0
abbrev pub opposite : Entry → Entry → Bool
opposite e f = same (e.coefficient +ℤ f.coefficient) (pos 0) && not (same e.coefficient (pos 0))

-- there are just two such entries
abbrev pub opposed : ℕ → ℕ → List Entry → Bool
opposed i j [] = false
opposed i j (e ∷ []) = false
opposed i j (e ∷ f ∷ []) = on_both i j e f && opposite e f
opposed i j (e ∷ f ∷ g ∷ gs) = false

-- the row says that the measures i and j are equal
abbrev pub equates : ℕ → ℕ → Row → Bool
equates i j r = same_relation r.relation Equal && (same r.constant (pos 0) && opposed i j r.entries)

abbrev pub equating : Table → ℕ → ℕ → ℕ → Bool
equating m a i j = within (length m.rows) a && (within m.measures i && (within m.measures j && equates i j (atom m a)))

abbrev pub if_shown : Bool → Answer
if_shown b = cond b (Ok tt) (not_vouched 1)

-- the hint of kind 1: one multiplier for each literal
abbrev pub by_multipliers : Table → ℕ → List ℤ → List ℕ → Answer
by_multipliers m s ls hint =
    cond (length hint == 1 + 4 * length ls)
    (cond (every (sized most_size) (multipliers (length ls) hint))
    (if_shown (all_known m.rows s ls && refutes m.measures (hinted_parts m.rows s ls hint)))
    (Err (input OutOfRange)))
    (Err (input WrongLength))

-- the hint of kind 2, which is its kind alone
abbrev pub by_split : Table → ℕ → List ℤ → List ℕ → Answer
by_split m s ls hint =
    cond (length hint == 1)
    (if_shown (all_known m.rows s ls && splits m.rows s ls))
    (Err (input WrongLength))

abbrev pub vouching : Table → ℕ → List ℤ → List ℕ → Answer
vouching m s ls hint =
    cond (length hint == 0) (Err (input WrongLength))
    (cond (byte_at hint 0 == 1) (by_multipliers m s ls hint)
    (cond (byte_at hint 0 == 2) (by_split m s ls hint)
    (Err (input OutOfRange))))

abbrev pub linear : Kind
linear = record {
  Model = Table;
  begun = record { counted = false; measures = 0; rows = [] };
  most = most_measures;
  count = counting_of;
  declare = declaring;
  admit = admitting;
  counted = λ m. m.counted;
  measures = λ m. m.measures;
  atoms = λ m. length m.rows;
  mentioned = λ m a j. mentions j (atom m a);
  truth = λ m a xs d. true_of (atom m a) xs d;
  admitted = λ m xs d. Ok tt;
  equated = equating;
  vouched = vouching;
}
