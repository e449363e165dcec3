-- An atom's body: the relation (1 for <, 2 for ≤, 3 for =), the count k of entries, k times a measure and
-- four bytes of its coefficient, and four bytes of the constant.
use Rattle.std.specs.Prelude.{◌≡◌, ℕ, ◌+◌, ◌*◌, Bool, true, false, cond, not, ◌&&◌, List, [], ◌∷◌, map, ℤ, pos, Result, MatchResult, ◌==◌, nat_le, nat_lt, slice_index}
use Rattle.std.specs.List.{range_with_len}
use Rattle.numerals.specs.Numbers.{signed_word}
use Rattle.calculus.specs.Limits.{within, sized}
use Rattle.calculus.specs.Literals.{same}
use Rattle.rows.specs.declared.Relation.{Relation}
use Rattle.rows.specs.declared.Relation.TheVariants.{Less, AtMost, Equal}
use Rattle.rows.specs.declared.UnknownRelation.{UnknownRelation}
use Rattle.rows.specs.declared.Entry.{Entry}
use Rattle.rows.specs.Bounds.{most_size}
use Rattle.rows.specs.Rows.{Row}

-- the byte at a place, counted from 0
abbrev pub byte_at : List ℕ → ℕ → ℕ
byte_at bytes p = slice_index bytes p

-- the signed number of the four bytes from a place on
abbrev pub word_at : List ℕ → ℕ → ℤ
word_at bytes p = signed_word (byte_at bytes p) (byte_at bytes (p + 1)) (byte_at bytes (p + 2)) (byte_at bytes (p + 3))

abbrev pub relation_of : ℕ → Relation
relation_of b = cond (b == 1) Less (cond (b == 2) AtMost Equal)

-- the result is the relation of a byte from 1 to 3, or an error with any other byte
abbrev pub Decodes : ℕ → Result Relation UnknownRelation → Type 0
Decodes b r = MatchResult r (λ R. (R ≡ relation_of b) × (within 3 b ≡ true)) (λ e. (e.0 ≡ b) × (within 3 b ≡ false))

-- the entry i, counted from 0: five bytes each, behind the relation and the count
abbrev pub entry_at : List ℕ → ℕ → Entry
entry_at body i = record { measure = byte_at body (2 + 5 * i); coefficient = word_at body (3 + 5 * i) }

-- the first k entries
abbrev pub entries_in : List ℕ → ℕ → List Entry
entries_in body k = map (entry_at body) (range_with_len 0 k)

abbrev pub row_in : List ℕ → Row
row_in body = record {
  relation = relation_of (byte_at body 0);
  entries = entries_in body (byte_at body 1);
  constant = word_at body (2 + 5 * byte_at body 1);
}

-- an entry that may follow one on the measure k: on a higher measure, t at most, with a coefficient in its range that is not 0
abbrev pub follows : ℕ → ℕ → Entry → Bool
follows t k e = (nat_lt k e.measure && nat_le e.measure t) && (sized most_size e.coefficient && not (same e.coefficient (pos 0)))

-- each entry may follow the one before it, the first one on the measure k
abbrev pub in_order : ℕ → ℕ → List Entry → Bool
in_order t k [] = true
in_order t k (e ∷ es) = follows t k e && in_order t e.measure es

-- a row that is taken, where there are t measures
abbrev pub proper_row : ℕ → Row → Bool
proper_row t r = in_order t 0 r.entries && sized most_size r.constant
