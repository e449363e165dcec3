-- What the proofs on bodies want.
use Rattle.std.proofs.Common.{◌≡◌, ℕ, ◌+◌, ◌-◌, ◌*◌, ◌/◌, ◌<◌, ◌≤◌, true, not, ◌&&◌, ltb, leb, List, [], ◌∷◌, ◌++◌, length, get_or, take, drop, zero, suc, pos, sym, ap, ◌∙◌, ap₂, arith}
use Rattle.std.proofs.lemmas.List.{take_more, take_all, drop_more, length-drop, get_or-take, get_or-drop}
use Rattle.std.proofs.lemmas.List.FromFn.{length-map-range_with_len, get_or-map-range_with_len}
use Rattle.std.proofs.lemmas.Bool.{and_parts, ltb-true, leb-true}
use Rattle.std.specs.Simd.{first_chunks}
use Rattle.numerals.specs.Numbers.{signed_word}
use Rattle.calculus.specs.Limits.{sized}
use Rattle.calculus.specs.Literals.{same}
use Rattle.rows.specs.declared.Entry.{Entry}
use Rattle.rows.specs.Bounds.{most_size}
use Rattle.rows.specs.Bodies.{byte_at, word_at, entry_at, entries_in, follows, in_order}
use Rattle.linear.proofs.Listed.{no_entry}

entry_there : (body : List ℕ) (k i : ℕ) → i < k → get_or (entries_in body k) i no_entry ≡ entry_at body i
entry_there body k i h = get_or-map-range_with_len (entry_at body) 0 k i i no_entry h (omega arith)

pub entries_length : (body : List ℕ) (k : ℕ) → length (entries_in body k) ≡ k
entries_length body k = length-map-range_with_len (entry_at body) 0 k

pub order_from : (body : List ℕ) (t last k i : ℕ) → i < k → in_order t last (drop i (entries_in body k)) ≡ (follows t last (entry_at body i) && in_order t (entry_at body i).measure (drop (i + 1) (entries_in body k)))
order_from body t last k i h =
    let n = entries_length body k in
    ap (in_order t last) (drop_more (entries_in body k) i no_entry (omega arith) ∙ ap (λ e. e ∷ drop (i + 1) (entries_in body k)) (entry_there body k i h))

pub entries_more : (body : List ℕ) (k i : ℕ) → i < k → take (i + 1) (entries_in body k) ≡ take i (entries_in body k) ++ entry_at body i ∷ []
entries_more body k i h =
    let n = entries_length body k in
    take_more (entries_in body k) i no_entry (omega arith) ∙ ap (λ e. take i (entries_in body k) ++ e ∷ []) (entry_there body k i h)

-- what an entry that follows keeps
pub record Follows (t k : ℕ) (e : Entry) : Type 0 where
  pub above : k < e.measure
  pub known : e.measure ≤ t
  pub small : sized most_size e.coefficient ≡ true

pub follows_so : (t k : ℕ) (e : Entry) → true ≡ follows t k e → Follows t k e
follows_so t k e u =
    let a = and_parts (ltb k e.measure && leb e.measure t) (sized most_size e.coefficient && not (same e.coefficient (pos 0))) (sym u) in
    let b = and_parts (ltb k e.measure) (leb e.measure t) a.0 in
    let c = and_parts (sized most_size e.coefficient) (not (same e.coefficient (pos 0))) a.1 in
    record { above = ltb-true k e.measure b.0; known = leb-true e.measure t b.1; small = c.0 }

byte_in : (k : ℕ) (bytes : List ℕ) (i j : ℕ) → i < k → j < 5 → get_or (get_or (first_chunks 5 k bytes) i []) j 0 ≡ get_or bytes (5 * i + j) 0
byte_in zero bytes i j h u = omega (arith, h)
byte_in (suc k) bytes zero j h u =
    let e : j ≡ 5 * zero + j = omega arith in
    get_or-take 5 bytes j 0 u ∙ ap (λ p. get_or bytes p 0) e
byte_in (suc k) bytes (suc i) j h u =
    let e : 5 + (5 * i + j) ≡ 5 * (suc i) + j = omega arith in
    byte_in k (drop 5 bytes) i j (omega (arith, h)) u ∙ get_or-drop 5 bytes (5 * i + j) 0 ∙ ap (λ p. get_or bytes p 0) e

-- the chunk i of the bytes behind the relation and the count
abbrev chunk_at : List ℕ → ℕ → ℕ → List ℕ
chunk_at body k i = get_or (first_chunks 5 k (drop 2 body)) i []

byte_there : (body : List ℕ) (k i j p : ℕ) → i < k → j < 5 → p ≡ 2 + (5 * i + j) → byte_at (chunk_at body k i) j ≡ byte_at body p
byte_there body k i j p h u e = byte_in k (drop 2 body) i j h u ∙ get_or-drop 2 body (5 * i + j) 0 ∙ ap (λ p. get_or body p 0) (sym e)

-- the chunks behind the relation and the count of a body of the right length
chunks_are : (body : List ℕ) (k : ℕ) (chunks : List (List ℕ)) → length body ≡ 6 + 5 * k → chunks ≡ (let behind = take (length body - 2) (drop 2 body) in first_chunks 5 (length behind / 5) behind) → chunks ≡ first_chunks 5 k (drop 2 body)
chunks_are body k chunks long u =
    let d = length-drop 2 body in
    let n : length (drop 2 body) / 5 ≡ k = omega arith in
    u ∙ ap (λ (bytes : List ℕ). first_chunks 5 (length bytes / 5) bytes) (take_all (length body - 2) (drop 2 body) (omega arith)) ∙ ap (λ m. first_chunks 5 m (drop 2 body)) n

-- the entry that is read from the chunk i is the entry i
pub entry_read : (body : List ℕ) (k i : ℕ) (chunks : List (List ℕ)) (e : Entry) → length body ≡ 6 + 5 * k → i < k → chunks ≡ (let behind = take (length body - 2) (drop 2 body) in first_chunks 5 (length behind / 5) behind) → e.measure ≡ byte_at (get_or chunks i []) 0 → e.coefficient ≡ word_at (get_or chunks i []) 1 → e ≡ entry_at body i
entry_read body k i chunks e long h front m w =
    let u = chunks_are body k chunks long front in
    let c = chunk_at body k i in
    let b : (j p : ℕ) → j < 5 → p ≡ 2 + (5 * i + j) → byte_at c j ≡ byte_at body p = λ j p l q. byte_there body k i j p h l q in
    let p = 3 + 5 * i in
    let first = ap₂ (λ x y. signed_word x y (byte_at c 3) (byte_at c 4)) (b 1 p (omega arith) (omega arith)) (b 2 (p + 1) (omega arith) (omega arith)) in
    let last = ap₂ (λ x y. signed_word (byte_at body p) (byte_at body (p + 1)) x y) (b 3 (p + 2) (omega arith) (omega arith)) (b 4 (p + 3) (omega arith) (omega arith)) in
    let measure = m ∙ ap (λ cs. byte_at (get_or cs i []) 0) u ∙ b 0 (2 + 5 * i) (omega arith) (omega arith) in
    let coefficient = w ∙ ap (λ cs. word_at (get_or cs i []) 1) u ∙ first ∙ last in
    ap₂ (λ x y. record { measure = x; coefficient = y }) measure coefficient
