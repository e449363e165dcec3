-- What one writer behind another leaves in a buffer.
use Rattle.std.proofs.Common.{◌≡◌, ℕ, ◌+◌, ◌-◌, ◌<◌, ◌≤◌, false, cond, ltb, List, [], ◌∷◌, ◌++◌, length, take, drop, set, sym, refl, ap, ◌∙◌, append_assoc, arith, le-ltb}
use borrow.Rule.Slice.PartMut.{put_mid}
use Rattle.std.proofs.lemmas.List.{take_at, drop_at, drop-drop, drop_all, drop_more, set_at, append-nil, length-append, length-drop, take_rest}
use Rattle.report.specs.Buffers.{Wrote, Written, least_buffer}

pub nothing : (before : List ℕ) → Wrote [] before 0 before
nothing before = record { count = refl; holds = refl }

-- one byte behind what is written
pub one_more : (a before mid : List ℕ) (m x : ℕ) → Wrote a before m mid → m < length before → Wrote (a ++ (x ∷ [])) before (m + 1) (set mid m x)
one_more a before mid m x w h =
    record {
      count = simp length-append (omega (arith, w.count));
      holds =
          ap (λ (l : List ℕ). set l m x) (w.holds ∙ ap (λ (l : List ℕ). a ++ l) (drop_more before m 0 h))
          ∙ set_at a _ _ x m (sym w.count)
          ∙ sym (append_assoc a (x ∷ []) (drop (m + 1) before));
    }

-- another writer, given the rest of the buffer
follow : (a b before mid part tail : List ℕ) (m n k : ℕ) → Wrote a before m mid → part ≡ drop m mid → Wrote b part n tail → length mid - m ≤ k → Wrote (a ++ b) before (m + n) (put_mid m k mid tail)
follow a b before mid part tail m n k w e v h =
    let e1 : take m mid ≡ a = ap (take m) w.holds ∙ take_at a _ m (sym w.count) in
    let e2 : drop m mid ≡ drop m before = ap (drop m) w.holds ∙ drop_at a _ m (sym w.count) in
    let e3 : tail ≡ b ++ drop (m + n) before = v.holds ∙ ap (λ (l : List ℕ). b ++ drop n l) (e ∙ e2) ∙ ap (λ (l : List ℕ). b ++ l) (drop-drop n m before) in
    let small : length (drop m mid) ≤ k = simp length-drop h in
    let e4 : drop k (drop m mid) ≡ [] = drop_all k (drop m mid) small in
    record {
      count = simp length-append (omega (arith, w.count, v.count));
      holds =
          ap (λ (l : List ℕ). l ++ (tail ++ drop k (drop m mid))) e1
          ∙ ap (λ (l : List ℕ). a ++ (tail ++ l)) e4
          ∙ ap (λ (l : List ℕ). a ++ l) (append-nil tail ∙ e3)
          ∙ sym (append_assoc a b (drop (m + n) before));
    }

-- the same, as the check has a call `f(&mut buffer[m..])`
pub then : {a b before mid tail : List ℕ} {m n : ℕ} → Wrote a before m mid → Wrote b (take (length mid - m) (drop m mid)) n tail → Wrote (a ++ b) before (m + n) (put_mid m (length mid - m) mid tail)
then {a} {b} {before} {mid} {tail} {m} {n} w v = follow a b before mid (take (length mid - m) (drop m mid)) tail m n (length mid - m) w (take_rest mid m) v (omega arith)

-- the same bytes, place and buffer under other names
pub same : {a b before x y : List ℕ} {m n : ℕ} → a ≡ b → m ≡ n → x ≡ y → Wrote a before m x → Wrote b before n y
same {before = before} p q r w =
    record {
      count = sym q ∙ w.count ∙ ap length p;
      holds = sym r ∙ w.holds ∙ (λ i. p i ++ drop (q i) before);
    }

-- a report in a buffer that is long enough
pub whole : {bytes before after : List ℕ} {n : ℕ} → least_buffer ≤ length before → Wrote bytes before n after → Written bytes before n after
whole {bytes} {before} {after} {n} h w =
    let long : ltb (length before) least_buffer ≡ false = le-ltb (length before) least_buffer h in
    record {
      count = w.count ∙ ap (λ b. cond b 0 (length bytes)) (sym long);
      holds = w.holds ∙ ap (λ b. cond b before (bytes ++ drop n before)) (sym long);
    }
