use Rattle.std.proofs.Common.{◌≡◌, ℕ, ◌+◌, List, Some, None, sym, ap, ◌∙◌, inl, inr, rules}
use Rattle.faults.specs.declared.InputCause.TheVariants.{BadRecordLength}
use Rattle.files.specs.Records.{entry_at, place_after, count_after}
use Rattle.files.specs.Views.{in_file}
use Rattle.files.proofs.Steps.{from, found, found_size, at_place, ended_is, short_is, found_is, wrong_is}
use Rattle.files.proofs.reading.Reader.next.Goals as goal

pub returns-then-is_empty : goal.returns-then-is_empty
returns-then-is_empty c =
    let s : List ℕ = c.args.self.now.file.now in
    let p : ℕ = c.args.self.now.place in
    let k : ℕ = c.args.self.now.count in
    let e : entry_at k p s ≡ inr None = at_place k p s _ (ended_is (k + 1) p (from p s) (search rules)) in
    record { answer = sym (ap in_file e); kind = search rules; file = search rules; place = sym (ap (place_after p) e); count = sym (ap (count_after k) e) }

pub returns-else-is_empty : goal.returns-else-is_empty
returns-else-is_empty c =
    let s : List ℕ = c.args.self.now.file.now in
    let p : ℕ = c.args.self.now.place in
    let k : ℕ = c.args.self.now.count in
    let e : entry_at k p s ≡ inl BadRecordLength = at_place k p s _ (short_is (k + 1) p (from p s) (search rules) (search rules)) in
    record { answer = sym (ap in_file e); kind = search rules; file = search rules; place = sym (ap (place_after p) e); count = sym (ap (count_after k) e) }

pub returns-then-n-eq0 : goal.returns-then-n-eq0
returns-then-n-eq0 c =
    let s : List ℕ = c.args.self.now.file.now in
    let p : ℕ = c.args.self.now.place in
    let k : ℕ = c.args.self.now.count in
    let e : entry_at k p s ≡ inl BadRecordLength = at_place k p s _ (wrong_is (k + 1) p c.from-n.result (from p s) (search rules) (c.from-n.ensures ∙ c.from_be_bytes.ensures) c.then-n-eq0.either) in
    record { answer = sym (ap in_file e); kind = search rules; file = search rules; place = sym (ap (place_after p) e); count = sym (ap (count_after k) e) }

pub returns : goal.returns
returns c =
    let s : List ℕ = c.args.self.now.file.now in
    let p : ℕ = c.args.self.now.place in
    let k : ℕ = c.args.self.now.count in
    let e : entry_at k p s ≡ inr (Some (found (k + 1) p c.from-n.result (from p s))) = at_place k p s _ (found_is (k + 1) p c.from-n.result (from p s) (search rules) (c.from-n.ensures ∙ c.from_be_bytes.ensures) c.if-n-eq0.false c.if-n-rest.false) in
    record { answer = sym (ap in_file e); kind = search rules; file = search rules; place = ap (λ (n : ℕ). p + n) (found_size (k + 1) p c.from-n.result (from p s) c.if-n-eq0.false c.if-n-rest.false) ∙ sym (ap (place_after p) e); count = sym (ap (count_after k) e) }
