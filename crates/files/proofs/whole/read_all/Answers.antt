use Rattle.std.proofs.Common.{◌≡◌, ℕ, ◌+◌, List, [], ◌∷◌, ◌++◌, map, Some, None, vec_items, sym, ap, ◌∙◌, subst, inl, inr, arith, rules}
use Rattle.std.proofs.lemmas.List.{map_push}
use Rattle.faults.specs.declared.FileFault.{FileFault}
use Rattle.files.specs.declared.records.FileKind.{FileKind}
use Rattle.files.specs.declared.records.Record.{Record}
use Rattle.files.specs.declared.records.Stop.{Stop}
use Rattle.files.specs.Records.{Entry, opened, entry_at, place_after, count_after, Ended, Stopped, read_file}
use Rattle.files.specs.Views.{in_file, entry_view, onto, ending}
use Rattle.files.proofs.Told.{Bytes}
use Rattle.files.proofs.Wholes.{carried}
use Rattle.files.proofs.Rounds.{Sofar, from_inr, from_inl, starts, refused, goes_on, ends, stops}
use Rattle.files.proofs.whole.read_all.Goals as goal

pub returns-in-Err : goal.returns-in-Err
returns-in-Err c =
    let h = c.in-Err.ensures in
    let kind : FileKind = c.args.kind in
    let file : List ℕ = c.args.file.now in
    let bytes : Bytes file = λ i. let f = c.type_inv.file i in omega arith in
    let o : inl c.in-Err.fault ≡ in_file (opened kind file) =
    h.answer
    ∙ ap (λ (k : FileKind). in_file (opened k c.over-reader.result.file.now)) c.over-reader.ensures.kind
    ∙ ap (λ (s : List ℕ). in_file (opened kind s)) c.over-reader.ensures.file in
    let p = from_inl (opened kind file) c.in-Err.fault o in
    let e : onto (map entry_view (vec_items c.new-records.result)) (Stopped 0 0 c.in-Err.fault) ≡ read_file kind file =
    ap (λ (rs : List Record). onto (map entry_view rs) (Stopped 0 0 c.in-Err.fault)) c.new-records.ensures.items
    ∙ ap (Stopped 0 0) p.2
    ∙ refused kind file p.0 p.1 in
    let laws = carried kind file _ bytes e in
    record { reads = e; rebuilds = laws.0; parts = laws.1 }

pub loop-record-init : goal.loop-record-init
loop-record-init c =
    let h = c.in_default.ensures in
    let file : List ℕ = c.args.file.now in
    let kind : FileKind = c.open.new.self.kind in
    let o : inr tt ≡ in_file (opened kind file) =
    h.answer
    ∙ ap (λ (k : FileKind). in_file (opened k c.over-reader.result.file.now)) (sym h.kind)
    ∙ ap (λ (s : List ℕ). in_file (opened kind s)) c.over-reader.ensures.file in (
      h.file ∙ c.over-reader.ensures.file,
      subst (λ (rs : List Record). Sofar kind file (map entry_view rs) c.open.new.self.place c.open.new.self.count) (sym c.new-records.ensures.items)
          (starts kind file _ _ (from_inr (opened kind file) tt o) h.place h.count),
    )

pub loop-record-preserved : goal.loop-record-preserved
loop-record-preserved c =
    let h = c.in-Ok-Some.ensures in
    let inv = c.loop-record.invariant in
    let file : List ℕ = c.args.file.now in
    let kind : FileKind = c.open.new.self.kind in
    let p : ℕ = c.loop-record.reader.place in
    let n : ℕ = c.loop-record.reader.count in
    let r : Record = c.in-Ok-Some.record in
    let told : inr (Some (entry_view r)) ≡ in_file (entry_at n p c.loop-record.reader.file.now) = search rules in
    let a : entry_at n p c.loop-record.reader.file.now ≡ inr (Some (entry_view r)) = from_inr _ (Some (entry_view r)) told in
    let b : entry_at n p file ≡ inr (Some (entry_view r)) = ap (entry_at n p) (sym inv.0) ∙ a in
    let es = map entry_view (vec_items c.loop-record.records) in
    let pushed : map entry_view (vec_items c.push.new.self) ≡ es ++ entry_view r ∷ [] =
    ap (map entry_view) c.in_ok-push-in-Ok-Some.ensures.items ∙ map_push entry_view (vec_items c.loop-record.records) r in
    let place_is : c.next.new.self.place ≡ place_after p (inr (Some (entry_view r))) = h.place ∙ ap (place_after p) a in
    let count_is : c.next.new.self.count ≡ n + 1 = h.count ∙ ap (count_after n) a in (
      h.file ∙ inv.0,
      subst (λ (xs : List Entry). Sofar kind file xs c.next.new.self.place c.next.new.self.count) (sym pushed)
          (subst (λ (m : ℕ). Sofar kind file (es ++ entry_view r ∷ []) m c.next.new.self.count) (sym place_is)
          (subst (λ (m : ℕ). Sofar kind file (es ++ entry_view r ∷ []) (place_after p (inr (Some (entry_view r)))) m) (sym count_is)
          (goes_on kind file es p n (entry_view r) b inv.1))),
    )

pub returns-in-Ok-None : goal.returns-in-Ok-None
returns-in-Ok-None c =
    let h = c.in-Ok-None.ensures in
    let inv = c.loop-record.invariant in
    let file : List ℕ = c.args.file.now in
    let bytes : Bytes file = λ i. let f = c.type_inv.file i in omega arith in
    let p : ℕ = c.loop-record.reader.place in
    let n : ℕ = c.loop-record.reader.count in
    let es : List Entry = map entry_view (vec_items c.loop-record.records) in
    let told : inr None ≡ in_file (entry_at n p c.loop-record.reader.file.now) = search rules in
    let b : entry_at n p file ≡ inr None = ap (entry_at n p) (sym inv.0) ∙ from_inr _ None told in
    let kind_is : c.open.new.self.kind ≡ c.args.kind = c.in_default.ensures.kind ∙ c.over-reader.ensures.kind in
    let e : onto es Ended ≡ read_file c.args.kind file =
    ends c.open.new.self.kind file es p n b inv.1 ∙ ap (λ (k : FileKind). read_file k file) kind_is in
    let laws = carried c.args.kind file _ bytes e in
    record { reads = e; rebuilds = laws.0; parts = laws.1 }

pub returns-in-Err-next : goal.returns-in-Err-next
returns-in-Err-next c =
    let h = c.in-Err-next.ensures in
    let inv = c.loop-record.invariant in
    let file : List ℕ = c.args.file.now in
    let bytes : Bytes file = λ i. let f = c.type_inv.file i in omega arith in
    let p : ℕ = c.loop-record.reader.place in
    let n : ℕ = c.loop-record.reader.count in
    let es : List Entry = map entry_view (vec_items c.loop-record.records) in
    let q = from_inl _ c.in-Err-next.fault h.answer in
    let place_is : c.next.new.self.place ≡ p = h.place ∙ ap (place_after p) q.1 in
    let count_is : c.next.new.self.count ≡ n = h.count ∙ ap (count_after n) q.1 in
    let b : entry_at n p file ≡ inl q.0 = ap (entry_at n p) (sym inv.0) ∙ q.1 in
    let kind_is : c.open.new.self.kind ≡ c.args.kind = c.in_default.ensures.kind ∙ c.over-reader.ensures.kind in
    let e : onto es (ending (Some c.stop.result)) ≡ read_file c.args.kind file =
    ap (λ (x : Stop). onto es (ending (Some x))) c.stop.ensures
    ∙ ap (λ (m : ℕ). onto es (Stopped (m + 1) c.next.new.self.place c.in-Err-next.fault)) count_is
    ∙ ap (λ (m : ℕ). onto es (Stopped (n + 1) m c.in-Err-next.fault)) place_is
    ∙ ap (λ (f : FileFault). onto es (Stopped (n + 1) p f)) q.2
    ∙ stops c.open.new.self.kind file es p n q.0 b inv.1
    ∙ ap (λ (k : FileKind). read_file k file) kind_is in
    let laws = carried c.args.kind file _ bytes e in
    record { reads = e; rebuilds = laws.0; parts = laws.1 }
