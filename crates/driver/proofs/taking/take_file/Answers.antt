use Rattle.std.proofs.Common.{◌≡◌, ℕ, ◌+◌, List, Some, None, sym, ap, ◌∙◌, subst, inl, inr, arith, rules}
use Rattle.files.specs.declared.records.Record.{Record}
use Rattle.files.specs.Records.{opened, entry_at, place_after, count_after}
use Rattle.files.specs.Decoding.{call_of}
use Rattle.files.specs.Views.{in_file, entry_view, stop_at as code_stop}
use Rattle.files.proofs.Told.{Bytes}
use Rattle.files.proofs.Rounds.{from_inr, from_inl}
use Rattle.session.specs.Views.{view}
use Rattle.driver.specs.Taking.{after_record}
use Rattle.driver.proofs.Reading.{Reached, begins, goes_on, stops, ends, refuses}
use Rattle.driver.proofs.Room.{has_room}
use Rattle.driver.proofs.taking.take_file.Goals as goal

pub loop-entry-init : goal.loop-entry-init
loop-entry-init g c =
    let K = g.T.Theory.kind in
    let h = c.in_default.ensures in
    let v = c.over-reader.ensures in
    let kind = c.args.kind in
    let file : List ℕ = c.args.file.now in
    let s = view K g.T.Theory.model c.args.session.now in
    let o : opened kind file ≡ inr tt = ap (opened kind) (sym v.file) ∙ ap (λ k. opened k c.over-reader.result.file.now) (sym v.kind) ∙ from_inr (opened c.over-reader.result.kind c.over-reader.result.file.now) tt h.answer in (
      h.file ∙ v.file,
      o,
      subst (λ p. Reached K kind file s p c.open.new.self.count s) (sym h.place) (subst (λ n. Reached K kind file s 1 n s) (sym h.count) (begins K kind file s o)),
      c.requires,
    )

pub take_record-next-requires-clause-room : goal.take_record-next-requires-clause-room
take_record-next-requires-clause-room g c =
    let inv = c.loop-entry.invariant in
    let file : List ℕ = c.args.file.now in
    let bytes : Bytes file = λ i. let f = c.type_inv.file i in omega arith in
    let r : Record = c.in-Ok-Some.entry in
    let told : inr (Some (entry_view r)) ≡ in_file (entry_at c.loop-entry.reader.count c.loop-entry.reader.place c.loop-entry.reader.file.now) = search rules in
    let a = ap (entry_at c.loop-entry.reader.count c.loop-entry.reader.place) (sym inv.0) ∙ from_inr _ (Some (entry_view r)) told in
    has_room c.args.kind file bytes inv.1 c.loop-entry.reader.place c.loop-entry.reader.count (entry_view r) a

pub returns-in-Err-done : goal.returns-in-Err-done
returns-in-Err-done g c =
    let K = g.T.Theory.kind in
    let inv = c.loop-entry.invariant in
    let r : Record = c.in-Ok-Some.entry in
    let s = view K g.T.Theory.model c.loop-entry.session in
    let told : inr (Some (entry_view r)) ≡ in_file (entry_at c.loop-entry.reader.count c.loop-entry.reader.place c.loop-entry.reader.file.now) = search rules in
    let a = ap (entry_at c.loop-entry.reader.count c.loop-entry.reader.place) (sym inv.0) ∙ from_inr _ (Some (entry_view r)) told in
    let q : after_record K s (call_of c.args.kind r.kind r.body.now) ≡ inl c.in-Err-done.fault = search rules in
    (stops K c.args.kind c.args.file.now (view K g.T.Theory.model c.args.session.now) c.loop-entry.reader.place c.loop-entry.reader.count s (entry_view r) c.in-Err-done.fault a q inv.2, c.take_record-next.ensures.1)

pub loop-entry-preserved : goal.loop-entry-preserved
loop-entry-preserved g c =
    let K = g.T.Theory.kind in
    let h = c.in-Ok-Some.ensures in
    let inv = c.loop-entry.invariant in
    let kind = c.args.kind in
    let file : List ℕ = c.args.file.now in
    let p : ℕ = c.loop-entry.reader.place in
    let n : ℕ = c.loop-entry.reader.count in
    let r : Record = c.in-Ok-Some.entry in
    let s = view K g.T.Theory.model c.loop-entry.session in
    let t = view K g.T.Theory.model c.take_record-next.new.session in
    let before = view K g.T.Theory.model c.args.session.now in
    let told : inr (Some (entry_view r)) ≡ in_file (entry_at n p c.loop-entry.reader.file.now) = search rules in
    let e = from_inr _ (Some (entry_view r)) told in
    let a = ap (entry_at n p) (sym inv.0) ∙ e in
    let q : after_record K s (call_of kind r.kind r.body.now) ≡ inr t = search rules in
    let place_is : c.next.new.self.place ≡ place_after p (inr (Some (entry_view r))) = h.place ∙ ap (place_after p) e in
    let count_is : c.next.new.self.count ≡ n + 1 = h.count ∙ ap (count_after n) e in (
      h.file ∙ inv.0,
      inv.1,
      subst (λ x. Reached K kind file before x c.next.new.self.count t) (sym place_is) (subst (λ x. Reached K kind file before (place_after p (inr (Some (entry_view r)))) x t) (sym count_is) (goes_on K kind file before p n s (entry_view r) t a q inv.2)),
      c.take_record-next.ensures.1,
    )

pub returns-in-Ok-None : goal.returns-in-Ok-None
returns-in-Ok-None g c =
    let K = g.T.Theory.kind in
    let inv = c.loop-entry.invariant in
    let told : inr None ≡ in_file (entry_at c.loop-entry.reader.count c.loop-entry.reader.place c.loop-entry.reader.file.now) = search rules in
    let a = ap (entry_at c.loop-entry.reader.count c.loop-entry.reader.place) (sym inv.0) ∙ from_inr _ None told in
    (ends K c.args.kind c.args.file.now (view K g.T.Theory.model c.args.session.now) c.loop-entry.reader.place c.loop-entry.reader.count (view K g.T.Theory.model c.loop-entry.session) a inv.2, inv.3)

pub returns-in-Err-next : goal.returns-in-Err-next
returns-in-Err-next g c =
    let K = g.T.Theory.kind in
    let h = c.in-Err-next.ensures in
    let inv = c.loop-entry.invariant in
    let p : ℕ = c.loop-entry.reader.place in
    let n : ℕ = c.loop-entry.reader.count in
    let q = from_inl _ c.in-Err-next.fault h.answer in
    let a : entry_at n p c.args.file.now ≡ inl q.0 = ap (entry_at n p) (sym inv.0) ∙ q.1 in
    let place_is : c.next.new.self.place ≡ p = h.place ∙ ap (place_after p) q.1 in
    let count_is : c.next.new.self.count ≡ n = h.count ∙ ap (count_after n) q.1 in (
      ap inl (c.stop.ensures ∙ ap (λ m. code_stop m c.next.new.self.place c.in-Err-next.fault) count_is ∙ ap (λ m. code_stop n m c.in-Err-next.fault) place_is ∙ ap (code_stop n p) q.2)
          ∙ refuses K c.args.kind c.args.file.now (view K g.T.Theory.model c.args.session.now) p n (view K g.T.Theory.model c.loop-entry.session) q.0 a inv.2,
      inv.3,
    )
