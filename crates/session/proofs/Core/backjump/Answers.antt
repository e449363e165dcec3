use Rattle.std.proofs.Common.{◌≡◌, true, Ok, sym, refl, ap, ◌∙◌, to_z-of_z, w8, to_z, of_z}
use Rattle.std.proofs.lemmas.Bool.{lt-ltb, le-ltb}
use Rattle.calculus.specs.Lists.{highest}
use Rattle.calculus.specs.Limits.{within}
use Rattle.calculus.specs.Literals.{number}
use Rattle.calculus.specs.Calls.Call.{Jump}
use Rattle.calculus.specs.Trails.{false_at}
use Rattle.calculus.specs.States.{is_analysing}
use Rattle.calculus.specs.Steps.{step, others, all_read, arranged, top_of}
use Rattle.calculus.specs.Steps.Reply.{Done}
use Rattle.tables.specs.Tables.{trail_of, literals_of}
use Rattle.tables.proofs.Narrowing.{abs_number}
use Rattle.session.specs.Cores.{tables_of, view}
use Rattle.session.proofs.Needing.{told}
use Rattle.session.proofs.Jumping.{jump_low, jump_forced, jump_split}
use Rattle.session.proofs.Core.backjump.Goals as goal

pub returns-then-not-is_top : goal.returns-then-not-is_top
returns-then-not-is_top g c =
    let K = g.T.Theory.kind in
    let model = g.T.Theory.model in
    let s = c.args.self.now in
    let v = view K model s in
    let t = trail_of s.trail in
    let l = to_z w8 (of_z w8 c.args.literal) in
    let same : l ≡ c.args.literal = to_z-of_z c.ranges.literal in
    let p : is_analysing v.phase ≡ true = sym (c.if-not-serves.ensures (arranged K (tables_of K model s))) in
    let n : within s.counts.numbers (number l) ≡ true = ap (within s.counts.numbers) (sym (c.unsigned_abs.ensures.value ∙ abs_number l)) ∙ sym c.if-not-has.ensures in
    let top = c.top_level-top.result in
    let e : top ≡ highest (false_at t) (literals_of s.analysed) = c.top_level-top.ensures ∙ ap (highest (false_at t)) c.literals.ensures.same in
    told K _ _ _ (ap (λ m. step K v (Jump m)) (sym same) ∙ jump_low K v l p (sym c.if-not-has_room.ensures) (sym c.if-not-is_proper.ensures) n (sym c.if-not-holds.ensures) top (top_of K v (others l (literals_of s.analysed))) e refl (sym c.if-not-is_top.ensures))

pub returns-then-next-top : goal.returns-then-next-top
returns-then-next-top g c =
    let K = g.T.Theory.kind in
    let model = g.T.Theory.model in
    let s = c.args.self.now in
    let v = view K model s in
    let t = trail_of s.trail in
    let l = to_z w8 (of_z w8 c.args.literal) in
    let same : l ≡ c.args.literal = to_z-of_z c.ranges.literal in
    let p : is_analysing v.phase ≡ true = sym (c.if-not-serves.ensures (arranged K (tables_of K model s))) in
    let n : within s.counts.numbers (number l) ≡ true = ap (within s.counts.numbers) (sym (c.unsigned_abs.ensures.value ∙ abs_number l)) ∙ sym c.if-not-has.ensures in
    let top = c.top_level-top.result in
    let e : top ≡ highest (false_at t) (literals_of s.analysed) = c.top_level-top.ensures ∙ ap (highest (false_at t)) c.literals.ensures.same in
    let next = c.next_level-next.result in
    let f : next ≡ highest (false_at t) (others l (literals_of s.analysed)) = c.next_level-next.ensures ∙ ap (λ ls. highest (false_at t) (others l ls)) c.literals-2.ensures.same in
    let done = jump_forced K v l p (sym c.if-not-has_room.ensures) (sym c.if-not-is_proper.ensures) n (sym c.if-not-holds.ensures) top next e f (sym c.if-not-is_top.ensures) (lt-ltb next top c.if-next-top.true) in
    told K _ _ _ (ap (λ m. step K v (Jump m)) (sym same) ∙ done ∙ ap (λ w. (Ok Done, w)) (sym c.force.ensures))

pub returns : goal.returns
returns g c =
    let K = g.T.Theory.kind in
    let model = g.T.Theory.model in
    let s = c.args.self.now in
    let v = view K model s in
    let t = trail_of s.trail in
    let l = to_z w8 (of_z w8 c.args.literal) in
    let same : l ≡ c.args.literal = to_z-of_z c.ranges.literal in
    let p : is_analysing v.phase ≡ true = sym (c.if-not-serves.ensures (arranged K (tables_of K model s))) in
    let n : within s.counts.numbers (number l) ≡ true = ap (within s.counts.numbers) (sym (c.unsigned_abs.ensures.value ∙ abs_number l)) ∙ sym c.if-not-has.ensures in
    let top = c.top_level-top.result in
    let e : top ≡ highest (false_at t) (literals_of s.analysed) = c.top_level-top.ensures ∙ ap (highest (false_at t)) c.literals.ensures.same in
    let next = c.next_level-next.result in
    let f : next ≡ highest (false_at t) (others l (literals_of s.analysed)) = c.next_level-next.ensures ∙ ap (λ ls. highest (false_at t) (others l ls)) c.literals-2.ensures.same in
    let z = ap (all_read t top) (sym c.literals-3.ensures.same) ∙ sym c.if-not-all_read.ensures in
    let done = jump_split K v l p (sym c.if-not-has_room.ensures) (sym c.if-not-is_proper.ensures) n (sym c.if-not-holds.ensures) top next e f (sym c.if-not-is_top.ensures) (le-ltb next top c.if-next-top.false) z in
    told K _ _ _ (ap (λ m. step K v (Jump m)) (sym same) ∙ done ∙ ap (λ w. (Ok Done, w)) (sym c.split.ensures))
