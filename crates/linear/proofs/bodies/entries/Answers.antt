use Rattle.std.proofs.Common.{◌+◌, ◌<◌, ◌≤◌, ◌++◌, ◌∷◌, [], ◌&&◌, drop, sym, ap, ◌∙◌, ap₂, arith}
use Rattle.std.proofs.lemmas.List.{take_all, drop_all, length-drop}
use Rattle.rows.specs.Bodies.{entry_at, entries_in, follows, in_order}
use Rattle.linear.proofs.Reading.{entries_length, order_from, entries_more, entry_read, follows_so}
use Rattle.linear.proofs.bodies.entries.Goals as goal

pub returns-then-not-follows : goal.returns-then-not-follows
returns-then-not-follows c =
    let t = c.args.measures in
    let b = c.args.body.now in
    let k = c.args.count in
    let i = c.loop-chunk.chunk-index in
    let d = length-drop 2 b in
    let h : i < k = omega arith in
    let r = entry_read b k i c.as_chunks.result.0.now c.entry-e.result c.requires.long h c.as_chunks.ensures.front c.entry-e.ensures.measure c.entry-e.ensures.coefficient in
    sym c.loop-chunk.invariant.rest ∙ order_from b t c.loop-chunk.last k i h ∙ ap (λ x. x && in_order t (entry_at b i).measure (drop (i + 1) (entries_in b k))) (ap (follows t c.loop-chunk.last) (sym r) ∙ sym c.if-not-follows.ensures)

pub loop-chunk-preserved : goal.loop-chunk-preserved
loop-chunk-preserved c =
    let t = c.args.measures in
    let b = c.args.body.now in
    let k = c.args.count in
    let i = c.loop-chunk.chunk-index in
    let d = length-drop 2 b in
    let h : i < k = omega arith in
    let r = entry_read b k i c.as_chunks.result.0.now c.entry-e.result c.requires.long h c.as_chunks.ensures.front c.entry-e.ensures.measure c.entry-e.ensures.coefficient in
    let w = follows_so t c.loop-chunk.last c.entry-e.result c.if-not-follows.ensures in
    let f = ap (follows t c.loop-chunk.last) (sym r) ∙ sym c.if-not-follows.ensures in
    let n = order_from b t c.loop-chunk.last k i h ∙ ap (λ x. x && in_order t (entry_at b i).measure (drop (i + 1) (entries_in b k))) f in
    record {
      rest = ap (λ e. in_order t e.measure (drop (i + 1) (entries_in b k))) r ∙ sym n ∙ c.loop-chunk.invariant.rest;
      read = c.push.ensures ∙ ap₂ (λ es e. es ++ e ∷ []) c.loop-chunk.invariant.read r ∙ sym (entries_more b k i h);
      rising = omega (arith, c.loop-chunk.invariant.rising, w.above);
      known = w.known;
    }

pub returns : goal.returns
returns c =
    let b = c.args.body.now in
    let k = c.args.count in
    let d = length-drop 2 b in
    let h : k ≤ c.loop-chunk.chunk-index = omega arith in
    let n = entries_length b k in
    (sym c.loop-chunk.invariant.rest ∙ ap (in_order c.args.measures c.loop-chunk.last) (drop_all c.loop-chunk.chunk-index (entries_in b k) (omega arith)), c.loop-chunk.invariant.read ∙ take_all c.loop-chunk.chunk-index (entries_in b k) (omega arith))
