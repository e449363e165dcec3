use Rattle.std.proofs.Common.{◌∙◌, ap, pos, arith}
use Rattle.tables.specs.Keys.{tidy}
use Rattle.tables.specs.Tables.{trail_of}
use Rattle.tables.specs.declared.entry.Entry.TheVariants as entry
use Rattle.tables.proofs.Keeping.{enters, kept_in, kept_out}
use Rattle.tables.proofs.trail.Trail.keep_up_to.Goals as goal
use Rattle.tables.proofs.trail.Trail.keep_up_to.Goals.{then-level, else-level}

pub push-requires-clause-in_range : goal.push-requires-clause-in_range
push-requires-clause-in_range c =
    (enters c.args.level c.entries-entries.result.now c.loop-entry.entry-index (entry.Value 0 (pos 0) 0) c.loop-entry-test.true (trail_of c.loop-entry.kept) (ap tidy c.entries-entries.ensures ∙ c.args.self.now.tidied) c.loop-entry.invariant).0

pub push-requires-clause-off_trail : goal.push-requires-clause-off_trail
push-requires-clause-off_trail c =
    (enters c.args.level c.entries-entries.result.now c.loop-entry.entry-index (entry.Value 0 (pos 0) 0) c.loop-entry-test.true (trail_of c.loop-entry.kept) (ap tidy c.entries-entries.ensures ∙ c.args.self.now.tidied) c.loop-entry.invariant).1

pub loop-entry-preserved : goal.loop-entry-preserved
loop-entry-preserved c = elim c.if-level.branch [
  | then-level w ↦ ap trail_of w.kept-is ∙ kept_in c.args.level c.entries-entries.result.now c.loop-entry.entry-index (entry.Value 0 (pos 0) 0) c.loop-entry-test.true (trail_of c.loop-entry.kept) _ (omega (arith, w.if-level.true, c.level.ensures)) w.push.ensures c.loop-entry.invariant
  | else-level w ↦ ap trail_of w.kept-is ∙ kept_out c.args.level c.entries-entries.result.now c.loop-entry.entry-index (entry.Value 0 (pos 0) 0) c.loop-entry-test.true (trail_of c.loop-entry.kept) (omega (arith, w.if-level.false, c.level.ensures)) c.loop-entry.invariant
]
