use Rattle.std.proofs.Common.{◌≡◌, true, get_or, ap, ◌∙◌}
use Rattle.calculus.specs.Limits.{sized}
use Rattle.rows.specs.Bounds.{most_size}
use Rattle.linear.proofs.Sums.{every_at, sized_turned}
use Rattle.linear.proofs.Listed.{no_entry}
use Rattle.linear.proofs.entries.Entries.turned.Goals as goal

pub push-requires-clause-small : goal.push-requires-clause-small
push-requires-clause-small c =
    ap (λ e. sized most_size e.coefficient) c.turned_entry.ensures
    ∙ sized_turned most_size (get_or c.as_slice-entries.result.now c.loop-e.e-index no_entry).coefficient (every_at (λ e. sized most_size e.coefficient) c.as_slice-entries.result.now c.loop-e.e-index no_entry c.as_slice-entries.ensures.small c.loop-e-test.true)
