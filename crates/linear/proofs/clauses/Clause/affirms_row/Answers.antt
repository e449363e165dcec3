use Rattle.std.proofs.Common.{rules}
use Rattle.rows.specs.Rows.{same_row, related_by}
use Rattle.linear.specs.Views.{row}
use Rattle.linear.proofs.clauses.Clause.affirms_row.Goals as goal

pub returns : goal.returns
returns c = c.some_affirms.ensures (same_row (related_by c.args.relation (row c.args.atom.now))) (λ a r w. search rules)
