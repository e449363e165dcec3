use Rattle.std.proofs.Common.{rules}
use Rattle.rows.specs.Hints.{halved}
use Rattle.linear.specs.Models.{table}
use Rattle.linear.proofs.clauses.Clause.splits.Goals as goal

pub returns : goal.returns
returns c = c.some_affirms.ensures (halved (table c.args.self.now.linear.now).rows c.args.self.now.switches c.args.self.now.literals.now) (λ a r w. search rules)
