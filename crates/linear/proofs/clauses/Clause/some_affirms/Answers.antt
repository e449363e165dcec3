use Rattle.std.proofs.Common.{◌+◌, length, rules, tests}
use Rattle.std.proofs.iter.Serving.{serving}
use Rattle.std.proofs.lemmas.Iterator.{YieldsList-from_slice}
use Rattle.std.proofs.lemmas.Iterator.Search.{any_from_yields_List}
use Rattle.calculus.specs.Limits.{within}
use Rattle.calculus.specs.Literals.{number}
use Rattle.rows.specs.Hints.{affirms}
use Rattle.linear.specs.Models.{table}
use Rattle.linear.proofs.Sums.{every_at}
use Rattle.linear.proofs.clauses.Clause.some_affirms.Goals as goal

pub any-requires-clause-callable : goal.any-requires-clause-callable
any-requires-clause-callable g c = grind (serving, every_at (λ l. within (c.args.self.now.switches + length (table c.args.self.now.linear.now).rows) (number l)) c.args.self.now.literals.now)

pub returns : goal.returns
returns g c p tested = any_from_yields_List (affirms (table c.args.self.now.linear.now).rows c.args.self.now.switches p) _ _ _ c.any.ensures.ran (YieldsList-from_slice c.args.self.now.literals.now cc) (λ x b q k. search (rules, tests))
