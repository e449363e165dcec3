use Rattle.std.proofs.Common.{not, ◌&&◌, neg_ℤ, rules, tests}
use Rattle.calculus.specs.Literals.{same, holds_literal}
use Rattle.tables.specs.Tables.{literals_of}
use Rattle.tables.proofs.clause.Clause.followers.Goals as goal

pub returns : goal.returns
returns c = c.of_those.ensures (λ k. not (same k (neg_ℤ c.args.literal)) && not (holds_literal k (literals_of c.args.self.now))) (λ k b h. search (rules, tests))
