use Rattle.tables.proofs.Counting.{count_few}
use Rattle.tables.proofs.trail.Trail.choices.Goals as goal

pub returns-clause-bound : goal.returns-clause-bound
returns-clause-bound c = count_few c.args.self.now
