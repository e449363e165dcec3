use Rattle.std.proofs.Common.{length}
use Rattle.tables.proofs.literals.+are_distinct.Given as goal

-- proposed from what the function passes where it calls itself
abbrev pub decreases-are_distinct : goal.decreases-are_distinct
decreases-are_distinct l = length l.literals.now
