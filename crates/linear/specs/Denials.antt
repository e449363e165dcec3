-- What the denial of a literal stands for.
use Rattle.std.specs.Prelude.{Some, None, Option}
use Rattle.rows.specs.Rows.{Row, turned}
use Rattle.linear.specs.declared.denials.Denial.{Denial}
use Rattle.linear.specs.declared.denials.Denial.TheVariants.{Same, Turned}
use Rattle.linear.specs.Views.{row}

abbrev pub denied : Denial → Row
denied (Same a) = row a.now
denied (Turned R a) = turned R (row a.now)

abbrev pub denied_if : Option Denial → Option Row
denied_if None = None
denied_if (Some d) = Some (denied d)
