use Rattle.std.proofs.Common.{rules}
use Rattle.driver.specs.declared.held.Held.TheVariants.{Nothing}
use Rattle.session.specs.Orders.{call_of}
use Rattle.driver.proofs.Advancing.{left_alone}
use Rattle.driver.proofs.stepping.search.Goals as goal

pub returns-in_default : goal.returns-in_default
returns-in_default g c = left_alone g.T.Theory.kind g.T.Theory.model c.args.session.now c.plain.new.session (call_of c.args.order) Nothing c.plain.result c.plain.ensures (search rules)
