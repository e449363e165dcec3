-- What the tables of this layer stand for.
use Rattle.std.specs.Prelude.{List, map}
use Rattle.calculus.specs.Kinds.{Kind}
use Rattle.congruence.specs.declared.application as code
use Rattle.congruence.specs.declared.applications as table
use Rattle.congruences.specs.Applications.{Application}
use Rattle.congruences.specs.Congruences.{Congruences}

abbrev pub application_of : code.Application.Application → Application
application_of a = record { function = a.function; arguments = a.arguments.items; result = a.result }

abbrev pub applications_of : table.Applications.Applications → List Application
applications_of t = map application_of t.rows.items

-- the layer over a model of the theory below
abbrev pub layer_model : (K : Kind) → K.Model → table.Applications.Applications → Congruences K
layer_model K m t = record { below = m; applications = applications_of t }
