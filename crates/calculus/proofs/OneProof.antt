-- The guarantees of a state have one proof at most, so they may be taken out of a fact that only says that there is one.
use Rattle.std.proofs.Common.{ℕ}
use Rattle.std.proofs.Props.{props}
use Rattle.calculus.specs.Arrangements.{Arrangement}
use Rattle.calculus.specs.Kinds.{Kind}
use Rattle.calculus.specs.Trails.{Content}
use Rattle.calculus.specs.Trails.Content.{Value, Literal}
use Rattle.calculus.specs.States.{State}
use Rattle.calculus.specs.Sound.{Keeps, Guarantees}

keeps_prop : (K : Kind) (m : K.Model) (w d : ℕ) (a : Arrangement) (c : Content) → IsProp (Keeps K m w d a c)
keeps_prop K m w d a (Value j x) = hlevel props
keeps_prop K m w d a (Literal l o) = hlevel props

pub guarantees_prop : (K : Kind) (s : State K) → IsProp (Guarantees K s)
guarantees_prop K s = hlevel (keeps_prop, props)
