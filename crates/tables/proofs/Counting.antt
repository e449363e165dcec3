-- How many choices the entries of a trail have.
use mir.Val.{bool_byte}
use Rattle.std.proofs.Common.{◌≡◌, ◌≤◌, Bool, true, false, cond, List, [], ◌∷◌, length, refl, arith}
use Rattle.calculus.specs.Trails.{Entry, choice, choices}
use Rattle.tables.specs.declared.trail.Trail.{Trail}
use Rattle.tables.specs.Tables.{trail_of}
use Rattle.tables.proofs.Tidying.{tidy_room}

pub at_most_one : (b : Bool) → cond b 1 0 ≤ 1
at_most_one true = omega arith
at_most_one false = omega arith

pub choices_few : (t : List Entry) → choices t ≤ length t
choices_few [] = omega arith
choices_few (e ∷ t) = omega (arith, at_most_one (choice e.content), choices_few t)

pub count_few : (t : Trail) → t.count ≤ 143
count_few t = omega (arith, t.counted, choices_few (trail_of t), tidy_room (trail_of t) t.tidied)

pub byte_of : (b : Bool) → bool_byte b ≡ cond b 1 0
byte_of true = refl
byte_of false = refl
