-- What the trail knows of its entries.
use Rattle.std.proofs.Common.{◌≡◌, ◌<◌, true, length, arith}
use Rattle.fixedvec.specs.Items.{items_of}
use Rattle.std.proofs.lemmas.List.{length-map}
use Rattle.tables.specs.declared.entry as code
use Rattle.tables.specs.declared.trail.Trail.{Trail}
use Rattle.tables.specs.Keys.{ranged, free}
use Rattle.tables.specs.Views.{entry_of}
use Rattle.tables.specs.Tables.{trail_of}
use Rattle.tables.proofs.Tidying.{free_room}

-- there is room for an entry that may enter it
pub room_of : (t : Trail) (e : code.Entry.Entry) → ranged (entry_of e).content ≡ true → free (entry_of e).content (trail_of t) ≡ true → length (items_of t.entries) < 143
room_of t e r f = omega (arith, free_room (trail_of t) (entry_of e) t.tidied r f, length-map (items_of t.entries) entry_of)
