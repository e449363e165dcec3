-- What an entry of the code stands for, and what a look-up finds.
use Rattle.std.specs.Prelude.{◌≡◌, Bool, true, false, List, map, Option, MatchOption}
use Rattle.calculus.specs.Trails.{Origin, Content, Entry, no_entry, entry_for, has_entry}
use Rattle.calculus.specs.Trails.Origin.{Chosen, Propagated, Read}
use Rattle.calculus.specs.Trails.Content.{Value, Literal}
use Rattle.tables.specs.declared.entry as code
use Rattle.tables.specs.declared.entry.Origin.TheVariants as origin
use Rattle.tables.specs.declared.entry.Entry.TheVariants as entry

abbrev pub origin_of : code.Origin.Origin → Origin
origin_of origin.Chosen = Chosen
origin_of (origin.Propagated c) = Propagated c
origin_of origin.Read = Read

abbrev pub entry_of : code.Entry.Entry → Entry
entry_of (entry.Value j x k) = record { content = Value j x; level = k }
entry_of (entry.Literal l k o) = record { content = Literal l (origin_of o); level = k }

abbrev pub entries_of : List code.Entry.Entry → List Entry
entries_of es = map entry_of es

-- the first entry with such a content, where there is one
abbrev pub Finds : (Content → Bool) → List Entry → Option code.Entry.Entry → Type 0
Finds p t r = MatchOption r ((has_entry p t ≡ false) × (entry_for p t ≡ no_entry)) (λ e. (has_entry p t ≡ true) × (entry_for p t ≡ entry_of e))
