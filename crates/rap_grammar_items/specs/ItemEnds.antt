-- How the search for an item ends: one was read, or the marker is handed back.
use Rattle.std.specs.Prelude.{◌≡◌, Option, None, Some}
use Rattle.rap_events.specs.State.{State}
use Rattle.rap_events.specs.declared.parser.Marker.{Marker}
use Rattle.rap_grammar_scripts.specs.Script.{Outcome, nothing, something}

-- as an outcome
abbrev pub of_item : Option Marker → Outcome
of_item None = something
of_item (Some m) = nothing

-- a marker that is handed back is the newest one
abbrev pub HandsBack : State → Option Marker → Type 0
HandsBack new None = Unit {0}
HandsBack new (Some m) = new.marker ≡ Some m.pos.value
