-- What a note of the history says.
use Rattle.std.specs.Prelude.{ℕ, List}
use Rattle.cdm_port.specs.Event.{Event}
use Rattle.cdm_port.specs.Event.Event.{Read, Renamed, Marked, LeftOut, Line, Broken, End, Appended, Synced, Replied, Flushed}
use Rattle.cdm_port.specs.declared.happening.Happening.{Happening}
use Rattle.cdm_port.specs.declared.happening.Happening.TheVariants as happening

-- what happened, with the bytes that were read or written
abbrev pub event_with : Happening → List ℕ → Event
event_with happening.Read bytes = Read bytes
event_with happening.Renamed bytes = Renamed bytes
event_with happening.Marked bytes = Marked
event_with happening.LeftOut bytes = LeftOut bytes
event_with happening.Line bytes = Line bytes
event_with happening.Broken bytes = Broken
event_with happening.End bytes = End
event_with happening.Appended bytes = Appended bytes
event_with happening.Synced bytes = Synced
event_with happening.Replied bytes = Replied bytes
event_with happening.Flushed bytes = Flushed

-- what a note says to have happened
abbrev pub noted : Happening × List ℕ → Event
noted note = event_with note.0 note.1
