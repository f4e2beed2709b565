-- What a port in memory keeps.
use Rattle.std.specs.Prelude.{List, map, Some, None}
use Rattle.line_port.specs.declared.mem_port.Entry.{Entry}
use Rattle.line_port.specs.declared.mem_port.Entry.TheVariants as entry
use Rattle.line_port.specs.History.{Cut, Event, Hears, Line, Long, Says}
use Rattle.line_port.specs.Told.{Told}

abbrev pub event_of : Entry → Event
event_of (entry.Line bytes) = Hears (Line bytes.items)
event_of entry.Long = Hears Long
event_of entry.Cut = Hears Cut
event_of (entry.Said bytes) = Says bytes.items

abbrev pub events_of : List Entry → List Event
events_of entries = map event_of entries

-- what it tells: these events, and no bytes
abbrev pub told_of : List Event → Told
told_of events = record { history = Some events; left = None; held = None }
