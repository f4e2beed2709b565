-- What records tell: a boot, whether a key is among them, and events behind it.
use Rattle.std.specs.Prelude.{◌≡◌, List, [], Bool, false, Option, None}
use Rattle.ta_isa.specs.declared.boot.Boot.{Boot}
use Rattle.event_journal.specs.declared.event.Event.{Event}
use Rattle.journal_bytes.specs.declared.recording.Recording.{Recording}

pub record Told : Type 0 where
  pub boot : Option Boot
  pub keyed : Bool
  pub events : List Event

-- before the first record
abbrev pub nothing : Told
nothing = record { boot = None; keyed = false; events = [] }

-- what is kept while records are read
abbrev pub journal_so_far : Recording → Told
journal_so_far recording = record { boot = recording.header.boot; keyed = recording.header.keyed; events = recording.events.events }

-- the reader of traces, which takes the boot, has no items
abbrev pub HasNoItem : Recording → Type 0
HasNoItem recording = recording.header.items ≡ []
