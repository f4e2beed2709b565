-- What contracts see of a log.
use Rattle.std.specs.Prelude.{ℕ, Bool, true, false, List}
use Rattle.event_journal.specs.declared.event.Event.{Event}
use Rattle.event_log.specs.declared.log.Form.{Form}
use Rattle.event_log.specs.declared.log.Form.TheVariants.{Kept, Counted}

-- the events in their order, how many more have room, and whether they are kept as data
pub record Contents : Type 0 where
  pub events : List Event
  pub spare : ℕ
  pub keeps : Bool

abbrev pub contents_of : Form → Contents
contents_of (Kept kept) = record { events = kept.events; spare = kept.spare; keeps = true }
contents_of (Counted counted) = record { events = counted.events; spare = counted.spare; keeps = false }
