-- What contracts see of a journal.
use Rattle.std.specs.Prelude.{ℕ, List, sum_by}
use Rattle.event_journal.specs.declared.event.Event.{Event}
use Rattle.event_journal.specs.Event.{copied_by}

-- the events in their order, and how many more have room
pub record Contents : Type 0 where
  pub events : List Event
  pub spare : ℕ

-- how many bytes these events copied out of RAM, all together
abbrev pub copied_bytes : List Event → ℕ
copied_bytes events = sum_by copied_by events
