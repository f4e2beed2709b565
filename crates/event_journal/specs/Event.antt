-- An event at the border of the core.
use Rattle.std.specs.Prelude.{ℕ}
use Rattle.ns_ram.specs.Reads.{total_bytes}
use Rattle.event_journal.specs.declared.event.Event.{Event}
use Rattle.event_journal.specs.declared.event.Event.TheVariants.{Entry, Exit}

-- how many bytes the event copied out of RAM: an exit reads nothing
abbrev pub copied_by : Event → ℕ
copied_by (Entry cpu regs steps reads) = total_bytes reads
copied_by (Exit cpu regs) = 0
