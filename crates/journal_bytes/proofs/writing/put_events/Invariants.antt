use Rattle.std.proofs.Common.{◌≡◌, ℕ, ◌<◌, ◌++◌, get_or, take}
use Rattle.std.specs.List.{flat_map}
use Rattle.event_journal.specs.declared.event.Event.{Event}
use Rattle.journal_bytes.specs.Sound.{HasRegs}
use Rattle.journal_bytes.specs.Spelling.{event_record}
use Rattle.journal_bytes.proofs.writing.put_events.Given as goal

abbrev pub invariant-loop-event : goal.invariant-loop-event
invariant-loop-event l = record {
  put : l.out.items ≡ l.initial.out.items ++ flat_map event_record (take l.event-index l.events);
  regs : (k : ℕ) → k < l.event-index → (d : Event) → HasRegs (get_or l.events k d);
}
