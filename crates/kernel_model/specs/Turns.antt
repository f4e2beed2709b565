-- What the events of a legal history show one by one: where each processor stands, and what was read. This project's
-- own.
use Rattle.std.specs.Prelude.{◌≡◌, ℕ, ◌==◌, ◌<◌, ◌≤◌, List, length, filter, Option, Some, None, slice_get}
use Rattle.std.specs.List.{AllByRecursion, last_or}
use Rattle.event_journal.specs.declared.event.Event.{Event}
use Rattle.event_journal.specs.declared.event.Event.TheVariants.{Entry, Exit}
use Rattle.kernel_model.specs.Application.{Booted}
use Rattle.kernel_model.specs.History.{IsLegal, kernel_after}
use Rattle.kernel_model.specs.Kernel.{Errand, Inside, Kernel, Outside, Processor}
use Rattle.ns_ram.specs.Lane.{IsInRam}
use Rattle.ns_ram.specs.declared.read.Read.{Read}

-- ---- where a processor stands

-- the processor that came in, or went out
abbrev pub cpu_of : Event → ℕ
cpu_of (Entry cpu regs steps reads) = cpu
cpu_of (Exit cpu regs) = cpu

-- the events of a processor, in their order
abbrev pub events_by : ℕ → List Event → List Event
events_by cpu history = filter (λ event. cpu_of event == cpu) history

-- the last of them, if there is one
abbrev pub last_by : ℕ → List Event → Option Event
last_by cpu history = last_or None (events_by cpu history)

-- as its last event leaves it: inside with the registers and the steps of an entry, and else outside
abbrev pub IsLeftBy : Option Event → Processor → Type 0
IsLeftBy None processor = processor ≡ Outside
IsLeftBy (Some (Entry cpu regs steps reads)) processor = (errand : Errand) × (processor ≡ Inside regs.a steps errand)
IsLeftBy (Some (Exit cpu regs)) processor = processor ≡ Outside

-- the kernel has the processor, which stands as its last event leaves it
pub record StandsBy (kernel : Kernel) (cpu : ℕ) (last : Option Event) : Type 0 where
  pub processor : Processor
  pub there : slice_get kernel.processors cpu ≡ Some processor
  pub left : IsLeftBy last processor

-- after a legal history each processor stands as the last of its own events leaves it
abbrev pub StandByTheirEvents : Type 0
StandByTheirEvents = (boot : Booted) (history : List Event) (kernel : Kernel) (cpu : ℕ) → cpu < boot.cpus →
    kernel_after boot history ≡ Some kernel → StandsBy kernel cpu (last_by cpu history)

-- ---- what was read

-- some bytes were read, and all of them lie in RAM
pub record IsReadOfRam (read : Read) : Type 0 where
  pub some : 1 ≤ length read.bytes
  pub in_ram : IsInRam read.addr (length read.bytes)

-- each read of the event is one
abbrev pub ReadsRam : Event → Type 0
ReadsRam (Entry cpu regs steps reads) = AllByRecursion IsReadOfRam reads
ReadsRam (Exit cpu regs) = Unit {0}

-- all reads of a legal history are
abbrev pub HistoriesReadRam : Type 0
HistoriesReadRam = (boot : Booted) (history : List Event) → IsLegal boot history → AllByRecursion ReadsRam history
