-- The limits that a journal keeps where bytes spell it, and where it can be written. This project's own.
use Rattle.std.specs.Prelude.{◌≡◌, ℕ, ◌<◌, ◌≤◌, ◌^◌, List, length, All}
use Rattle.ns_ram.specs.declared.read.Read.{Read}
use Rattle.smc_abi.specs.declared.regs.Regs.{Regs}
use Rattle.event_journal.specs.declared.event.Event.{Event}
use Rattle.event_journal.specs.declared.event.Event.TheVariants.{Entry, Exit}
use Rattle.event_journal.specs.Journal.{copied_bytes}
use Rattle.trace_text.specs.Sound.{IsPartOfRam}

-- a read of some bytes, all of them in RAM
abbrev pub IsSoundRead : Read → Type 0
IsSoundRead read = IsPartOfRam read.addr (length read.bytes)

-- one of so many processors enters, is granted 1 to 1,000,000 steps, and reads RAM
pub record IsSoundEntry (cpus cpu steps : ℕ) (reads : List Read) : Type 0 where
  pub processor : cpu < cpus
  pub some_step : 1 ≤ steps
  pub few_steps : steps ≤ 1000000
  pub are_reads : All IsSoundRead reads

abbrev pub IsSoundEvent : ℕ → Event → Type 0
IsSoundEvent cpus (Entry cpu regs steps reads) = IsSoundEntry cpus cpu steps reads
IsSoundEvent cpus (Exit cpu regs) = cpu < cpus

-- the events of so many processors are within their limits, and have copied at most 2^28 bytes
pub record IsSoundJournal (cpus : ℕ) (events : List Event) : Type 0 where
  pub each : All (IsSoundEvent cpus) events
  pub few_bytes : copied_bytes events ≤ 2 ^ 28

-- eight registers of 32 bits
pub record AreRegs (regs : Regs) : Type 0 where
  pub eight : length regs.a ≡ 8
  pub words : All (λ word. word < 2 ^ 32) regs.a

abbrev pub HasRegs : Event → Type 0
HasRegs (Entry cpu regs steps reads) = AreRegs regs
HasRegs (Exit cpu regs) = AreRegs regs

-- the reads of an event are of some bytes of RAM
abbrev pub AreSoundReads : Event → Type 0
AreSoundReads (Entry cpu regs steps reads) = All IsSoundRead reads
AreSoundReads (Exit cpu regs) = Unit {0}
