-- Reads of one entry: RAM doesn't change while it reads, so they agree.
use Rattle.std.specs.Prelude.{◌≡◌, ℕ, ◌+◌, AllPairs, Some, slice_get}
use Rattle.event_journal.specs.declared.event.Event.{Event}
use Rattle.event_journal.specs.declared.event.Event.TheVariants.{Entry, Exit}
use Rattle.ns_ram.specs.declared.read.Read.{Read}

-- both reads have the same byte at each address that they share
abbrev pub Agree : Read → Read → Type 0
Agree one other =
    (i j byte that : ℕ) → one.addr + i ≡ other.addr + j → slice_get one.bytes i ≡ Some byte →
    slice_get other.bytes j ≡ Some that → byte ≡ that

-- the reads of the event agree on every address that they share
abbrev pub ReadsAgree : Event → Type 0
ReadsAgree (Entry cpu regs steps reads) = AllPairs Agree reads
ReadsAgree (Exit cpu regs) = Unit {0}
