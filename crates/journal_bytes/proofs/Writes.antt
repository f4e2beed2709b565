-- What writing asks of events that are within their limits.
use Rattle.std.proofs.Common.{◌≡◌, ℕ, ◌+◌, ◌^◌, ◌<◌, ◌≤◌, List, [], ◌∷◌, length, get_or, subst, arith}
use Rattle.std.specs.List.{AllByRecursion}
use Rattle.std.proofs.lemmas.List.Elements.{recursion_from_All}
use Rattle.std.proofs.lemmas.List.Sums.{sum_by-cons}
use Rattle.ns_ram.specs.declared.read.Read.{Read}
use Rattle.ns_ram.specs.Reads.{total_bytes}
use Rattle.smc_abi.specs.declared.regs.Regs.{Regs}
use Rattle.event_journal.specs.Event.{copied_by}
use Rattle.std.specs.Prelude.{All}
use Rattle.event_journal.specs.declared.event.Event.{Event}
use Rattle.event_journal.specs.declared.event.Event.TheVariants.{Entry, Exit}
use Rattle.journal_bytes.specs.Sound.{AreSoundReads, IsSoundEvent, IsSoundRead}

reads_sound : (cpus : ℕ) (event : Event) → IsSoundEvent cpus event → AreSoundReads event
reads_sound cpus (Entry cpu regs steps reads) sound = sound.are_reads
reads_sound cpus (Exit cpu regs) sound = tt

pub all_reads_sound : (cpus : ℕ) (events : List Event) → All (IsSoundEvent cpus) events → All AreSoundReads events
all_reads_sound cpus events sound i d lt = reads_sound cpus (get_or events i d) (sound i d lt)

-- each read has a byte, so there are no more reads than bytes
pub few_reads : (reads : List Read) → AllByRecursion IsSoundRead reads → length reads ≤ total_bytes reads
few_reads [] all = omega arith
few_reads (read ∷ reads) (sound, all) =
    let some = sound.some in
    let more = few_reads reads all in
    let both : total_bytes (read ∷ reads) ≡ length read.bytes + total_bytes reads = sum_by-cons (λ (r : Read). length r.bytes) read reads in
    omega (arith, some, more, both)

-- so their number has four bytes
pub reads_fit : (event : Event) (cpu steps : ℕ) (regs : Regs) (reads : List Read) → event ≡ Entry cpu regs steps reads → AreSoundReads event → copied_by event ≤ 2 ^ 28 → length reads < 2 ^ 32
reads_fit event cpu steps regs reads is sound few =
    let each : All IsSoundRead reads = subst AreSoundReads is sound in
    let bytes : total_bytes reads ≤ 2 ^ 28 = subst (λ (e : Event). copied_by e ≤ 2 ^ 28) is few in
    let fewer = few_reads reads (recursion_from_All IsSoundRead reads each) in
    omega (arith, bytes, fewer)
