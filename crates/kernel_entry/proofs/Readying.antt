-- What was decided for an entry still holds once a box was made for it, and an entry that would read too much.
use Rattle.std.proofs.Common.{ℕ, List, Err, refl, arith}
use Rattle.event_journal.specs.Journal.{copied_bytes}
use Rattle.kernel_model.specs.Kernel.{Kernel}
use Rattle.kernel_state.specs.Blanks.{Boxes}
use Rattle.kernel_state.specs.StandsFor.{StandsFor}
use Rattle.kernel_state.specs.declared.enter_refusal.EnterRefusal.{EnterRefusal}
use Rattle.kernel_state.specs.declared.enter_refusal.EnterRefusal.TheVariants.{Full, Memory}
use Rattle.kernel_state.specs.declared.parts.Parts.{Parts}
use Rattle.ns_ram.specs.Reads.{total_bytes}
use Rattle.ns_ram.specs.declared.read.Read.{Read}
use Rattle.kernel_entry.proofs.Entered.{roomier_stands}
use Rattle.kernel_entry.specs.Deciding.{HasFound, IsGiven}
use Rattle.kernel_entry.specs.Entering.{Fit, IsDecidedBy, Prepares}
use Rattle.kernel_entry.specs.declared.deciding.EntryDecision.{EntryDecision}
use Rattle.kernel_entry.specs.declared.deciding.EntryDecision.TheVariants as decision

unboxed_stands : (parts : Parts) (boxes : Boxes) (kernel : Kernel) → StandsFor (record parts { blanks = boxes }) kernel → StandsFor parts kernel
unboxed_stands parts boxes kernel stands =
    roomier_stands (record parts { blanks = boxes }) parts kernel (record { events = refl; keeps = refl; spare = omega (arith); stays = refl }) stands

pub decided_boxed : (parts : Parts) (boxes : Boxes) (regs lane : List ℕ) (reads : List Read) (decided : EntryDecision) →
    IsDecidedBy parts regs lane reads decided → IsDecidedBy (record parts { blanks = boxes }) regs lane reads decided
decided_boxed parts boxes regs lane reads decided decides kernel stands =
    decides kernel (unboxed_stands parts boxes kernel stands)

pub found_boxed : (parts : Parts) (boxes : Boxes) (regs : List ℕ) (decided : EntryDecision) →
    HasFound parts regs decided → HasFound (record parts { blanks = boxes }) regs decided
found_boxed parts boxes regs (decision.Answers answer) found = tt
found_boxed parts boxes regs (decision.Begins call) found =
    record { lowest = found.lowest; pins = found.pins; applies = found.applies }
found_boxed parts boxes regs (decision.GoesOn decided) found =
    record { suspended = found.suspended; slot = found.slot; app = found.app }

pub given_boxed : (parts : Parts) (boxes : Boxes) (regs lane : List ℕ) (before after : List Read) (decided : EntryDecision) →
    IsGiven parts regs lane before after decided → IsGiven (record parts { blanks = boxes }) regs lane before after decided
given_boxed parts boxes regs lane before after (decision.Answers answer) given = tt
given_boxed parts boxes regs lane before after (decision.Begins call) given = tt
given_boxed parts boxes regs lane before after (decision.GoesOn decided) given = λ kernel stands.
    given kernel (unboxed_stands parts boxes kernel stands)

pub too_much : (parts : Parts) (regs lane : List ℕ) (reads : List Read) (decided : EntryDecision) (refusal : EnterRefusal) →
    IsDecidedBy parts regs lane reads decided → Fit {A = Unit {0}} parts.setup.terms.most (copied_bytes parts.journal.events) (total_bytes reads) (Err refusal) →
    Prepares parts regs lane (Err refusal)
too_much parts regs lane reads decided (Full copied more) decides full = record {
  reads = reads;
  decision = decided;
  decides = decides;
  so_far = full.0;
  of_entry = full.1;
  above = full.2;
}
too_much parts regs lane reads decided Memory decides full = tt
