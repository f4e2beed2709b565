-- A processor that comes in: what is prepared for it, and what it carries.
use Rattle.std.specs.Prelude.{◌≡◌, ℕ, ◌+◌, ◌<◌, ◌≤◌, List, [], length, Result, Ok, Err}
use Rattle.event_journal.specs.Journal.{copied_bytes}
use Rattle.kernel_model.specs.Decision as model
use Rattle.kernel_model.specs.Decision.{Decision}
use Rattle.kernel_model.specs.Kernel.{Kernel}
use Rattle.kernel_state.specs.Blanks.{Boxes}
use Rattle.kernel_state.specs.Entering.{Coming, Enters}
use Rattle.kernel_state.specs.StandsFor.{StandsFor}
use Rattle.kernel_state.specs.Work.{IsCarriedAs}
use Rattle.kernel_state.specs.declared.carried.Carried.{Carried}
use Rattle.kernel_state.specs.declared.carried.Carried.TheVariants.{Nothing}
use Rattle.kernel_state.specs.declared.enter_refusal.EnterRefusal.{EnterRefusal}
use Rattle.kernel_state.specs.declared.enter_refusal.EnterRefusal.TheVariants.{Full, Memory}
use Rattle.kernel_state.specs.declared.kernel_core.Core.{Core}
use Rattle.kernel_state.specs.declared.parts.Parts.{Parts}
use Rattle.new_calls.specs.declared.entered.Entered.{Entered}
use Rattle.new_calls.specs.declared.plan.Plan.{Plan}
use Rattle.ns_ram.specs.Reads.{total_bytes}
use Rattle.ns_ram.specs.declared.read.Read.{Read}
use Rattle.resumed_calls.specs.declared.deciding.Decided.{Decided}
use Rattle.smc_abi.specs.declared.answer.Answer.{Answer}
use Rattle.kernel_entry.specs.Applying.{CanTake}
use Rattle.kernel_entry.specs.Deciding.{CanBegin, HasFound, IsDecided, IsGiven}
use Rattle.kernel_entry.specs.Resuming.{CanGoOn}
use Rattle.kernel_entry.specs.declared.deciding.EntryDecision.{EntryDecision}
use Rattle.kernel_entry.specs.declared.deciding.EntryDecision.TheVariants as decision
use Rattle.kernel_entry.specs.declared.preparing.Prepared.{Prepared}

-- ---- before it comes in

-- there is room for as many more events, or more; but for boxes nothing else changes
pub record HasMoreRoom (old new : Parts) : Type 0 where
  pub events : new.journal.events ≡ old.journal.events
  pub keeps : new.journal.keeps ≡ old.journal.keeps
  pub spare : old.journal.spare ≤ new.journal.spare
  pub stays : new ≡ record old { journal = new.journal; blanks = new.blanks }

-- it was decided by the lane's bytes, which are listed
abbrev pub IsDecidedBy : Parts → List ℕ → List ℕ → List Read → EntryDecision → Type 0
IsDecidedBy parts regs lane reads decided =
    (kernel : Kernel) → StandsFor parts kernel → IsDecided parts kernel regs lane [] reads decided

-- there is a box for a call that begins
abbrev pub HasBox : Boxes → EntryDecision → Type 0
HasBox boxes (decision.Answers answer) = Unit {0}
HasBox boxes (decision.Begins call) = 0 < boxes.kept
HasBox boxes (decision.GoesOn decided) = Unit {0}

-- the event of an entry and its call have room, and the bytes that it has read are few enough
pub record IsPrepared (parts : Parts) (regs lane : List ℕ) (prepared : Prepared) : Type 0 where
  pub decides : IsDecidedBy parts regs lane prepared.reads prepared.decision
  pub given : IsGiven parts regs lane [] prepared.reads prepared.decision
  pub found : HasFound parts regs prepared.decision
  pub room : parts.setup.cpus < parts.journal.spare
  pub blank : HasBox parts.blanks prepared.decision
  pub few : copied_bytes parts.journal.events + total_bytes prepared.reads ≤ parts.setup.terms.most

-- the entry would read so many bytes more than those that were copied so far, and more with them than the terms allow
pub record IsTooMuchFor (parts : Parts) (regs lane : List ℕ) (copied more : ℕ) : Type 0 where
  pub reads : List Read
  pub decision : EntryDecision
  pub decides : IsDecidedBy parts regs lane reads decision
  pub so_far : copied ≡ copied_bytes parts.journal.events
  pub of_entry : more ≡ total_bytes reads
  pub above : parts.setup.terms.most < copied + more

-- so many bytes more fit beside those that were copied so far, or there are more than the most with them. Want of memory
-- says nothing of it
abbrev pub Fit : {A : Type 0} → ℕ → ℕ → ℕ → Result A EnterRefusal → Type 0
Fit most copied more (Ok fits) = copied + more ≤ most
Fit most copied more (Err (Full before read)) = (before ≡ copied) × (read ≡ more) × (most < before + read)
Fit most copied more (Err Memory) = Unit {0}

-- it is prepared, or refused: want of memory says nothing of it
abbrev pub Prepares : Parts → List ℕ → List ℕ → Result (Prepared) EnterRefusal → Type 0
Prepares parts regs lane (Ok prepared) = IsPrepared parts regs lane prepared
Prepares parts regs lane (Err (Full copied more)) = IsTooMuchFor parts regs lane copied more
Prepares parts regs lane (Err Memory) = Unit {0}

-- the same of a core, for a processor that is to come in
abbrev pub PreparesEntry : Core → Core → Coming → List ℕ → Result (Prepared) EnterRefusal → Type 0
PreparesEntry old new coming lane (Ok prepared) = IsPrepared new.parts coming.regs.a lane prepared
PreparesEntry old new coming lane (Err refusal) = Enters old new coming lane (Err refusal)

-- it was prepared, over some lane
pub record WasPrepared (parts : Parts) (regs : List ℕ) (prepared : Prepared) : Type 0 where
  pub lane : List ℕ
  pub is : IsPrepared parts regs lane prepared

-- what was prepared for an answer, and for a call that goes on
abbrev pub answered : Answer → List Read → Prepared
answered answer reads = record { decision = decision.Answers answer; reads = reads }

abbrev pub going_on : Decided → List Read → Prepared
going_on decided reads = record { decision = decision.GoesOn decided; reads = reads }

-- ---- as it comes in

-- the slot of a new call can be taken
pub record CanTakeSlot (parts : Parts) (entered : Entered) (plan : Plan) : Type 0 where
  pub begins : CanBegin parts entered plan
  pub beside : entered.slot < length parts.cancellations.items
  pub takes : CanTake parts.tables entered plan
  pub blank : 0 < parts.blanks.kept

-- what was decided can be done
abbrev pub CanFollow : Parts → List ℕ → EntryDecision → Type 0
CanFollow parts regs (decision.Answers answer) = Unit {0}
CanFollow parts regs (decision.Begins call) = CanTakeSlot parts call.value.entered call.value.plan
CanFollow parts regs (decision.GoesOn decided) = CanGoOn parts regs decided

-- what is carried is the call that the slot was taken for, or nothing
abbrev pub IsCarriedBy : Carried → Decision → Type 0
IsCarriedBy carried (model.Answers answer) = carried ≡ Nothing
IsCarriedBy carried (model.Takes slot taken) = IsCarriedAs carried taken.call taken.call.phase
