-- What the parts of a core are once a processor has come in.
use Rattle.std.specs.Prelude.{◌≡◌, ℕ, ◌-◌, Bool, if◌then◌else◌, List, [], ◌∷◌, ◌++◌, Option, Some, None, map}
use Rattle.std.specs.Prelude.{slice_set}
use Rattle.event_journal.specs.declared.event.Event.TheVariants.{Entry}
use Rattle.kernel_model.specs.Decision.{Decision}
use Rattle.kernel_model.specs.Entry.{after_decision}
use Rattle.kernel_model.specs.Kernel as model
use Rattle.ns_ram.specs.declared.read.Read.{Read}
use Rattle.thread_slots.specs.declared.slot.Slot.TheVariants.{Active}
use Rattle.kernel_state.specs.Cancelling.{marked_by}
use Rattle.kernel_state.specs.Entering.{Coming, visit_of}
use Rattle.kernel_state.specs.StandsFor.{StandsFor}
use Rattle.kernel_state.specs.declared.cancellation.Cancellation.{Cancellation}
use Rattle.kernel_state.specs.declared.parts.Parts.{Parts}
use Rattle.kernel_state.specs.declared.processor.Errand.{Errand}
use Rattle.kernel_state.specs.declared.processor.Processor.TheVariants.{Inside}
use Rattle.kernel_entry.specs.declared.visitor.Visitor.{Visitor}

abbrev pub coming_of : Visitor → Coming
coming_of visitor = record { cpu = visitor.cpu; regs = visitor.regs; steps = visitor.steps }

-- the processor is inside for this, and its entry stands in the journal with these reads
pub record IsInside (old new : Parts) (visitor : Visitor) (errand : Errand) (reads : List Read) : Type 0 where
  pub processors : new.processors.items
      ≡ slice_set old.processors.items visitor.cpu (Inside visitor.regs visitor.steps errand)
  pub journal : new.journal ≡ record old.journal {
    events = old.journal.events ++ Entry visitor.cpu visitor.regs visitor.steps reads ∷ [];
    spare = old.journal.spare - 1;
  }
  pub stays : new ≡ record old { processors = new.processors; journal = new.journal }

-- its entry stands behind the events, which are kept or counted as before, and nothing else was booted
pub record HasComeIn (old new : Parts) (visitor : Visitor) (reads : List Read) : Type 0 where
  pub setup : new.setup ≡ old.setup
  pub events : new.journal.events ≡ old.journal.events ++ Entry visitor.cpu visitor.regs visitor.steps reads ∷ []
  pub keeps : new.journal.keeps ≡ old.journal.keeps

-- where the parts stood for this kernel, they stand for the one after the decision
abbrev pub StandsAfter : Parts → Parts → Visitor → model.Kernel → Decision → Type 0
StandsAfter old new visitor kernel decision =
    StandsFor old kernel → StandsFor new (after_decision kernel (visit_of (coming_of visitor)) decision)

-- what stands beside the slots, once those calls are cancelled, if any
abbrev pub besides_cancelled : List Cancellation → Option model.Cancel → List Cancellation
besides_cancelled besides None = besides
besides_cancelled besides (Some cancel) = map (marked_by cancel) besides

-- the call beside which this stands is a cancel, which means its own session and number; or it isn't one
abbrev pub cancels_by : Bool → Cancellation → Option model.Cancel
cancels_by is_cancel beside =
    if is_cancel then Some (record { session = beside.session; cancel_id = beside.cancel_id }) else None

-- the slot is active on the processor, and this stands beside it, once those calls are cancelled
pub record HasTaken (old new : Parts) (cpu slot : ℕ) (beside : Cancellation)
    (cancels : Option model.Cancel) : Type 0 where
  pub slots : new.slots ≡ slice_set old.slots slot (Active cpu)
  pub cancellations : new.cancellations.items
      ≡ slice_set (besides_cancelled old.cancellations.items cancels) slot beside
  pub stays : new ≡ record old { slots = new.slots; cancellations = new.cancellations }
