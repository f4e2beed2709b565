-- What doing an event again makes of a core. This project's own.
use Rattle.std.specs.Prelude.{◌≡◌, List, [], ◌∷◌, ◌++◌, Bool, true, false, Option, None, Some, Result, Ok, Err}
use Rattle.base.specs.declared.no_memory.NoMemory.{NoMemory}
use Rattle.audit_model.specs.Verdicts.{IsFaultless}
use Rattle.event_journal.specs.declared.event.Event.{Event}
use Rattle.event_journal.specs.declared.event.Event.TheVariants.{Entry}
use Rattle.journal_replay.specs.declared.replay.Replay.{Replay}
use Rattle.core_at_work.specs.Entering.{IsPrepared}
use Rattle.core_at_work.specs.Prepared.{Prepared}
use Rattle.core_at_work.specs.Visitor.{Visitor}
use Rattle.kernel_model.specs.Application.{Booted}
use Rattle.kernel_state.specs.Meaning.{booted_of, events_of}
use Rattle.ns_ram.specs.declared.read.Read.{Read}

-- what the replay's core was booted with
abbrev pub boot_of : Replay → Booted
boot_of replay = booted_of replay.at_work.core

-- the events that were done
abbrev pub done_by : Replay → List Event
done_by replay = events_of replay.at_work.core

-- those events and this one are a legal and steady history
abbrev pub CanBeNext : Replay → Event → Type 0
CanBeNext replay event = IsFaultless (boot_of replay) (done_by replay ++ event ∷ [])

-- the event was done behind the others
pub record HasDone (old new : Replay) (event : Event) : Type 0 where
  pub boot : boot_of new ≡ boot_of old
  pub events : done_by new ≡ done_by old ++ event ∷ []

-- by the answer: the event was done; it can't be next; or memory was wanting
abbrev pub Does : Replay → Replay → Event → Result Bool NoMemory → Type 0
Does old new event (Ok true) = HasDone old new event
Does old new event (Ok false) = CanBeNext old event → ⊥
Does old new event (Err error) = Unit {0}

-- ---- an entry, before it is done

-- it is prepared, and reads just this
pub record HasPrepared (new : Replay) (visitor : Visitor) (reads : List Read) (prepared : Prepared) : Type 0 where
  pub is : IsPrepared new.at_work.core.parts visitor.regs.a new.lane prepared
  pub reads_so : prepared.reads ≡ reads

-- by the answer: it is prepared; it can't be next; or memory was wanting
abbrev pub PreparesNext : Replay → Replay → Visitor → List Read → Result (Option Prepared) NoMemory → Type 0
PreparesNext old new visitor reads (Ok (Some prepared)) = HasPrepared new visitor reads prepared
PreparesNext old new visitor reads (Ok None) = CanBeNext old (Entry visitor.cpu visitor.regs visitor.steps reads) → ⊥
PreparesNext old new visitor reads (Err error) = Unit {0}
