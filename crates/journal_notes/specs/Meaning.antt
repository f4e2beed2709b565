-- What notes of somebody mean.
use Rattle.std.specs.Prelude.{◌≡◌, ℕ, ◌^◌, ◌≤◌, List, [], ◌∷◌, ◌++◌}
use Rattle.event_journal.specs.Journal.{copied_bytes}
use Rattle.event_journal.specs.declared.event.Event.{Event}
use Rattle.event_journal.specs.declared.event.Event.TheVariants.{Exit}
use Rattle.kernel_model.specs.Application.{Booted}
use Rattle.kernel_state.specs.Entering.{IsAsBefore}
use Rattle.kernel_state.specs.Leaving.{HasLeft}
use Rattle.kernel_state.specs.Meaning.{booted_of, events_of}
use Rattle.kernel_state.specs.declared.kernel_core.Core.{Core}
use Rattle.kernel_state.specs.declared.work.Ran.{Ran}
use Rattle.smc_abi.specs.declared.regs.Regs.{Regs}

-- notes of this type, whose log is made of these entries
pub record Meaning (N L : Type 0) : Type 1 where
  -- whose they can be, and whose they are
  pub Subject : Type 0
  pub subject : N → Subject
  -- the log of those by the history of a core of a boot
  pub log : Subject → Booted → List Event → List L
  -- nothing is in it where nothing has happened
  pub none : (of : Subject) (boot : Booted) → log of boot [] ≡ []
  -- they are what is noted by it, but for the log, which was taken
  pub AreOf : N → Booted → List Event → Type 0
  -- where so much was noted of what came before it, what was noted of an event that a core has done is too
  pub NotesOn : Core → Core → N → N → Event → Type 0

-- they are still the notes of the same
abbrev pub same_subject : {N L : Type 0} → Meaning N L → N → N → Type 0
same_subject meaning before after = meaning.subject after ≡ meaning.subject before

abbrev pub IsNoted : {N L : Type 0} → Meaning N L → Core → Core → N → N → Event → Type 0
IsNoted meaning old new before after event = meaning.NotesOn old new before after event

-- the log of whose they are, by what a core has done
abbrev pub log_on : {N L : Type 0} → Meaning N L → Core → N → List L
log_on meaning core notes = meaning.log (meaning.subject notes) (booted_of core) (events_of core)

-- they are those of what a core has done
abbrev pub AreOn : {N L : Type 0} → Meaning N L → Core → N → Type 0
AreOn meaning core notes = meaning.AreOf notes (booted_of core) (events_of core)

-- they are those of what some core has done, whose entries have read at most 2^28 bytes
pub record AreKept {N L : Type 0} (meaning : Meaning N L) (notes : N) : Type 0 where
  pub core : Core
  pub on : AreOn meaning core notes
  pub few : copied_bytes (events_of core) ≤ 2 ^ 28

-- a core goes on with an event
pub record Goes (old new : Core) (event : Event) : Type 0 where
  pub boot : booted_of new ≡ booted_of old
  pub events : events_of new ≡ events_of old ++ event ∷ []

-- it was noted of an event that was done once there was more room for it
pub record IsNotedWithRoom {N L : Type 0} (meaning : Meaning N L) (old new : Core) (before after : N) (event : Event) : Type 0 where
  pub mid : Core
  pub room : IsAsBefore old mid
  pub noted : IsNoted meaning mid new before after event

-- a processor has gone out with what it carried, and that is noted
pub record IsExitNoted {N L : Type 0} (meaning : Meaning N L) (old new : Core) (before after : N) (cpu : ℕ)
    (lane now : List ℕ) : Type 0 where
  pub ran : Ran
  pub its_own : ran.cpu ≡ cpu
  pub told : Regs
  pub has_left : HasLeft old new ran lane now told
  pub noted : meaning.NotesOn old new before after (Exit cpu told)

-- where the notes were those of what the old core had done, they are those of what the new one has, and the log has grown by this
pub record HasGrown {N L : Type 0} (meaning : Meaning N L) (old new : Core) (before after : N) (news : List L) : Type 0 where
  pub on : AreOn meaning new after
  pub log : log_on meaning new after ≡ log_on meaning old before ++ news

pub record HasTaken {N L : Type 0} (meaning : Meaning N L) (old new : Core) (before after : N) (news : List L) : Type 0 where
  pub subject : same_subject meaning before after
  pub grown : AreOn meaning old before → HasGrown meaning old new before after news
