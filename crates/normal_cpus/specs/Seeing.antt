-- What a turn makes of a pass: what it has seen is a legal history, whose entries have read at most 2^28 bytes, and which goes on
-- from all that it had seen. Of its own processor that history has just the events that the pass made, in their order, each once.
use Rattle.std.specs.Prelude.{◌≡◌, ℕ, ◌^◌, ◌≤◌, List, [], ◌∷◌, ◌++◌, length}
use Rattle.std.specs.List.{AllByRecursion}
use mathlib.Core.List.{IsPrefix}
use Rattle.core_lock.specs.Counts.{made_by}
use Rattle.core_lock.specs.Passes.{made, number, seen}
use Rattle.event_journal.specs.Journal.{copied_bytes}
use Rattle.event_journal.specs.declared.event.Event.{Event}
use Rattle.event_journal.specs.declared.event.Event.TheVariants.{Entry, Exit}
use Rattle.kernel_model.specs.Application.{Booted}
use Rattle.kernel_model.specs.History.{IsLegal}
use Rattle.kernel_model.specs.Laws.{IsOfOther}
use Rattle.kernel_model.specs.Turns.{cpu_of}
use Rattle.normal_cpus.specs.Sharing.{CpuPass}

-- the pass has seen a legal history that begins with all that it had seen, and has made no event
pub record HasOnlySeen (boot : Booted) (old new : CpuPass) : Type 0 where
  pub legal : IsLegal boot (seen new)
  pub few : copied_bytes (seen new) ≤ 2 ^ 28
  pub begins : IsPrefix (seen old) (seen new)
  pub own : made_by cpu_of (number old) (seen new) ≡ made new
  pub made_none : made new ≡ made old

-- the pass has seen a legal history that ends with this event, which is the one that it made. Before the event stands all that it
-- had seen, and maybe more
pub record HasMade (boot : Booted) (old new : CpuPass) (before : List Event) (event : Event) : Type 0 where
  pub legal : IsLegal boot (seen new)
  pub few : copied_bytes (seen new) ≤ 2 ^ 28
  pub ends : seen new ≡ before ++ event ∷ []
  pub begins : IsPrefix (seen old) before
  pub own : made_by cpu_of (number old) (seen new) ≡ made new
  pub made_one : made new ≡ made old ++ event ∷ []

-- ---- the open entry

-- the event is an entry of this processor
abbrev pub IsEntryBy : ℕ → Event → Type 0
IsEntryBy cpu (Entry came regs steps reads) = came ≡ cpu
IsEntryBy cpu (Exit went regs) = ⊥

-- an entry of the processor stands at this place of the history, and no event of it behind
pub record IsOpenAt (cpu place : ℕ) (history : List Event) : Type 0 where
  pub before : List Event
  pub event : Event
  pub behind : List Event
  pub is : history ≡ before ++ event ∷ behind
  pub stands : place ≡ length before
  pub entry : IsEntryBy cpu event
  pub others : AllByRecursion (IsOfOther cpu) behind
