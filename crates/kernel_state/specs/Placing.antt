-- Where the entry of a work, and of its run, stands among the events. This project's own.
use Rattle.std.specs.Prelude.{◌≡◌, ℕ, Some, slice_get}
use Rattle.event_journal.specs.declared.event.Event.TheVariants.{Entry}
use Rattle.kernel_state.specs.Laws.{ChangedByOthers, CoreEntry}
use Rattle.kernel_state.specs.Meaning.{events_of}
use Rattle.kernel_state.specs.Work.{IsRanOf}
use Rattle.kernel_state.specs.declared.kernel_core.Core.{Core}
use Rattle.kernel_state.specs.declared.work.Ran.{Ran}

-- the core's event at this place is the entry
abbrev pub StandsAt : Core → ℕ → CoreEntry → Type 0
StandsAt core place entry = slice_get (events_of core) place ≡
    Some (Entry entry.coming.cpu entry.coming.regs entry.coming.steps entry.has_entered.reads)

-- the place that a work names is that of its entry, and so is the one that its run names, whatever others have done
pub record EntriesStandAtTheirPlaces : Type 0 where
  pub work : (entry : CoreEntry) → StandsAt entry.new entry.work.entry_at entry
  pub ran : (entry : CoreEntry) (later : Core) (ran : Ran) →
      ChangedByOthers entry.new later entry.coming.cpu → IsRanOf entry.work ran → StandsAt later ran.entry_at entry
