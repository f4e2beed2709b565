-- Where the entry of a work, and of its run, stands in the journal.
use Rattle.std.proofs.Common.{◌≡◌, List, [], ◌∷◌, ◌++◌, length, Some, refl, ap, ◌∙◌, append_assoc}
use Rattle.std.specs.Prelude.{slice_get}
use Rattle.event_journal.specs.declared.event.Event.{Event}
use Rattle.event_journal.specs.declared.event.Event.TheVariants as event
use Rattle.kernel_state.specs.Laws.{CoreEntry}
use Rattle.kernel_state.specs.Meaning.{events_of}
use Rattle.kernel_state.specs.Placing.{EntriesStandAtTheirPlaces, StandsAt}
use Rattle.kernel_state.specs.declared.kernel_core.Core.{Core}

behind_all : (before behind : List Event) (one : Event) → slice_get (before ++ one ∷ behind) (length before) ≡ Some one
behind_all [] behind one = refl
behind_all (first ∷ before) behind one = behind_all before behind one

abbrev event_of : CoreEntry → Event
event_of entry = event.Entry entry.coming.cpu entry.coming.regs entry.coming.steps entry.has_entered.reads

-- the events of a core that begin with those up to the entry
placed : (entry : CoreEntry) (core : Core) (behind : List Event) → events_of core ≡ events_of entry.old ++ event_of entry ∷ behind →
    StandsAt core (length (events_of entry.old)) entry
placed entry core behind e =
    ap (λ (events : List Event). slice_get events (length (events_of entry.old))) e ∙ behind_all (events_of entry.old) behind (event_of entry)

pub entries_placed : EntriesStandAtTheirPlaces
entries_placed = record {
  work = λ entry.
      ap (slice_get (events_of entry.new)) entry.has_entered.entry_at ∙ placed entry entry.new [] entry.has_entered.events;
  ran = λ entry later ran changed run.
      ap (slice_get (events_of later)) (run.entry_at ∙ entry.has_entered.entry_at)
      ∙ placed entry later changed.between (changed.events
      ∙ ap (λ (events : List Event). events ++ changed.between) entry.has_entered.events
      ∙ append_assoc (events_of entry.old) (event_of entry ∷ []) changed.between);
}
