-- The last entry of a processor, and how it is kept by the processor's number.
use Rattle.std.specs.Prelude.{◌≡◌, ℕ, ◌<◌, ◌==◌, if◌then◌else◌, List, [], ◌∷◌, length, Option, Some, None, IsSomeAnd, slice_get}
use Rattle.event_journal.specs.declared.event.Event.{Event}
use Rattle.event_journal.specs.declared.event.Event.TheVariants.{Entry, Exit}

-- ---- among events

-- the processor whose entry the event is, if it is one
abbrev pub who_entered : Event → Option ℕ
who_entered (Entry cpu regs steps reads) = Some cpu
who_entered (Exit cpu regs) = None

-- the last entry of a processor by one event more, where it was this one before
abbrev pub entered_by : ℕ → Option Event → Event → Option Event
entered_by cpu before (Entry came regs steps reads) = if came == cpu then Some (Entry came regs steps reads) else before
entered_by cpu before (Exit went regs) = before

-- and by these events more
abbrev pub entered_last : ℕ → Option Event → List Event → Option Event
entered_last cpu before [] = before
entered_last cpu before (event ∷ events) = entered_last cpu (entered_by cpu before event) events

-- the last entry of a processor among these events, if there is one
abbrev pub last_entry : ℕ → List Event → Option Event
last_entry cpu events = entered_last cpu None events

-- ---- by the processor's number

-- these are the last entries of processors 0 to 7
pub record AreLastEntries (by_cpu : List (Option Event)) (events : List Event) : Type 0 where
  pub all : length by_cpu ≡ 8
  pub each : (cpu : ℕ) → cpu < 8 → slice_get by_cpu cpu ≡ Some (last_entry cpu events)

-- the last entry of a processor stands at this place, if there is one
abbrev pub IsLastPlace : List Event → ℕ → Option ℕ → Type 0
IsLastPlace events cpu None = last_entry cpu events ≡ None
IsLastPlace events cpu (Some place) = (place < length events) × (last_entry cpu events ≡ slice_get events place)

-- these are the places of the last entries of processors 0 to 7
abbrev pub AreLastPlaces : List (Option ℕ) → List Event → Type 0
AreLastPlaces places events = (cpu : ℕ) → cpu < 8 → IsSomeAnd (slice_get places cpu) (IsLastPlace events cpu)
