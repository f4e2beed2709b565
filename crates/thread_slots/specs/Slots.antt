-- The thread slots as the list of what each holds, by its number.
use Rattle.std.specs.Prelude.{ℕ, List, Option, Result, position, slice_get}
use Rattle.thread_slots.specs.declared.bad_resume.BadResume.{BadResume}
use Rattle.thread_slots.specs.declared.slot.Slot.{Slot}
use Rattle.thread_slots.specs.Slot.{IsActive, is_free, resumed_from}

-- the number of the lowest free slot, if one is free
abbrev pub lowest_free : {T : Type 0} → List (Slot T) → Option ℕ
lowest_free slots = position is_free slots

-- the call of the slot of this number runs
abbrev pub IsActiveAt : {T : Type 0} → List (Slot T) → ℕ → Type 0
IsActiveAt slots slot = IsActive (slice_get slots slot)

-- what a client gets that resumes the call of the slot of this number: the value, or the first fault
abbrev pub resumed : {T : Type 0} → List (Slot T) → ℕ → ℕ → Result T BadResume
resumed slots slot client = resumed_from (slice_get slots slot) client
