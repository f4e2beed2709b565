-- What one slot holds.
use Rattle.std.specs.Prelude.{ℕ, Bool, true, false, ◌==◌, Option, Some, None, Result, Ok, Err, if◌then◌else◌}
use Rattle.thread_slots.specs.declared.bad_resume.BadResume.{BadResume}
use Rattle.thread_slots.specs.declared.bad_resume.BadResume.TheVariants.{NoSlot, NotSuspended, OtherClient}
use Rattle.thread_slots.specs.declared.slot.Slot.{Slot}
use Rattle.thread_slots.specs.declared.slot.Slot.TheVariants.{Free, Active, Suspended}

-- no call is in the slot
abbrev pub is_free : {T : Type 0} → Slot T → Bool
is_free Free = true
is_free (Active cpu) = false
is_free (Suspended client cont) = false

-- there is a slot, and its call runs
abbrev pub IsActive : {T : Type 0} → Option (Slot T) → Type 0
IsActive None = ⊥
IsActive (Some Free) = ⊥
IsActive (Some (Active cpu)) = Unit {0}
IsActive (Some (Suspended client cont)) = ⊥

-- no call waits in the slot
abbrev pub HoldsNoValue : {T : Type 0} → Slot T → Type 0
HoldsNoValue Free = Unit {0}
HoldsNoValue (Active cpu) = Unit {0}
HoldsNoValue (Suspended client cont) = ⊥

-- what a client gets that resumes the call of the slot, if there is a slot
abbrev pub resumed_from : {T : Type 0} → Option (Slot T) → ℕ → Result T BadResume
resumed_from None client = Err NoSlot
resumed_from (Some Free) client = Err NotSuspended
resumed_from (Some (Active cpu)) client = Err NotSuspended
resumed_from (Some (Suspended kept cont)) client = if kept == client then Ok cont else Err (OtherClient kept)
