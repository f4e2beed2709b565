-- When a call of a kernel and one of a machine do the same next, and when an instance of each is the same. This project's own.
use Rattle.std.specs.Prelude.{◌≡◌, ℕ, ◌-◌, ◌≤◌, true, List, Option, Some, None}
use Rattle.std.specs.Prelude.{slice_get}
use Rattle.std.specs.Option.{option_and_then}
use Rattle.base.specs.NumberMap.{NumberMap, get}
use Rattle.job_model.specs.Job.{Job}
use Rattle.job_model.specs.Steps.{After}
use Rattle.kernel_model.specs.Kernel.{CallPhase, Runs, Asks, Waits, Ends, PendingCall, ThreadSlot, Free, Active}
use Rattle.kernel_model.specs.Kernel.{Suspended, Instance}
use Rattle.own_model.specs.Own.{Numbering}

-- ---- the session and its instance

-- the holder is in the slot of the call of this number, and nobody holds the one where nobody holds the other
abbrev pub HoldersAlike : NumberMap ℕ → Option ℕ → Option ℕ → Type 0
HoldersAlike numbers None None = Unit {0}
HoldersAlike numbers (Some slot) (Some number) = get numbers slot ≡ Some number
HoldersAlike numbers None (Some number) = ⊥
HoldersAlike numbers (Some slot) None = ⊥

-- the instance is the machine's. Of a held one neither has memory and objects, which are in the job of the holder
pub record InstancesAlike (numbers : NumberMap ℕ) (kept own : Instance) : Type 0 where
  pub uuid : kept.uuid ≡ own.uuid
  pub dead : kept.dead ≡ own.dead
  pub holders : HoldersAlike numbers kept.holder own.holder
  pub memory : kept.memory ≡ own.memory
  pub objects : kept.objects ≡ own.objects

-- the one is there exactly where the other is
abbrev pub FoundAlike : NumberMap ℕ → Option Instance → Option Instance → Type 0
FoundAlike numbers None None = Unit {0}
FoundAlike numbers (Some kept) (Some own) = InstancesAlike numbers kept own
FoundAlike numbers None (Some own) = ⊥
FoundAlike numbers (Some kept) None = ⊥

-- ---- the calls

-- the call in a slot
abbrev pub call_in : ThreadSlot → Option PendingCall
call_in Free = None
call_in (Active cpu call) = Some call
call_in (Suspended client call) = Some call

abbrev pub call_at : List ThreadSlot → ℕ → Option PendingCall
call_at slots slot = option_and_then call_in (slice_get slots slot)

-- the job of a call that has done so many steps is that of the machine's call by so many more than that has done
pub record IsFurther (done_by_now done_by_then : ℕ) (now then : Job) : Type 0 where
  pub more : done_by_then ≤ done_by_now
  pub after : After then (done_by_now - done_by_then) now

-- whom the call of a slot wakes was kept by its number
abbrev pub WakesAlike : Option ℕ → Option ℕ → Option ℕ → Type 0
WakesAlike kept None None = Unit {0}
WakesAlike kept (Some woken) (Some number) = kept ≡ Some number
WakesAlike kept None (Some number) = ⊥
WakesAlike kept (Some woken) None = ⊥

-- the phases of a call with so many steps done and of the machine's: a job that runs may be ahead of the machine's,
-- which is taken on only where that shows. `kept` is whom the call was kept to wake
abbrev pub PhasesAlike : (kept : Option ℕ) → (done_by_now done_by_then : ℕ) → CallPhase → CallPhase → Type 0
PhasesAlike kept now then (Runs job) (Runs from) = IsFurther now then job from
PhasesAlike kept now then (Asks job wanted payload) (Asks from asked bytes) =
    (now ≡ then) × (Asks job wanted payload ≡ Asks from asked bytes)
PhasesAlike kept now then (Waits params) (Waits copied) = (now ≡ then) × (params ≡ copied)
PhasesAlike kept now then (Ends result params told wakes) (Ends answer left shown_by wakes_own) =
    (result ≡ answer) × (params ≡ left) × (told ≡ shown_by) × WakesAlike kept wakes wakes_own
PhasesAlike kept now then _ _ = ⊥

-- a session, the instance that it has or had, the numbers of its calls, and the key that the boot brought
pub record Whose : Type 0 where
  pub session : ℕ
  pub instance : ℕ
  pub numbering : Numbering
  pub key : List ℕ

-- the slot has the number
abbrev pub HasNumber : Whose → ℕ → ℕ → Type 0
HasNumber whose slot number = get whose.numbering.in_slots slot ≡ Some number

-- ---- those that are woken

-- the result of a call in this phase was told
abbrev pub WasTold : CallPhase → Type 0
WasTold (Runs job) = ⊥
WasTold (Asks job wanted payload) = ⊥
WasTold (Waits params) = ⊥
WasTold (Ends result params told wakes) = told ≡ true
