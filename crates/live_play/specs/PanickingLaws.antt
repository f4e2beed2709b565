-- That a panic is told where its call ends, with the result of a panic, and that of a call that has ended none is told.
use Rattle.std.specs.Prelude.{◌≡◌, ℕ, List, [], ◌∷◌, Bool, true, false, Option, None, Some, slice_get}
use Rattle.std.specs.Option.{option_and_then}
use Rattle.core_at_work.specs.Panics.{panic_of}
use Rattle.event_journal.specs.declared.event.Event.{Event}
use Rattle.job_model.specs.Job.{of_tee}
use Rattle.kernel_model.specs.Application.{Booted}
use Rattle.kernel_model.specs.Codes.{target_dead}
use Rattle.kernel_model.specs.Exit.{Exited, exit, word32}
use Rattle.kernel_model.specs.History.{after_event}
use Rattle.kernel_model.specs.Kernel.{Active, Asks, CallPhase, Ends, Fixed, Free, InSlot, Inside, Kernel, Outside, PendingCall, Processor, Runs, Suspended, ThreadSlot, Waits}
use Rattle.msg_args.specs.Layout.{origin_at, ret_at}
use Rattle.ns_ram.specs.Writes.{Write}
use Rattle.ta_params.specs.declared.call_result.CallResult.{CallResult}

-- the slot of the call that a processor works on
abbrev pub slot_of : Processor → Option ℕ
slot_of Outside = None
slot_of (Inside regs granted (Fixed answer)) = None
slot_of (Inside regs granted (InSlot slot)) = Some slot

abbrev pub slot_at : Kernel → ℕ → Option ℕ
slot_at kernel cpu = option_and_then slot_of (slice_get kernel.processors cpu)

-- a call has its result
abbrev pub has_result : CallPhase → Bool
has_result (Runs job) = false
has_result (Asks job wanted payload) = false
has_result (Waits params) = false
has_result (Ends result params told wakes) = true

-- a slot holds no call, or one that has its result
abbrev pub has_ended : ThreadSlot → Bool
has_ended Free = true
has_ended (Active worker call) = has_result call.phase
has_ended (Suspended client call) = has_result call.phase

-- what a slot holds, where it has ended
pub record IsEnded (kernel : Kernel) (slot : ℕ) : Type 0 where
  pub held : ThreadSlot
  pub there : slice_get kernel.slots slot ≡ Some held
  pub ended : has_ended held ≡ true

-- ---- what a call ends with

-- the result that a call has
abbrev pub result_in : CallPhase → Option CallResult
result_in (Runs job) = None
result_in (Asks job wanted payload) = None
result_in (Waits params) = None
result_in (Ends result params told wakes) = Some result

-- a call that is left to this client is the one that was carried, of the same client and session and with the same argument,
-- and has this result
pub record IsLeftWith (carried : PendingCall) (given : CallResult) (to : ℕ) (left : PendingCall) : Type 0 where
  pub client : to ≡ carried.client
  pub session : left.session ≡ carried.session
  pub arg : left.arg ≡ carried.arg
  pub result : result_in left.phase ≡ Some given

-- behind an exit that wrote this, a slot holds the call that was carried, with this result; or the result was written to the
-- call's argument, and the slot is free
abbrev pub GivesResult : PendingCall → CallResult → List Write → ThreadSlot → Type 0
GivesResult carried result writes Free =
    writes ≡ word32 (ret_at carried.arg) result.result ∷ word32 (origin_at carried.arg) result.origin ∷ []
GivesResult carried result writes (Active worker call) = ⊥
GivesResult carried result writes (Suspended client left) = IsLeftWith carried result client left

-- TEE_ERROR_TARGET_DEAD, of the TEE
abbrev pub result_of_panic : CallResult
result_of_panic = of_tee target_dead

-- by this exit the call of a slot has come to this result
pub record ComesTo (kernel : Kernel) (slot : ℕ) (result : CallResult) (exited : Exited) : Type 0 where
  pub worker : ℕ
  pub call : PendingCall
  pub was : slice_get kernel.slots slot ≡ Some (Active worker call)
  pub held : ThreadSlot
  pub there : slice_get exited.kernel.slots slot ≡ Some held
  pub gives : GivesResult call result exited.writes held

pub record PanicsEndCalls : Type 0 where
  -- behind the exit at which a panic is told, its call has ended
  pub ends : (kernel : Kernel) (cpu code : ℕ) (exited : Exited) → panic_of kernel cpu ≡ Some code → exit kernel cpu ≡ Some exited →
      (slot : ℕ) × (slot_at kernel cpu ≡ Some slot) × IsEnded exited.kernel slot
  -- with the result of a panic
  pub result : (kernel : Kernel) (cpu code : ℕ) (exited : Exited) → panic_of kernel cpu ≡ Some code → exit kernel cpu ≡ Some exited →
      (slot : ℕ) × (slot_at kernel cpu ≡ Some slot) × ComesTo kernel slot result_of_panic exited
  -- and of one that has, none is told, as where a buffer is asked back behind it
  pub told_no_more : (kernel : Kernel) (cpu slot : ℕ) → slot_at kernel cpu ≡ Some slot → IsEnded kernel slot →
      panic_of kernel cpu ≡ None

-- whatever comes next, a call that has ended has ended still, until it leaves its slot: so each panic is told once
abbrev pub EndedCallsStay : Type 0
EndedCallsStay = (boot : Booted) (kernel next : Kernel) (event : Event) (slot : ℕ) → after_event boot kernel event ≡ Some next →
    (ended : IsEnded kernel slot) → (ended.held ≡ Free → ⊥) → IsEnded next slot
