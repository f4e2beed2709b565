-- Those that wait, in every kernel that a legal history comes to. This project's own.
use Rattle.std.specs.Prelude.{◌≡◌, ℕ, true, List, Option, Some, None, IsSome, All, AllPairs}
use Rattle.session_table.specs.declared.waiters.Waiter.{Waiter}
use Rattle.session_table.specs.Waiters.{waits}
use Rattle.kernel_model.specs.Kernel.{CallPhase, Runs, Asks, Waits, Ends, PendingCall}
use Rattle.kernel_model.specs.Sound.{Calls}

-- what a call waits for, if it does: an instance of this number, and the application of this UUID
abbrev pub Awaited : Type 0
Awaited = ℕ × Option (List ℕ)

-- a call in this phase
abbrev pub awaited_in : CallPhase → Awaited → Option Awaited
awaited_in (Runs job) wanted = None
awaited_in (Asks job rpc payload) wanted = None
awaited_in (Waits params) wanted = Some wanted
awaited_in (Ends result params told wakes) wanted = None

-- the call of a slot, if there is one
abbrev pub awaited : Option PendingCall → Option Awaited
awaited None = None
awaited (Some call) = awaited_in call.phase (call.instance, call.uuid)

-- the call of the waiter's slot waits for just that
abbrev pub IsWaiter : Calls → Waiter → Type 0
IsWaiter calls waiter = awaited (calls waiter.slot) ≡ Some (waiter.instance, Some waiter.uuid)

-- the waiters are the calls that wait, each once
pub record AreWaiters (calls : Calls) (waiters : List Waiter) : Type 0 where
  pub each : All (IsWaiter calls) waiters
  pub apart : AllPairs (λ (earlier : Waiter) (later : Waiter). earlier.slot ≡ later.slot → ⊥) waiters
  pub all : (slot : ℕ) → IsSome (awaited (calls slot)) → waits waiters slot ≡ true
