-- The panic in which granted steps end: which code it has shows in no register of an exit. This project's own.
use Rattle.std.specs.Prelude.{ℕ, Option, Some, None, slice_get}
use Rattle.std.specs.Option.{option_and_then}
use Rattle.job_model.specs.Steps.{Grant, Left, Stopped, grant_of}
use Rattle.job_model.specs.Steps as steps
use Rattle.kernel_model.specs.Kernel.{Active, Asks, CallPhase, Ends, Fixed, Free, InSlot, Inside, Kernel, Outside}
use Rattle.kernel_model.specs.Kernel.{Processor, Runs, Suspended, ThreadSlot, Waits}
use Rattle.rpc_cont.specs.declared.stop.ContStop.{ContStop}
use Rattle.rpc_cont.specs.declared.stop.ContStop.TheVariants as stop

-- of a grant
abbrev pub grant_panic : Grant → Option ℕ
grant_panic (Left job) = None
grant_panic (Stopped used (steps.Ends end)) = None
grant_panic (Stopped used (steps.Panics code)) = Some code
grant_panic (Stopped used (steps.Asks wanted payload left)) = None

-- of a call that is granted so many steps, by how far it has come
abbrev pub phase_panic : ℕ → CallPhase → Option ℕ
phase_panic granted (Runs job) = option_and_then grant_panic (grant_of granted job)
phase_panic granted (Asks job wanted payload) = None
phase_panic granted (Waits params) = None
phase_panic granted (Ends result params told wakes) = None

-- of the call that a slot holds
abbrev pub slot_panic : ℕ → ThreadSlot → Option ℕ
slot_panic granted Free = None
slot_panic granted (Active worker call) = phase_panic granted call.phase
slot_panic granted (Suspended client call) = None

-- of the call of a processor in this state
abbrev pub state_panic : Kernel → Processor → Option ℕ
state_panic kernel Outside = None
state_panic kernel (Inside regs granted (Fixed answer)) = None
state_panic kernel (Inside regs granted (InSlot slot)) = option_and_then (slot_panic granted) (slice_get kernel.slots slot)

-- the code of the panic in which the call that a processor works on ends within its granted steps, if it does
abbrev pub panic_of : Kernel → ℕ → Option ℕ
panic_of kernel cpu = option_and_then (state_panic kernel) (slice_get kernel.processors cpu)

-- of a call as data that has stopped so, or has not run
abbrev pub stop_panic : Option ContStop → Option ℕ
stop_panic None = None
stop_panic (Some stop.Interrupted) = None
stop_panic (Some stop.Asks) = None
stop_panic (Some (stop.Ended result)) = None
stop_panic (Some (stop.Panicked code)) = Some code
