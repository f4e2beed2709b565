-- An exit: what a processor goes out with, what is written, and what the kernel is after it. It depends on the
-- kernel alone, and has two halves: what the call comes to, and then, from that call alone, what is told of it. By
-- optee_smc.h and optee_msg.h.
use Rattle.std.specs.Prelude.{ℕ, ◌+◌, ◌==◌, Bool, true, false, if◌then◌else◌, List, [], ◌∷◌, ◌++◌, Option, Some, None}
use Rattle.std.specs.Prelude.{slice_get, slice_set}
use Rattle.std.specs.Int.{w32, to_le_bytes}
use Rattle.std.specs.Option.{option_map, option_map_or, option_and_then}
use Rattle.base.specs.NumberMap.{NumberMap, get}
use Rattle.job_model.specs.declared.call_kind.CallKind.{CallKind}
use Rattle.job_model.specs.declared.call_kind.CallKind.TheVariants.{Open, Invoke, Close, Settled}
use Rattle.job_model.specs.Job.{of_tee}
use Rattle.job_model.specs.Point.{no_params}
use Rattle.job_model.specs.Steps.{JobStop, End, Grant, Left, Stopped, grant_of}
use Rattle.job_model.specs.Steps as steps
use Rattle.msg_args.specs.Layout.{session_at, ret_at, origin_at}
use Rattle.ns_ram.specs.Writes.{Write}
use Rattle.param_copy.specs.WritingBack.{writes_back}
use Rattle.rpc_msgs.specs.Place.{cookie_told, writes_at}
use Rattle.session_table.specs.declared.session.Session.{Session}
use Rattle.session_table.specs.Waiters.{first_of}
use Rattle.shm_registry.specs.Registered.{without_slot}
use Rattle.smc_abi.specs.Answer.{registers_of}
use Rattle.smc_abi.specs.declared.answer.Answer.{Answer}
use Rattle.smc_abi.specs.declared.answer.Answer.TheVariants.{Alloc, Cmd, Interrupt}
use Rattle.smc_abi.specs.declared.answer.Answer.TheVariants as answer
use Rattle.ta_params.specs.declared.call_result.CallResult.{CallResult}
use Rattle.ta_params.specs.declared.copied_params.CopiedParams.{CopiedParams}
use Rattle.kernel_model.specs.Codes.{ok, success, target_dead}
use Rattle.kernel_model.specs.Instances.{given_back, instances_after, is_held, killed}
use Rattle.kernel_model.specs.Kernel.{CallPhase, Runs, Asks, Waits, Ends, PendingCall, Progress, ThreadSlot, Free}
use Rattle.kernel_model.specs.Kernel.{Active, Suspended, Instance, Errand, Fixed, InSlot, Processor, Outside, Inside}
use Rattle.kernel_model.specs.Kernel.{Kernel, Tables, Visit, without_visitor}
use Rattle.kernel_model.specs.Leaving.{Leaving, Interrupted, WantsBuffer, Requests, FreesBuffer, Finishes, leaving_of}
use Rattle.kernel_model.specs.Sessions.{sessions_after, sessions_after_panic, sessions_unrun}

-- ---- what the end of a job makes of sessions and instances

-- these are the sessions, and the call gives its instance back, changed so
abbrev pub gives_back : Tables → PendingCall → NumberMap Session → Bool → (Instance → Instance) → Tables
gives_back tables call sessions is_last change =
    let back = λ (instance : Instance).
    instances_after sessions tables.instances call.instance is_last (change instance) in
    record tables {
      sessions = sessions;
      instances = option_map_or back (get tables.instances call.instance) tables.instances;
    }

-- after the job has ended
abbrev pub tables_after_end : Tables → PendingCall → End → Tables
tables_after_end tables call end =
    let sessions = sessions_after call.kind tables.sessions call.session end.result.result end.context in
    gives_back tables call sessions end.is_last (given_back end.memory end.objects)

-- after it has panicked, in any entry point: the instance is dead
abbrev pub tables_after_panic : Tables → PendingCall → Tables
tables_after_panic tables call =
    gives_back tables call (sessions_after_panic call.kind tables.sessions call.session) false killed

-- after it has ended without having run
abbrev pub tables_unrun : Tables → PendingCall → Tables
tables_unrun tables call = record tables { sessions = sessions_unrun call.kind tables.sessions call.session }

-- whom the call wakes: the first that waits for its instance, where no call holds that. A call that was settled at its
-- entry has no instance
abbrev pub woken_by : Tables → PendingCall → CallKind → Option ℕ
woken_by tables call Settled = None
woken_by tables call _ =
    if option_map_or is_held (get tables.instances call.instance) false
    then None
    else first_of tables.waiters call.instance

-- ---- the first half: what the call comes to

-- so many more steps are done
abbrev pub further : PendingCall → ℕ → PendingCall
further call used = record call { steps = call.steps + used }

-- it has this result, which is told from now on; whom it wakes is fixed now
abbrev pub shows_result : Tables → PendingCall → CallResult → CopiedParams → Progress
shows_result tables call result params = record {
  call = record call { phase = Ends result params true (woken_by tables call call.kind) };
  tables = tables;
}

-- its job has stopped
abbrev pub after_stop : Tables → PendingCall → JobStop → Progress
after_stop tables call (steps.Ends end) = shows_result (tables_after_end tables call end) call end.result end.params
after_stop tables call (steps.Panics code) =
    shows_result (tables_after_panic tables call) call (of_tee target_dead) no_params
after_stop tables call (steps.Asks wanted payload left) =
    record { call = record call { phase = Asks left wanted payload }; tables = tables }

-- by what its granted steps came to
abbrev pub after_grant : Tables → PendingCall → ℕ → Grant → Progress
after_grant tables call steps_granted (Left job) =
    record { call = record (further call steps_granted) { phase = Runs job }; tables = tables }
after_grant tables call steps_granted (Stopped used why) = after_stop tables (further call used) why

-- as it is
abbrev pub stays : Tables → PendingCall → Option Progress
stays tables call = Some (record { call = call; tables = tables })

-- by its phase, with so many steps granted
abbrev pub progress_in : Tables → PendingCall → ℕ → CallPhase → Option Progress
progress_in tables call steps_granted (Runs job) =
    option_map (after_grant tables call steps_granted) (grant_of steps_granted job)
progress_in tables call steps_granted (Asks job wanted payload) = stays tables call
progress_in tables call steps_granted (Waits params) = stays tables call
progress_in tables call steps_granted (Ends result params false wakes) =
    Some (shows_result (tables_unrun tables call) call result params)
progress_in tables call steps_granted (Ends result params true wakes) = stays tables call

abbrev pub progress_of : Tables → PendingCall → ℕ → Option Progress
progress_of tables call steps_granted = progress_in tables call steps_granted call.phase

-- of the call that a slot holds, where a processor works on it
abbrev pub progress_held : Tables → ℕ → ThreadSlot → Option Progress
progress_held tables steps_granted Free = None
progress_held tables steps_granted (Active worker call) = progress_of tables call steps_granted
progress_held tables steps_granted (Suspended client call) = None

-- of the call in the slot of this number
abbrev pub progress_in_slot : Kernel → ℕ → ℕ → Option Progress
progress_in_slot kernel steps_granted slot =
    option_and_then (progress_held kernel.tables steps_granted) (slice_get kernel.slots slot)

-- ---- the second half: what is told of it

-- the answer
abbrev pub answer_of : ℕ → Leaving → Answer
answer_of slot Interrupted = Interrupt slot
answer_of slot WantsBuffer = Alloc 4096 slot
answer_of slot (Requests place request) = Cmd (cookie_told place) slot
answer_of slot (FreesBuffer buffer) = answer.Free buffer.cookie slot
answer_of slot (Finishes result params) = ok

-- four bytes to an address, the lowest first
abbrev pub word32 : ℕ → ℕ → Write
word32 addr number = record { addr = addr; bytes = to_le_bytes w32 number }

-- the parameters go back only where the application returned the result
abbrev pub output_writes : PendingCall → CallResult → CopiedParams → List Write
output_writes call result params = if result.origin == 4 then writes_back call.arg call.places params else []

-- an open that succeeds tells the number of its session
abbrev pub session_writes : PendingCall → CallKind → CallResult → List Write
session_writes call Open result =
    if result.result == success then word32 (session_at call.arg) call.session ∷ [] else []
session_writes call (Invoke func) result = []
session_writes call Close result = []
session_writes call Settled result = []

-- the outputs, the session's number, and then the result and its origin
abbrev pub result_writes : PendingCall → CallResult → CopiedParams → List Write
result_writes call result params =
    output_writes call result params ++ session_writes call call.kind result
    ++ word32 (ret_at call.arg) result.result ∷ word32 (origin_at call.arg) result.origin ∷ []

-- what is written, in this order, each over those before it
abbrev pub writes_of : PendingCall → Leaving → List Write
writes_of call Interrupted = []
writes_of call WantsBuffer = []
writes_of call (Requests place request) = writes_at place request.wanted request.payload
writes_of call (FreesBuffer buffer) = []
writes_of call (Finishes result params) = result_writes call result params

-- what its slot is left with: the call, suspended for its client, until it has finished
abbrev pub slot_left : PendingCall → Leaving → ThreadSlot
slot_left call Interrupted = Suspended call.client call
slot_left call WantsBuffer = Suspended call.client call
slot_left call (Requests place request) = Suspended call.client call
slot_left call (FreesBuffer buffer) = Suspended call.client (record call { buffer = None })
slot_left call (Finishes result params) = Free

-- a slot that was left free has no pins
abbrev pub tables_left : Tables → ℕ → ThreadSlot → Tables
tables_left tables slot Free =
    record tables { registered = record tables.registered { pins = without_slot tables.registered.pins slot } }
tables_left tables slot _ = tables

-- ---- the exit

-- what an exit comes to
pub record Exited : Type 0 where
  pub kernel : Kernel
  pub regs : List ℕ
  -- in their order, each over those before it
  pub writes : List Write

-- a processor goes out with this answer
abbrev pub goes_out : Kernel → Visit → Answer → List Write → Exited
goes_out kernel visit told writes =
    record { kernel = without_visitor kernel visit; regs = registers_of told visit.regs; writes = writes }

-- the kernel with what a call has come to in a slot that it leaves so
abbrev pub kernel_left : Kernel → ℕ → Progress → Leaving → Kernel
kernel_left kernel slot progress leaving =
    let held = slot_left progress.call leaving in
    record kernel { slots = slice_set kernel.slots slot held; tables = tables_left progress.tables slot held }

-- it goes out from what the call of a slot has come to
abbrev pub goes_out_from : Kernel → Visit → ℕ → Progress → Exited
goes_out_from kernel visit slot progress =
    let leaving = leaving_of slot progress.call in
    goes_out (kernel_left kernel slot progress leaving) visit (answer_of slot leaving) (writes_of progress.call leaving)

-- by what it came in for
abbrev pub exit_with : Kernel → Visit → Errand → Option Exited
exit_with kernel visit (Fixed told) = Some (goes_out kernel visit told [])
exit_with kernel visit (InSlot slot) =
    option_map (goes_out_from kernel visit slot) (progress_in_slot kernel visit.steps slot)

-- of a processor in this state: one that is outside has no exit
abbrev pub exit_of : Kernel → ℕ → Processor → Option Exited
exit_of kernel cpu Outside = None
exit_of kernel cpu (Inside regs steps_granted errand) =
    exit_with kernel (record { cpu = cpu; regs = regs; steps = steps_granted }) errand

-- the exit of a processor, where it is inside
abbrev pub exit : Kernel → ℕ → Option Exited
exit kernel cpu = option_and_then (exit_of kernel cpu) (slice_get kernel.processors cpu)
