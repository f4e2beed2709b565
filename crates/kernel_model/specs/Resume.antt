-- A resume, OPTEE_SMC_CALL_RETURN_FROM_RPC: it goes on with the call that its slot was left with, whichever that is.
use Rattle.std.specs.Prelude.{ℕ, ◌==◌, ◌&&◌, not, Bool, true, false, if◌then◌else◌, List, [], ◌∷◌, Option, Some, None}
use Rattle.std.specs.Prelude.{slice_get}
use Rattle.std.specs.Option.{option_map_or, option_and_then}
use Rattle.base.specs.NumberMap.{get}
use Rattle.job_model.specs.declared.call_kind.CallKind.{CallKind}
use Rattle.job_model.specs.declared.call_kind.CallKind.TheVariants as kind
use Rattle.job_model.specs.Job.{Job, with_cancel_seen, of_tee}
use Rattle.job_model.specs.declared.entry_point.EntryPoint.TheVariants.{Invoke}
use Rattle.job_model.specs.Point.{no_params}
use Rattle.job_model.specs.Steps.{Advance, Goes, Stops, advance_on_answer}
use Rattle.job_model.specs.Steps as steps
use Rattle.ns_ram.specs.declared.read.Read.{Read}
use Rattle.ns_ram.specs.Reader.{Reader, done, reading, ◌>>=◌}
use Rattle.rpc_msgs.specs.Answer.{RpcAnswer}
use Rattle.rpc_msgs.specs.Answer as rpc_answer
use Rattle.session_table.specs.declared.session.Session.{Session}
use Rattle.session_table.specs.Waiters.{without}
use Rattle.ta_params.specs.declared.copied_params.CopiedParams.{CopiedParams}
use Rattle.kernel_model.specs.Application.{Application, Booted}
use Rattle.kernel_model.specs.Argument.{client_in, thread_in}
use Rattle.kernel_model.specs.Begin.{Beginner, Begun, Opener, has_pages_for, opens_kept, opens_new, begins_on}
use Rattle.kernel_model.specs.Begin.{closing_points}
use Rattle.kernel_model.specs.Codes.{eresume, bad_parameters, out_of_memory, target_dead}
use Rattle.kernel_model.specs.Decision.{Decision, Answers, Takes, works_on}
use Rattle.kernel_model.specs.Given.{Given, Nothing, Buffer, NoBuffer, Reply, call_given, given_to}
use Rattle.kernel_model.specs.Instances.{app_of, is_held}
use Rattle.kernel_model.specs.Kernel.{CallPhase, Runs, Asks, Waits, Ends, PendingCall, Progress, ThreadSlot, Free}
use Rattle.kernel_model.specs.Kernel.{Active, Suspended, Instance, Kernel, Tables}

-- a call that its client resumes: what it is given, and the call, which by then has a buffer that it was given and has
-- seen whether it was cancelled
pub record Resumed : Type 0 where
  pub boot : Booted
  pub tables : Tables
  pub slot : ℕ
  pub given : Given
  pub call : PendingCall

-- the call in another phase, with the same tables
abbrev pub goes_on : Resumed → CallPhase → Progress
goes_on r phase = record { call = record r.call { phase = phase }; tables = r.tables }

-- ---- a call whose application has asked for something

-- the phase behind an answer: its application runs, or asks for something else
abbrev pub phase_after : CallPhase → Advance → CallPhase
phase_after before (Goes job) = Runs job
phase_after before (Stops (steps.Asks wanted payload left)) = Asks left wanted payload
phase_after before (Stops (steps.Ends end)) = before
phase_after before (Stops (steps.Panics code)) = before

-- an answer, which a job that has asked always takes (`AnswersAreTaken` of `job_model`); else the phase would stay
abbrev pub phase_on_answer : CallPhase → Job → RpcAnswer → CallPhase
phase_on_answer before job answer = option_map_or (phase_after before) (advance_on_answer answer job) before

-- the job that has asked goes on with its reply, or without a buffer; with a buffer it will ask in that
abbrev pub phase_when_given : CallPhase → Job → Given → CallPhase
phase_when_given before job Nothing = before
phase_when_given before job (Buffer buffer) = before
phase_when_given before job NoBuffer = phase_on_answer before job rpc_answer.NoBuffer
phase_when_given before job (Reply reply) = phase_on_answer before job (rpc_answer.Replied reply)

-- ---- a call that waits for its instance

-- it leaves those that wait
abbrev pub without_waiter : Tables → ℕ → Tables
without_waiter tables slot = record tables { waiters = without tables.waiters slot }

-- it has this result, which no application returned
abbrev pub ends_with : Resumed → ℕ → Progress
ends_with r code = record {
  call = record r.call { phase = Ends (of_tee code) no_params false None };
  tables = without_waiter r.tables r.slot;
}

-- it has begun
abbrev pub begins : Resumed → Begun → Progress
begins r begun =
    record { call = record r.call { phase = Runs begun.job }; tables = without_waiter begun.tables r.slot }

abbrev pub who_resumes : Resumed → Beginner
who_resumes r = record { boot = r.boot; tables = r.tables; slot = r.slot; seen = r.call.seen }

-- an open, on its instance or, where that is gone, on a new one of the same number
abbrev pub begins_open : Resumed → Opener → Option Instance → Progress
begins_open r opener (Some instance) = begins r (opens_kept (who_resumes r) opener (r.call.instance, instance))
begins_open r opener None =
    if has_pages_for r.boot r.tables opener.app
    then begins r (opens_new (who_resumes r) opener r.call.instance r.tables.next_instance)
    else ends_with r out_of_memory

-- the application that the call is of
abbrev pub app_of_call : Resumed → Option Application
app_of_call r = option_and_then (app_of r.boot) r.call.uuid

-- what it begins, by its kind. A call of a session whose instance is gone has lost its session with it
abbrev pub begins_in : Resumed → CopiedParams → Session → CallKind → Option Instance → Progress
begins_in r params session kind.Open found =
    let on_app = λ (app : Application).
    begins_open r (record { app = app; login = session.login; params = params }) found in
    option_map_or on_app (app_of_call r) (ends_with r bad_parameters)
begins_in r params session (kind.Invoke func) (Some instance) =
    begins r (begins_on (who_resumes r) session instance params (Invoke func ∷ []))
begins_in r params session kind.Close (Some instance) =
    let who = who_resumes r in
    begins r (begins_on who session instance params (closing_points who r.call.session session instance))
begins_in r params session _ _ = ends_with r bad_parameters

-- the call is a close
abbrev pub is_close : CallKind → Bool
is_close kind.Close = true
is_close _ = false

-- it wanted a buffer and was given none
abbrev pub is_without_buffer : Given → Bool
is_without_buffer NoBuffer = true
is_without_buffer _ = false

-- another call holds its instance: it sleeps on, where it has a buffer or an area to ask for that
abbrev pub sleeps_on : Resumed → CopiedParams → Progress
sleeps_on r params = if is_without_buffer r.given then ends_with r out_of_memory else goes_on r (Waits params)

-- the tests of a call that has waited, behind that of its session: a dead instance, and a held one
abbrev pub tested_again : Resumed → CopiedParams → Session → Option Instance → Progress
tested_again r params session found =
    let is_dead = option_map_or (λ (instance : Instance). instance.dead) found false in
    if is_dead && not (is_close r.call.kind) then ends_with r target_dead
    else if option_map_or is_held found false then sleeps_on r params
    else begins_in r params session r.call.kind found

-- it is tested again; its session may be gone
abbrev pub resumes_waiting : Resumed → CopiedParams → Progress
resumes_waiting r params =
    let on_session = λ (session : Session). tested_again r params session (get r.tables.instances r.call.instance) in
    option_map_or on_session (get r.tables.sessions r.call.session) (ends_with r bad_parameters)

-- ---- a call that has a result

-- whom it still wakes: nobody once its request was answered, or where it was given no buffer for it
abbrev pub still_wakes : Given → Option ℕ → Option ℕ
still_wakes Nothing wakes = wakes
still_wakes (Buffer buffer) wakes = wakes
still_wakes NoBuffer wakes = None
still_wakes (Reply reply) wakes = None

-- ---- the call

-- by the phase in which it was left
abbrev pub onward_in : Resumed → CallPhase → Progress
onward_in r (Runs job) = goes_on r (Runs job)
onward_in r (Asks job wanted payload) = goes_on r (phase_when_given (Asks job wanted payload) job r.given)
onward_in r (Waits params) = resumes_waiting r params
onward_in r (Ends result params told wakes) = goes_on r (Ends result params told (still_wakes r.given wakes))

-- what it comes to
abbrev pub onward_of : Resumed → Progress
onward_of r = onward_in r r.call.phase

-- the phase of a call that sees that it was cancelled
abbrev pub phase_seen : CallPhase → CallPhase
phase_seen (Runs job) = Runs (with_cancel_seen job)
phase_seen (Asks job wanted payload) = Asks (with_cancel_seen job) wanted payload
phase_seen (Waits params) = Waits params
phase_seen (Ends result params told wakes) = Ends result params told wakes

-- a call that was cancelled sees it
abbrev pub sees : PendingCall → PendingCall
sees call = if call.marked then record call { seen = true; phase = phase_seen call.phase } else call

-- the call of a slot that is given this
abbrev pub resumed_call : Booted → Tables → ℕ → PendingCall → Given → Resumed
resumed_call boot tables slot call given =
    record { boot = boot; tables = tables; slot = slot; given = given; call = call_given given (sees call) }

-- what a resume with these registers makes of the call that its slot was left with
abbrev pub resume_call : Booted → Tables → List ℕ → PendingCall → Reader Progress
resume_call boot tables regs call =
    let slot = thread_in regs in
    given_to regs slot call >>= (λ given. done (onward_of (resumed_call boot tables slot call given)))

-- the same, where it has just these reads
abbrev pub after_resume : Booted → Tables → List ℕ → PendingCall → List Read → Option Progress
after_resume boot tables regs call reads = reading (resume_call boot tables regs call) reads

-- the call that is suspended in a slot for this client, if one is
abbrev pub suspended_for : ℕ → Option ThreadSlot → Option PendingCall
suspended_for client None = None
suspended_for client (Some Free) = None
suspended_for client (Some (Active cpu call)) = None
suspended_for client (Some (Suspended owner call)) = if owner == client then Some call else None

-- the call that a resume with these registers is for: there has to be such a slot, its call has to be suspended, and
-- it has to be the client's
abbrev pub call_resumed_by : List ThreadSlot → List ℕ → Option PendingCall
call_resumed_by slots regs = suspended_for (client_in regs) (slice_get slots (thread_in regs))

-- its slot works on what it comes to
abbrev pub takes_call : Booted → Tables → List ℕ → PendingCall → Reader Decision
takes_call boot tables regs call =
    resume_call boot tables regs call >>= (λ progress. done (Takes (thread_in regs) (works_on progress)))

-- a resume with these registers
abbrev pub resume : Booted → Kernel → List ℕ → Reader Decision
resume boot kernel regs =
    option_map_or (takes_call boot kernel.tables regs) (call_resumed_by kernel.slots regs) (done (Answers eresume))
