-- The machine of one session: what an application does when nobody else is there. It is made from the application
-- and the boot's key alone, has one session, one instance and no limits, and is fed with the session's own events. This
-- project's own.
use Rattle.std.specs.Prelude.{ℕ, ◌+◌, ◌-◌, ◌==◌, ◌&&◌, ◌||◌, not, Bool, true, false, List, [], ◌∷◌, ◌++◌, Option, Some}
use Rattle.std.specs.Prelude.{None, slice_get, filter, if◌then◌else◌}
use Rattle.std.specs.Option.{option_map, option_map_or, option_and_then}
use Rattle.base.specs.NumberMap.{NumberMap, get, insert, remove}
use Rattle.job_model.specs.Beginning.{begun_job}
use Rattle.job_model.specs.declared.call_kind.CallKind.{CallKind}
use Rattle.job_model.specs.declared.call_kind.CallKind.TheVariants as kind
use Rattle.job_model.specs.declared.entry_point.EntryPoint.{EntryPoint}
use Rattle.job_model.specs.declared.entry_point.EntryPoint.TheVariants as point
use Rattle.job_model.specs.Job.{Job, idle_job, of_tee}
use Rattle.job_model.specs.Point.{no_params}
use Rattle.job_model.specs.Steps.{End, JobStop, Grant, Left, Stopped, after, grant_of}
use Rattle.job_model.specs.Steps as steps
use Rattle.job_model.specs.Owner.{owner_of}
use Rattle.rpc_msgs.specs.Answer as answer
use Rattle.rpc_msgs.specs.Place.{is_placed}
use Rattle.rpc_msgs.specs.declared.rpc.Rpc.{Rpc}
use Rattle.rpc_msgs.specs.declared.rpc.Rpc.TheVariants as rpc
use Rattle.ta_params.specs.declared.call_result.CallResult.{CallResult}
use Rattle.ta_params.specs.declared.copied_params.CopiedParams.{CopiedParams}
use Rattle.ta_params.specs.declared.login.Login.{Login}
use Rattle.kernel_model.specs.Application.{Application, uuid_of, pages_in, program_of}
use Rattle.kernel_model.specs.Codes.{success, bad_parameters, out_of_memory, target_dead}
use Rattle.kernel_model.specs.Instances.{fresh_memory, held_by, given_back, killed, is_held}
use Rattle.kernel_model.specs.Kernel.{CallPhase, Runs, Asks, Waits, Ends, Instance}
use Rattle.kernel_model.specs.Resume.{is_close, phase_seen, phase_on_answer}
use Rattle.own_model.specs.declared.own_event.BackInput.{BackInput}
use Rattle.own_model.specs.declared.own_event.BackInput.TheVariants.{Nothing, Buffer, NoBuffer, Reply}
use Rattle.own_model.specs.declared.own_event.OwnEvent.{OwnEvent}
use Rattle.own_model.specs.declared.own_event.OwnEvent.TheVariants.{Open, Invoke, Close, Cancel, Seen, Back, Out}
use Rattle.own_model.specs.declared.own_event.OwnEvent.TheVariants.{Limited}
use Rattle.own_model.specs.declared.own_event.OwnInput.{OwnInput}
use Rattle.own_model.specs.declared.own_event.OwnInput.TheVariants.{Copied, Faulty, Unread}
use Rattle.own_model.specs.declared.own_reply.OwnReply.{OwnReply}
use Rattle.own_model.specs.declared.own_reply.OwnReply.TheVariants as reply
use Rattle.own_model.specs.Own.{ended}

-- ---- the machine

-- the session, while it is being opened and while it is opened
pub record OwnSession : Type 0 where
  pub login : Login
  -- the word that the application keeps with it
  pub context : ℕ
  pub opened : Bool

-- a call that hasn't gone out ended
pub record OwnCall : Type 0 where
  pub kind : CallKind
  -- it has seen that it was cancelled
  pub seen : Bool
  -- the steps that its application has done
  pub steps : ℕ
  -- it has an area, and a buffer, for its requests
  pub area : Bool
  pub buffer : Bool
  -- how far it has come; whom it wakes is the number of a call
  pub phase : CallPhase

pub record Solo : Type 0 where
  -- none before its open has come in, and none once it is gone
  pub session : Option OwnSession
  -- its holder is the number of a call
  pub instance : Option Instance
  -- the calls that wait for the instance, in the order in which they began to
  pub waiting : List ℕ
  -- the calls by their numbers
  pub calls : NumberMap OwnCall
  -- how many have come in: the number of the next one
  pub entered : ℕ
  -- the key of the tags of object files, which the boot brings
  pub key : List ℕ

-- before its open comes in, made with this key
abbrev pub unopened : List ℕ → Solo
unopened key = record { session = None; instance = None; waiting = []; calls = []; entered = 0; key = key }

-- what it does at an event: the machine then, and its reply, if it has one
abbrev pub Answered : Type 0
Answered = Solo × Option OwnReply

abbrev pub silent : Solo → Answered
silent z = (z, None)

-- ---- a call that begins on the instance

-- the session and the instance that it finds, its parameters, and whether it has seen that it was cancelled
pub record Start : Type 0 where
  pub session : OwnSession
  pub instance : Instance
  pub params : CopiedParams
  pub seen : Bool
  -- the key of the tags of object files, which the machine was made with
  pub key : List ℕ

-- the entry points of a call: of an open, destroy is for where it fails
abbrev pub points_of : CallKind → List EntryPoint
points_of kind.Open = point.Create ∷ point.Open ∷ point.Destroy ∷ []
points_of (kind.Invoke func) = point.Invoke func ∷ []
points_of kind.Close = point.Close ∷ point.Destroy ∷ []
points_of kind.Settled = []

-- its job: of a dead instance nothing runs
abbrev pub job_of : Application → CallKind → Start → Job
job_of app call_kind start =
    let program = if start.instance.dead then None else Some (program_of app) in
    let idle = idle_job (owner_of (uuid_of app) start.key) start.session.login start.session.context start.instance.objects start.params in
    begun_job (record { program = program; memory = start.instance.memory; seen = start.seen }) idle
    (points_of call_kind)

-- the call of this number holds the instance and runs
abbrev pub begins : Application → Solo → ℕ → OwnCall → Start → Solo
begins app z number call start = record z {
  instance = Some (held_by number start.instance);
  calls = insert z.calls number (record call { phase = Runs (job_of app call.kind start) });
}

-- ---- calls that come in

abbrev pub fresh_call : CallKind → Bool → CallPhase → OwnCall
fresh_call call_kind area phase =
    record { kind = call_kind; seen = false; steps = 0; area = area; buffer = false; phase = phase }

-- the machine after a call has got the next number
abbrev pub counted : Solo → Solo
counted z = record z { entered = z.entered + 1 }

-- a call comes in and has this result at once, which no application returned
abbrev pub settles : Solo → Bool → ℕ → Solo
settles z area code =
    let call = fresh_call kind.Settled area (Ends (of_tee code) no_params false None) in
    record (counted z) { calls = insert z.calls z.entered call }

-- one comes in and waits, behind those that wait already
abbrev pub waits : Solo → CallKind → Bool → CopiedParams → Solo
waits z call_kind area params = record (counted z) {
  waiting = z.waiting ++ z.entered ∷ [];
  calls = insert z.calls z.entered (fresh_call call_kind area (Waits params));
}

-- one comes in on an instance: it waits where another holds that, and else begins
abbrev pub works_or_waits : Application → Solo → CallKind → Bool → Start → Solo
works_or_waits app z call_kind area start =
    if is_held start.instance
    then waits z call_kind area start.params
    else begins app (counted z) z.entered (fresh_call call_kind area (Waits start.params)) start

-- the session with its instance, where both are there
abbrev pub home : Solo → Option (OwnSession × Instance)
home z = option_and_then (λ session. option_map (λ instance. (session, instance)) z.instance) z.session

-- what a call of them begins with that has seen no cancellation
abbrev pub start_with : Solo → OwnSession × Instance → CopiedParams → Start
start_with z at params = record { session = at.0; instance = at.1; params = params; seen = false; key = z.key }

-- the instance as it is made, with a memory of zeros
abbrev pub made : Application → Instance
made app =
    record { uuid = uuid_of app; dead = false; holder = None; memory = fresh_memory (pages_in app); objects = [] }

-- the open makes session and instance, and begins
abbrev pub opens : Application → Solo → CopiedParams → Login → Bool → Solo
opens app z params login area =
    let session : OwnSession = record { login = login; context = 0; opened = false } in
    works_or_waits app (record z { session = Some session }) kind.Open area
    (start_with z (session, made app) params)

-- it comes once, before all other calls
abbrev pub opens_first : Application → Solo → CopiedParams → Login → Bool → Option Solo
opens_first app z params login area = if z.entered == 0 then Some (opens app z params login area) else None

-- an invoke: of a dead instance it has a result at once; else with faulty parameters; else it begins or waits
abbrev pub invokes_with : Application → Solo → ℕ → OwnInput → Bool → OwnSession × Instance → Option Solo
invokes_with app z func (Copied params) area at =
    Some (works_or_waits app z (kind.Invoke func) area (start_with z at params))
invokes_with app z func Faulty area at = Some (settles z area bad_parameters)
invokes_with app z func Unread area at = None

abbrev pub invokes : Application → Solo → ℕ → OwnInput → Bool → OwnSession × Instance → Option Solo
invokes app z func input area at =
    if at.1.dead then Some (settles z area target_dead) else invokes_with app z func input area at

-- a close begins or waits, also where the instance is dead
abbrev pub closes : Application → Solo → Bool → OwnSession × Instance → Solo
closes app z area at = works_or_waits app z kind.Close area (start_with z at no_params)

-- ---- calls that come back

-- the call of this number is this
abbrev pub with_call : Solo → ℕ → OwnCall → Solo
with_call z number call = record z { calls = insert z.calls number call }

-- a call sees after so many steps that it was cancelled
abbrev pub phase_at : ℕ → CallPhase → Option CallPhase
phase_at more (Runs job) = option_map (λ (left : Job). Runs left) (after more job)
phase_at more phase = Some phase

abbrev pub sees : Solo → ℕ → ℕ → OwnCall → Option Solo
sees z number done_by_now call =
    let sees_in = λ (phase : CallPhase).
    with_call z number (record call { seen = true; steps = done_by_now; phase = phase_seen phase }) in
    option_map sees_in (phase_at (done_by_now - call.steps) call.phase)

-- a job that has asked for something is given this: with a buffer it will ask in that
abbrev pub phase_back : CallPhase → Job → BackInput → CallPhase
phase_back before job Nothing = before
phase_back before job Buffer = before
phase_back before job NoBuffer = phase_on_answer before job answer.NoBuffer
phase_back before job (Reply told) = phase_on_answer before job (answer.Replied told)

-- whom a call that has ended still wakes: nobody once it was answered, or where it got no buffer for that
abbrev pub wake_left : Option ℕ → BackInput → Option ℕ
wake_left wakes Nothing = wakes
wake_left wakes Buffer = wakes
wake_left wakes NoBuffer = None
wake_left wakes (Reply told) = None

abbrev pub is_buffer : BackInput → Bool
is_buffer Buffer = true
is_buffer _ = false

abbrev pub is_no_buffer : BackInput → Bool
is_no_buffer NoBuffer = true
is_no_buffer _ = false

-- the call waits no more
abbrev pub without_waiter : Solo → ℕ → Solo
without_waiter z number = record z { waiting = filter (λ other. not (other == number)) z.waiting }

-- a call that has waited has this result, which no application returned
abbrev pub gives_up : Solo → ℕ → OwnCall → ℕ → Solo
gives_up z number call code =
    with_call (without_waiter z number) number (record call { phase = Ends (of_tee code) no_params false None })

-- a call that waits, and what it was given
pub record Waiting : Type 0 where
  pub number : ℕ
  pub call : OwnCall
  pub params : CopiedParams
  pub input : BackInput

-- it begins
abbrev pub goes_on : Application → Solo → Waiting → OwnSession × Instance → Solo
goes_on app z w at =
    begins app (without_waiter z w.number) w.number w.call
    (record { session = at.0; instance = at.1; params = w.params; seen = w.call.seen; key = z.key })

-- another call holds the instance: it waits on, where it has got a buffer for that, or has one or an area
abbrev pub waits_on : Solo → Waiting → Solo
waits_on z w =
    if is_no_buffer w.input then gives_up z w.number w.call out_of_memory else with_call z w.number w.call

-- it is tested again: its session may be gone, its instance dead, or held
abbrev pub tests_again : Application → Solo → Waiting → OwnSession × Instance → Solo
tests_again app z w at =
    if at.1.dead && not (is_close w.call.kind) then gives_up z w.number w.call target_dead
    else if is_held at.1 then waits_on z w
    else goes_on app z w at

abbrev pub retests : Application → Solo → Waiting → Solo
retests app z w = option_map_or (tests_again app z w) (home z) (gives_up z w.number w.call bad_parameters)

-- a call comes back, by its phase; one that runs had asked for nothing
abbrev pub comes_back_in : Application → Solo → ℕ → OwnCall → BackInput → CallPhase → Option Solo
comes_back_in app z number call input (Runs job) = None
comes_back_in app z number call input (Asks job wanted payload) =
    Some (with_call z number (record call { phase = phase_back call.phase job input }))
comes_back_in app z number call input (Waits params) =
    Some (retests app z (record { number = number; call = call; params = params; input = input }))
comes_back_in app z number call input (Ends result params told wakes) =
    Some (with_call z number (record call { phase = Ends result params told (wake_left wakes input) }))

abbrev pub comes_back : Application → Solo → ℕ → BackInput → OwnCall → Option Solo
comes_back app z number input call =
    let now = record call { buffer = is_buffer input || call.buffer } in
    comes_back_in app z number now input now.phase

-- ---- calls that go out

-- the machine and the call, before the call goes out
pub record Going : Type 0 where
  pub solo : Solo
  pub call : OwnCall

-- what the end of a job makes of the session: an open that succeeds opens it, one that fails and a close take it away
abbrev pub session_ended : CallKind → End → OwnSession → Option OwnSession
session_ended kind.Open end session =
    if end.result.result == success then Some (record session { context = end.context; opened = true }) else None
session_ended (kind.Invoke func) end session = Some session
session_ended kind.Close end session = None
session_ended kind.Settled end session = Some session

-- after a panic, and after a call that ended without having run
abbrev pub session_panicked : CallKind → OwnSession → Option OwnSession
session_panicked kind.Open session = None
session_panicked (kind.Invoke func) session = Some session
session_panicked kind.Close session = None
session_panicked kind.Settled session = Some session

abbrev pub session_unrun : CallKind → OwnSession → Option OwnSession
session_unrun kind.Open session = None
session_unrun (kind.Invoke func) session = Some session
session_unrun kind.Close session = Some session
session_unrun kind.Settled session = Some session

-- the session is there and opened
abbrev pub is_opened : Option OwnSession → Bool
is_opened session = option_map_or (λ (s : OwnSession). s.opened) session false

-- the instance is given back: it is gone at its end, and where it is dead and its session isn't opened any more
abbrev pub instance_back : Option OwnSession → Bool → Instance → Option Instance
instance_back session is_last instance =
    if is_last || (instance.dead && not (is_opened session)) then None else Some instance

abbrev pub gives_back : Solo → Option OwnSession → Bool → (Instance → Instance) → Solo
gives_back z session is_last change = record z {
  session = session;
  instance = option_and_then (λ instance. instance_back session is_last (change instance)) z.instance;
}

-- the call that is woken: the first that waits, where no call holds the instance. A call that was settled as it came in
-- wakes none
abbrev pub woken_by : Solo → CallKind → Option ℕ
woken_by z kind.Settled = None
woken_by z _ = if option_map_or is_held z.instance false then None else slice_get z.waiting 0

-- the call has this result, which is told from now on
abbrev pub shows : Solo → OwnCall → CallResult → CopiedParams → Going
shows z call result params =
    record { solo = z; call = record call { phase = Ends result params true (woken_by z call.kind) } }

-- its job has stopped
abbrev pub stopped : Solo → OwnCall → JobStop → Going
stopped z call (steps.Ends end) =
    let session = option_and_then (session_ended call.kind end) z.session in
    shows (gives_back z session end.is_last (given_back end.memory end.objects)) call end.result end.params
stopped z call (steps.Panics code) =
    let session = option_and_then (session_panicked call.kind) z.session in
    shows (gives_back z session false killed) call (of_tee target_dead) no_params
stopped z call (steps.Asks wanted payload left) =
    record { solo = z; call = record call { phase = Asks left wanted payload } }

-- its job was taken on by a grant, which has to reach its stop
abbrev pub taken_on : Solo → OwnCall → Grant → Option Going
taken_on z call (Left job) = None
taken_on z call (Stopped used why) = Some (stopped z (record call { steps = call.steps + used }) why)

-- the call by its phase, as it goes out: a job is taken to its stop, which takes at most so many steps
abbrev pub going_in : ℕ → Solo → OwnCall → CallPhase → Option Going
going_in most z call (Runs job) = option_and_then (taken_on z call) (grant_of most job)
going_in most z call (Ends result params false wakes) =
    let session = option_and_then (session_unrun call.kind) z.session in
    Some (shows (record z { session = session }) call result params)
going_in most z call _ = Some (record { solo = z; call = call })

-- it asks for something, where that has a place in its area or its buffer, or for a buffer first
abbrev pub asks : Solo → ℕ → OwnCall → Rpc → OwnReply → Answered
asks z number call wanted told =
    (with_call z number call, Some (if is_placed call.area call.buffer wanted then told else reply.Alloc))

-- it has ended: it gives its buffer back, or is told its result
abbrev pub leaves : Solo → ℕ → OwnCall → OwnReply → Answered
leaves z number call result =
    if call.buffer
    then (with_call z number (record call { buffer = false }), Some reply.Free)
    else (record z { calls = remove z.calls number }, Some result)

abbrev pub goes_out_in : Solo → ℕ → OwnCall → CallPhase → Option Answered
goes_out_in z number call (Runs job) = None
goes_out_in z number call (Asks job wanted payload) = Some (asks z number call wanted (reply.Ask wanted payload))
goes_out_in z number call (Waits params) = Some (asks z number call (rpc.Sleep number) reply.Sleep)
goes_out_in z number call (Ends result params told (Some woken)) =
    Some (asks z number call (rpc.Wake woken) (reply.Wake woken))
goes_out_in z number call (Ends result params told None) = Some (leaves z number call (ended result params))

abbrev pub goes_out : ℕ → Solo → ℕ → OwnCall → Option Answered
goes_out most z number call =
    option_and_then (λ (going : Going). goes_out_in going.solo number going.call going.call.phase)
    (going_in most z call call.phase)

-- ---- the machine at an event

-- what it does at one: none where the event can't come. A job takes at most so many steps to its stop
abbrev pub step : ℕ → Application → Solo → OwnEvent → Option Answered
step most app z (Open params login area) = option_map silent (opens_first app z params login area)
step most app z (Invoke func input area) = option_map silent (option_and_then (invokes app z func input area) (home z))
step most app z (Close area) = option_map (λ at. silent (closes app z area at)) (home z)
step most app z Cancel = Some (silent (settles z false success))
step most app z (Seen number done_by_now) =
    option_map silent (option_and_then (sees z number done_by_now) (get z.calls number))
step most app z (Back number input) =
    option_map silent (option_and_then (comes_back app z number input) (get z.calls number))
step most app z (Out number) = option_and_then (goes_out most z number) (get z.calls number)
step most app z Limited = Some (z, Some reply.Limited)

-- the replies with one more, if there is one
abbrev pub and_reply : Option OwnReply → List OwnReply → List OwnReply
and_reply None replies = replies
and_reply (Some told) replies = told ∷ replies

-- what it does at events in a row
abbrev pub run : ℕ → Application → Solo → List OwnEvent → Option (Solo × List OwnReply)
run most app z [] = Some (z, [])
run most app z (event ∷ events) =
    let goes_on_from = λ (answered : Answered).
    option_map (λ (rest : Solo × List OwnReply). (rest.0, and_reply answered.1 rest.1))
    (run most app answered.0 events) in
    option_and_then goes_on_from (step most app z event)

-- what it replies to them from the start on
abbrev pub solo_replies : ℕ → Application → List ℕ → List OwnEvent → Option (List OwnReply)
solo_replies most app key events = option_map (λ (end : Solo × List OwnReply). end.1) (run most app (unopened key) events)
