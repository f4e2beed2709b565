-- The machine of a group: what a single-instance application and its sessions do when no other application is there. It
-- is made from the application and the boot's key alone and is fed with the group's own events. It counts neither pages
-- nor sessions: where a shared limit decides, the event says how. This project's own.
use Rattle.std.specs.Prelude.{ℕ, ◌+◌, ◌-◌, ◌==◌, ◌&&◌, ◌||◌, not, Bool, true, false, List, [], ◌∷◌, ◌++◌, Option, Some}
use Rattle.std.specs.Prelude.{None, filter, find, if◌then◌else◌}
use Rattle.std.specs.List.{list_any}
use Rattle.std.specs.Option.{is_none, option_map, option_map_or, option_and_then}
use Rattle.base.specs.NumberMap.{NumberMap, get, insert, remove}
use Rattle.job_model.specs.Beginning.{begun_job}
use Rattle.job_model.specs.declared.call_kind.CallKind.{CallKind}
use Rattle.job_model.specs.declared.call_kind.CallKind.TheVariants as kind
use Rattle.job_model.specs.declared.entry_point.EntryPoint.{EntryPoint}
use Rattle.job_model.specs.declared.entry_point.EntryPoint.TheVariants as point
use Rattle.job_model.specs.Job.{Job, idle_job, of_tee}
use Rattle.job_model.specs.Owner.{owner_of}
use Rattle.job_model.specs.Point.{no_params}
use Rattle.job_model.specs.Steps.{End, JobStop, Grant, Left, Stopped, grant_of}
use Rattle.job_model.specs.Steps as steps
use Rattle.ta_params.specs.declared.call_result.CallResult.{CallResult}
use Rattle.ta_params.specs.declared.copied_params.CopiedParams.{CopiedParams}
use Rattle.ta_params.specs.declared.login.Login.{Login}
use Rattle.kernel_model.specs.Application.{Application, uuid_of, pages_in, program_of}
use Rattle.kernel_model.specs.Codes.{success, bad_parameters, busy, out_of_memory, target_dead}
use Rattle.kernel_model.specs.Instances.{fresh_memory, given_back, held_by, is_held, is_multi_session, keeps_alive, killed}
use Rattle.kernel_model.specs.Kernel.{CallPhase, Runs, Asks, Waits, Ends, Instance}
use Rattle.kernel_model.specs.Resume.{is_close, phase_seen}
use Rattle.own_model.specs.Own.{ended}
use Rattle.own_model.specs.Solo.{is_buffer, is_no_buffer, phase_at, phase_back, wake_left}
use Rattle.own_model.specs.declared.own_event.BackInput.{BackInput}
use Rattle.own_model.specs.declared.own_event.OwnInput.{OwnInput}
use Rattle.own_model.specs.declared.own_event.OwnInput.TheVariants.{Copied, Faulty, Unread}
use Rattle.own_model.specs.declared.own_reply.OwnReply.{OwnReply}
use Rattle.own_model.specs.declared.own_reply.OwnReply.TheVariants as reply
use Rattle.rpc_msgs.specs.Place.{is_placed}
use Rattle.rpc_msgs.specs.declared.rpc.Rpc.{Rpc}
use Rattle.rpc_msgs.specs.declared.rpc.Rpc.TheVariants as rpc
use Rattle.group_model.specs.declared.group_event.GroupEvent.{GroupEvent}
use Rattle.group_model.specs.declared.group_event.GroupEvent.TheVariants.{Open, Invoke, Close, Cancel, Seen, Room, Back}
use Rattle.group_model.specs.declared.group_event.GroupEvent.TheVariants.{Out}
use Rattle.group_model.specs.declared.group_reply.GroupReply.{GroupReply}

-- ---- the machine

-- a session, while it is being opened and while it is opened
pub record GroupSession : Type 0 where
  pub login : Login
  -- the word that the application keeps with it
  pub context : ℕ
  pub opened : Bool
  -- the number of its instance
  pub instance : ℕ

-- a call, from its entry until it is told its result
pub record GroupCall : Type 0 where
  pub kind : CallKind
  -- its session and its instance; of one that was settled as it came in they mean nothing, and are 0
  pub session : ℕ
  pub instance : ℕ
  -- it has seen that it was cancelled
  pub seen : Bool
  -- the steps that its application has done
  pub steps : ℕ
  -- it has an area, and a buffer, for its requests
  pub area : Bool
  pub buffer : Bool
  -- of an open that has waited and finds its instance gone: whether there are pages for a new one, once it was told
  pub room : Option Bool
  -- how far it has come; whom it wakes is the number of a call
  pub phase : CallPhase

-- a call that waits, and the number of the instance for which it does
pub record GroupWaiter : Type 0 where
  pub call : ℕ
  pub instance : ℕ

pub record Group : Type 0 where
  -- by their numbers
  pub sessions : NumberMap GroupSession
  -- the instance that they share, with its number; its holder is the number of a call
  pub instance : Option (ℕ × Instance)
  -- the calls that wait, in the order in which they began to
  pub waiting : List GroupWaiter
  -- the calls by their numbers
  pub calls : NumberMap GroupCall
  -- the numbers of the next call, the next session, and the next instance
  pub entered : ℕ
  pub next_session : ℕ
  pub next_instance : ℕ
  -- the key of the tags of object files, which the boot brings
  pub key : List ℕ

-- before a call has come in, made with this key
abbrev pub nobody_there : List ℕ → Group
nobody_there key = record {
  key = key;
  sessions = [];
  instance = None;
  waiting = [];
  calls = [];
  entered = 0;
  next_session = 0;
  next_instance = 1;
}

-- what it does at an event: the machine then, and its reply, if it has one
abbrev pub Answered : Type 0
Answered = Group × Option GroupReply

abbrev pub silent : Group → Answered
silent g = (g, None)

-- ---- sessions and the instance

-- the instance of this number, if it is there
abbrev pub instance_at : Group → ℕ → Option Instance
instance_at g number =
    option_and_then (λ (there : ℕ × Instance). if there.0 == number then Some there.1 else None) g.instance

-- the instance of this number is now this
abbrev pub with_instance : Group → ℕ → Instance → Group
with_instance g number instance = record g { instance = Some (number, instance) }

-- one of these sessions is opened on the instance of this number
abbrev pub has_opened : NumberMap GroupSession → ℕ → Bool
has_opened sessions number =
    list_any (λ (kept : ℕ × GroupSession). (kept.1.instance == number) && kept.1.opened) sessions

-- one of them is there for it, opened or being opened
abbrev pub has_session : NumberMap GroupSession → ℕ → Bool
has_session sessions number = list_any (λ (kept : ℕ × GroupSession). kept.1.instance == number) sessions

-- a session that is opened and whose instance is there, with its number
pub record Home : Type 0 where
  pub number : ℕ
  pub session : GroupSession
  pub instance : Instance

abbrev pub home_of : Group → ℕ → GroupSession → Option Home
home_of g number session =
    option_map (λ instance. record { number = number; session = session; instance = instance })
    (instance_at g session.instance)

abbrev pub home : Group → ℕ → Option Home
home g number =
    option_and_then (λ (session : GroupSession). if session.opened then home_of g number session else None)
    (get g.sessions number)

-- ---- calls that come in

-- a call of a session on an instance, and whether it has an area
pub record About : Type 0 where
  pub kind : CallKind
  pub area : Bool
  pub session : ℕ
  pub instance : ℕ

-- a call that was settled as it came in is about no session
abbrev pub about_none : Bool → About
about_none area = record { kind = kind.Settled; area = area; session = 0; instance = 0 }

abbrev pub fresh_call : About → CallPhase → GroupCall
fresh_call about phase = record {
  kind = about.kind;
  session = about.session;
  instance = about.instance;
  seen = false;
  steps = 0;
  area = about.area;
  buffer = false;
  room = None;
  phase = phase;
}

-- it comes in and gets the next number
abbrev pub comes_in : Group → GroupCall → Group
comes_in g call = record g { entered = g.entered + 1; calls = insert g.calls g.entered call }

-- it comes in and has this result at once, which no application returned
abbrev pub settles : Group → Bool → ℕ → Group
settles g area code = comes_in g (fresh_call (about_none area) (Ends (of_tee code) no_params false None))

-- it comes in and waits for its instance, behind those that wait already
abbrev pub waits : Group → About → CopiedParams → Group
waits g about params =
    let last : GroupWaiter = record { call = g.entered; instance = about.instance } in
    comes_in (record g { waiting = g.waiting ++ last ∷ [] }) (fresh_call about (Waits params))

-- ---- calls that begin

-- who begins: the number of its call, its session's login and context, its parameters, and whether it has seen that it was
-- cancelled
pub record Start : Type 0 where
  pub number : ℕ
  pub login : Login
  pub context : ℕ
  pub params : CopiedParams
  pub seen : Bool
  -- the key of the tags of object files, which the machine was made with
  pub key : List ℕ

-- its job on this instance, with these entry points: of a dead one nothing runs
abbrev pub job_on : Application → Start → Instance → List EntryPoint → Job
job_on app start instance points =
    let program = if instance.dead then None else Some (program_of app) in
    let idle = idle_job (owner_of (uuid_of app) start.key) start.login start.context instance.objects start.params in
    begun_job (record { program = program; memory = instance.memory; seen = start.seen }) idle points

-- destroy, where none of these sessions is opened on the instance, and it isn't kept alive
abbrev pub destroy_after : Application → NumberMap GroupSession → ℕ → List EntryPoint
destroy_after app sessions number = if has_opened sessions number || keeps_alive app then [] else point.Destroy ∷ []

-- what comes of it: the machine in which it holds its instance, and its job
pub record Begun : Type 0 where
  pub group : Group
  pub instance : ℕ
  pub job : Job

-- on this instance, which gets or has this number
abbrev pub begins_on : Application → Group → Start → ℕ → Instance → List EntryPoint → Begun
begins_on app g start number instance points = record {
  group = with_instance g number (held_by start.number instance);
  instance = number;
  job = job_on app start instance points;
}

-- an open, whose destroy is for where it fails
abbrev pub opens_kept : Application → Group → Start → ℕ × Instance → Begun
opens_kept app g start there =
    begins_on app g start there.0 there.1 (point.Open ∷ destroy_after app g.sessions there.0)

-- the instance as it is made, with a memory of zeros
abbrev pub made : Application → Instance
made app =
    record { uuid = uuid_of app; dead = false; holder = None; memory = fresh_memory (pages_in app); objects = [] }

-- on a new instance of this number, which is created first
abbrev pub opens_new : Application → Group → Start → ℕ → Begun
opens_new app g start number =
    begins_on app g start number (made app) (point.Create ∷ point.Open ∷ destroy_after app g.sessions number)

-- the number of the instance for which calls wait, if any do; asked where no instance is there
abbrev pub awaited_number : Group → Option ℕ
awaited_number g = option_map (λ (waiter : GroupWaiter). waiter.instance) (find (λ (waiter : GroupWaiter). true) g.waiting)

-- on a new instance: it has the number for which calls still wait, so that they find it, and else the next one
abbrev pub opens_made : Application → Group → Start → Begun
opens_made app g start =
    let next = g.next_instance in
    option_map_or (opens_new app g start) (awaited_number g)
    (opens_new app (record g { next_instance = next + 1 }) start next)

-- ---- opens

-- who opens: the login, and whether the call has an area
pub record Opener : Type 0 where
  pub login : Login
  pub area : Bool

-- its session gets the next number; it isn't opened yet
abbrev pub with_session : Group → Login → ℕ → Group
with_session g login instance =
    let session : GroupSession = record { login = login; context = 0; opened = false; instance = instance } in
    record g { sessions = insert g.sessions g.next_session session; next_session = g.next_session + 1 }

abbrev pub about_open : Group → Bool → ℕ → About
about_open g area instance =
    record { kind = kind.Open; area = area; session = g.next_session; instance = instance }

abbrev pub start_of_open : Group → CopiedParams → Login → Start
start_of_open g params login =
    record { number = g.entered; login = login; context = 0; params = params; seen = false; key = g.key }

-- it comes in and begins
abbrev pub open_begins : Group → Opener → Begun → Group
open_begins g opener begun =
    comes_in (with_session begun.group opener.login begun.instance)
    (fresh_call (about_open g opener.area begun.instance) (Runs begun.job))

-- it comes in on an instance that another call holds
abbrev pub open_waits : Group → CopiedParams → Opener → ℕ → Group
open_waits g params opener number =
    waits (with_session g opener.login number) (about_open g opener.area number) params

-- on the instance that is there: it waits where another call holds that
abbrev pub opens_there : Application → Group → CopiedParams → Opener → ℕ × Instance → Group
opens_there app g params opener there =
    if is_held there.1
    then open_waits g params opener there.0
    else open_begins g opener (opens_kept app g (start_of_open g params opener.login) there)

abbrev pub opens : Application → Group → CopiedParams → Opener → Group
opens app g params opener =
    option_map_or (opens_there app g params opener) g.instance
    (open_begins g opener (opens_made app g (start_of_open g params opener.login)))

-- the instance is dead
abbrev pub is_dead : Group → Bool
is_dead g = option_map_or (λ (there : ℕ × Instance). there.1.dead) g.instance false

-- the application has one session at a time, and that is there
abbrev pub is_taken : Application → Group → Bool
is_taken app g =
    not (is_multi_session app)
    && option_map_or (λ (there : ℕ × Instance). has_session g.sessions there.0) g.instance false

-- an open that passed the tests before its parameters, by what these came to
abbrev pub opens_with : Application → Group → OwnInput → Opener → Option Group
opens_with app g (Copied params) opener = Some (opens app g params opener)
opens_with app g Faulty opener = Some (settles g opener.area bad_parameters)
opens_with app g Unread opener = None

-- an open's tests in their order: a dead instance, a session that has it alone, a shared limit, and faulty parameters
abbrev pub opens_tested : Application → Group → OwnInput → Opener → Bool → Option Group
opens_tested app g input opener limited =
    if is_dead g then Some (settles g opener.area target_dead)
    else if is_taken app g then Some (settles g opener.area busy)
    else if limited then Some (settles g opener.area out_of_memory)
    else opens_with app g input opener

-- ---- invokes, closes and cancels

-- a call of an opened session that comes in: its kind, and whether it has an area
pub record Coming : Type 0 where
  pub kind : CallKind
  pub area : Bool

abbrev pub about_home : Coming → Home → About
about_home coming at =
    record { kind = coming.kind; area = coming.area; session = at.number; instance = at.session.instance }

abbrev pub start_at : Group → ℕ → GroupSession → CopiedParams → Bool → Start
start_at g number session params seen =
    record { number = number; login = session.login; context = session.context; params = params; seen = seen; key = g.key }

-- a call of an opened session waits where another call holds the instance, and else begins these entry points
abbrev pub works_or_waits : Application → Group → Coming → Home → CopiedParams → List EntryPoint → Group
works_or_waits app g coming at params points =
    let about = about_home coming at in
    let start = start_at g g.entered at.session params false in
    let begun = begins_on app g start at.session.instance at.instance points in
    if is_held at.instance then waits g about params else comes_in begun.group (fresh_call about (Runs begun.job))

-- an invoke: of a dead instance it has a result at once; else with faulty parameters; else it begins or waits
abbrev pub invokes_with : Application → Group → ℕ → OwnInput → Bool → Home → Option Group
invokes_with app g func (Copied params) area at =
    let coming : Coming = record { kind = kind.Invoke func; area = area } in
    Some (works_or_waits app g coming at params (point.Invoke func ∷ []))
invokes_with app g func Faulty area at = Some (settles g area bad_parameters)
invokes_with app g func Unread area at = None

abbrev pub invokes : Application → Group → ℕ → OwnInput → Bool → Home → Option Group
invokes app g func input area at =
    if at.instance.dead then Some (settles g area target_dead) else invokes_with app g func input area at

-- the entry points of a close: close, and destroy behind it where no other session keeps the instance
abbrev pub closing_points : Application → Group → ℕ → ℕ → List EntryPoint
closing_points app g session instance = point.Close ∷ destroy_after app (remove g.sessions session) instance

-- a close begins or waits, also where the instance is dead
abbrev pub closes : Application → Group → Bool → Home → Group
closes app g area at =
    let coming : Coming = record { kind = kind.Close; area = area } in
    works_or_waits app g coming at no_params (closing_points app g at.number at.session.instance)

-- ---- calls that come back

-- the call of this number is this
abbrev pub with_call : Group → ℕ → GroupCall → Group
with_call g number call = record g { calls = insert g.calls number call }

-- a call sees after so many steps that it was cancelled
abbrev pub sees : Group → ℕ → ℕ → GroupCall → Option Group
sees g number done_by_now call =
    let sees_in = λ (phase : CallPhase).
    with_call g number (record call { seen = true; steps = done_by_now; phase = phase_seen phase }) in
    option_map sees_in (phase_at (done_by_now - call.steps) call.phase)

-- an open that has waited finds its instance gone, and is told whether there are pages for a new one
abbrev pub finds_it_gone : Group → GroupCall → CallKind → CallPhase → Bool
finds_it_gone g call kind.Open (Waits params) = is_none (instance_at g call.instance)
finds_it_gone g call _ _ = false

abbrev pub finds_room : Group → ℕ → Bool → GroupCall → Option Group
finds_room g number enough call =
    if finds_it_gone g call call.kind call.phase
    then Some (with_call g number (record call { room = Some enough }))
    else None

-- the call waits no more
abbrev pub without_waiter : Group → ℕ → Group
without_waiter g number =
    record g { waiting = filter (λ (waiter : GroupWaiter). not (waiter.call == number)) g.waiting }

-- a call that waits, and what it was given
pub record Waiting : Type 0 where
  pub number : ℕ
  pub call : GroupCall
  pub params : CopiedParams
  pub input : BackInput

-- it has this result, which no application returned
abbrev pub gives_up : Group → Waiting → ℕ → Group
gives_up g w code =
    with_call (without_waiter g w.number) w.number
    (record w.call { phase = Ends (of_tee code) no_params false None })

-- it has begun
abbrev pub goes_on : Waiting → Begun → Group
goes_on w begun =
    with_call (without_waiter begun.group w.number) w.number (record w.call { phase = Runs begun.job })

-- another call holds its instance: it waits on, unless it has come back without a buffer that it needs for that, as none does
-- with an area
abbrev pub waits_on : Group → Waiting → Group
waits_on g w = if is_no_buffer w.input then gives_up g w out_of_memory else with_call g w.number w.call

abbrev pub start_again : Group → Waiting → GroupSession → Start
start_again g w session = start_at g w.number session w.params w.call.seen

-- an open whose instance is gone begins on a new one of the same number, where there are pages for it
abbrev pub opens_again : Application → Group → Waiting → GroupSession → Bool → Group
opens_again app g w session enough =
    if enough then goes_on w (opens_new app g (start_again g w session) w.call.instance) else gives_up g w out_of_memory

-- it begins, by its kind. A call of a session whose instance is gone has lost its session with it; an open was told
-- before whether there is room
abbrev pub begins_again : Application → Group → Waiting → GroupSession → CallKind → Option Instance → Option Group
begins_again app g w session kind.Open (Some instance) =
    Some (goes_on w (opens_kept app g (start_again g w session) (w.call.instance, instance)))
begins_again app g w session kind.Open None = option_map (opens_again app g w session) w.call.room
begins_again app g w session (kind.Invoke func) (Some instance) =
    Some (goes_on w (
    begins_on app g (start_again g w session) w.call.instance instance (point.Invoke func ∷ [])))
begins_again app g w session kind.Close (Some instance) =
    let points = closing_points app g w.call.session w.call.instance in
    Some (goes_on w (begins_on app g (start_again g w session) w.call.instance instance points))
begins_again app g w session _ _ = Some (gives_up g w bad_parameters)

-- it is tested again, behind the test of its session: its instance may be dead, or held
abbrev pub tested_again : Application → Group → Waiting → GroupSession → Option Instance → Option Group
tested_again app g w session found =
    if option_map_or (λ (instance : Instance). instance.dead) found false && not (is_close w.call.kind)
    then Some (gives_up g w target_dead)
    else if option_map_or is_held found false then Some (waits_on g w)
    else begins_again app g w session w.call.kind found

-- its session may be gone
abbrev pub retests : Application → Group → Waiting → Option Group
retests app g w =
    let on_session = λ (session : GroupSession). tested_again app g w session (instance_at g w.call.instance) in
    option_map_or on_session (get g.sessions w.call.session) (Some (gives_up g w bad_parameters))

-- a call comes back, by its phase; one that runs had asked for nothing
abbrev pub comes_back_in : Application → Group → ℕ → GroupCall → BackInput → CallPhase → Option Group
comes_back_in app g number call input (Runs job) = None
comes_back_in app g number call input (Asks job wanted payload) =
    Some (with_call g number (record call { phase = phase_back call.phase job input }))
comes_back_in app g number call input (Waits params) =
    retests app g (record { number = number; call = call; params = params; input = input })
comes_back_in app g number call input (Ends result params told wakes) =
    Some (with_call g number (record call { phase = Ends result params told (wake_left wakes input) }))

abbrev pub comes_back : Application → Group → ℕ → BackInput → GroupCall → Option Group
comes_back app g number input call =
    let now = record call { buffer = is_buffer input || call.buffer } in
    comes_back_in app g number now input now.phase

-- ---- calls that go out

-- the machine and the call, before the call goes out
pub record Going : Type 0 where
  pub group : Group
  pub call : GroupCall

-- an open that succeeds opens its session, with the word that the application keeps
abbrev pub opened_with : NumberMap GroupSession → ℕ → ℕ → NumberMap GroupSession
opened_with sessions number context =
    let opened = λ (session : GroupSession).
    insert sessions number (record session { context = context; opened = true }) in
    option_map_or opened (get sessions number) sessions

-- what the end of a job makes of the sessions: an open that succeeds opens its own, one that fails and a close take theirs
-- away
abbrev pub sessions_ended : CallKind → NumberMap GroupSession → ℕ → End → NumberMap GroupSession
sessions_ended kind.Open sessions number end =
    if end.result.result == success then opened_with sessions number end.context else remove sessions number
sessions_ended (kind.Invoke func) sessions number end = sessions
sessions_ended kind.Close sessions number end = remove sessions number
sessions_ended kind.Settled sessions number end = sessions

-- what a panic does: an open and a close take theirs away
abbrev pub sessions_panicked : CallKind → NumberMap GroupSession → ℕ → NumberMap GroupSession
sessions_panicked kind.Open sessions number = remove sessions number
sessions_panicked (kind.Invoke func) sessions number = sessions
sessions_panicked kind.Close sessions number = remove sessions number
sessions_panicked kind.Settled sessions number = sessions

-- and the end of a call that never ran: an open takes its own away, a close keeps it
abbrev pub sessions_unrun : CallKind → NumberMap GroupSession → ℕ → NumberMap GroupSession
sessions_unrun kind.Open sessions number = remove sessions number
sessions_unrun (kind.Invoke func) sessions number = sessions
sessions_unrun kind.Close sessions number = sessions
sessions_unrun kind.Settled sessions number = sessions

-- the instance is given back: it is gone at its end, and where it is dead and no session is opened on it any more
abbrev pub instance_back : NumberMap GroupSession → Bool → ℕ → Instance → Option (ℕ × Instance)
instance_back sessions is_last number instance =
    if is_last || (instance.dead && not (has_opened sessions number)) then None else Some (number, instance)

-- these are the sessions, and the call gives its instance back, changed so
abbrev pub gives_back : Group → GroupCall → NumberMap GroupSession → Bool → (Instance → Instance) → Group
gives_back g call sessions is_last change = record g {
  sessions = sessions;
  instance = option_map_or (λ instance. instance_back sessions is_last call.instance (change instance))
      (instance_at g call.instance) g.instance;
}

-- whom the call wakes: the first that waits for its instance, where no call holds that. A call that was settled as it came
-- in wakes none
abbrev pub woken_by : Group → GroupCall → CallKind → Option ℕ
woken_by g call kind.Settled = None
woken_by g call _ =
    if option_map_or is_held (instance_at g call.instance) false
    then None
    else option_map (λ (waiter : GroupWaiter). waiter.call)
    (find (λ (waiter : GroupWaiter). waiter.instance == call.instance) g.waiting)

-- the call has this result, which is told from now on; whom it wakes is fixed now
abbrev pub shows : Group → GroupCall → CallResult → CopiedParams → Going
shows g call result params =
    record { group = g; call = record call { phase = Ends result params true (woken_by g call call.kind) } }

-- its job has stopped
abbrev pub stopped : Group → GroupCall → JobStop → Going
stopped g call (steps.Ends end) =
    let sessions = sessions_ended call.kind g.sessions call.session end in
    shows (gives_back g call sessions end.is_last (given_back end.memory end.objects)) call end.result end.params
stopped g call (steps.Panics code) =
    let sessions = sessions_panicked call.kind g.sessions call.session in
    shows (gives_back g call sessions false killed) call (of_tee target_dead) no_params
stopped g call (steps.Asks wanted payload left) =
    record { group = g; call = record call { phase = Asks left wanted payload } }

-- where the grant brings its job to a stop; none else
abbrev pub taken_on : Group → GroupCall → Grant → Option Going
taken_on g call (Left job) = None
taken_on g call (Stopped used why) = Some (stopped g (record call { steps = call.steps + used }) why)

-- the call by its phase, as it goes out: a job is taken to its stop, which takes at most so many steps
abbrev pub going_in : ℕ → Group → GroupCall → CallPhase → Option Going
going_in most g call (Runs job) = option_and_then (taken_on g call) (grant_of most job)
going_in most g call (Ends result params false wakes) =
    let sessions = sessions_unrun call.kind g.sessions call.session in
    Some (shows (record g { sessions = sessions }) call result params)
going_in most g call _ = Some (record { group = g; call = call })

-- a reply that opens no session
abbrev pub plain : OwnReply → GroupReply
plain told = record { reply = told; opened = None }

-- it asks for something, where that has a place in its area or its buffer, or for a buffer first
abbrev pub asks : Group → ℕ → GroupCall → Rpc → OwnReply → Answered
asks g number call wanted told =
    let placed = is_placed call.area call.buffer wanted in
    (with_call g number call, Some (plain (if placed then told else reply.Alloc)))

-- the session that a call has opened which ends with this result
abbrev pub opened_by : CallKind → ℕ → CallResult → Option ℕ
opened_by kind.Open session result = if result.result == success then Some session else None
opened_by _ session result = None

-- it has ended: it gives its buffer back, or is told its result
abbrev pub leaves : Group → ℕ → GroupCall → CallResult → CopiedParams → Answered
leaves g number call result params =
    let told : GroupReply =
    record { reply = ended result params; opened = opened_by call.kind call.session result } in
    if call.buffer
    then (with_call g number (record call { buffer = false }), Some (plain reply.Free))
    else (record g { calls = remove g.calls number }, Some told)

abbrev pub goes_out_in : Group → ℕ → GroupCall → CallPhase → Option Answered
goes_out_in g number call (Runs job) = None
goes_out_in g number call (Asks job wanted payload) = Some (asks g number call wanted (reply.Ask wanted payload))
goes_out_in g number call (Waits params) = Some (asks g number call (rpc.Sleep number) reply.Sleep)
goes_out_in g number call (Ends result params told (Some woken)) =
    Some (asks g number call (rpc.Wake woken) (reply.Wake woken))
goes_out_in g number call (Ends result params told None) = Some (leaves g number call result params)

abbrev pub goes_out : ℕ → Group → ℕ → GroupCall → Option Answered
goes_out most g number call =
    option_and_then (λ (going : Going). goes_out_in going.group number going.call going.call.phase)
    (going_in most g call call.phase)

-- ---- the machine at an event

-- what it does at one: none where there is no such call or opened session, where the input isn't what the tests leave, or
-- where a job doesn't come so far. Not every event that it takes can come. A job takes at most so many steps to its stop
abbrev pub step : ℕ → Application → Group → GroupEvent → Option Answered
step most app g (Open input login limited area) =
    let opener : Opener = record { login = login; area = area } in
    option_map silent (opens_tested app g input opener limited)
step most app g (Invoke session func input area) =
    option_map silent (option_and_then (invokes app g func input area) (home g session))
step most app g (Close session area) = option_map (λ at. silent (closes app g area at)) (home g session)
step most app g (Cancel session) = option_map (λ (at : Home). silent (settles g false success)) (home g session)
step most app g (Seen number done_by_now) =
    option_map silent (option_and_then (sees g number done_by_now) (get g.calls number))
step most app g (Room number enough) =
    option_map silent (option_and_then (finds_room g number enough) (get g.calls number))
step most app g (Back number input) =
    option_map silent (option_and_then (comes_back app g number input) (get g.calls number))
step most app g (Out number) = option_and_then (goes_out most g number) (get g.calls number)

-- the replies with one more, if there is one
abbrev pub and_reply : Option GroupReply → List GroupReply → List GroupReply
and_reply None replies = replies
and_reply (Some told) replies = told ∷ replies

-- what it does at events in a row
abbrev pub run : ℕ → Application → Group → List GroupEvent → Option (Group × List GroupReply)
run most app g [] = Some (g, [])
run most app g (event ∷ events) =
    let goes_on_from = λ (answered : Answered).
    option_map (λ (rest : Group × List GroupReply). (rest.0, and_reply answered.1 rest.1))
    (run most app answered.0 events) in
    option_and_then goes_on_from (step most app g event)

-- what it replies to them from the start on
abbrev pub group_machine_replies : ℕ → Application → List ℕ → List GroupEvent → Option (List GroupReply)
group_machine_replies most app key events =
    option_map (λ (end : Group × List GroupReply). end.1) (run most app (nobody_there key) events)
