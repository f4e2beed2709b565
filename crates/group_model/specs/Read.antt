-- What happens to a group in a history and what it is answered, read off the kernels that the history goes through. A call
-- is one of the group's where it is an open that names the application, in the right shape, whatever its later tests come
-- to; or an invoke, a close or a cancel, in the right shape, by the client of one of the group's sessions while that is
-- opened. This project's own.
use Rattle.std.specs.Prelude.{ℕ, ◌+◌, ◌==◌, ◌&&◌, not, Bool, false, List, [], ◌∷◌, ◌++◌, Option, Some, None, slice_get, is_some}
use Rattle.std.specs.Prelude.{map, filter_map, bytes_eq, if◌then◌else◌}
use Rattle.std.specs.Option.{is_none, option_map, option_map_or, option_and_then}
use Rattle.base.specs.NumberMap.{NumberMap, get, insert}
use Rattle.event_journal.specs.declared.event.Event.{Event}
use Rattle.event_journal.specs.declared.event.Event.TheVariants as event
use Rattle.job_model.specs.declared.call_kind.CallKind.{CallKind}
use Rattle.job_model.specs.declared.call_kind.CallKind.TheVariants as kind
use Rattle.ns_ram.specs.Reader.{reading}
use Rattle.session_table.specs.declared.session.Session.{Session}
use Rattle.ta_params.specs.declared.call_result.CallResult.{CallResult}
use Rattle.ta_params.specs.declared.copied_params.CopiedParams.{CopiedParams}
use Rattle.ta_params.specs.declared.login.Login.{Login}
use Rattle.kernel_model.specs.Application.{Application, Booted, uuid_of}
use Rattle.kernel_model.specs.Begin.{has_pages_for}
use Rattle.kernel_model.specs.Codes.{bad_parameters, out_of_memory, success}
use Rattle.kernel_model.specs.Exit.{progress_in_slot}
use Rattle.kernel_model.specs.Given.{Given, given_to}
use Rattle.kernel_model.specs.History.{after_event}
use Rattle.kernel_model.specs.Kernel.{CallPhase, Runs, Waits, Ends, SettledCall, Untold, AnOpen, AnInvoke, ACancel}
use Rattle.kernel_model.specs.Kernel.{PendingCall, Progress, ThreadSlot, Free, Active, Suspended, InSlot}
use Rattle.kernel_model.specs.Kernel.{Processor, Inside, Kernel, Tables, Visit, first_kernel}
use Rattle.kernel_model.specs.Leaving.{Leaving, Interrupted, Finishes, leaving_of}
use Rattle.own_model.specs.Own.{Entering, Numbering, input_of, input_settled, next_in, reply_of, slot_kept}
use Rattle.own_model.specs.Own.{wake_kept, wake_of, with_wake}
use Rattle.own_model.specs.Parameters.{params_of}
use Rattle.own_model.specs.declared.own_event.OwnInput.{OwnInput}
use Rattle.own_model.specs.declared.own_event.OwnInput.TheVariants.{Copied, Faulty, Unread}
use Rattle.own_model.specs.declared.own_reply.OwnReply.{OwnReply}
use Rattle.group_model.specs.declared.group_event.GroupEvent.{GroupEvent}
use Rattle.group_model.specs.declared.group_event.GroupEvent.TheVariants.{Open, Invoke, Close, Cancel, Seen, Room, Back}
use Rattle.group_model.specs.declared.group_event.GroupEvent.TheVariants.{Out}
use Rattle.group_model.specs.declared.group_reply.GroupReply.{GroupReply}

-- an event with its reply, if it has one
abbrev pub Logged : Type 0
Logged = GroupEvent × Option GroupReply

-- what is noted of a group as a history goes on
pub record Notes : Type 0 where
  -- the group's numbers of its sessions, by the kernel's, and the number of the next one
  pub sessions : NumberMap ℕ
  pub next_session : ℕ
  -- the numbers of its calls
  pub numbering : Numbering
  -- its events so far
  pub log : List Logged

abbrev pub no_notes : Notes
no_notes =
    record { sessions = []; next_session = 0; numbering = record { entered = 0; in_slots = []; wakes = [] }; log = [] }

-- with this event, which has no reply
abbrev pub with_event : Notes → GroupEvent → Notes
with_event notes came = record notes { log = notes.log ++ (came, None) ∷ [] }

-- ---- calls that come in

-- the call is an open of this application
abbrev pub is_open_of : Application → PendingCall → Bool
is_open_of app call = option_map_or (λ uuid. bytes_eq uuid (uuid_of app)) call.uuid false

-- an open that got a session, with the parameters that were copied; its login is kept with the session
abbrev pub open_event : Tables → PendingCall → CopiedParams → Option GroupEvent
open_event tables call params =
    option_map (λ (session : Session). Open (Copied params) session.login false (is_some call.area)) (get tables.sessions call.session)

-- what came of the parameters of an open that was settled with this result
abbrev pub open_input : CallResult → OwnInput
open_input result = if result.result == bad_parameters then Faulty else Unread

-- its event: a shared limit stopped it where there was too little memory
abbrev pub settled_open_event : Login → CallResult → Bool → GroupEvent
settled_open_event login result area = Open (open_input result) login (result.result == out_of_memory) area

-- the event of an open, by the phase in which it is taken in
abbrev pub open_event_in : Tables → PendingCall → CallPhase → Option GroupEvent
open_event_in tables call (Runs job) = open_event tables call (params_of job)
open_event_in tables call (Waits params) = open_event tables call params
open_event_in tables call _ = None

-- the event of a call, with an area or without one, in a session of the group, by the phase in which it is taken in
abbrev pub invoke_event : ℕ → ℕ → Bool → CallPhase → Option GroupEvent
invoke_event session func area (Runs job) = Some (Invoke session func (Copied (params_of job)) area)
invoke_event session func area (Waits params) = Some (Invoke session func (Copied params) area)
invoke_event session func area _ = None

-- that of a call that was settled with this result
abbrev pub settled_event : Application → Notes → PendingCall → SettledCall → CallResult → Option GroupEvent
settled_event app notes call Untold result = None
settled_event app notes call (AnOpen login) result =
    if is_open_of app call then Some (settled_open_event login result (is_some call.area)) else None
settled_event app notes call (AnInvoke func) result =
    option_map (λ session. Invoke session func (input_settled result) (is_some call.area)) (get notes.sessions call.session)
settled_event app notes call ACancel result = option_map (λ session. Cancel session) (get notes.sessions call.session)

abbrev pub settled_event_in : Application → Notes → PendingCall → CallPhase → Option GroupEvent
settled_event_in app notes call (Ends result params told wakes) = settled_event app notes call call.settled result
settled_event_in app notes call _ = None

-- the event of a call that comes in, with the tables behind its entry, where it is one of the group's
abbrev pub event_of : Application → Tables → Notes → PendingCall → CallKind → Option GroupEvent
event_of app tables notes call kind.Open =
    if is_open_of app call then open_event_in tables call call.phase else None
event_of app tables notes call (kind.Invoke func) =
    option_and_then (λ session. invoke_event session func (is_some call.area) call.phase) (get notes.sessions call.session)
event_of app tables notes call kind.Close =
    option_map (λ session. Close session (is_some call.area)) (get notes.sessions call.session)
event_of app tables notes call kind.Settled = settled_event_in app notes call call.phase

-- an open that got a session gives that the group's next number
abbrev pub sessions_with : CallKind → Notes → PendingCall → Notes
sessions_with kind.Open notes call = record notes {
  sessions = insert notes.sessions call.session notes.next_session;
  next_session = notes.next_session + 1;
}
sessions_with _ notes call = notes

-- a call of the group comes into a slot: it gets the next number
abbrev pub numbered : Notes → ℕ → PendingCall → GroupEvent → Notes
numbered notes slot call came =
    record (sessions_with call.kind (with_event notes came) call) { numbering = next_in notes.numbering slot }

-- a call comes into a slot
abbrev pub call_noted : Application → Tables → Notes → ℕ → PendingCall → Notes
call_noted app tables notes slot call =
    option_map_or (numbered notes slot call) (event_of app tables notes call call.kind) notes

-- ---- calls that come back

-- an entry: the boot, the application, and the kernel before it and after it
pub record Watched : Type 0 where
  pub boot : Booted
  pub app : Application
  pub entering : Entering

-- a call sees only now that it was cancelled
abbrev pub seen_noted : Notes → ℕ → PendingCall → PendingCall → Notes
seen_noted notes number before now =
    if now.seen && not before.seen then with_event notes (Seen number before.steps) else notes

-- an open that has waited finds its instance gone
abbrev pub finds_it_gone : Tables → PendingCall → CallKind → CallPhase → Bool
finds_it_gone tables call kind.Open (Waits params) = is_none (get tables.instances call.instance)
finds_it_gone tables call _ _ = false

abbrev pub room_noted : Watched → Notes → ℕ → PendingCall → Notes
room_noted w notes number before =
    let tables = w.entering.kernel.tables in
    if finds_it_gone tables before before.kind before.phase
    then with_event notes (Room number (has_pages_for w.boot tables w.app))
    else notes

-- a call that was left so is given this; one that was interrupted had asked for nothing
abbrev pub back_noted : Notes → ℕ → Leaving → Given → Notes
back_noted notes number Interrupted came = notes
back_noted notes number _ came = with_event notes (Back number (input_of came))

-- the group's call of this number comes back: it was left so, and is this now. First comes what it sees, then whether its
-- instance is gone, then what it is given
abbrev pub resume_noted : Watched → ℕ → PendingCall → PendingCall → Notes → ℕ → Notes
resume_noted w slot before now notes number =
    let found = room_noted w (seen_noted notes number before now) number before in
    option_map_or (back_noted found number (leaving_of slot before))
    (reading (given_to w.entering.visit.regs slot before) w.entering.reads) found

-- ---- entries

-- what the slot of an entry held before it, and what it holds now: a new call, or one that comes back
abbrev pub slot_noted : Watched → ℕ → Notes → Option ThreadSlot → Option ThreadSlot → Notes
slot_noted w slot notes (Some Free) (Some (Active cpu call)) =
    call_noted w.app w.entering.next.tables notes slot call
slot_noted w slot notes (Some (Suspended client before)) (Some (Active cpu now)) =
    option_map_or (resume_noted w slot before now notes) (get notes.numbering.in_slots slot) notes
slot_noted w slot notes _ _ = notes

abbrev pub entry_noted : Watched → Notes → Option Processor → Notes
entry_noted w notes (Some (Inside regs steps (InSlot slot))) =
    slot_noted w slot notes (slice_get w.entering.kernel.slots slot) (slice_get w.entering.next.slots slot)
entry_noted w notes _ = notes

-- ---- exits

-- the group's number of the session that the call has opened, where it goes out so
abbrev pub opened_in : Notes → PendingCall → CallKind → Leaving → Option ℕ
opened_in notes call kind.Open (Finishes result params) =
    if result.result == success then get notes.sessions call.session else None
opened_in notes call _ _ = None

-- the group's call of this number goes out with this reply
abbrev pub with_reply : ℕ → Notes → Option ℕ → OwnReply → Notes
with_reply number notes opened told =
    let replied : GroupReply = record { reply = told; opened = opened } in
    record notes { log = notes.log ++ (Out number, Some replied) ∷ [] }

-- the group's call of this number, which is this by now, goes out of the slot
abbrev pub exit_noted : Notes → ℕ → PendingCall → ℕ → Notes
exit_noted notes slot call number =
    let leaving = leaving_of slot call in
    let woken = wake_kept notes.numbering slot (wake_of call.phase) in
    let opened = opened_in notes call call.kind leaving in
    let told = option_map_or (with_reply number notes opened) (reply_of woken call.phase leaving) notes in
    record told { numbering = slot_kept (with_wake notes.numbering slot woken) slot leaving }

-- a processor that is inside goes out
abbrev pub out_noted : Kernel → Notes → Option Processor → Notes
out_noted kernel notes (Some (Inside regs steps (InSlot slot))) =
    let with_progress = λ (progress : Progress).
    option_map_or (exit_noted notes slot progress.call) (get notes.numbering.in_slots slot) notes in
    option_map_or with_progress (progress_in_slot kernel steps slot) notes
out_noted kernel notes _ = notes

-- ---- the history

-- an event, with the kernels before it and after it
abbrev pub event_noted : Booted → Application → Kernel → Kernel → Notes → Event → Notes
event_noted boot app kernel next notes (event.Entry cpu regs steps reads) =
    let visit : Visit = record { cpu = cpu; regs = regs.a; steps = steps } in
    let entering : Entering = record { kernel = kernel; next = next; visit = visit; reads = reads } in
    entry_noted (record { boot = boot; app = app; entering = entering }) notes (slice_get next.processors cpu)
event_noted boot app kernel next notes (event.Exit cpu regs) = out_noted kernel notes (slice_get kernel.processors cpu)

-- what is noted of a group by events that follow on a kernel
abbrev pub noted_from : Booted → Application → Kernel → Notes → List Event → Notes
noted_from boot app kernel notes [] = notes
noted_from boot app kernel notes (event ∷ events) =
    let goes_on = λ (next : Kernel). noted_from boot app next (event_noted boot app kernel next notes event) events in
    option_map_or goes_on (after_event boot kernel event) notes

-- and by a history
abbrev pub noted : Booted → List Event → Application → Notes
noted boot history app = noted_from boot app (first_kernel boot) no_notes history

-- what happens to the group of the application, and what it is answered
abbrev pub group_events : Booted → List Event → Application → List GroupEvent
group_events boot history app = map (λ (logged : Logged). logged.0) (noted boot history app).log

abbrev pub group_replies : Booted → List Event → Application → List GroupReply
group_replies boot history app = filter_map (λ (logged : Logged). logged.1) (noted boot history app).log
