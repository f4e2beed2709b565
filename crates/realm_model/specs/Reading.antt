-- What happens to a realm in a history and what it is answered, read off the kernels that the history goes through: which
-- call a slot holds after an entry, what its resume gave it, and what an exit has it go out with. This project's own.
use Rattle.std.specs.Prelude.{ℕ, ◌+◌, ◌==◌, ◌&&◌, not, List, [], ◌∷◌, ◌++◌, Option, Some, None, slice_get, is_some}
use Rattle.std.specs.Prelude.{map, filter, filter_map, if◌then◌else◌}
use Rattle.std.specs.List.{list_any}
use Rattle.std.specs.Option.{option_map, option_map_or, option_and_then}
use Rattle.base.specs.NumberMap.{NumberMap, get, insert}
use Rattle.event_journal.specs.declared.event.Event.{Event}
use Rattle.event_journal.specs.declared.event.Event.TheVariants as event
use Rattle.job_model.specs.declared.call_kind.CallKind.{CallKind}
use Rattle.job_model.specs.declared.call_kind.CallKind.TheVariants as kind
use Rattle.ns_ram.specs.Reader.{reading}
use Rattle.smc_abi.specs.declared.answer.Answer.{Answer}
use Rattle.ta_params.specs.declared.call_result.CallResult.{CallResult}
use Rattle.kernel_model.specs.Application.{Booted}
use Rattle.kernel_model.specs.Codes.{success}
use Rattle.kernel_model.specs.Exit.{progress_in_slot}
use Rattle.kernel_model.specs.Given.{Given, given_to}
use Rattle.kernel_model.specs.History.{after_event}
use Rattle.kernel_model.specs.Kernel.{CallPhase, Ends, SettledCall, Untold, AnOpen, AnInvoke, ACancel}
use Rattle.kernel_model.specs.Kernel.{PendingCall, Progress, ThreadSlot, Free, Active, Suspended, Errand, Fixed, InSlot}
use Rattle.kernel_model.specs.Kernel.{Processor, Inside, Kernel, Tables, Visit, first_kernel}
use Rattle.kernel_model.specs.Leaving.{Leaving, Interrupted, Finishes, leaving_of}
use Rattle.own_model.specs.Own.{Entering, Numbering, input_of, input_settled, is_limit, is_of_client, next_in, reply_of}
use Rattle.own_model.specs.Own.{slot_kept, wake_kept, wake_of, with_wake}
use Rattle.own_model.specs.declared.own_reply.OwnReply.{OwnReply}
use Rattle.own_model.specs.declared.own_reply.OwnReply.TheVariants as reply
use Rattle.group_model.specs.Group.{plain}
use Rattle.group_model.specs.Read.{invoke_event}
use Rattle.group_model.specs.declared.group_event.GroupEvent.{GroupEvent}
use Rattle.group_model.specs.declared.group_event.GroupEvent.TheVariants.{Open, Invoke, Close, Cancel, Seen, Room, Back}
use Rattle.group_model.specs.declared.group_event.GroupEvent.TheVariants.{Out}
use Rattle.group_model.specs.declared.group_reply.GroupReply.{GroupReply}
use Rattle.realm_model.specs.declared.realm_event.RealmEvent.{RealmEvent}
use Rattle.realm_model.specs.declared.realm_event.RealmEvent.TheVariants.{Comes, TurnedAway}
use Rattle.realm_model.specs.Realm.{Realm, client_of, number_in, open_of, room_of, settled_open_of}

-- one with its reply, if it has one
abbrev pub Logged : Type 0
Logged = RealmEvent × Option GroupReply

-- what is noted of a realm as a history goes on
pub record Notes : Type 0 where
  -- the UUID of its application, once an open has come in
  pub uuid : Option (List ℕ)
  -- its numbers of the sessions that its opens got, by the kernel's, and the number of the next one
  pub sessions : NumberMap ℕ
  pub next_session : ℕ
  -- the numbers of its calls
  pub numbering : Numbering
  -- the processors inside whose new call, of its client, found no slot while its session was there
  pub turned_away : List ℕ
  -- its events so far
  pub log : List Logged

abbrev pub no_notes : Notes
no_notes = record {
  uuid = None;
  sessions = [];
  next_session = 0;
  numbering = record { entered = 0; in_slots = []; wakes = [] };
  turned_away = [];
  log = [];
}

-- with this event, which has no reply
abbrev pub with_event : Notes → GroupEvent → Notes
with_event notes came = record notes { log = notes.log ++ (Comes came, None) ∷ [] }

-- the realm's number of a session, where it is a member
abbrev pub number_of : Realm → Notes → ℕ → Option ℕ
number_of realm notes session = number_in realm notes.sessions session

-- ---- calls that come in

-- the event of a call that was settled with this result
abbrev pub settled_event : Realm → Notes → PendingCall → SettledCall → CallResult → Option GroupEvent
settled_event realm notes call Untold result = None
settled_event realm notes call (AnOpen login) result = settled_open_of realm call login result
settled_event realm notes call (AnInvoke func) result =
    option_map (λ session. Invoke session func (input_settled result) (is_some call.area)) (number_of realm notes call.session)
settled_event realm notes call ACancel result = option_map (λ session. Cancel session) (number_of realm notes call.session)

abbrev pub settled_event_in : Realm → Notes → PendingCall → CallPhase → Option GroupEvent
settled_event_in realm notes call (Ends result params told wakes) = settled_event realm notes call call.settled result
settled_event_in realm notes call _ = None

-- the event of a call that comes in, with the tables behind its entry, where it is a member's
abbrev pub event_of : Realm → Tables → Notes → PendingCall → CallKind → Option GroupEvent
event_of realm tables notes call kind.Open = open_of realm tables call call.phase
event_of realm tables notes call (kind.Invoke func) =
    option_and_then (λ session. invoke_event session func (is_some call.area) call.phase)
    (number_of realm notes call.session)
event_of realm tables notes call kind.Close =
    option_map (λ session. Close session (is_some call.area)) (number_of realm notes call.session)
event_of realm tables notes call kind.Settled = settled_event_in realm notes call call.phase

-- an open that got a session gives that the realm's next number
abbrev pub sessions_with : CallKind → Notes → PendingCall → Notes
sessions_with kind.Open notes call = record notes {
  sessions = insert notes.sessions call.session notes.next_session;
  next_session = notes.next_session + 1;
}
sessions_with _ notes call = notes

-- the application's UUID by this event: an open brings it
abbrev pub uuid_by : GroupEvent → PendingCall → Notes → Option (List ℕ)
uuid_by (Open input login limited area) call notes = call.uuid
uuid_by _ call notes = notes.uuid

-- a call of the realm comes into a slot: it gets the next number
abbrev pub numbered : Notes → ℕ → PendingCall → GroupEvent → Notes
numbered notes slot call came = record (sessions_with call.kind (with_event notes came) call) {
  uuid = uuid_by came call notes;
  numbering = next_in notes.numbering slot;
}

-- a call comes into a slot
abbrev pub call_noted : Realm → Tables → Notes → ℕ → PendingCall → Notes
call_noted realm tables notes slot call =
    option_map_or (numbered notes slot call) (event_of realm tables notes call call.kind) notes

-- ---- calls that come back

-- an entry: the boot, the realm, and the kernel before it and after it
pub record Watched : Type 0 where
  pub boot : Booted
  pub realm : Realm
  pub entering : Entering

-- a call sees only now that it was cancelled
abbrev pub seen_noted : Notes → ℕ → PendingCall → PendingCall → Notes
seen_noted notes number before now =
    if now.seen && not before.seen then with_event notes (Seen number before.steps) else notes

-- an open that has waited finds its instance gone
abbrev pub room_noted : Watched → Notes → ℕ → PendingCall → Notes
room_noted w notes number before =
    option_map_or (λ enough. with_event notes (Room number enough))
    (room_of w.realm w.boot w.entering.kernel.tables before) notes

-- a call that was left so is given this; one that was interrupted had asked for nothing
abbrev pub back_noted : Notes → ℕ → Leaving → Given → Notes
back_noted notes number Interrupted came = notes
back_noted notes number _ came = with_event notes (Back number (input_of came))

-- the realm's call of this number comes back: it was left so, and is this now. First comes what it sees, then whether its
-- instance is gone, then what it is given
abbrev pub resume_noted : Watched → ℕ → PendingCall → PendingCall → Notes → ℕ → Notes
resume_noted w slot before now notes number =
    let found = room_noted w (seen_noted notes number before now) number before in
    option_map_or (back_noted found number (leaving_of slot before))
    (reading (given_to w.entering.visit.regs slot before) w.entering.reads) found

-- ---- entries

-- what the slot of an entry held before it, and what it holds now: a new call, or one that comes back
abbrev pub slot_noted : Watched → ℕ → Notes → Option ThreadSlot → Option ThreadSlot → Notes
slot_noted w slot notes (Some Free) (Some (Active cpu call)) =
    call_noted w.realm w.entering.next.tables notes slot call
slot_noted w slot notes (Some (Suspended client before)) (Some (Active cpu now)) =
    option_map_or (resume_noted w slot before now notes) (get notes.numbering.in_slots slot) notes
slot_noted w slot notes _ _ = notes

-- an answer that was fixed, where it is noted for the client of this session
abbrev pub fixed_noted : Entering → Notes → Answer → Option ℕ → Notes
fixed_noted e notes answer None = notes
fixed_noted e notes answer (Some session) =
    if is_limit answer && is_of_client e.kernel session e.visit.regs
    then record notes { turned_away = e.visit.cpu ∷ notes.turned_away }
    else notes

abbrev pub errand_noted : Watched → Notes → Errand → Notes
errand_noted w notes (Fixed answer) = fixed_noted w.entering notes answer (client_of w.realm)
errand_noted w notes (InSlot slot) =
    slot_noted w slot notes (slice_get w.entering.kernel.slots slot) (slice_get w.entering.next.slots slot)

abbrev pub entry_noted : Watched → Notes → Option Processor → Notes
entry_noted w notes (Some (Inside regs steps errand)) = errand_noted w notes errand
entry_noted w notes _ = notes

-- ---- exits

-- the realm's number of the session that the call has opened, where it goes out so
abbrev pub opened_in : Realm → Notes → PendingCall → CallKind → Leaving → Option ℕ
opened_in realm notes call kind.Open (Finishes result params) =
    if result.result == success then number_of realm notes call.session else None
opened_in realm notes call _ _ = None

-- the realm's call of this number goes out with this reply
abbrev pub with_reply : ℕ → Notes → Option ℕ → OwnReply → Notes
with_reply number notes opened told =
    let replied : GroupReply = record { reply = told; opened = opened } in
    record notes { log = notes.log ++ (Comes (Out number), Some replied) ∷ [] }

-- the realm's call of this number, which is this by now, goes out of the slot
abbrev pub exit_noted : Realm → Notes → ℕ → PendingCall → ℕ → Notes
exit_noted realm notes slot call number =
    let leaving = leaving_of slot call in
    let woken = wake_kept notes.numbering slot (wake_of call.phase) in
    let opened = opened_in realm notes call call.kind leaving in
    let told = option_map_or (with_reply number notes opened) (reply_of woken call.phase leaving) notes in
    record told { numbering = slot_kept (with_wake notes.numbering slot woken) slot leaving }

-- a call that was turned away goes out
abbrev pub limit_noted : Notes → ℕ → Notes
limit_noted notes cpu =
    if list_any (λ away. away == cpu) notes.turned_away
    then record notes {
      turned_away = filter (λ away. not (away == cpu)) notes.turned_away;
      log = notes.log ++ (TurnedAway, Some (plain reply.Limited)) ∷ [];
    }
    else notes

-- a processor that is inside goes out
abbrev pub out_noted : Realm → Kernel → Notes → ℕ → Option Processor → Notes
out_noted realm kernel notes cpu (Some (Inside regs steps (Fixed answer))) = limit_noted notes cpu
out_noted realm kernel notes cpu (Some (Inside regs steps (InSlot slot))) =
    let with_progress = λ (progress : Progress).
    option_map_or (exit_noted realm notes slot progress.call) (get notes.numbering.in_slots slot) notes in
    option_map_or with_progress (progress_in_slot kernel steps slot) notes
out_noted realm kernel notes cpu _ = notes

-- ---- the history

-- an event, with the kernels before it and after it
abbrev pub event_noted : Booted → Realm → Kernel → Kernel → Notes → Event → Notes
event_noted boot realm kernel next notes (event.Entry cpu regs steps reads) =
    let visit : Visit = record { cpu = cpu; regs = regs.a; steps = steps } in
    let entering : Entering = record { kernel = kernel; next = next; visit = visit; reads = reads } in
    entry_noted (record { boot = boot; realm = realm; entering = entering }) notes (slice_get next.processors cpu)
event_noted boot realm kernel next notes (event.Exit cpu regs) =
    out_noted realm kernel notes cpu (slice_get kernel.processors cpu)

-- what is noted of a realm by events that follow on a kernel
abbrev pub noted_from : Booted → Realm → Kernel → Notes → List Event → Notes
noted_from boot realm kernel notes [] = notes
noted_from boot realm kernel notes (event ∷ events) =
    let goes_on = λ (next : Kernel).
    noted_from boot realm next (event_noted boot realm kernel next notes event) events in
    option_map_or goes_on (after_event boot kernel event) notes

-- and by a history
abbrev pub noted : Booted → List Event → Realm → Notes
noted boot history realm = noted_from boot realm (first_kernel boot) no_notes history

-- what happens to it
abbrev pub happened : Booted → List Event → Realm → List RealmEvent
happened boot history realm = map (λ (logged : Logged). logged.0) (noted boot history realm).log

-- ---- what its machine has of it

-- an event of its machine, with its reply: that a call was turned away is none
abbrev pub machine_event : RealmEvent → Option GroupReply → Option (GroupEvent × Option GroupReply)
machine_event (Comes came) told = Some (came, told)
machine_event TurnedAway told = None

abbrev pub of_machine : Logged → Option (GroupEvent × Option GroupReply)
of_machine logged = machine_event logged.0 logged.1

-- what happens to its machine, and what the realm is answered to that
abbrev pub realm_events : Booted → List Event → Realm → List GroupEvent
realm_events boot history realm =
    map (λ (item : GroupEvent × Option GroupReply). item.0) (filter_map of_machine (noted boot history realm).log)

abbrev pub realm_replies : Booted → List Event → Realm → List GroupReply
realm_replies boot history realm =
    filter_map (λ (item : GroupEvent × Option GroupReply). item.1) (filter_map of_machine (noted boot history realm).log)
