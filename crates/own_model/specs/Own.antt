-- What happens to one session in a history and what it is answered, read off the kernels that the history goes
-- through: which call a slot holds after an entry, what its resume gave it, and what an exit has it go out with. This
-- project's own.
use Rattle.std.specs.Prelude.{ℕ, ◌+◌, ◌==◌, ◌&&◌, not, Bool, false, List, [], ◌∷◌, ◌++◌, Option, Some, None, is_some, slice_get}
use Rattle.std.specs.Prelude.{map, filter, filter_map, if◌then◌else◌}
use Rattle.std.specs.List.{list_any}
use Rattle.std.specs.Option.{option_map, option_map_or, option_and_then, option_or}
use Rattle.base.specs.NumberMap.{NumberMap, get, insert, remove}
use Rattle.event_journal.specs.declared.event.Event.{Event}
use Rattle.event_journal.specs.declared.event.Event.TheVariants as event
use Rattle.job_model.specs.declared.call_kind.CallKind.{CallKind}
use Rattle.job_model.specs.declared.call_kind.CallKind.TheVariants as kind
use Rattle.ns_ram.specs.declared.read.Read.{Read}
use Rattle.ns_ram.specs.Reader.{reading}
use Rattle.session_table.specs.declared.session.Session.{Session}
use Rattle.smc_abi.specs.declared.answer.Answer.{Answer}
use Rattle.smc_abi.specs.declared.answer.Answer.TheVariants.{Words}
use Rattle.ta_params.specs.declared.call_result.CallResult.{CallResult}
use Rattle.ta_params.specs.declared.copied_params.CopiedParams.{CopiedParams}
use Rattle.kernel_model.specs.Application.{Application, Booted}
use Rattle.kernel_model.specs.Argument.{client_in}
use Rattle.kernel_model.specs.Codes.{target_dead}
use Rattle.kernel_model.specs.Exit.{progress_in_slot}
use Rattle.kernel_model.specs.Given.{Given, given_to}
use Rattle.kernel_model.specs.Given as given
use Rattle.kernel_model.specs.History.{after_event}
use Rattle.kernel_model.specs.Instances.{app_of}
use Rattle.kernel_model.specs.Kernel.{CallPhase, Runs, Asks, Waits, Ends, SettledCall, Untold, AnOpen, AnInvoke}
use Rattle.kernel_model.specs.Kernel.{ACancel, PendingCall, Progress, ThreadSlot, Free, Active, Suspended, Errand}
use Rattle.kernel_model.specs.Kernel.{Fixed, InSlot, Processor, Inside, Kernel, Visit, first_kernel}
use Rattle.kernel_model.specs.Leaving.{Leaving, Interrupted, WantsBuffer, Requests, FreesBuffer, Finishes, leaving_of}
use Rattle.own_model.specs.declared.own_event.BackInput.{BackInput}
use Rattle.own_model.specs.declared.own_event.BackInput.TheVariants as back
use Rattle.own_model.specs.declared.own_event.OwnEvent.{OwnEvent}
use Rattle.own_model.specs.declared.own_event.OwnEvent.TheVariants.{Open, Invoke, Close, Cancel, Seen, Back, Out}
use Rattle.own_model.specs.declared.own_event.OwnEvent.TheVariants.{Limited}
use Rattle.own_model.specs.declared.own_event.OwnInput.{OwnInput}
use Rattle.own_model.specs.declared.own_event.OwnInput.TheVariants.{Copied, Faulty, Unread}
use Rattle.own_model.specs.declared.own_reply.OwnReply.{OwnReply}
use Rattle.own_model.specs.declared.own_reply.OwnReply.TheVariants as reply
use Rattle.own_model.specs.Parameters.{params_of, outputs_with}

-- an event with its reply, if it has one
abbrev pub Logged : Type 0
Logged = OwnEvent × Option OwnReply

-- the numbers of a session's calls
pub record Numbering : Type 0 where
  -- how many have come in: the number of the next one
  pub entered : ℕ
  -- those of the calls that are in slots, by their slots
  pub in_slots : NumberMap ℕ
  -- those of the calls that are woken, by the slots of the calls that wake them, from where that is fixed on
  pub wakes : NumberMap ℕ

-- what is noted of a session as a history goes on
pub record Notes : Type 0 where
  -- the UUID of its application, once its open has come in
  pub uuid : Option (List ℕ)
  pub numbering : Numbering
  -- the processors inside whose new call, of the session's client, found no slot while the session was there
  pub turned_away : List ℕ
  -- its events so far
  pub log : List Logged

abbrev pub no_notes : Notes
no_notes =
    record { uuid = None; numbering = record { entered = 0; in_slots = []; wakes = [] }; turned_away = []; log = [] }

-- with this event, which has no reply
abbrev pub with_event : Notes → OwnEvent → Notes
with_event notes came = record notes { log = notes.log ++ (came, None) ∷ [] }

-- ---- calls that come in

-- what came of the parameters of an invoke that was settled with this result
abbrev pub input_settled : CallResult → OwnInput
input_settled result = if result.result == target_dead then Unread else Faulty

-- the event of a call, with an area or without one, that was settled with this result
abbrev pub settled_event : Bool → SettledCall → CallResult → Option OwnEvent
settled_event area Untold result = None
settled_event area (AnOpen login) result = None
settled_event area (AnInvoke func) result = Some (Invoke func (input_settled result) area)
settled_event area ACancel result = Some Cancel

-- the event of a call that comes in, by whether it has an area, its kind and the phase in which it is taken in
abbrev pub event_in : Bool → SettledCall → CallKind → CallPhase → Option OwnEvent
event_in area settled kind.Open (Runs job) = Some (Open (params_of job) job.login area)
event_in area settled (kind.Invoke func) (Runs job) = Some (Invoke func (Copied (params_of job)) area)
event_in area settled (kind.Invoke func) (Waits params) = Some (Invoke func (Copied params) area)
event_in area settled kind.Close phase = Some (Close area)
event_in area settled kind.Settled (Ends result params told wakes) = settled_event area settled result
event_in area settled _ _ = None

-- where it is a call of the session
abbrev pub event_of : ℕ → PendingCall → Option OwnEvent
event_of session call =
    if call.session == session then event_in (is_some call.area) call.settled call.kind call.phase else None

-- the application's UUID by this event: the open brings it
abbrev pub uuid_by : OwnEvent → PendingCall → Notes → Option (List ℕ)
uuid_by (Open params login area) call notes = call.uuid
uuid_by _ call notes = notes.uuid

-- a call of the session comes into a slot: it gets the next number
abbrev pub next_in : Numbering → ℕ → Numbering
next_in numbering slot = record numbering {
  entered = numbering.entered + 1;
  in_slots = insert numbering.in_slots slot numbering.entered;
}

abbrev pub numbered : Notes → ℕ → PendingCall → OwnEvent → Notes
numbered notes slot call came = record (with_event notes came) {
  uuid = uuid_by came call notes;
  numbering = next_in notes.numbering slot;
}

-- a call comes into a slot
abbrev pub call_noted : ℕ → Notes → ℕ → PendingCall → Notes
call_noted session notes slot call = option_map_or (numbered notes slot call) (event_of session call) notes

-- ---- calls that come back

-- a call sees only now that it was cancelled
abbrev pub seen_noted : Notes → ℕ → PendingCall → PendingCall → Notes
seen_noted notes number before now =
    if now.seen && not before.seen then with_event notes (Seen number before.steps) else notes

-- what a call is given, without the buffer's place
abbrev pub input_of : Given → BackInput
input_of given.Nothing = back.Nothing
input_of (given.Buffer buffer) = back.Buffer
input_of given.NoBuffer = back.NoBuffer
input_of (given.Reply answer) = back.Reply answer

-- a call that was left so is given this; one that was interrupted had asked for nothing
abbrev pub back_noted : Notes → ℕ → Leaving → Given → Notes
back_noted notes number Interrupted came = notes
back_noted notes number _ came = with_event notes (Back number (input_of came))

-- an entry that gets into a slot: its registers, its reads, and the slot
pub record Resuming : Type 0 where
  pub regs : List ℕ
  pub reads : List Read
  pub slot : ℕ

-- the session's call of this number comes back in it: it was left so, and is this now
abbrev pub resume_noted : Resuming → PendingCall → PendingCall → Notes → ℕ → Notes
resume_noted r before now notes number =
    let seen = seen_noted notes number before now in
    option_map_or (back_noted seen number (leaving_of r.slot before))
    (reading (given_to r.regs r.slot before) r.reads) seen

-- ---- entries

-- what the slot of an entry held before it, and what it holds now: a new call, or one that comes back
abbrev pub slot_noted : ℕ → Resuming → Notes → Option ThreadSlot → Option ThreadSlot → Notes
slot_noted session r notes (Some Free) (Some (Active cpu call)) = call_noted session notes r.slot call
slot_noted session r notes (Some (Suspended client before)) (Some (Active cpu now)) =
    option_map_or (resume_noted r before now notes) (get notes.numbering.in_slots r.slot) notes
slot_noted session r notes _ _ = notes

-- the answer is ETHREAD_LIMIT
abbrev pub is_limit : Answer → Bool
is_limit (Words a0 a1 a2 a3) = a0 == 1
is_limit _ = false

-- the session is there, and the registers are of its client
abbrev pub is_of_client : Kernel → ℕ → List ℕ → Bool
is_of_client kernel session regs =
    option_map_or (λ (kept : Session). kept.client == client_in regs) (get kernel.tables.sessions session) false

-- an answer that was fixed
abbrev pub fixed_noted : ℕ → Kernel → Visit → Notes → Answer → Notes
fixed_noted session kernel visit notes answer =
    if is_limit answer && is_of_client kernel session visit.regs
    then record notes { turned_away = visit.cpu ∷ notes.turned_away }
    else notes

-- an entry: the kernel before it and after it
pub record Entering : Type 0 where
  pub kernel : Kernel
  pub next : Kernel
  pub visit : Visit
  pub reads : List Read

abbrev pub errand_noted : ℕ → Entering → Notes → Errand → Notes
errand_noted session e notes (Fixed answer) = fixed_noted session e.kernel e.visit notes answer
errand_noted session e notes (InSlot slot) =
    slot_noted session (record { regs = e.visit.regs; reads = e.reads; slot = slot }) notes
    (slice_get e.kernel.slots slot) (slice_get e.next.slots slot)

abbrev pub entry_noted : ℕ → Entering → Notes → Option Processor → Notes
entry_noted session e notes (Some (Inside regs steps errand)) = errand_noted session e notes errand
entry_noted session e notes _ = notes

-- ---- exits

-- whom a call in this phase wakes: in the kernel by the slot, in a machine by the number
abbrev pub wake_of : CallPhase → Option ℕ
wake_of (Ends result params told wakes) = wakes
wake_of _ = None

-- the number of the call that the call of a slot wakes, where it wakes that of the other slot: the one that was kept, or else that of
-- the call which is there now
abbrev pub wake_kept : Numbering → ℕ → Option ℕ → Option ℕ
wake_kept numbering slot None = None
wake_kept numbering slot (Some woken) = option_or (get numbering.wakes slot) (get numbering.in_slots woken)

-- what is told of a request
abbrev pub request_reply : Option ℕ → CallPhase → Option OwnReply
request_reply woken (Runs job) = None
request_reply woken (Asks job wanted payload) = Some (reply.Ask wanted payload)
request_reply woken (Waits params) = Some reply.Sleep
request_reply woken (Ends result params told wakes) = option_map (λ number. reply.Wake number) woken

-- a call has ended with this result, and leaves these parameters
abbrev pub ended : CallResult → CopiedParams → OwnReply
ended result params = reply.Ended result.result result.origin (outputs_with result params)

-- what is told of a call that goes out so: nothing of an interrupt
abbrev pub reply_of : Option ℕ → CallPhase → Leaving → Option OwnReply
reply_of woken phase Interrupted = None
reply_of woken phase WantsBuffer = Some reply.Alloc
reply_of woken phase (Requests place request) = request_reply woken phase
reply_of woken phase (FreesBuffer buffer) = Some reply.Free
reply_of woken phase (Finishes result params) = Some (ended result params)

-- the session's call of this number goes out with this reply
abbrev pub with_reply : ℕ → Notes → OwnReply → Notes
with_reply number notes told = record notes { log = notes.log ++ (Out number, Some told) ∷ [] }

-- whom the call of the slot wakes is kept
abbrev pub with_wake : Numbering → ℕ → Option ℕ → Numbering
with_wake numbering slot None = numbering
with_wake numbering slot (Some woken) = record numbering { wakes = insert numbering.wakes slot woken }

-- the slot holds no call of the session any more where its call goes out so
abbrev pub slot_kept : Numbering → ℕ → Leaving → Numbering
slot_kept numbering slot (Finishes result params) =
    record numbering { in_slots = remove numbering.in_slots slot; wakes = remove numbering.wakes slot }
slot_kept numbering slot _ = numbering

-- the session's call of this number, which is this by now, goes out of the slot
abbrev pub exit_noted : Notes → ℕ → PendingCall → ℕ → Notes
exit_noted notes slot call number =
    let leaving = leaving_of slot call in
    let woken = wake_kept notes.numbering slot (wake_of call.phase) in
    let told = option_map_or (with_reply number notes) (reply_of woken call.phase leaving) notes in
    record told { numbering = slot_kept (with_wake notes.numbering slot woken) slot leaving }

-- a call that was turned away goes out
abbrev pub limit_noted : Notes → ℕ → Notes
limit_noted notes cpu =
    if list_any (λ away. away == cpu) notes.turned_away
    then record notes {
      turned_away = filter (λ away. not (away == cpu)) notes.turned_away;
      log = notes.log ++ (Limited, Some reply.Limited) ∷ [];
    }
    else notes

-- a processor that is inside goes out
abbrev pub out_noted : Kernel → Notes → ℕ → Option Processor → Notes
out_noted kernel notes cpu (Some (Inside regs steps (Fixed answer))) = limit_noted notes cpu
out_noted kernel notes cpu (Some (Inside regs steps (InSlot slot))) =
    let with_progress = λ (progress : Progress).
    option_map_or (exit_noted notes slot progress.call) (get notes.numbering.in_slots slot) notes in
    option_map_or with_progress (progress_in_slot kernel steps slot) notes
out_noted kernel notes cpu _ = notes

-- ---- the history

-- an event, with the kernels before it and after it
abbrev pub event_noted : ℕ → Kernel → Kernel → Notes → Event → Notes
event_noted session kernel next notes (event.Entry cpu regs steps reads) =
    let visit : Visit = record { cpu = cpu; regs = regs.a; steps = steps } in
    entry_noted session (record { kernel = kernel; next = next; visit = visit; reads = reads }) notes
    (slice_get next.processors cpu)
event_noted session kernel next notes (event.Exit cpu regs) =
    out_noted kernel notes cpu (slice_get kernel.processors cpu)

-- what is noted of a session by events that follow on a kernel
abbrev pub noted_from : Booted → ℕ → Kernel → Notes → List Event → Notes
noted_from boot session kernel notes [] = notes
noted_from boot session kernel notes (event ∷ events) =
    let goes_on = λ (next : Kernel).
    noted_from boot session next (event_noted session kernel next notes event) events in
    option_map_or goes_on (after_event boot kernel event) notes

-- and by a history
abbrev pub noted : Booted → List Event → ℕ → Notes
noted boot history session = noted_from boot session (first_kernel boot) no_notes history

-- what happens to the session, and what it is answered
abbrev pub events_in : List Logged → List OwnEvent
events_in log = map (λ logged. logged.0) log

abbrev pub replies_in : List Logged → List OwnReply
replies_in log = filter_map (λ logged. logged.1) log

abbrev pub own_events : Booted → List Event → ℕ → List OwnEvent
own_events boot history session = events_in (noted boot history session).log

abbrev pub own_replies : Booted → List Event → ℕ → List OwnReply
own_replies boot history session = replies_in (noted boot history session).log

-- the application of the session, once its open has come in
abbrev pub own_app : Booted → List Event → ℕ → Option Application
own_app boot history session = option_and_then (app_of boot) (noted boot history session).uuid
