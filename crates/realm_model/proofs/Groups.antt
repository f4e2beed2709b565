-- What is noted of a group is what is noted of its realm.
use Rattle.std.proofs.Common.{◌≡◌, ℕ, Bool, true, false, List, [], ◌∷◌, ◌++◌, Option, Some, None, refl, ap, sym, ◌∙◌}
use Rattle.std.specs.Prelude.{◌==◌, ◌&&◌, filter_map, if◌then◌else◌, map, not, slice_get}
use Rattle.std.specs.List.{list_any}
use Rattle.std.specs.Option.{option_map_or}
use Rattle.std.proofs.lemmas.List.{append-nil}
use Rattle.std.proofs.lemmas.List.Elements.{filter_map-append}
use Rattle.base.specs.NumberMap.{get}
use Rattle.event_journal.specs.declared.event.Event.{Event}
use Rattle.event_journal.specs.declared.event.Event.TheVariants as event
use Rattle.job_model.specs.declared.call_kind.CallKind.{CallKind}
use Rattle.job_model.specs.declared.call_kind.CallKind.TheVariants as kind
use Rattle.ns_ram.specs.Reader.{reading}
use Rattle.ta_params.specs.declared.call_result.CallResult.{CallResult}
use Rattle.kernel_model.specs.Application.{Application, Booted}
use Rattle.kernel_model.specs.Begin.{has_pages_for}
use Rattle.kernel_model.specs.Exit.{progress_in_slot}
use Rattle.kernel_model.specs.Given.{Given, given_to}
use Rattle.kernel_model.specs.History.{after_event}
use Rattle.kernel_model.specs.Kernel.{ACancel, Active, AnInvoke, AnOpen, Asks, CallPhase, Ends, Errand, Fixed, Free, InSlot}
use Rattle.kernel_model.specs.Kernel.{Inside, Kernel, PendingCall, Processor, Progress, Runs, SettledCall, Suspended, Tables}
use Rattle.kernel_model.specs.Kernel.{ThreadSlot, Untold, Visit, Waits, first_kernel}
use Rattle.kernel_model.specs.Leaving.{Interrupted, FreesBuffer, Finishes, Leaving, Requests, WantsBuffer, leaving_of}
use Rattle.own_model.specs.Own.{Entering, Numbering, next_in, reply_of, slot_kept, wake_kept, wake_of, with_wake}
use Rattle.own_model.specs.declared.own_reply.OwnReply.{OwnReply}
use Rattle.own_model.specs.declared.own_reply.OwnReply.TheVariants as reply
use Rattle.group_model.specs.Group.{plain}
use Rattle.group_model.specs.Read.{finds_it_gone}
use Rattle.group_model.specs.Read as group
use Rattle.group_model.specs.declared.group_event.GroupEvent.{GroupEvent}
use Rattle.group_model.specs.declared.group_event.GroupEvent.TheVariants.{Out, Room, Seen}
use Rattle.group_model.specs.declared.group_reply.GroupReply.{GroupReply}
use Rattle.realm_model.specs.Realm.{AllSessions}
use Rattle.realm_model.specs.Reading.{Notes, Watched, back_noted, entry_noted, errand_noted}
use Rattle.realm_model.specs.declared.realm_event.RealmEvent.TheVariants.{Comes, TurnedAway}
use Rattle.realm_model.specs.Reading.{event_noted, event_of, exit_noted, noted, noted_from, numbered, of_machine, opened_in}
use Rattle.realm_model.specs.Reading.{out_noted, resume_noted, room_noted, seen_noted, sessions_with, settled_event}
use Rattle.realm_model.specs.Reading.{settled_event_in, slot_noted, uuid_by, with_event, with_reply}
use Rattle.realm_model.specs.Forgetting.{GroupsAreRealms, group_part}

-- ---- one more event

abbrev with_log : group.Notes → List group.Logged → group.Notes
with_log notes log = record notes { log = log }

event_with : (notes : Notes) (came : GroupEvent)
    → group_part (with_event notes came) ≡ group.with_event (group_part notes) came
event_with notes came = ap (with_log (group_part notes)) (filter_map-append of_machine notes.log ((Comes came, None) ∷ []))

event_if : (notes : Notes) (came : GroupEvent) (test : Bool)
    → group_part (if test then with_event notes came else notes)
    ≡ (if test then group.with_event (group_part notes) came else group_part notes)
event_if notes came true = event_with notes came
event_if notes came false = refl

-- ---- calls that come in

settled_same : (app : Application) (notes : Notes) (call : PendingCall) (settled : SettledCall) (result : CallResult)
    → settled_event (AllSessions app) notes call settled result
    ≡ group.settled_event app (group_part notes) call settled result
settled_same app notes call Untold result = refl
settled_same app notes call (AnOpen login) result = refl
settled_same app notes call (AnInvoke func) result = refl
settled_same app notes call ACancel result = refl

settled_in_same : (app : Application) (notes : Notes) (call : PendingCall) (phase : CallPhase)
    → settled_event_in (AllSessions app) notes call phase ≡ group.settled_event_in app (group_part notes) call phase
settled_in_same app notes call (Runs job) = refl
settled_in_same app notes call (Asks job wanted payload) = refl
settled_in_same app notes call (Waits params) = refl
settled_in_same app notes call (Ends result params told wakes) = settled_same app notes call call.settled result

event_same : (app : Application) (tables : Tables) (notes : Notes) (call : PendingCall) (call_kind : CallKind)
    → event_of (AllSessions app) tables notes call call_kind
    ≡ group.event_of app tables (group_part notes) call call_kind
event_same app tables notes call kind.Open = refl
event_same app tables notes call (kind.Invoke func) = refl
event_same app tables notes call kind.Close = refl
event_same app tables notes call kind.Settled = settled_in_same app notes call call.phase

abbrev with_numbering : group.Notes → Numbering → group.Notes
with_numbering notes numbering = record notes { numbering = numbering }

numbered_same : (notes : Notes) (slot : ℕ) (call : PendingCall) (came : GroupEvent)
    → group_part (numbered notes slot call came) ≡ group.numbered (group_part notes) slot call came
numbered_same notes slot call came = by_kind call.kind
  where
    by_kind : (call_kind : CallKind)
        → group_part (record (sessions_with call_kind (with_event notes came) call) {
          uuid = uuid_by came call notes;
          numbering = next_in notes.numbering slot;
        }) ≡ record (group.sessions_with call_kind (group.with_event (group_part notes) came) call) {
          numbering = next_in notes.numbering slot;
        }
    by_kind kind.Open = ap (with_log (record (group.sessions_with kind.Open (group_part notes) call) {
      numbering = next_in notes.numbering slot;
    })) (filter_map-append of_machine notes.log ((Comes came, None) ∷ []))
    by_kind (kind.Invoke func) =
        ap (λ (n : group.Notes). with_numbering n (next_in notes.numbering slot)) (event_with notes came)
    by_kind kind.Close =
        ap (λ (n : group.Notes). with_numbering n (next_in notes.numbering slot)) (event_with notes came)
    by_kind kind.Settled =
        ap (λ (n : group.Notes). with_numbering n (next_in notes.numbering slot)) (event_with notes came)

call_by : (notes : Notes) (slot : ℕ) (call : PendingCall) (came : Option GroupEvent)
    → group_part (option_map_or (numbered notes slot call) came notes)
    ≡ option_map_or (group.numbered (group_part notes) slot call) came (group_part notes)
call_by notes slot call None = refl
call_by notes slot call (Some came) = numbered_same notes slot call came

-- ---- calls that come back

back_same : (notes : Notes) (number : ℕ) (leaving : Leaving) (came : Given)
    → group_part (back_noted notes number leaving came) ≡ group.back_noted (group_part notes) number leaving came
back_same notes number Interrupted came = refl
back_same notes number WantsBuffer came = event_with notes _
back_same notes number (Requests place request) came = event_with notes _
back_same notes number (FreesBuffer buffer) came = event_with notes _
back_same notes number (Finishes result params) came = event_with notes _

given_same : (notes : Notes) (number : ℕ) (leaving : Leaving) (came : Option Given)
    → group_part (option_map_or (back_noted notes number leaving) came notes)
    ≡ option_map_or (group.back_noted (group_part notes) number leaving) came (group_part notes)
given_same notes number leaving None = refl
given_same notes number leaving (Some came) = back_same notes number leaving came

room_if : (notes : Notes) (number : ℕ) (enough test : Bool)
    → group_part (option_map_or (λ e. with_event notes (Room number e)) (if test then Some enough else None) notes)
    ≡ (if test then group.with_event (group_part notes) (Room number enough) else group_part notes)
room_if notes number enough true = event_with notes (Room number enough)
room_if notes number enough false = refl

abbrev watched : Booted → Application → Entering → Watched
watched boot app e = record { boot = boot; realm = AllSessions app; entering = e }

abbrev group_watched : Booted → Application → Entering → group.Watched
group_watched boot app e = record { boot = boot; app = app; entering = e }

resume_same : (boot : Booted) (app : Application) (e : Entering) (slot : ℕ) (before now : PendingCall) (notes : Notes)
    (number : ℕ)
    → group_part (resume_noted (watched boot app e) slot before now notes number)
    ≡ group.resume_noted (group_watched boot app e) slot before now (group_part notes) number
resume_same boot app e slot before now notes number =
    let given = reading (given_to e.visit.regs slot before) e.reads in
    let seen : Notes = seen_noted notes number before now in
    let w : group.Watched = group_watched boot app e in
    given_same (room_noted (watched boot app e) seen number before) number (leaving_of slot before) given
    ∙ ap (λ (n : group.Notes). option_map_or (group.back_noted n number (leaving_of slot before)) given n)
    (room_if seen number (has_pages_for boot e.kernel.tables app)
    (finds_it_gone e.kernel.tables before before.kind before.phase)
    ∙ ap (λ (n : group.Notes). group.room_noted w n number before)
    (event_if notes (Seen number before.steps) (now.seen && not before.seen)))

-- ---- entries

found_same : (boot : Booted) (app : Application) (e : Entering) (slot : ℕ) (before now : PendingCall) (notes : Notes)
    (number : Option ℕ)
    → group_part (option_map_or (resume_noted (watched boot app e) slot before now notes) number notes)
    ≡ option_map_or (group.resume_noted (group_watched boot app e) slot before now (group_part notes)) number
    (group_part notes)
found_same boot app e slot before now notes None = refl
found_same boot app e slot before now notes (Some number) = resume_same boot app e slot before now notes number

slot_same : (boot : Booted) (app : Application) (e : Entering) (slot : ℕ) (notes : Notes) (before now : Option ThreadSlot)
    → group_part (slot_noted (watched boot app e) slot notes before now)
    ≡ group.slot_noted (group_watched boot app e) slot (group_part notes) before now
slot_same boot app e slot notes (Some Free) (Some (Active cpu call)) =
    call_by notes slot call (event_of (AllSessions app) e.next.tables notes call call.kind)
    ∙ ap (λ (o : Option GroupEvent). option_map_or (group.numbered (group_part notes) slot call) o (group_part notes))
    (event_same app e.next.tables notes call call.kind)
slot_same boot app e slot notes (Some (Suspended client before)) (Some (Active cpu now)) =
    found_same boot app e slot before now notes (get notes.numbering.in_slots slot)
slot_same boot app e slot notes _ _ = refl

errand_same : (boot : Booted) (app : Application) (e : Entering) (notes : Notes) (regs : List ℕ) (steps : ℕ) (errand : Errand)
    → group_part (errand_noted (watched boot app e) notes errand)
    ≡ group.entry_noted (group_watched boot app e) (group_part notes) (Some (Inside regs steps errand))
errand_same boot app e notes regs steps (Fixed answer) = refl
errand_same boot app e notes regs steps (InSlot slot) =
    slot_same boot app e slot notes (slice_get e.kernel.slots slot) (slice_get e.next.slots slot)

entry_same : (boot : Booted) (app : Application) (e : Entering) (notes : Notes) (processor : Option Processor)
    → group_part (entry_noted (watched boot app e) notes processor)
    ≡ group.entry_noted (group_watched boot app e) (group_part notes) processor
entry_same boot app e notes (Some (Inside regs steps errand)) = errand_same boot app e notes regs steps errand
entry_same boot app e notes _ = refl

-- ---- exits

opened_same : (app : Application) (notes : Notes) (call : PendingCall) (call_kind : CallKind) (leaving : Leaving)
    → opened_in (AllSessions app) notes call call_kind leaving ≡ group.opened_in (group_part notes) call call_kind leaving
opened_same app notes call kind.Open (Finishes result params) = refl
opened_same app notes call _ _ = refl

reply_same : (notes : Notes) (number : ℕ) (opened : Option ℕ) (told : Option OwnReply) (numbering : Numbering)
    → group_part (record (option_map_or (with_reply number notes opened) told notes) { numbering = numbering })
    ≡ record (option_map_or (group.with_reply number (group_part notes) opened) told (group_part notes)) {
      numbering = numbering;
    }
reply_same notes number opened None numbering = refl
reply_same notes number opened (Some told) numbering =
    let replied : GroupReply = record { reply = told; opened = opened } in
    ap (with_log (with_numbering (group_part notes) numbering))
    (filter_map-append of_machine notes.log ((Comes (Out number), Some replied) ∷ []))

gone_same : (app : Application) (notes : Notes) (slot : ℕ) (call : PendingCall) (number : Option ℕ)
    → group_part (option_map_or (exit_noted (AllSessions app) notes slot call) number notes)
    ≡ option_map_or (group.exit_noted (group_part notes) slot call) number (group_part notes)
gone_same app notes slot call None = refl
gone_same app notes slot call (Some number) =
    let woken = wake_kept notes.numbering slot (wake_of call.phase) in
    let leaving : Leaving = leaving_of slot call in
    let numbering : Numbering = slot_kept (with_wake notes.numbering slot woken) slot leaving in
    let told : Option OwnReply = reply_of woken call.phase leaving in
    reply_same notes number (opened_in (AllSessions app) notes call call.kind leaving) told numbering
    ∙ ap (λ (o : Option ℕ). with_numbering (option_map_or (group.with_reply number (group_part notes) o) told
    (group_part notes)) numbering) (opened_same app notes call call.kind leaving)

progress_same : (app : Application) (notes : Notes) (slot : ℕ) (progress : Option Progress)
    → group_part (option_map_or (λ (p : Progress). option_map_or (exit_noted (AllSessions app) notes slot p.call)
    (get notes.numbering.in_slots slot) notes) progress notes)
    ≡ option_map_or (λ (p : Progress). option_map_or (group.exit_noted (group_part notes) slot p.call)
    (get notes.numbering.in_slots slot) (group_part notes)) progress (group_part notes)
progress_same app notes slot None = refl
progress_same app notes slot (Some progress) =
    gone_same app notes slot progress.call (get notes.numbering.in_slots slot)

-- that a call was turned away is no event of a group
limit_same : (notes : Notes) (away : List ℕ) (test : Bool)
    → group_part (if test then record notes {
      turned_away = away;
      log = notes.log ++ (TurnedAway, Some (plain reply.Limited)) ∷ [];
    } else notes) ≡ group_part notes
limit_same notes away false = refl
limit_same notes away true =
    ap (with_log (group_part notes))
    (filter_map-append of_machine notes.log ((TurnedAway, Some (plain reply.Limited)) ∷ [])
    ∙ append-nil (filter_map of_machine notes.log))

out_same : (app : Application) (kernel : Kernel) (notes : Notes) (cpu : ℕ) (processor : Option Processor)
    → group_part (out_noted (AllSessions app) kernel notes cpu processor)
    ≡ group.out_noted kernel (group_part notes) processor
out_same app kernel notes cpu (Some (Inside regs steps (Fixed answer))) =
    limit_same notes _ (list_any (λ away. away == cpu) notes.turned_away)
out_same app kernel notes cpu (Some (Inside regs steps (InSlot slot))) =
    progress_same app notes slot (progress_in_slot kernel steps slot)
out_same app kernel notes cpu _ = refl

-- ---- the history

pub happened_same : (boot : Booted) (app : Application) (kernel next : Kernel) (notes : Notes) (happened : Event)
    → group_part (event_noted boot (AllSessions app) kernel next notes happened)
    ≡ group.event_noted boot app kernel next (group_part notes) happened
happened_same boot app kernel next notes (event.Entry cpu regs steps reads) =
    let visit : Visit = record { cpu = cpu; regs = regs.a; steps = steps } in
    entry_same boot app (record { kernel = kernel; next = next; visit = visit; reads = reads }) notes
    (slice_get next.processors cpu)
happened_same boot app kernel next notes (event.Exit cpu regs) =
    out_same app kernel notes cpu (slice_get kernel.processors cpu)

-- from the kernel after an event on, if there is one
onward_same : (boot : Booted) (app : Application) (kernel : Kernel) (notes : Notes) (happened : Event) (events : List Event)
    → ((next : Kernel) → group.noted_from boot app next
    (group_part (event_noted boot (AllSessions app) kernel next notes happened)) events
    ≡ group_part (noted_from boot (AllSessions app) next
    (event_noted boot (AllSessions app) kernel next notes happened) events))
    → (next : Option Kernel)
    → option_map_or (λ (k : Kernel). group.noted_from boot app k
    (group.event_noted boot app kernel k (group_part notes) happened) events) next (group_part notes)
    ≡ group_part (option_map_or (λ (k : Kernel). noted_from boot (AllSessions app) k
    (event_noted boot (AllSessions app) kernel k notes happened) events) next notes)
onward_same boot app kernel notes happened events rest None = refl
onward_same boot app kernel notes happened events rest (Some next) =
    ap (λ (n : group.Notes). group.noted_from boot app next n events)
    (sym (happened_same boot app kernel next notes happened)) ∙ rest next

from_same : (boot : Booted) (app : Application) (kernel : Kernel) (notes : Notes) (events : List Event)
    → group.noted_from boot app kernel (group_part notes) events
    ≡ group_part (noted_from boot (AllSessions app) kernel notes events)
from_same boot app kernel notes [] = refl
from_same boot app kernel notes (happened ∷ events) =
    onward_same boot app kernel notes happened events
    (λ next. from_same boot app next (event_noted boot (AllSessions app) kernel next notes happened) events)
    (after_event boot kernel happened)

so : (boot : Booted) (history : List Event) (app : Application)
    → group.noted boot history app ≡ group_part (noted boot history (AllSessions app))
so boot history app = from_same boot app (first_kernel boot) _ history

pub groups_are_realms : GroupsAreRealms
groups_are_realms = record {
  noted_so = so;
  events = λ boot history app.
      ap (λ (n : group.Notes). map (λ (logged : group.Logged). logged.0) n.log) (so boot history app);
  replies = λ boot history app.
      ap (λ (n : group.Notes). filter_map (λ (logged : group.Logged). logged.1) n.log) (so boot history app);
}
