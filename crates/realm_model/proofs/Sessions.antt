-- What is noted of a session is what is noted of its realm, with the numbers of sessions forgotten.
use Rattle.std.proofs.Common.{◌≡◌, ℕ, Bool, true, false, List, [], ◌∷◌, ◌++◌, Option, Some, None, refl, ap, sym, ◌∙◌}
use Rattle.std.specs.Prelude.{◌==◌, ◌&&◌, filter, filter_map, if◌then◌else◌, is_some, map, not, slice_get}
use Rattle.std.specs.List.{cons_option, list_any}
use Rattle.std.specs.Option.{option_and_then, option_map, option_map_or}
use Rattle.std.proofs.lemmas.List.Elements.{filter_map-append}
use Rattle.base.specs.NumberMap.{get}
use Rattle.event_journal.specs.declared.event.Event.{Event}
use Rattle.event_journal.specs.declared.event.Event.TheVariants as event
use Rattle.job_model.specs.declared.call_kind.CallKind.{CallKind}
use Rattle.job_model.specs.declared.call_kind.CallKind.TheVariants as kind
use Rattle.ns_ram.specs.Reader.{reading}
use Rattle.ta_params.specs.declared.call_result.CallResult.{CallResult}
use Rattle.kernel_model.specs.Application.{Booted}
use Rattle.kernel_model.specs.Exit.{progress_in_slot}
use Rattle.kernel_model.specs.Given.{Given, given_to}
use Rattle.kernel_model.specs.History.{after_event}
use Rattle.kernel_model.specs.Kernel.{ACancel, Active, AnInvoke, AnOpen, Asks, CallPhase, Ends, Errand, Fixed, Free, InSlot}
use Rattle.kernel_model.specs.Kernel.{Inside, Kernel, PendingCall, Processor, Progress, Runs, SettledCall, Suspended, Tables}
use Rattle.kernel_model.specs.Kernel.{ThreadSlot, Untold, Visit, Waits, first_kernel}
use Rattle.kernel_model.specs.Leaving.{Interrupted, FreesBuffer, Finishes, Leaving, Requests, WantsBuffer, leaving_of}
use Rattle.own_model.specs.Own.{Entering, Numbering, is_limit, is_of_client, next_in}
use Rattle.own_model.specs.Own as own
use Rattle.own_model.specs.declared.own_event.OwnEvent.{OwnEvent}
use Rattle.own_model.specs.declared.own_event.OwnEvent.TheVariants as own_event
use Rattle.own_model.specs.declared.own_event.OwnInput.TheVariants.{Copied, Faulty, Unread}
use Rattle.own_model.specs.declared.own_reply.OwnReply.{OwnReply}
use Rattle.own_model.specs.declared.own_reply.OwnReply.TheVariants as reply
use Rattle.group_model.specs.Group.{plain}
use Rattle.group_model.specs.Read.{invoke_event}
use Rattle.group_model.specs.declared.group_event.GroupEvent.{GroupEvent}
use Rattle.group_model.specs.declared.group_event.GroupEvent.TheVariants.{Back, Cancel, Close, Invoke, Open, Out, Room, Seen}
use Rattle.group_model.specs.declared.group_reply.GroupReply.{GroupReply}
use Rattle.realm_model.specs.Realm.{OneSession, open_of}
use Rattle.realm_model.specs.Reading.{Logged, Notes, back_noted}
use Rattle.realm_model.specs.declared.realm_event.RealmEvent.TheVariants.{Comes, TurnedAway}
use Rattle.realm_model.specs.Reading.{entry_noted, errand_noted, event_noted, event_of, exit_noted}
use Rattle.realm_model.specs.Reading.{noted, noted_from, numbered, out_noted, resume_noted, seen_noted, sessions_with}
use Rattle.realm_model.specs.Reading.{settled_event, settled_event_in, slot_noted, uuid_by, with_event, with_reply}
use Rattle.realm_model.specs.Forgetting.{SessionsAreRealms, forgotten, own_event_of, own_logged, own_part}

-- ---- one more event

abbrev with_log : own.Notes → List own.Logged → own.Notes
with_log notes log = record notes { log = log }

event_with : (notes : Notes) (came : GroupEvent) (event : OwnEvent) → forgotten came ≡ Some event
    → own_part (with_event notes came) ≡ own.with_event (own_part notes) event
event_with notes came event is =
    ap (with_log (own_part notes)) (filter_map-append own_logged notes.log ((Comes came, None) ∷ []))
    ∙ ap (λ (o : Option OwnEvent). with_log (own_part notes)
    (filter_map own_logged notes.log ++ cons_option (option_map (λ e. (e, None)) o) [])) is

-- where a test says so
event_if : (notes : Notes) (came : GroupEvent) (event : OwnEvent) (test : Bool) → forgotten came ≡ Some event
    → own_part (if test then with_event notes came else notes)
    ≡ (if test then own.with_event (own_part notes) event else own_part notes)
event_if notes came event true is = event_with notes came event is
event_if notes came event false is = refl

-- ---- calls that come in

-- the realm's event is the session's with its number, and there is none where the session has none
abbrev pub SameEvent : Option GroupEvent → Option OwnEvent → Type 0
SameEvent None None = Unit {0}
SameEvent (Some came) (Some event) = forgotten came ≡ Some event
SameEvent (Some came) None = ⊥
SameEvent None (Some event) = ⊥

choice_same : (test : Bool) (came : Option GroupEvent) (event : Option OwnEvent) → SameEvent came event
    → SameEvent (if test then came else None) (if test then event else None)
choice_same true came event same = same
choice_same false came event same = tt

none_same : (test : Bool) → SameEvent None (if test then None else None)
none_same true = tt
none_same false = tt

number_same : (test : Bool) (came : ℕ → Option GroupEvent) (event : Option OwnEvent) → SameEvent (came 0) event
    → SameEvent (option_and_then came (if test then Some 0 else None)) (if test then event else None)
number_same true came event same = same
number_same false came event same = tt

told_same : (test : Bool) (came : ℕ → GroupEvent) (event : OwnEvent) → forgotten (came 0) ≡ Some event
    → SameEvent (option_map came (if test then Some 0 else None)) (if test then Some event else None)
told_same true came event same = same
told_same false came event same = tt

open_same : (member : ℕ) (tables : Tables) (call : PendingCall) (phase : CallPhase)
    → SameEvent (open_of (OneSession member) tables call phase)
    (if call.session == member then own.event_in (is_some call.area) call.settled kind.Open phase else None)
open_same member tables call (Runs job) = choice_same (call.session == member) _ _ refl
open_same member tables call (Asks job wanted payload) = none_same (call.session == member)
open_same member tables call (Waits params) = none_same (call.session == member)
open_same member tables call (Ends result params told wakes) = none_same (call.session == member)

invoke_same : (func : ℕ) (area : Bool) (settled : SettledCall) (phase : CallPhase)
    → SameEvent (invoke_event 0 func area phase) (own.event_in area settled (kind.Invoke func) phase)
invoke_same func area settled (Runs job) = refl
invoke_same func area settled (Asks job wanted payload) = tt
invoke_same func area settled (Waits params) = refl
invoke_same func area settled (Ends result params told wakes) = tt

settled_same : (member : ℕ) (notes : Notes) (call : PendingCall) (settled : SettledCall) (result : CallResult)
    → SameEvent (settled_event (OneSession member) notes call settled result)
    (if call.session == member then own.settled_event (is_some call.area) settled result else None)
settled_same member notes call Untold result = none_same (call.session == member)
settled_same member notes call (AnOpen login) result = none_same (call.session == member)
settled_same member notes call (AnInvoke func) result = told_same (call.session == member) _ _ refl
settled_same member notes call ACancel result = told_same (call.session == member) _ _ refl

settled_in_same : (member : ℕ) (notes : Notes) (call : PendingCall) (phase : CallPhase)
    → SameEvent (settled_event_in (OneSession member) notes call phase)
    (if call.session == member then own.event_in (is_some call.area) call.settled kind.Settled phase else None)
settled_in_same member notes call (Runs job) = none_same (call.session == member)
settled_in_same member notes call (Asks job wanted payload) = none_same (call.session == member)
settled_in_same member notes call (Waits params) = none_same (call.session == member)
settled_in_same member notes call (Ends result params told wakes) =
    settled_same member notes call call.settled result

pub event_same : (member : ℕ) (tables : Tables) (notes : Notes) (call : PendingCall) (call_kind : CallKind)
    → SameEvent (event_of (OneSession member) tables notes call call_kind)
    (if call.session == member then own.event_in (is_some call.area) call.settled call_kind call.phase else None)
event_same member tables notes call kind.Open = open_same member tables call call.phase
event_same member tables notes call (kind.Invoke func) =
    number_same (call.session == member) _ _ (invoke_same func (is_some call.area) call.settled call.phase)
event_same member tables notes call kind.Close = told_same (call.session == member) _ _ refl
event_same member tables notes call kind.Settled = settled_in_same member notes call call.phase

-- an open brings the UUID
uuid_same : (came : GroupEvent) (event : OwnEvent) (call : PendingCall) (notes : Notes) → forgotten came ≡ Some event
    → uuid_by came call notes ≡ own.uuid_by event call (own_part notes)
uuid_same came event call notes is = by_event came is
  where
    told : (one : OwnEvent) → Some one ≡ Some event
        → own.uuid_by one call (own_part notes) ≡ own.uuid_by event call (own_part notes)
    told one same =
        let equal : one ≡ event = cc in ap (λ (e : OwnEvent). own.uuid_by e call (own_part notes)) equal

    by_event : (one : GroupEvent) → forgotten one ≡ Some event
        → uuid_by one call notes ≡ own.uuid_by event call (own_part notes)
    by_event (Open (Copied params) login limited area) same = told (own_event.Open params login area) same
    by_event (Open Faulty login limited area) same = absurd cc
    by_event (Open Unread login limited area) same = absurd cc
    by_event (Invoke session func input area) same = told (own_event.Invoke func input area) same
    by_event (Close session area) same = told (own_event.Close area) same
    by_event (Cancel session) same = told own_event.Cancel same
    by_event (Seen number steps) same = told (own_event.Seen number steps) same
    by_event (Room number enough) same = absurd cc
    by_event (Back number input) same = told (own_event.Back number input) same
    by_event (Out number) same = told (own_event.Out number) same

abbrev with_uuid : own.Notes → Option (List ℕ) → Numbering → own.Notes
with_uuid notes uuid numbering = record notes { uuid = uuid; numbering = numbering }

numbered_same : (notes : Notes) (slot : ℕ) (call : PendingCall) (came : GroupEvent) (event : OwnEvent)
    → forgotten came ≡ Some event
    → own_part (numbered notes slot call came) ≡ own.numbered (own_part notes) slot call event
numbered_same notes slot call came event is = by_kind call.kind
  where
    now : with_uuid (own_part (with_event notes came)) (uuid_by came call notes) (next_in notes.numbering slot)
        ≡ own.numbered (own_part notes) slot call event
    now =
        ap (λ (n : own.Notes). with_uuid n (uuid_by came call notes) (next_in notes.numbering slot))
        (event_with notes came event is)
        ∙ ap (λ (u : Option (List ℕ)). with_uuid (own.with_event (own_part notes) event) u (next_in notes.numbering slot))
        (uuid_same came event call notes is)

    by_kind : (call_kind : CallKind)
        → own_part (record (sessions_with call_kind (with_event notes came) call) {
          uuid = uuid_by came call notes;
          numbering = next_in notes.numbering slot;
        }) ≡ own.numbered (own_part notes) slot call event
    by_kind kind.Open = now
    by_kind (kind.Invoke func) = now
    by_kind kind.Close = now
    by_kind kind.Settled = now

call_by : (notes : Notes) (slot : ℕ) (call : PendingCall) (came : Option GroupEvent) (event : Option OwnEvent)
    → SameEvent came event
    → own_part (option_map_or (numbered notes slot call) came notes)
    ≡ option_map_or (own.numbered (own_part notes) slot call) event (own_part notes)
call_by notes slot call None None same = refl
call_by notes slot call (Some came) (Some event) same = numbered_same notes slot call came event same
call_by notes slot call (Some came) None same = absurd same
call_by notes slot call None (Some event) same = absurd same

-- ---- calls that come back

back_same : (notes : Notes) (number : ℕ) (leaving : Leaving) (came : Given)
    → own_part (back_noted notes number leaving came) ≡ own.back_noted (own_part notes) number leaving came
back_same notes number Interrupted came = refl
back_same notes number WantsBuffer came = event_with notes _ _ refl
back_same notes number (Requests place request) came = event_with notes _ _ refl
back_same notes number (FreesBuffer buffer) came = event_with notes _ _ refl
back_same notes number (Finishes result params) came = event_with notes _ _ refl

given_same : (notes : Notes) (number : ℕ) (leaving : Leaving) (came : Option Given)
    → own_part (option_map_or (back_noted notes number leaving) came notes)
    ≡ option_map_or (own.back_noted (own_part notes) number leaving) came (own_part notes)
given_same notes number leaving None = refl
given_same notes number leaving (Some came) = back_same notes number leaving came

resume_same : (boot : Booted) (member : ℕ) (e : Entering) (slot : ℕ) (before now : PendingCall) (notes : Notes)
    (number : ℕ)
    → own_part (resume_noted (record { boot = boot; realm = OneSession member; entering = e }) slot before now notes number)
    ≡ own.resume_noted (record { regs = e.visit.regs; reads = e.reads; slot = slot }) before now (own_part notes) number
resume_same boot member e slot before now notes number =
    let given = reading (given_to e.visit.regs slot before) e.reads in
    given_same (seen_noted notes number before now) number (leaving_of slot before) given
    ∙ ap (λ (n : own.Notes). option_map_or (own.back_noted n number (leaving_of slot before)) given n)
    (event_if notes (Seen number before.steps) (own_event.Seen number before.steps) (now.seen && not before.seen) refl)

-- ---- entries

found_same : (boot : Booted) (member : ℕ) (e : Entering) (slot : ℕ) (before now : PendingCall) (notes : Notes)
    (number : Option ℕ)
    → own_part (option_map_or
    (resume_noted (record { boot = boot; realm = OneSession member; entering = e }) slot before now notes) number notes)
    ≡ option_map_or (own.resume_noted (record { regs = e.visit.regs; reads = e.reads; slot = slot }) before now
    (own_part notes)) number (own_part notes)
found_same boot member e slot before now notes None = refl
found_same boot member e slot before now notes (Some number) = resume_same boot member e slot before now notes number

slot_same : (boot : Booted) (member : ℕ) (e : Entering) (slot : ℕ) (notes : Notes) (before now : Option ThreadSlot)
    → own_part (slot_noted (record { boot = boot; realm = OneSession member; entering = e }) slot notes before now)
    ≡ own.slot_noted member (record { regs = e.visit.regs; reads = e.reads; slot = slot }) (own_part notes) before now
slot_same boot member e slot notes (Some Free) (Some (Active cpu call)) =
    call_by notes slot call _ _ (event_same member e.next.tables notes call call.kind)
slot_same boot member e slot notes (Some (Suspended client before)) (Some (Active cpu now)) =
    found_same boot member e slot before now notes (get notes.numbering.in_slots slot)
slot_same boot member e slot notes _ _ = refl

turned_same : (notes : Notes) (cpu : ℕ) (test : Bool)
    → own_part (if test then record notes { turned_away = cpu ∷ notes.turned_away } else notes)
    ≡ (if test then record (own_part notes) { turned_away = cpu ∷ (own_part notes).turned_away } else own_part notes)
turned_same notes cpu true = refl
turned_same notes cpu false = refl

errand_same : (boot : Booted) (member : ℕ) (e : Entering) (notes : Notes) (errand : Errand)
    → own_part (errand_noted (record { boot = boot; realm = OneSession member; entering = e }) notes errand)
    ≡ own.errand_noted member e (own_part notes) errand
errand_same boot member e notes (Fixed answer) =
    turned_same notes e.visit.cpu (is_limit answer && is_of_client e.kernel member e.visit.regs)
errand_same boot member e notes (InSlot slot) =
    slot_same boot member e slot notes (slice_get e.kernel.slots slot) (slice_get e.next.slots slot)

entry_same : (boot : Booted) (member : ℕ) (e : Entering) (notes : Notes) (processor : Option Processor)
    → own_part (entry_noted (record { boot = boot; realm = OneSession member; entering = e }) notes processor)
    ≡ own.entry_noted member e (own_part notes) processor
entry_same boot member e notes (Some (Inside regs steps errand)) = errand_same boot member e notes errand
entry_same boot member e notes _ = refl

-- ---- exits

reply_same : (notes : Notes) (number : ℕ) (opened : Option ℕ) (told : Option OwnReply) (numbering : Numbering)
    → own_part (record (option_map_or (with_reply number notes opened) told notes) { numbering = numbering })
    ≡ record (option_map_or (own.with_reply number (own_part notes)) told (own_part notes)) { numbering = numbering }
reply_same notes number opened None numbering = refl
reply_same notes number opened (Some told) numbering =
    let replied : GroupReply = record { reply = told; opened = opened } in
    ap (λ (log : List own.Logged). with_log (record (own_part notes) { numbering = numbering }) log)
    (filter_map-append own_logged notes.log ((Comes (Out number), Some replied) ∷ []))

gone_same : (member : ℕ) (notes : Notes) (slot : ℕ) (call : PendingCall) (number : Option ℕ)
    → own_part (option_map_or (exit_noted (OneSession member) notes slot call) number notes)
    ≡ option_map_or (own.exit_noted (own_part notes) slot call) number (own_part notes)
gone_same member notes slot call None = refl
gone_same member notes slot call (Some number) = reply_same notes number _ _ _

progress_same : (member : ℕ) (notes : Notes) (slot : ℕ) (progress : Option Progress)
    → own_part (option_map_or (λ (p : Progress). option_map_or (exit_noted (OneSession member) notes slot p.call)
    (get notes.numbering.in_slots slot) notes) progress notes)
    ≡ option_map_or (λ (p : Progress). option_map_or (own.exit_noted (own_part notes) slot p.call)
    (get notes.numbering.in_slots slot) (own_part notes)) progress (own_part notes)
progress_same member notes slot None = refl
progress_same member notes slot (Some progress) =
    gone_same member notes slot progress.call (get notes.numbering.in_slots slot)

limit_same : (notes : Notes) (cpu : ℕ) (test : Bool)
    → own_part (if test then record notes {
      turned_away = filter (λ away. not (away == cpu)) notes.turned_away;
      log = notes.log ++ (TurnedAway, Some (plain reply.Limited)) ∷ [];
    } else notes)
    ≡ (if test then record (own_part notes) {
      turned_away = filter (λ away. not (away == cpu)) (own_part notes).turned_away;
      log = (own_part notes).log ++ (own_event.Limited, Some reply.Limited) ∷ [];
    } else own_part notes)
limit_same notes cpu false = refl
limit_same notes cpu true =
    ap (λ (log : List own.Logged). with_log
    (record (own_part notes) { turned_away = filter (λ away. not (away == cpu)) notes.turned_away }) log)
    (filter_map-append own_logged notes.log ((TurnedAway, Some (plain reply.Limited)) ∷ []))

out_same : (member : ℕ) (kernel : Kernel) (notes : Notes) (cpu : ℕ) (processor : Option Processor)
    → own_part (out_noted (OneSession member) kernel notes cpu processor)
    ≡ own.out_noted kernel (own_part notes) cpu processor
out_same member kernel notes cpu (Some (Inside regs steps (Fixed answer))) =
    limit_same notes cpu (list_any (λ away. away == cpu) notes.turned_away)
out_same member kernel notes cpu (Some (Inside regs steps (InSlot slot))) =
    progress_same member notes slot (progress_in_slot kernel steps slot)
out_same member kernel notes cpu _ = refl

-- ---- the history

pub happened_same : (boot : Booted) (member : ℕ) (kernel next : Kernel) (notes : Notes) (happened : Event)
    → own_part (event_noted boot (OneSession member) kernel next notes happened)
    ≡ own.event_noted member kernel next (own_part notes) happened
happened_same boot member kernel next notes (event.Entry cpu regs steps reads) =
    let visit : Visit = record { cpu = cpu; regs = regs.a; steps = steps } in
    entry_same boot member (record { kernel = kernel; next = next; visit = visit; reads = reads }) notes
    (slice_get next.processors cpu)
happened_same boot member kernel next notes (event.Exit cpu regs) =
    out_same member kernel notes cpu (slice_get kernel.processors cpu)

-- from the kernel after an event on, if there is one
onward_same : (boot : Booted) (member : ℕ) (kernel : Kernel) (notes : Notes) (happened : Event) (events : List Event)
    → ((next : Kernel) → own.noted_from boot member next
    (own_part (event_noted boot (OneSession member) kernel next notes happened)) events
    ≡ own_part (noted_from boot (OneSession member) next
    (event_noted boot (OneSession member) kernel next notes happened) events))
    → (next : Option Kernel)
    → option_map_or (λ (k : Kernel). own.noted_from boot member k
    (own.event_noted member kernel k (own_part notes) happened) events) next (own_part notes)
    ≡ own_part (option_map_or (λ (k : Kernel). noted_from boot (OneSession member) k
    (event_noted boot (OneSession member) kernel k notes happened) events) next notes)
onward_same boot member kernel notes happened events rest None = refl
onward_same boot member kernel notes happened events rest (Some next) =
    ap (λ (n : own.Notes). own.noted_from boot member next n events)
    (sym (happened_same boot member kernel next notes happened)) ∙ rest next

from_same : (boot : Booted) (member : ℕ) (kernel : Kernel) (notes : Notes) (events : List Event)
    → own.noted_from boot member kernel (own_part notes) events
    ≡ own_part (noted_from boot (OneSession member) kernel notes events)
from_same boot member kernel notes [] = refl
from_same boot member kernel notes (happened ∷ events) =
    onward_same boot member kernel notes happened events
    (λ next. from_same boot member next (event_noted boot (OneSession member) kernel next notes happened) events)
    (after_event boot kernel happened)

-- ---- its events

pub events_forgotten : (log : List Logged)
    → map (λ (logged : own.Logged). logged.0) (filter_map own_logged log)
    ≡ filter_map own_event_of (map (λ (logged : Logged). logged.0) log)
events_forgotten [] = refl
events_forgotten (logged ∷ log) = by_event (option_map (λ (r : GroupReply). r.reply) logged.1) (own_event_of logged.0)
    (events_forgotten log)
  where
    by_event : (told : Option OwnReply) (came : Option OwnEvent)
        → map (λ (one : own.Logged). one.0) (filter_map own_logged log)
        ≡ filter_map own_event_of (map (λ (one : Logged). one.0) log)
        → map (λ (one : own.Logged). one.0) (cons_option (option_map (λ e. (e, told)) came) (filter_map own_logged log))
        ≡ cons_option came (filter_map own_event_of (map (λ (one : Logged). one.0) log))
    by_event told None rest = rest
    by_event told (Some event) rest = ap (λ (es : List OwnEvent). event ∷ es) rest

pub sessions_are_realms : SessionsAreRealms
sessions_are_realms = record {
  noted_so = so;
  events = λ boot history session.
      ap (λ (n : own.Notes). own.events_in n.log) (so boot history session)
      ∙ events_forgotten (noted boot history (OneSession session)).log;
}
  where
    so : (boot : Booted) (history : List Event) (session : ℕ)
        → own.noted boot history session ≡ own_part (noted boot history (OneSession session))
    so boot history session = from_same boot session (first_kernel boot) _ history
