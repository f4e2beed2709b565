-- The events of a session, told as those of a group, are its realm's: no number but 0 is lost with them.
use Rattle.std.proofs.Common.{◌≡◌, ℕ, Bool, true, false, List, [], ◌∷◌, ◌++◌, Option, Some, None, refl, ap, subst, sym, ◌∙◌}
use Rattle.std.specs.Prelude.{◌==◌, ◌&&◌, filter_map, if◌then◌else◌, is_some, map, not, slice_get}
use Rattle.std.specs.List.{AllByRecursion, cons_option, list_any}
use Rattle.std.specs.Option.{option_and_then, option_map, option_map_or}
use Rattle.base.specs.NumberMap.{get}
use Rattle.event_journal.specs.declared.event.Event.{Event}
use Rattle.event_journal.specs.declared.event.Event.TheVariants as event
use Rattle.job_model.specs.declared.call_kind.CallKind.{CallKind}
use Rattle.job_model.specs.declared.call_kind.CallKind.TheVariants as kind
use Rattle.ns_ram.specs.Reader.{reading}
use Rattle.ta_params.specs.declared.call_result.CallResult.{CallResult}
use Rattle.kernel_model.specs.Application.{Booted}
use Rattle.kernel_model.specs.Exit.{progress_in_slot}
use Rattle.kernel_model.specs.Given.{Given, given_to}
use Rattle.kernel_model.specs.History.{after_event}
use Rattle.kernel_model.specs.Kernel.{ACancel, Active, AnInvoke, AnOpen, Asks, CallPhase, Ends, Fixed, Free, InSlot}
use Rattle.kernel_model.specs.Kernel.{Inside, Kernel, Outside, PendingCall, Processor, Progress, Runs, SettledCall, Suspended}
use Rattle.kernel_model.specs.Kernel.{Tables, ThreadSlot, Untold, Visit, Waits, first_kernel}
use Rattle.kernel_model.specs.Leaving.{FreesBuffer, Finishes, Interrupted, Leaving, Requests, WantsBuffer, leaving_of}
use Rattle.kernel_model.proofs.Parts.{if-both, map_or-both}
use Rattle.own_model.specs.Own.{Entering, is_limit, is_of_client, reply_of, wake_kept, wake_of}
use Rattle.own_model.specs.declared.own_event.OwnEvent.{OwnEvent}
use Rattle.own_model.specs.declared.own_reply.OwnReply.TheVariants as reply
use Rattle.group_model.proofs.RepliesTold.{has_reply}
use Rattle.group_model.specs.Embedding.{event_as}
use Rattle.group_model.specs.Group.{plain}
use Rattle.group_model.specs.Read.{invoke_event}
use Rattle.group_model.specs.declared.group_event.GroupEvent.{GroupEvent}
use Rattle.group_model.specs.declared.group_event.GroupEvent.TheVariants.{Close, Out}
use Rattle.group_model.specs.declared.group_reply.GroupReply.{GroupReply}
use Rattle.realm_model.specs.Realm.{OneSession, open_of}
use Rattle.realm_model.specs.Reading.{machine_event, Logged, Notes, Watched, back_noted, entry_noted, event_noted}
use Rattle.realm_model.specs.declared.realm_event.RealmEvent.{RealmEvent}
use Rattle.realm_model.specs.declared.realm_event.RealmEvent.TheVariants.{TurnedAway, Comes}
use Rattle.realm_model.specs.Reading.{event_of, exit_noted, noted, noted_from, numbered, of_machine, opened_in}
use Rattle.realm_model.specs.Reading.{out_noted, resume_noted, seen_noted, sessions_with, settled_event}
use Rattle.realm_model.specs.Reading.{settled_event_in, slot_noted, with_event, with_reply}
use Rattle.realm_model.specs.Forgetting.{SessionEventsAreRealms, forgotten, own_event_of}
use Rattle.realm_model.proofs.Sessions.{sessions_are_realms}

-- ---- one event

-- with its number forgotten and given again it is the same, and it has no reply
abbrev IsBack : GroupEvent → Type 0
IsBack came = (option_and_then event_as (forgotten came) ≡ Some came) × (has_reply came ≡ false)

abbrev IfBack : Option GroupEvent → Type 0
IfBack None = Unit {0}
IfBack (Some came) = IsBack came

if_back : (test : Bool) (came : Option GroupEvent) → IfBack came → IfBack (if test then came else None)
if_back true came back = back
if_back false came back = tt

number_back : (test : Bool) (came : ℕ → Option GroupEvent) → IfBack (came 0)
    → IfBack (option_and_then came (if test then Some 0 else None))
number_back true came back = back
number_back false came back = tt

told_back : (test : Bool) (came : ℕ → GroupEvent) → IsBack (came 0)
    → IfBack (option_map came (if test then Some 0 else None))
told_back true came back = back
told_back false came back = tt

open_back : (member : ℕ) (tables : Tables) (call : PendingCall) (phase : CallPhase)
    → IfBack (open_of (OneSession member) tables call phase)
open_back member tables call (Runs job) = if_back (call.session == member) _ (refl, refl)
open_back member tables call (Asks job wanted payload) = tt
open_back member tables call (Waits params) = tt
open_back member tables call (Ends result params told wakes) = tt

invoke_back : (func : ℕ) (area : Bool) (phase : CallPhase) → IfBack (invoke_event 0 func area phase)
invoke_back func area (Runs job) = (refl, refl)
invoke_back func area (Asks job wanted payload) = tt
invoke_back func area (Waits params) = (refl, refl)
invoke_back func area (Ends result params told wakes) = tt

settled_back : (member : ℕ) (notes : Notes) (call : PendingCall) (settled : SettledCall) (result : CallResult)
    → IfBack (settled_event (OneSession member) notes call settled result)
settled_back member notes call Untold result = tt
settled_back member notes call (AnOpen login) result = tt
settled_back member notes call (AnInvoke func) result = told_back (call.session == member) _ (refl, refl)
settled_back member notes call ACancel result = told_back (call.session == member) _ (refl, refl)

settled_in_back : (member : ℕ) (notes : Notes) (call : PendingCall) (phase : CallPhase)
    → IfBack (settled_event_in (OneSession member) notes call phase)
settled_in_back member notes call (Runs job) = tt
settled_in_back member notes call (Asks job wanted payload) = tt
settled_in_back member notes call (Waits params) = tt
settled_in_back member notes call (Ends result params told wakes) = settled_back member notes call call.settled result

event_back : (member : ℕ) (tables : Tables) (notes : Notes) (call : PendingCall) (call_kind : CallKind)
    → IfBack (event_of (OneSession member) tables notes call call_kind)
event_back member tables notes call kind.Open = open_back member tables call call.phase
event_back member tables notes call (kind.Invoke func) =
    number_back (call.session == member) (λ session. invoke_event session func (is_some call.area) call.phase)
    (invoke_back func (is_some call.area) call.phase)
event_back member tables notes call kind.Close =
    told_back (call.session == member) (λ session. Close session (is_some call.area)) (refl, refl)
event_back member tables notes call kind.Settled = settled_in_back member notes call call.phase

-- ---- all that is noted

-- a call that goes out has a reply, and so has one that was turned away
abbrev pub IsToldSo : RealmEvent → Option GroupReply → Type 0
IsToldSo (Comes came) told = is_some told ≡ has_reply came
IsToldSo TurnedAway told = told ≡ Some (plain reply.Limited)

abbrev pub IsTheSame : RealmEvent → Option GroupReply → Type 0
IsTheSame came told =
    option_and_then event_as (own_event_of came)
    ≡ option_map (λ (item : GroupEvent × Option GroupReply). item.0) (machine_event came told)

abbrev pub Fits : Logged → Type 0
Fits logged = IsTheSame logged.0 logged.1 × IsToldSo logged.0 logged.1

abbrev Fit : Notes → Type 0
Fit notes = AllByRecursion Fits notes.log

added : (log : List Logged) (last : Logged) → AllByRecursion Fits log → Fits last → AllByRecursion Fits (log ++ last ∷ [])
added [] last all fits = (fits, tt)
added (first ∷ log) last all fits = (all.0, added log last all.1 fits)

pub log_stays : (call_kind : CallKind) (notes : Notes) (call : PendingCall) → (sessions_with call_kind notes call).log ≡ notes.log
log_stays kind.Open notes call = refl
log_stays (kind.Invoke func) notes call = refl
log_stays kind.Close notes call = refl
log_stays kind.Settled notes call = refl

call_fits : (notes : Notes) (slot : ℕ) (call : PendingCall) (found : Option GroupEvent) → Fit notes → IfBack found
    → Fit (option_map_or (numbered notes slot call) found notes)
call_fits notes slot call None fit back = fit
call_fits notes slot call (Some came) fit back =
    subst (λ (log : List Logged). AllByRecursion Fits log) (sym (log_stays call.kind (with_event notes came) call))
    (added notes.log (Comes came, None) fit (back.0, sym back.1))

back_fits : (notes : Notes) (number : ℕ) (leaving : Leaving) (came : Given) → Fit notes
    → Fit (back_noted notes number leaving came)
back_fits notes number Interrupted came fit = fit
back_fits notes number WantsBuffer came fit = added notes.log _ fit (refl, refl)
back_fits notes number (Requests place request) came fit = added notes.log _ fit (refl, refl)
back_fits notes number (FreesBuffer buffer) came fit = added notes.log _ fit (refl, refl)
back_fits notes number (Finishes result params) came fit = added notes.log _ fit (refl, refl)

abbrev watched : Booted → ℕ → Entering → Watched
watched boot member at = record { boot = boot; realm = OneSession member; entering = at }

resume_fits : (boot : Booted) (member : ℕ) (at : Entering) (slot : ℕ) (before now : PendingCall) (notes : Notes) (number : ℕ)
    → Fit notes → Fit (resume_noted (watched boot member at) slot before now notes number)
resume_fits boot member at slot before now notes number fit =
    let seen : Fit (seen_noted notes number before now) =
    if-both Fit (now.seen && not before.seen) _ notes (added notes.log _ fit (refl, refl)) fit in
    map_or-both Fit _ (reading (given_to at.visit.regs slot before) at.reads) (seen_noted notes number before now)
    (λ came. back_fits (seen_noted notes number before now) number (leaving_of slot before) came seen) seen

slot_fits : (boot : Booted) (member : ℕ) (at : Entering) (slot : ℕ) (notes : Notes) (held now : Option ThreadSlot)
    → Fit notes → Fit (slot_noted (watched boot member at) slot notes held now)
slot_fits boot member at slot notes None now fit = fit
slot_fits boot member at slot notes (Some (Active cpu call)) now fit = fit
slot_fits boot member at slot notes (Some Free) None fit = fit
slot_fits boot member at slot notes (Some Free) (Some Free) fit = fit
slot_fits boot member at slot notes (Some Free) (Some (Suspended client left)) fit = fit
slot_fits boot member at slot notes (Some Free) (Some (Active cpu call)) fit =
    call_fits notes slot call (event_of (OneSession member) at.next.tables notes call call.kind) fit
    (event_back member at.next.tables notes call call.kind)
slot_fits boot member at slot notes (Some (Suspended client left)) None fit = fit
slot_fits boot member at slot notes (Some (Suspended client left)) (Some Free) fit = fit
slot_fits boot member at slot notes (Some (Suspended client left)) (Some (Suspended another now)) fit = fit
slot_fits boot member at slot notes (Some (Suspended client left)) (Some (Active cpu now)) fit =
    map_or-both Fit (resume_noted (watched boot member at) slot left now notes) (get notes.numbering.in_slots slot) notes
    (λ number. resume_fits boot member at slot left now notes number fit) fit

entry_fits : (boot : Booted) (member : ℕ) (at : Entering) (notes : Notes) (processor : Option Processor) → Fit notes
    → Fit (entry_noted (watched boot member at) notes processor)
entry_fits boot member at notes None fit = fit
entry_fits boot member at notes (Some Outside) fit = fit
entry_fits boot member at notes (Some (Inside regs steps (Fixed answer))) fit =
    if-both Fit (is_limit answer && is_of_client at.kernel member at.visit.regs) _ notes fit fit
entry_fits boot member at notes (Some (Inside regs steps (InSlot slot))) fit =
    slot_fits boot member at slot notes (slice_get at.kernel.slots slot) (slice_get at.next.slots slot) fit

exit_fits : (member : ℕ) (notes : Notes) (slot : ℕ) (call : PendingCall) (number : ℕ) → Fit notes
    → Fit (exit_noted (OneSession member) notes slot call number)
exit_fits member notes slot call number fit =
    let leaving : Leaving = leaving_of slot call in
    let woken : Option ℕ = wake_kept notes.numbering slot (wake_of call.phase) in
    let opened : Option ℕ = opened_in (OneSession member) notes call call.kind leaving in
    map_or-both Fit (with_reply number notes opened) (reply_of woken call.phase leaving) notes
    (λ told. added notes.log (Comes (Out number), Some (record { reply = told; opened = opened })) fit (refl, refl)) fit

out_fits : (member : ℕ) (kernel : Kernel) (notes : Notes) (cpu : ℕ) (processor : Option Processor) → Fit notes
    → Fit (out_noted (OneSession member) kernel notes cpu processor)
out_fits member kernel notes cpu None fit = fit
out_fits member kernel notes cpu (Some Outside) fit = fit
out_fits member kernel notes cpu (Some (Inside regs steps (Fixed answer))) fit =
    if-both Fit (list_any (λ away. away == cpu) notes.turned_away) _ notes (added notes.log _ fit (refl, refl)) fit
out_fits member kernel notes cpu (Some (Inside regs steps (InSlot slot))) fit =
    map_or-both Fit _ (progress_in_slot kernel steps slot) notes
    (λ (progress : Progress). map_or-both Fit (exit_noted (OneSession member) notes slot progress.call)
    (get notes.numbering.in_slots slot) notes
    (λ number. exit_fits member notes slot progress.call number fit) fit) fit

happened_fits : (boot : Booted) (member : ℕ) (kernel next : Kernel) (notes : Notes) (happened : Event) → Fit notes
    → Fit (event_noted boot (OneSession member) kernel next notes happened)
happened_fits boot member kernel next notes (event.Entry cpu regs steps reads) fit =
    let visit : Visit = record { cpu = cpu; regs = regs.a; steps = steps } in
    entry_fits boot member (record { kernel = kernel; next = next; visit = visit; reads = reads }) notes
    (slice_get next.processors cpu) fit
happened_fits boot member kernel next notes (event.Exit cpu regs) fit =
    out_fits member kernel notes cpu (slice_get kernel.processors cpu) fit

from_fits : (boot : Booted) (member : ℕ) (kernel : Kernel) (notes : Notes) (events : List Event) → Fit notes
    → Fit (noted_from boot (OneSession member) kernel notes events)
from_fits boot member kernel notes [] fit = fit
from_fits boot member kernel notes (happened ∷ events) fit =
    map_or-both Fit (λ (next : Kernel). noted_from boot (OneSession member) next
    (event_noted boot (OneSession member) kernel next notes happened) events) (after_event boot kernel happened) notes
    (λ next. from_fits boot member next (event_noted boot (OneSession member) kernel next notes happened) events
    (happened_fits boot member kernel next notes happened fit)) fit

-- ---- its events

events_back : (log : List Logged) → AllByRecursion Fits log
    → filter_map event_as (filter_map own_event_of (map (λ (logged : Logged). logged.0) log))
    ≡ map (λ (item : GroupEvent × Option GroupReply). item.0) (filter_map of_machine log)
events_back [] all = refl
events_back (logged ∷ log) all = one (own_event_of logged.0) (of_machine logged) all.0.0 (events_back log all.1)
  where
    one : (came : Option OwnEvent) (item : Option (GroupEvent × Option GroupReply))
        → option_and_then event_as came ≡ option_map (λ (it : GroupEvent × Option GroupReply). it.0) item
        → filter_map event_as (filter_map own_event_of (map (λ (it : Logged). it.0) log))
        ≡ map (λ (it : GroupEvent × Option GroupReply). it.0) (filter_map of_machine log)
        → filter_map event_as (cons_option came (filter_map own_event_of (map (λ (it : Logged). it.0) log)))
        ≡ map (λ (it : GroupEvent × Option GroupReply). it.0) (cons_option item (filter_map of_machine log))
    one None None same rest = rest
    one None (Some item) same rest = absurd cc
    one (Some came) None same rest =
        ap (λ (o : Option GroupEvent). cons_option o
        (filter_map event_as (filter_map own_event_of (map (λ (it : Logged). it.0) log)))) same ∙ rest
    one (Some came) (Some item) same rest =
        ap (λ (o : Option GroupEvent). cons_option o
        (filter_map event_as (filter_map own_event_of (map (λ (it : Logged). it.0) log)))) same
        ∙ ap (λ (es : List GroupEvent). item.0 ∷ es) rest

-- all that is noted of a session fits
pub session_log_fits : (boot : Booted) (history : List Event) (session : ℕ)
    → AllByRecursion Fits (noted boot history (OneSession session)).log
session_log_fits boot history session = from_fits boot session (first_kernel boot) _ history tt

pub session_events_are_realms : SessionEventsAreRealms
session_events_are_realms boot history session =
    ap (λ (events : List OwnEvent). filter_map event_as events) (sessions_are_realms.events boot history session)
    ∙ events_back (noted boot history (OneSession session)).log (session_log_fits boot history session)
