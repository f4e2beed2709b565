-- Of all sessions of an application no call is noted that was turned away.
use Rattle.std.proofs.Common.{◌≡◌, ℕ, List, [], ◌∷◌, ◌++◌, Option, Some, None, refl, ap, sym, subst}
use Rattle.std.specs.Prelude.{◌==◌, ◌&&◌, filter, if◌then◌else◌, not, slice_get}
use Rattle.std.specs.List.{AllByRecursion, list_any}
use Rattle.std.specs.Option.{option_map_or}
use Rattle.base.specs.NumberMap.{get}
use Rattle.event_journal.specs.declared.event.Event.{Event}
use Rattle.event_journal.specs.declared.event.Event.TheVariants.{Entry, Exit}
use Rattle.group_model.specs.Group.{plain}
use Rattle.group_model.specs.declared.group_event.GroupEvent.{GroupEvent}
use Rattle.group_model.specs.declared.group_event.GroupEvent.TheVariants.{Room, Seen}
use Rattle.job_model.specs.declared.call_kind.CallKind.{CallKind}
use Rattle.job_model.specs.declared.call_kind.CallKind.TheVariants as kind
use Rattle.kernel_model.proofs.Parts.{if-both, map_or-both}
use Rattle.kernel_model.specs.Application.{Application, Booted}
use Rattle.kernel_model.specs.Exit.{progress_in_slot}
use Rattle.kernel_model.specs.Given.{Given, given_to}
use Rattle.kernel_model.specs.History.{after_event}
use Rattle.kernel_model.specs.Kernel.{Active, Fixed, Free, InSlot, Inside, Kernel, Outside, PendingCall, Processor, Progress, Suspended, ThreadSlot, Visit, first_kernel}
use Rattle.kernel_model.specs.Leaving.{FreesBuffer, Finishes, Interrupted, Leaving, Requests, WantsBuffer, leaving_of}
use Rattle.ns_ram.specs.Reader.{reading}
use Rattle.own_model.specs.Own.{Entering, reply_of, wake_kept, wake_of}
use Rattle.own_model.specs.declared.own_reply.OwnReply.TheVariants as reply
use Rattle.realm_model.specs.Reading.{Logged, Notes, Watched, back_noted, entry_noted, event_noted, event_of, exit_noted, limit_noted, noted, noted_from}
use Rattle.realm_model.specs.Reading.{numbered, opened_in, out_noted, resume_noted, room_noted, seen_noted, sessions_with, slot_noted, with_event, with_reply}
use Rattle.realm_model.specs.Realm.{AllSessions, room_of}
use Rattle.realm_model.specs.declared.realm_event.RealmEvent.{RealmEvent}
use Rattle.realm_model.specs.declared.realm_event.RealmEvent.TheVariants.{Comes, TurnedAway}

-- an event of the machine
abbrev pub IsMachines : RealmEvent → Type 0
IsMachines (Comes came) = Unit {0}
IsMachines TurnedAway = ⊥

abbrev pub AreMachines : List Logged → Type 0
AreMachines log = AllByRecursion (λ (logged : Logged). IsMachines logged.0) log

-- nobody was turned away
record Fit (notes : Notes) : Type 0 where
  none : notes.turned_away ≡ []
  all : AreMachines notes.log

added : (log : List Logged) (last : Logged) → AreMachines log → IsMachines last.0 → AreMachines (log ++ last ∷ [])
added [] last all is = (is, tt)
added (first ∷ log) last all is = (all.0, added log last all.1 is)

event_fits : (notes : Notes) (came : GroupEvent) → Fit notes → Fit (with_event notes came)
event_fits notes came fit = record { none = fit.none; all = added notes.log _ fit.all tt }

call_fits : (notes : Notes) (slot : ℕ) (call : PendingCall) (found : Option GroupEvent) → Fit notes
    → Fit (option_map_or (numbered notes slot call) found notes)
call_fits notes slot call None fit = fit
call_fits notes slot call (Some came) fit = by_kind call.kind
  where
    by_kind : (call_kind : CallKind) → (let after = sessions_with call_kind (with_event notes came) call in
        Fit (record after { uuid = (numbered notes slot call came).uuid; numbering = (numbered notes slot call came).numbering }))
    by_kind kind.Open = record { none = fit.none; all = added notes.log _ fit.all tt }
    by_kind (kind.Invoke func) = record { none = fit.none; all = added notes.log _ fit.all tt }
    by_kind kind.Close = record { none = fit.none; all = added notes.log _ fit.all tt }
    by_kind kind.Settled = record { none = fit.none; all = added notes.log _ fit.all tt }

back_fits : (notes : Notes) (number : ℕ) (leaving : Leaving) (came : Given) → Fit notes → Fit (back_noted notes number leaving came)
back_fits notes number Interrupted came fit = fit
back_fits notes number WantsBuffer came fit = event_fits notes _ fit
back_fits notes number (Requests place request) came fit = event_fits notes _ fit
back_fits notes number (FreesBuffer buffer) came fit = event_fits notes _ fit
back_fits notes number (Finishes result params) came fit = event_fits notes _ fit

resume_fits : (w : Watched) (slot : ℕ) (before now : PendingCall) (notes : Notes) (number : ℕ) → Fit notes
    → Fit (resume_noted w slot before now notes number)
resume_fits w slot before now notes number fit =
    let seen : Notes = seen_noted notes number before now in
    let found : Notes = room_noted w seen number before in
    let saw : Fit seen = if-both Fit (now.seen && not before.seen) _ notes (event_fits notes (Seen number before.steps) fit) fit in
    let finds : Fit found = map_or-both Fit (λ enough. with_event seen (Room number enough)) (room_of w.realm w.boot w.entering.kernel.tables before) seen
    (λ enough. event_fits seen (Room number enough) saw) saw in
    map_or-both Fit (back_noted found number (leaving_of slot before)) (reading (given_to w.entering.visit.regs slot before) w.entering.reads) found
    (λ came. back_fits found number (leaving_of slot before) came finds) finds

slot_fits : (w : Watched) (slot : ℕ) (notes : Notes) (held now : Option ThreadSlot) → Fit notes → Fit (slot_noted w slot notes held now)
slot_fits w slot notes None now fit = fit
slot_fits w slot notes (Some (Active cpu call)) now fit = fit
slot_fits w slot notes (Some Free) None fit = fit
slot_fits w slot notes (Some Free) (Some Free) fit = fit
slot_fits w slot notes (Some Free) (Some (Suspended client left)) fit = fit
slot_fits w slot notes (Some Free) (Some (Active cpu call)) fit =
    call_fits notes slot call (event_of w.realm w.entering.next.tables notes call call.kind) fit
slot_fits w slot notes (Some (Suspended client left)) None fit = fit
slot_fits w slot notes (Some (Suspended client left)) (Some Free) fit = fit
slot_fits w slot notes (Some (Suspended client left)) (Some (Suspended another now)) fit = fit
slot_fits w slot notes (Some (Suspended client left)) (Some (Active cpu now)) fit =
    map_or-both Fit (resume_noted w slot left now notes) (get notes.numbering.in_slots slot) notes
    (λ number. resume_fits w slot left now notes number fit) fit

module _ (app : Application) where
  entry_fits : (boot : Booted) (at : Entering) (notes : Notes) (there : Option Processor) → Fit notes
      → (let w : Watched = record { boot = boot; realm = AllSessions app; entering = at } in Fit (entry_noted w notes there))
  entry_fits boot at notes None fit = fit
  entry_fits boot at notes (Some Outside) fit = fit
  entry_fits boot at notes (Some (Inside regs steps (Fixed answer))) fit = fit
  entry_fits boot at notes (Some (Inside regs steps (InSlot slot))) fit =
      slot_fits (record { boot = boot; realm = AllSessions app; entering = at }) slot notes (slice_get at.kernel.slots slot)
      (slice_get at.next.slots slot) fit

  exit_fits : (notes : Notes) (slot : ℕ) (call : PendingCall) (number : ℕ) → Fit notes
      → Fit (exit_noted (AllSessions app) notes slot call number)
  exit_fits notes slot call number fit = by_reply (reply_of (wake_kept notes.numbering slot (wake_of call.phase)) call.phase (leaving_of slot call))
    where
      by_reply : (told : Option _) → Fit (record
          (option_map_or (with_reply number notes (opened_in (AllSessions app) notes call call.kind (leaving_of slot call))) told notes) {
            numbering = (exit_noted (AllSessions app) notes slot call number).numbering;
          })
      by_reply None = record { none = fit.none; all = fit.all }
      by_reply (Some told) = record { none = fit.none; all = added notes.log _ fit.all tt }

  limit_fits : (notes : Notes) (cpu : ℕ) → Fit notes → Fit (limit_noted notes cpu)
  limit_fits notes cpu fit =
      let after : Notes = record notes {
        turned_away = filter (λ away. not (away == cpu)) notes.turned_away;
        log = notes.log ++ (TurnedAway, Some (plain reply.Limited)) ∷ [];
      } in
      subst Fit (sym (ap (λ (away : List ℕ). if list_any (λ one. one == cpu) away then after else notes) fit.none)) fit

  out_fits : (kernel : Kernel) (notes : Notes) (cpu : ℕ) (there : Option Processor) → Fit notes
      → Fit (out_noted (AllSessions app) kernel notes cpu there)
  out_fits kernel notes cpu None fit = fit
  out_fits kernel notes cpu (Some Outside) fit = fit
  out_fits kernel notes cpu (Some (Inside regs steps (Fixed answer))) fit = limit_fits notes cpu fit
  out_fits kernel notes cpu (Some (Inside regs steps (InSlot slot))) fit =
      map_or-both Fit _ (progress_in_slot kernel steps slot) notes
      (λ (progress : Progress). map_or-both Fit (exit_noted (AllSessions app) notes slot progress.call)
      (get notes.numbering.in_slots slot) notes
      (λ number. exit_fits notes slot progress.call number fit) fit) fit

  happened_fits : (boot : Booted) (kernel next : Kernel) (notes : Notes) (happened : Event) → Fit notes
      → Fit (event_noted boot (AllSessions app) kernel next notes happened)
  happened_fits boot kernel next notes (Entry cpu regs steps reads) fit =
      let visit : Visit = record { cpu = cpu; regs = regs.a; steps = steps } in
      entry_fits boot (record { kernel = kernel; next = next; visit = visit; reads = reads }) notes (slice_get next.processors cpu) fit
  happened_fits boot kernel next notes (Exit cpu regs) fit = out_fits kernel notes cpu (slice_get kernel.processors cpu) fit

  from_fits : (boot : Booted) (kernel : Kernel) (notes : Notes) (events : List Event) → Fit notes
      → Fit (noted_from boot (AllSessions app) kernel notes events)
  from_fits boot kernel notes [] fit = fit
  from_fits boot kernel notes (happened ∷ events) fit =
      map_or-both Fit (λ (next : Kernel). noted_from boot (AllSessions app) next
      (event_noted boot (AllSessions app) kernel next notes happened) events) (after_event boot kernel happened) notes
      (λ next. from_fits boot next (event_noted boot (AllSessions app) kernel next notes happened) events
      (happened_fits boot kernel next notes happened fit)) fit

  pub none_turned_away : (boot : Booted) (history : List Event) → AreMachines (noted boot history (AllSessions app)).log
  none_turned_away boot history = (from_fits boot (first_kernel boot) _ history (record { none = refl; all = tt })).all
