-- What is noted of a session stays: replies that it has had are in front of those that it gets behind more events.
use Rattle.std.proofs.Common.{◌≡◌, ℕ, List, [], ◌∷◌, ◌++◌, Option, Some, None, refl, ap, sym, ◌∙◌, append_assoc}
use Rattle.std.specs.Prelude.{◌==◌, ◌&&◌, filter, not, slice_get}
use Rattle.std.specs.List.{list_any}
use Rattle.std.proofs.lemmas.List.{append-nil}
use Rattle.std.proofs.lemmas.List.Elements.{filter_map-append}
use Rattle.base.specs.NumberMap.{get}
use Rattle.event_journal.specs.declared.event.Event.{Event}
use Rattle.event_journal.specs.declared.event.Event.TheVariants as event
use Rattle.kernel_model.specs.Application.{Booted}
use Rattle.kernel_model.specs.Exit.{progress_in_slot}
use Rattle.kernel_model.specs.Given.{Given, given_to}
use Rattle.kernel_model.specs.History.{after_event, kernel_after}
use Rattle.kernel_model.specs.Kernel.{Active, Fixed, Free, InSlot, Inside, Kernel, Outside, PendingCall, Processor, Progress}
use Rattle.kernel_model.specs.Kernel.{Suspended, ThreadSlot, Visit, first_kernel}
use Rattle.kernel_model.specs.Leaving.{Finishes, FreesBuffer, Interrupted, Leaving, Requests, WantsBuffer, leaving_of}
use Rattle.kernel_model.proofs.Parts.{if-both, map_or-both}
use Rattle.ns_ram.specs.Reader.{reading}
use Rattle.own_model.specs.Own.{Entering, Logged, Notes, Resuming, back_noted, call_noted, entry_noted, event_noted, event_of}
use Rattle.own_model.specs.Own.{exit_noted, input_of, is_limit, is_of_client, limit_noted, no_notes, noted, noted_from, numbered}
use Rattle.own_model.specs.Own.{out_noted, own_replies, replies_in, reply_of, resume_noted, seen_noted, slot_noted, with_event}
use Rattle.own_model.specs.Own.{wake_kept, wake_of, with_reply}
use Rattle.own_model.specs.declared.own_event.OwnEvent.TheVariants.{Back, Limited, Out, Seen}
use Rattle.own_model.specs.declared.own_reply.OwnReply.{OwnReply}
use Rattle.own_model.specs.declared.own_reply.OwnReply.TheVariants as reply
use Rattle.realm_model.proofs.SessionsKnown.{noted-append}

-- the one's log is the other's with more behind it
abbrev Grows : Notes → Notes → Type 0
Grows before after = (more : List Logged) × (after.log ≡ before.log ++ more)

stays : (notes : Notes) → Grows notes notes
stays notes = ([], sym (append-nil notes.log))

grows_on : (before between after : Notes) → Grows before between → Grows between after → Grows before after
grows_on before between after first second = (
  first.0 ++ second.0,
  second.1 ∙ ap (λ (log : List Logged). log ++ second.0) first.1 ∙ append_assoc before.log first.0 second.0,
)

-- ---- entries

call_grows : (session : ℕ) (notes : Notes) (slot : ℕ) (call : PendingCall) → Grows notes (call_noted session notes slot call)
call_grows session notes slot call =
    map_or-both (Grows notes) (numbered notes slot call) (event_of session call) notes (λ came. ((came, None) ∷ [], refl))
    (stays notes)

seen_grows : (notes : Notes) (number : ℕ) (before now : PendingCall) → Grows notes (seen_noted notes number before now)
seen_grows notes number before now =
    if-both (Grows notes) (now.seen && not before.seen) (with_event notes (Seen number before.steps)) notes
    ((Seen number before.steps, None) ∷ [], refl) (stays notes)

back_grows : (notes : Notes) (number : ℕ) (leaving : Leaving) (came : Given) → Grows notes (back_noted notes number leaving came)
back_grows notes number Interrupted came = stays notes
back_grows notes number WantsBuffer came = ((Back number (input_of came), None) ∷ [], refl)
back_grows notes number (Requests place request) came = ((Back number (input_of came), None) ∷ [], refl)
back_grows notes number (FreesBuffer buffer) came = ((Back number (input_of came), None) ∷ [], refl)
back_grows notes number (Finishes result params) came = ((Back number (input_of came), None) ∷ [], refl)

resume_grows : (r : Resuming) (before now : PendingCall) (notes : Notes) (number : ℕ)
    → Grows notes (resume_noted r before now notes number)
resume_grows r before now notes number =
    let seen = seen_noted notes number before now in
    grows_on notes seen (resume_noted r before now notes number) (seen_grows notes number before now)
    (map_or-both (Grows seen) (back_noted seen number (leaving_of r.slot before))
    (reading (given_to r.regs r.slot before) r.reads) seen (λ came. back_grows seen number (leaving_of r.slot before) came)
    (stays seen))

slot_grows : (session : ℕ) (r : Resuming) (notes : Notes) (before now : Option ThreadSlot)
    → Grows notes (slot_noted session r notes before now)
slot_grows session r notes None now = stays notes
slot_grows session r notes (Some Free) None = stays notes
slot_grows session r notes (Some Free) (Some Free) = stays notes
slot_grows session r notes (Some Free) (Some (Active cpu call)) = call_grows session notes r.slot call
slot_grows session r notes (Some Free) (Some (Suspended client call)) = stays notes
slot_grows session r notes (Some (Active cpu call)) now = stays notes
slot_grows session r notes (Some (Suspended client before)) None = stays notes
slot_grows session r notes (Some (Suspended client before)) (Some Free) = stays notes
slot_grows session r notes (Some (Suspended client before)) (Some (Active cpu now)) =
    map_or-both (Grows notes) (resume_noted r before now notes) (get notes.numbering.in_slots r.slot) notes
    (λ number. resume_grows r before now notes number) (stays notes)
slot_grows session r notes (Some (Suspended client before)) (Some (Suspended another now)) = stays notes

entry_grows : (session : ℕ) (e : Entering) (notes : Notes) (processor : Option Processor)
    → Grows notes (entry_noted session e notes processor)
entry_grows session e notes None = stays notes
entry_grows session e notes (Some Outside) = stays notes
entry_grows session e notes (Some (Inside regs steps (Fixed answer))) =
    if-both (Grows notes) (is_limit answer && is_of_client e.kernel session e.visit.regs)
    (record notes { turned_away = e.visit.cpu ∷ notes.turned_away }) notes (stays notes) (stays notes)
entry_grows session e notes (Some (Inside regs steps (InSlot slot))) =
    slot_grows session (record { regs = e.visit.regs; reads = e.reads; slot = slot }) notes (slice_get e.kernel.slots slot)
    (slice_get e.next.slots slot)

-- ---- exits

exit_grows : (notes : Notes) (slot : ℕ) (call : PendingCall) (number : ℕ) → Grows notes (exit_noted notes slot call number)
exit_grows notes slot call number =
    map_or-both (Grows notes) (with_reply number notes)
    (reply_of (wake_kept notes.numbering slot (wake_of call.phase)) call.phase (leaving_of slot call)) notes
    (λ told. ((Out number, Some told) ∷ [], refl)) (stays notes)

limit_grows : (notes : Notes) (cpu : ℕ) → Grows notes (limit_noted notes cpu)
limit_grows notes cpu =
    if-both (Grows notes) (list_any (λ away. away == cpu) notes.turned_away)
    (record notes {
      turned_away = filter (λ away. not (away == cpu)) notes.turned_away;
      log = notes.log ++ (Limited, Some reply.Limited) ∷ [];
    }) notes ((Limited, Some reply.Limited) ∷ [], refl) (stays notes)

out_grows : (kernel : Kernel) (notes : Notes) (cpu : ℕ) (processor : Option Processor)
    → Grows notes (out_noted kernel notes cpu processor)
out_grows kernel notes cpu None = stays notes
out_grows kernel notes cpu (Some Outside) = stays notes
out_grows kernel notes cpu (Some (Inside regs steps (Fixed answer))) = limit_grows notes cpu
out_grows kernel notes cpu (Some (Inside regs steps (InSlot slot))) =
    map_or-both (Grows notes) _ (progress_in_slot kernel steps slot) notes
    (λ (progress : Progress).
    map_or-both (Grows notes) (exit_noted notes slot progress.call) (get notes.numbering.in_slots slot) notes
    (λ number. exit_grows notes slot progress.call number) (stays notes))
    (stays notes)

-- ---- histories

event_grows : (session : ℕ) (kernel next : Kernel) (notes : Notes) (happened : Event)
    → Grows notes (event_noted session kernel next notes happened)
event_grows session kernel next notes (event.Entry cpu regs steps reads) =
    let visit : Visit = record { cpu = cpu; regs = regs.a; steps = steps } in
    entry_grows session (record { kernel = kernel; next = next; visit = visit; reads = reads }) notes (slice_get next.processors cpu)
event_grows session kernel next notes (event.Exit cpu regs) = out_grows kernel notes cpu (slice_get kernel.processors cpu)

grows_from : (boot : Booted) (session : ℕ) (kernel : Kernel) (notes : Notes) (events : List Event)
    → Grows notes (noted_from boot session kernel notes events)
grows_from boot session kernel notes [] = stays notes
grows_from boot session kernel notes (happened ∷ events) =
    map_or-both (Grows notes)
    (λ (next : Kernel). noted_from boot session next (event_noted session kernel next notes happened) events)
    (after_event boot kernel happened) notes
    (λ (next : Kernel).
    let behind = event_noted session kernel next notes happened in
    grows_on notes behind (noted_from boot session next behind events) (event_grows session kernel next notes happened)
    (grows_from boot session next behind events))
    (stays notes)

-- the replies behind a history that can be are in front of those behind more of it
pub replies_stay : (boot : Booted) (history more : List Event) (session : ℕ) (kernel : Kernel)
    → kernel_after boot history ≡ Some kernel
    → (since : List OwnReply) × (own_replies boot (history ++ more) session ≡ own_replies boot history session ++ since)
replies_stay boot history more session kernel there =
    let notes = noted boot history session in
    let grown = grows_from boot session kernel notes more in (
      replies_in grown.0,
      ap (λ (n : Notes). replies_in n.log)
          (noted-append boot session (first_kernel boot) kernel no_notes history more there)
          ∙ ap replies_in grown.1 ∙ filter_map-append (λ (logged : Logged). logged.1) notes.log grown.0,
    )
