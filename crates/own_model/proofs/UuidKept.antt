-- The UUID that is noted of a session stays, once the session has its number.
use Rattle.std.proofs.Common.{◌≡◌, ℕ, ◌<◌, List, Option, Some, None, refl, ap, sym, ◌∙◌}
use Rattle.std.specs.Prelude.{◌==◌, if◌then◌else◌, not, slice_get, ◌&&◌}
use Rattle.std.specs.List.{list_any}
use Rattle.std.specs.Option.{option_map_or}
use Rattle.base.specs.NumberMap.{get}
use Rattle.event_journal.specs.declared.event.Event.{Event}
use Rattle.event_journal.specs.declared.event.Event.TheVariants.{Entry, Exit}
use Rattle.ns_ram.specs.declared.read.Read.{Read}
use Rattle.ns_ram.specs.Reader.{reading}
use Rattle.smc_abi.specs.declared.regs.Regs.{Regs}
use Rattle.kernel_model.specs.Application.{Booted}
use Rattle.kernel_model.specs.Argument.{client_in, thread_in}
use Rattle.kernel_model.specs.Decision.{Taken}
use Rattle.kernel_model.specs.Exit.{progress_in_slot}
use Rattle.kernel_model.specs.Given.{Given, given_to}
use Rattle.kernel_model.specs.History.{after_event}
use Rattle.kernel_model.specs.Instances.{is_held}
use Rattle.kernel_model.specs.Kernel.{Active, Fixed, Free, InSlot, Inside, Kernel, Outside, PendingCall, Processor}
use Rattle.kernel_model.specs.Kernel.{Progress, Suspended, ThreadSlot, Visit}
use Rattle.kernel_model.specs.Leaving.{FreesBuffer, Finishes, Interrupted, Leaving, Requests, WantsBuffer, leaving_of}
use Rattle.kernel_model.specs.NewCall.{NewCall, keeps_buffers, new_call_of, open_waits, opens, settles_open, shared_by}
use Rattle.kernel_model.specs.NewCall as new
use Rattle.kernel_model.specs.Resume.{suspended_for}
use Rattle.kernel_model.proofs.Parts.{if-both, map_or-both}
use Rattle.own_model.proofs.EventKinds.{EntryKind, HasAnswer, IsNewCall, IsResume, entry_kind}
use Rattle.own_model.proofs.NewCalls.{OfAllEndings}
use Rattle.own_model.proofs.NewEntries.{new_call_noted, new_call_taken}
use Rattle.own_model.proofs.NotedCalls.{not_both, noted_is, other_unnoted, same_event, untold_unnoted}
use Rattle.own_model.proofs.OtherCalls.{less}
use Rattle.own_model.specs.declared.own_event.OwnEvent.{OwnEvent}
use Rattle.own_model.specs.Own.{Entering, Notes, Resuming, back_noted, entry_noted, event_noted, event_of, exit_noted}
use Rattle.own_model.specs.Own.{is_limit, is_of_client, numbered, out_noted, reply_of, resume_noted, seen_noted}
use Rattle.own_model.specs.Own.{slot_noted, uuid_by, wake_kept, wake_of, with_reply}

-- ---- new calls

-- where an event of it is noted, the UUID stays
record KeepsNamed (session : ℕ) (call : PendingCall) : Type 0 where
  keeps : (came : OwnEvent) → event_of session call ≡ Some came → (notes : Notes) → uuid_by came call notes ≡ notes.uuid

nothing_noted : (session : ℕ) (call : PendingCall) → event_of session call ≡ None → KeepsNamed session call
nothing_noted session call none = record { keeps = λ came noted. not_both came (sym none ∙ noted) }

untold : (session : ℕ) (call : PendingCall) → event_of session call ≡ (if call.session == session then None else None)
    → KeepsNamed session call
untold session call of = nothing_noted session call (untold_unnoted session call of)

-- an open gets a later number
another : (session : ℕ) (c : NewCall) (call : PendingCall) → session < c.tables.next_session
    → call.session ≡ c.tables.next_session → KeepsNamed session call
another session c call given next =
    nothing_noted session call (other_unnoted session call
    (λ same. less session c.tables.next_session given (sym next ∙ same)))

-- an event of another kind
other_kind : (session : ℕ) (call : PendingCall) (found : OwnEvent)
    → event_of session call ≡ (if call.session == session then Some found else None)
    → ((notes : Notes) → uuid_by found call notes ≡ notes.uuid) → KeepsNamed session call
other_kind session call found of same_uuid = record {
  keeps = λ came noted notes.
      let is = (noted_is call.session session (Some found) came (sym of ∙ noted)).1 in
      ap (λ (f : OwnEvent). uuid_by f call notes) (sym (same_event found came is)) ∙ same_uuid notes;
}

never_opens : (session : ℕ) (c : NewCall) → session < c.tables.next_session
    → OfAllEndings (λ (taken : Taken). KeepsNamed session taken.call) c
never_opens session c given = record {
  settled = λ code. untold session (new.settles c code).call refl;
  settled_open = λ of login code. untold session (settles_open c of login code).call refl;
  opened = λ wanted of copies is.
      map_or-both (λ (taken : Taken). KeepsNamed session taken.call) _ (shared_by c of) (opens c wanted of copies)
      (λ kept. if-both (λ (taken : Taken). KeepsNamed session taken.call) (is_held kept.1)
      (open_waits c wanted of copies kept) (opens c wanted of copies)
      (another session c (open_waits c wanted of copies kept).call given refl)
      (another session c (opens c wanted of copies).call given refl))
      (another session c (opens c wanted of copies).call given refl);
  dead = λ named is dead. other_kind session _ _ refl (λ notes. refl);
  faulty = λ named is alive. other_kind session _ _ refl (λ notes. refl);
  invoked = λ named copies is alive.
      if-both (λ (taken : Taken). KeepsNamed session taken.call) (is_held named.1) _ _
      (other_kind session _ _ refl (λ notes. refl)) (other_kind session _ _ refl (λ notes. refl));
  closed = λ named is.
      if-both (λ (taken : Taken). KeepsNamed session taken.call) (is_held named.1) _ _
      (other_kind session _ _ refl (λ notes. refl)) (other_kind session _ _ refl (λ notes. refl));
  cancelled = λ named is. other_kind session _ _ refl (λ notes. refl);
  registered = λ buffers. untold session (keeps_buffers c buffers).call refl;
}

-- ---- the UUID

abbrev KeepsUuid : Notes → Notes → Type 0
KeepsUuid before after = after.uuid ≡ before.uuid

call_keeps : (session : ℕ) (notes : Notes) (slot : ℕ) (call : PendingCall) (found : Option OwnEvent)
    → event_of session call ≡ found
    → ((came : OwnEvent) → event_of session call ≡ Some came → uuid_by came call notes ≡ notes.uuid)
    → KeepsUuid notes (option_map_or (numbered notes slot call) found notes)
call_keeps session notes slot call None is keeps = refl
call_keeps session notes slot call (Some came) is keeps = keeps came is

back_keeps : (notes : Notes) (number : ℕ) (leaving : Leaving) (came : Given)
    → KeepsUuid notes (back_noted notes number leaving came)
back_keeps notes number Interrupted came = refl
back_keeps notes number WantsBuffer came = refl
back_keeps notes number (Requests place request) came = refl
back_keeps notes number (FreesBuffer buffer) came = refl
back_keeps notes number (Finishes result params) came = refl

resume_keeps : (r : Resuming) (before now : PendingCall) (notes : Notes) (number : ℕ)
    → KeepsUuid notes (resume_noted r before now notes number)
resume_keeps r before now notes number =
    let seen : Notes = seen_noted notes number before now in
    map_or-both (λ (n : Notes). n.uuid ≡ seen.uuid) (back_noted seen number (leaving_of r.slot before))
    (reading (given_to r.regs r.slot before) r.reads) seen
    (λ came. back_keeps seen number (leaving_of r.slot before) came) refl
    ∙ if-both (KeepsUuid notes) (now.seen && not before.seen) _ notes refl refl

slot_keeps : (session : ℕ) (r : Resuming) (notes : Notes) (client : ℕ) (call : PendingCall)
    (held now : Option ThreadSlot)
    → suspended_for client held ≡ Some call → KeepsUuid notes (slot_noted session r notes held now)
slot_keeps session r notes client call None now e = absurd cc
slot_keeps session r notes client call (Some Free) now e = absurd cc
slot_keeps session r notes client call (Some (Active cpu worked)) now e = absurd cc
slot_keeps session r notes client call (Some (Suspended owner left)) None e = refl
slot_keeps session r notes client call (Some (Suspended owner left)) (Some Free) e = refl
slot_keeps session r notes client call (Some (Suspended owner left)) (Some (Suspended another now)) e = refl
slot_keeps session r notes client call (Some (Suspended owner left)) (Some (Active cpu now)) e =
    map_or-both (KeepsUuid notes) (resume_noted r left now notes) (get notes.numbering.in_slots r.slot) notes
    (λ number. resume_keeps r left now notes number) refl

exit_keeps : (notes : Notes) (slot : ℕ) (call : PendingCall) (number : ℕ)
    → KeepsUuid notes (exit_noted notes slot call number)
exit_keeps notes slot call number =
    map_or-both (KeepsUuid notes) (with_reply number notes)
    (reply_of (wake_kept notes.numbering slot (wake_of call.phase)) call.phase (leaving_of slot call)) notes
    (λ told. refl) refl

out_keeps : (kernel : Kernel) (notes : Notes) (cpu : ℕ) (processor : Option Processor)
    → KeepsUuid notes (out_noted kernel notes cpu processor)
out_keeps kernel notes cpu None = refl
out_keeps kernel notes cpu (Some Outside) = refl
out_keeps kernel notes cpu (Some (Inside regs steps (Fixed answer))) =
    if-both (KeepsUuid notes) (list_any (λ away. away == cpu) notes.turned_away) _ notes refl refl
out_keeps kernel notes cpu (Some (Inside regs steps (InSlot slot))) =
    map_or-both (KeepsUuid notes) _ (progress_in_slot kernel steps slot) notes
    (λ (progress : Progress). map_or-both (KeepsUuid notes) (exit_noted notes slot progress.call)
    (get notes.numbering.in_slots slot) notes
    (λ number. exit_keeps notes slot progress.call number) refl) refl

entry_keeps : (boot : Booted) (session : ℕ) (kernel next : Kernel) (cpu steps : ℕ) (regs : Regs)
    (reads : List Read) (notes : Notes)
    → session < kernel.tables.next_session → after_event boot kernel (Entry cpu regs steps reads) ≡ Some next
    → EntryKind kernel next cpu steps regs
    → KeepsUuid notes (event_noted session kernel next notes (Entry cpu regs steps reads))
entry_keeps boot session kernel next cpu steps regs reads notes given e (HasAnswer answer inside) =
    let visit : Visit = record { cpu = cpu; regs = regs.a; steps = steps } in
    let at : Entering = record { kernel = kernel; next = next; visit = visit; reads = reads } in
    ap (λ (p : Option Processor). (entry_noted session at notes p).uuid) inside
    ∙ if-both (KeepsUuid notes) (is_limit answer && is_of_client kernel session visit.regs) _ notes refl refl
entry_keeps boot session kernel next cpu steps regs reads notes given e (IsNewCall slot now is inside there) =
    let found = new_call_taken (λ at taken. KeepsNamed session taken.call) boot kernel next cpu steps slot
    regs reads now is
    (λ at free place bytes. never_opens session (new_call_of boot kernel.tables regs.a at place bytes) given) inside there e in
    ap (λ (n : Notes). n.uuid) (new_call_noted session kernel next cpu steps slot regs reads now notes inside
    found.free there)
    ∙ call_keeps session notes slot now (event_of session now) refl
    (λ came noted.
    ap (λ (call : PendingCall). uuid_by came call notes) (sym found.call_is)
    ∙ found.holds.keeps came (ap (λ (call : PendingCall). event_of session call) found.call_is ∙ noted) notes)
entry_keeps boot session kernel next cpu steps regs reads notes given e (IsResume call is some inside) =
    let visit : Visit = record { cpu = cpu; regs = regs.a; steps = steps } in
    let at : Entering = record { kernel = kernel; next = next; visit = visit; reads = reads } in
    let slot : ℕ = thread_in regs.a in
    ap (λ (p : Option Processor). (entry_noted session at notes p).uuid) inside
    ∙ slot_keeps session (record { regs = regs.a; reads = reads; slot = slot }) notes (client_in regs.a) call
    (slice_get kernel.slots slot) (slice_get next.slots slot) some

-- what is noted at an event keeps it
pub uuid_stays : (boot : Booted) (session : ℕ) (kernel next : Kernel) (happened : Event) (notes : Notes)
    → session < kernel.tables.next_session
    → after_event boot kernel happened ≡ Some next → (event_noted session kernel next notes happened).uuid ≡ notes.uuid
uuid_stays boot session kernel next (Entry cpu regs steps reads) notes given e =
    entry_keeps boot session kernel next cpu steps regs reads notes given e
    (entry_kind boot kernel next cpu steps regs reads e)
uuid_stays boot session kernel next (Exit cpu regs) notes given e =
    out_keeps kernel notes cpu (slice_get kernel.processors cpu)
