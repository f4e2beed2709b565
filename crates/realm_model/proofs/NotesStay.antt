-- What is noted of the numbers of a realm's sessions changes with its opens alone.
use Rattle.std.proofs.Common.{◌≡◌, ℕ, List, [], ◌∷◌, ◌++◌, Option, Some, None, refl, subst, sym}
use Rattle.std.specs.Prelude.{◌==◌, ◌&&◌, is_some, not, slice_get}
use Rattle.std.specs.List.{list_any}
use Rattle.std.specs.Option.{option_map_or}
use Rattle.base.specs.NumberMap.{NumberMap, get}
use Rattle.event_journal.specs.declared.event.Event.{Event}
use Rattle.event_journal.specs.declared.event.Event.TheVariants.{Entry, Exit}
use Rattle.ns_ram.specs.Reader.{reading}
use Rattle.ns_ram.specs.declared.read.Read.{Read}
use Rattle.smc_abi.specs.declared.answer.Answer.{Answer}
use Rattle.smc_abi.specs.declared.regs.Regs.{Regs}
use Rattle.kernel_model.specs.Application.{Booted}
use Rattle.kernel_model.specs.Argument.{IsNew, client_in, thread_in}
use Rattle.kernel_model.specs.Exit.{progress_in_slot}
use Rattle.kernel_model.specs.Given.{Given, given_to}
use Rattle.kernel_model.specs.History.{after_event}
use Rattle.kernel_model.specs.Kernel.{Active, Fixed, Free, InSlot, Inside, Kernel, Outside, PendingCall, Processor, Progress}
use Rattle.kernel_model.specs.Kernel.{Suspended, ThreadSlot, Visit}
use Rattle.kernel_model.specs.Leaving.{FreesBuffer, Finishes, Interrupted, Leaving, Requests, WantsBuffer, leaving_of}
use Rattle.kernel_model.specs.NewCall.{NewCall, new_call_of}
use Rattle.kernel_model.specs.Decision.{Taken}
use Rattle.kernel_model.specs.Resume.{suspended_for}
use Rattle.kernel_model.proofs.Parts.{if-both, map_or-both}
use Rattle.own_model.proofs.EventKinds.{EntryKind, HasAnswer, IsNewCall, IsResume, entry_kind}
use Rattle.own_model.specs.Own.{Entering, Numbering, is_limit, is_of_client, reply_of, slot_kept, wake_kept, wake_of, with_wake}
use Rattle.group_model.proofs.NewEntries.{new_call_taken}
use Rattle.group_model.proofs.NewForms.{NewForms}
use Rattle.group_model.proofs.RepliesTold.{has_reply}
use Rattle.group_model.specs.declared.group_event.GroupEvent.{GroupEvent}
use Rattle.group_model.specs.declared.group_event.GroupEvent.TheVariants.{Back, Open, Out, Room, Seen}
use Rattle.group_model.specs.declared.group_reply.GroupReply.{GroupReply}
use Rattle.group_model.specs.Group.{plain}
use Rattle.own_model.specs.Own.{input_of}
use Rattle.own_model.specs.declared.own_reply.OwnReply.TheVariants as reply
use Rattle.realm_model.specs.Realm.{Realm, client_of, room_of}
use Rattle.realm_model.specs.Reading.{Logged, Notes, Watched, back_noted, entry_noted, event_noted, event_of, exit_noted, fixed_noted}
use Rattle.realm_model.specs.declared.realm_event.RealmEvent.{RealmEvent}
use Rattle.realm_model.specs.declared.realm_event.RealmEvent.TheVariants.{Comes, TurnedAway}
use Rattle.realm_model.specs.Reading.{numbered, opened_in, out_noted, resume_noted, room_noted, seen_noted, slot_noted, with_reply}
use Rattle.realm_model.proofs.OtherEntries.{new_call_noted}

-- any form of a new call
any_forms : (c : NewCall) → NewForms c (λ (taken : Taken). Unit {0})
any_forms c = record {
  settled = λ code. tt;
  registered = λ buffers. tt;
  open_dead = λ wanted of is dead. tt;
  open_busy = λ wanted of is alive taken. tt;
  open_limited = λ wanted of passes. tt;
  open_faulty = λ wanted of passes. tt;
  invoke_dead = λ named is dead. tt;
  invoke_faulty = λ named is alive. tt;
  cancels = λ named is. tt;
  opens_kept = λ wanted of copies kept passes shared free. tt;
  opens_awaited = λ wanted of copies number passes shared awaited. tt;
  opens_next = λ wanted of copies passes shared awaited. tt;
  open_waits = λ wanted of copies kept passes shared held. tt;
  invokes = λ named copies is alive free. tt;
  invoke_waits = λ named copies is alive held. tt;
  closes = λ named is free. tt;
  close_waits = λ named is held. tt;
}

-- its slot was free
pub was_free : (boot : Booted) (kernel next : Kernel) (cpu steps slot : ℕ) (regs : Regs) (reads : List Read)
    (now : PendingCall) → IsNew regs.a → slice_get next.processors cpu ≡ Some (Inside regs.a steps (InSlot slot))
    → slice_get next.slots slot ≡ Some (Active cpu now) → after_event boot kernel (Entry cpu regs steps reads) ≡ Some next
    → slice_get kernel.slots slot ≡ Some Free
was_free boot kernel next cpu steps slot regs reads now is inside there e =
    (new_call_taken (λ at taken. Unit {0}) boot kernel next cpu steps slot regs reads now is
    (λ at free place bytes. any_forms (new_call_of boot kernel.tables regs.a at place bytes)) inside there e).free

-- the next number of a call stays as a call goes out
entered_stays : (numbering : Numbering) (slot : ℕ) (woken : Option ℕ) (leaving : Leaving)
    → (slot_kept (with_wake numbering slot woken) slot leaving).entered ≡ numbering.entered
entered_stays numbering slot None Interrupted = refl
entered_stays numbering slot None WantsBuffer = refl
entered_stays numbering slot None (Requests place request) = refl
entered_stays numbering slot None (FreesBuffer buffer) = refl
entered_stays numbering slot None (Finishes result params) = refl
entered_stays numbering slot (Some other) Interrupted = refl
entered_stays numbering slot (Some other) WantsBuffer = refl
entered_stays numbering slot (Some other) (Requests place request) = refl
entered_stays numbering slot (Some other) (FreesBuffer buffer) = refl
entered_stays numbering slot (Some other) (Finishes result params) = refl

-- it is no open
abbrev pub IsNoOpening : RealmEvent → Type 0
IsNoOpening (Comes (Open input login limited area)) = ⊥
IsNoOpening _ = Unit {0}

-- it has a reply just where a call goes out; and a call that was turned away is told so
abbrev pub IsToldAs : RealmEvent → Option GroupReply → Type 0
IsToldAs (Comes came) told = is_some told ≡ has_reply came
IsToldAs TurnedAway told = told ≡ Some (plain reply.Limited)

abbrev pub IsTold : Logged → Type 0
IsTold logged = IsToldAs logged.0 logged.1

-- whatever is said of the sessions, their next number, that of the calls, and the log, where no entry unsays it but an open's
module _ (Q : NumberMap ℕ → ℕ → ℕ → List Logged → Type 0)
    (grows : (sessions : NumberMap ℕ) (next_session entered : ℕ) (log : List Logged) (last : Logged) → IsNoOpening last.0
    → IsTold last → Q sessions next_session entered log → Q sessions next_session entered (log ++ last ∷ [])) where
  abbrev pub Holds : Notes → Type 0
  Holds notes = Q notes.sessions notes.next_session notes.numbering.entered notes.log

  more : (notes : Notes) (last : Logged) → IsNoOpening last.0 → IsTold last → Holds notes
      → Q notes.sessions notes.next_session notes.numbering.entered (notes.log ++ last ∷ [])
  more notes last other told holds =
      grows notes.sessions notes.next_session notes.numbering.entered notes.log last other told holds

  back_so : (notes : Notes) (number : ℕ) (leaving : Leaving) (came : Given) → Holds notes
      → Holds (back_noted notes number leaving came)
  back_so notes number Interrupted came holds = holds
  back_so notes number WantsBuffer came holds = more notes (Comes (Back number (input_of came)), None) tt refl holds
  back_so notes number (Requests place request) came holds = more notes (Comes (Back number (input_of came)), None) tt refl holds
  back_so notes number (FreesBuffer buffer) came holds = more notes (Comes (Back number (input_of came)), None) tt refl holds
  back_so notes number (Finishes result params) came holds = more notes (Comes (Back number (input_of came)), None) tt refl holds

  resume_so : (w : Watched) (slot : ℕ) (before now : PendingCall) (notes : Notes) (number : ℕ) → Holds notes
      → Holds (resume_noted w slot before now notes number)
  resume_so w slot before now notes number holds =
      let seen : Holds (seen_noted notes number before now) =
      if-both Holds (now.seen && not before.seen) _ notes (more notes (Comes (Seen number before.steps), None) tt refl holds) holds in
      let found : Holds (room_noted w (seen_noted notes number before now) number before) =
      map_or-both Holds _ (room_of w.realm w.boot w.entering.kernel.tables before) (seen_noted notes number before now)
      (λ enough. more (seen_noted notes number before now) (Comes (Room number enough), None) tt refl seen) seen in
      map_or-both Holds _ (reading (given_to w.entering.visit.regs slot before) w.entering.reads) _
      (λ came. back_so _ number (leaving_of slot before) came found) found

  slot_so : (w : Watched) (slot : ℕ) (notes : Notes) (client : ℕ) (call : PendingCall) (held now : Option ThreadSlot)
      → suspended_for client held ≡ Some call → Holds notes → Holds (slot_noted w slot notes held now)
  slot_so w slot notes client call None now e holds = absurd cc
  slot_so w slot notes client call (Some Free) now e holds = absurd cc
  slot_so w slot notes client call (Some (Active cpu worked)) now e holds = absurd cc
  slot_so w slot notes client call (Some (Suspended owner left)) None e holds = holds
  slot_so w slot notes client call (Some (Suspended owner left)) (Some Free) e holds = holds
  slot_so w slot notes client call (Some (Suspended owner left)) (Some (Suspended another now)) e holds = holds
  slot_so w slot notes client call (Some (Suspended owner left)) (Some (Active cpu now)) e holds =
      map_or-both Holds (resume_noted w slot left now notes) (get notes.numbering.in_slots slot) notes
      (λ number. resume_so w slot left now notes number holds) holds

  fixed_so : (at : Entering) (notes : Notes) (answer : Answer) (session : Option ℕ) → Holds notes
      → Holds (fixed_noted at notes answer session)
  fixed_so at notes answer None holds = holds
  fixed_so at notes answer (Some session) holds =
      if-both Holds (is_limit answer && is_of_client at.kernel session at.visit.regs) _ notes holds holds

  exit_so : (realm : Realm) (notes : Notes) (slot : ℕ) (call : PendingCall) (number : ℕ) → Holds notes
      → Holds (exit_noted realm notes slot call number)
  exit_so realm notes slot call number holds =
      let leaving : Leaving = leaving_of slot call in
      let woken : Option ℕ = wake_kept notes.numbering slot (wake_of call.phase) in
      let opened : Option ℕ = opened_in realm notes call call.kind leaving in
      let told : Notes = option_map_or (with_reply number notes opened) (reply_of woken call.phase leaving) notes in
      subst (λ m. Q told.sessions told.next_session m told.log) (sym (entered_stays notes.numbering slot woken leaving))
      (map_or-both (λ (n : Notes). Q n.sessions n.next_session notes.numbering.entered n.log)
      (with_reply number notes opened) (reply_of woken call.phase leaving) notes (λ one. more notes (Comes (Out number), Some (record { reply = one; opened = opened })) tt refl holds) holds)

  out_so : (realm : Realm) (kernel : Kernel) (notes : Notes) (cpu : ℕ) (processor : Option Processor) → Holds notes
      → Holds (out_noted realm kernel notes cpu processor)
  out_so realm kernel notes cpu None holds = holds
  out_so realm kernel notes cpu (Some Outside) holds = holds
  out_so realm kernel notes cpu (Some (Inside regs steps (Fixed answer))) holds =
      if-both Holds (list_any (λ away. away == cpu) notes.turned_away) _ notes
      (more notes (TurnedAway, Some (plain reply.Limited)) tt refl holds) holds
  out_so realm kernel notes cpu (Some (Inside regs steps (InSlot slot))) holds =
      map_or-both Holds _ (progress_in_slot kernel steps slot) notes
      (λ (progress : Progress). map_or-both Holds (exit_noted realm notes slot progress.call)
      (get notes.numbering.in_slots slot) notes
      (λ number. exit_so realm notes slot progress.call number holds) holds) holds

  -- it holds behind an event where it does behind each new call of the realm
  abbrev pub HoldsBehindCalls : Realm → Kernel → Notes → Event → Type 0
  HoldsBehindCalls realm next notes happened =
      (cpu steps slot : ℕ) (regs : Regs) (reads : List Read) (now : PendingCall) (came : GroupEvent) →
      happened ≡ Entry cpu regs steps reads → IsNew regs.a →
      slice_get next.processors cpu ≡ Some (Inside regs.a steps (InSlot slot)) →
      slice_get next.slots slot ≡ Some (Active cpu now) →
      event_of realm next.tables notes now now.kind ≡ Some came → Holds (numbered notes slot now came)

  call_so : (notes : Notes) (slot : ℕ) (now : PendingCall) (found : Option GroupEvent) → Holds notes
      → ((came : GroupEvent) → found ≡ Some came → Holds (numbered notes slot now came))
      → Holds (option_map_or (numbered notes slot now) found notes)
  call_so notes slot now None holds behind = holds
  call_so notes slot now (Some came) holds behind = behind came refl

  entry_so : (boot : Booted) (realm : Realm) (kernel next : Kernel) (cpu steps : ℕ) (regs : Regs) (reads : List Read)
      (notes : Notes) → Holds notes → HoldsBehindCalls realm next notes (Entry cpu regs steps reads)
      → after_event boot kernel (Entry cpu regs steps reads) ≡ Some next → EntryKind kernel next cpu steps regs
      → Holds (event_noted boot realm kernel next notes (Entry cpu regs steps reads))
  entry_so boot realm kernel next cpu steps regs reads notes holds behind e (HasAnswer answer inside) =
      let visit : Visit = record { cpu = cpu; regs = regs.a; steps = steps } in
      let at : Entering = record { kernel = kernel; next = next; visit = visit; reads = reads } in
      let w : Watched = record { boot = boot; realm = realm; entering = at } in
      subst (λ (p : Option Processor). Holds (entry_noted w notes p)) (sym inside)
      (fixed_so at notes answer (client_of realm) holds)
  entry_so boot realm kernel next cpu steps regs reads notes holds behind e (IsNewCall slot now is inside there) =
      subst Holds
      (sym (new_call_noted boot realm kernel next cpu steps slot regs reads now notes inside
      (was_free boot kernel next cpu steps slot regs reads now is inside there e) there))
      (call_so notes slot now (event_of realm next.tables notes now now.kind) holds
      (λ came noted. behind cpu steps slot regs reads now came refl is inside there noted))
  entry_so boot realm kernel next cpu steps regs reads notes holds behind e (IsResume call is some inside) =
      let visit : Visit = record { cpu = cpu; regs = regs.a; steps = steps } in
      let at : Entering = record { kernel = kernel; next = next; visit = visit; reads = reads } in
      let w : Watched = record { boot = boot; realm = realm; entering = at } in
      subst (λ (p : Option Processor). Holds (entry_noted w notes p)) (sym inside)
      (slot_so w (thread_in regs.a) notes (client_in regs.a) call (slice_get kernel.slots (thread_in regs.a))
      (slice_get next.slots (thread_in regs.a)) some holds)

  pub behind_event : (boot : Booted) (realm : Realm) (kernel next : Kernel) (happened : Event) (notes : Notes) → Holds notes
      → HoldsBehindCalls realm next notes happened → after_event boot kernel happened ≡ Some next
      → Holds (event_noted boot realm kernel next notes happened)
  behind_event boot realm kernel next (Entry cpu regs steps reads) notes holds behind e =
      entry_so boot realm kernel next cpu steps regs reads notes holds behind e
      (entry_kind boot kernel next cpu steps regs reads e)
  behind_event boot realm kernel next (Exit cpu regs) notes holds behind e =
      out_so realm kernel notes cpu (slice_get kernel.processors cpu) holds
