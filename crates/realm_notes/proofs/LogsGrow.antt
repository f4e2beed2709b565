-- What an event adds to the log of a realm is the same whatever stands in it.
use Rattle.std.proofs.Common.{◌≡◌, ℕ, Bool, true, false, List, [], ◌∷◌, ◌++◌, Option, Some, None, refl, ap, sym, ◌∙◌}
use Rattle.std.proofs.lemmas.List.{append_assoc, append-nil}
use Rattle.std.specs.Prelude.{◌==◌, ◌&&◌, filter, not, slice_get, if◌then◌else◌}
use Rattle.std.specs.List.{list_any}
use Rattle.std.specs.Option.{option_map_or}
use Rattle.base.specs.NumberMap.{get}
use Rattle.event_journal.specs.declared.event.Event.{Event}
use Rattle.event_journal.specs.declared.event.Event.TheVariants.{Entry, Exit}
use Rattle.realm_model.specs.Reading.{Logged, Notes, Watched, back_noted, call_noted, entry_noted, event_noted, event_of, exit_noted, fixed_noted, limit_noted, numbered}
use Rattle.realm_model.specs.Reading.{opened_in, out_noted, resume_noted, room_noted, seen_noted, sessions_with, settled_event, settled_event_in, slot_noted}
use Rattle.realm_model.specs.Reading.{uuid_by, with_event, with_reply}
use Rattle.realm_model.specs.Realm.{Realm, client_of, room_of}
use Rattle.realm_model.specs.declared.realm_event.RealmEvent.TheVariants.{Comes, TurnedAway}
use Rattle.group_model.specs.declared.group_event.GroupEvent.{GroupEvent}
use Rattle.group_model.specs.declared.group_event.GroupEvent.TheVariants.{Back, Out, Room, Seen}
use Rattle.group_model.specs.declared.group_event.GroupEvent.TheVariants as group
use Rattle.group_model.specs.declared.group_reply.GroupReply.{GroupReply}
use Rattle.realm_notes.specs.Noted.{listing}
use Rattle.job_model.specs.declared.call_kind.CallKind.{CallKind}
use Rattle.job_model.specs.declared.call_kind.CallKind.TheVariants as kind
use Rattle.group_model.specs.Group.{plain}
use Rattle.kernel_model.specs.Application.{Booted}
use Rattle.kernel_model.specs.Exit.{progress_in_slot}
use Rattle.kernel_model.specs.Given.{Given, given_to}
use Rattle.kernel_model.specs.Kernel.{ACancel, AnInvoke, AnOpen, Active, Asks, CallPhase, Ends, Fixed, Free, InSlot, Inside, Kernel, Outside, PendingCall}
use Rattle.kernel_model.specs.Kernel.{Processor, Progress, Runs, SettledCall, Suspended, Tables, ThreadSlot, Untold, Visit, Waits}
use Rattle.kernel_model.specs.Leaving.{Leaving, Interrupted, WantsBuffer, Requests, FreesBuffer, Finishes, leaving_of}
use Rattle.ns_ram.specs.Reader.{reading}
use Rattle.own_model.specs.Own.{Entering, Numbering, input_of, is_limit, is_of_client, next_in, reply_of, slot_kept, wake_kept, wake_of, with_wake}
use Rattle.own_model.specs.declared.own_reply.OwnReply.{OwnReply}
use Rattle.own_model.specs.declared.own_reply.OwnReply.TheVariants as reply
use Rattle.smc_abi.specs.declared.answer.Answer.{Answer}
use Rattle.ta_params.specs.declared.call_result.CallResult.{CallResult}

-- notes by a log are these, and more was added to it
pub record Adds (by : List Logged → Notes) (notes : Notes) : Type 0 where
  pub more : List Logged
  pub so : (log : List Logged) → by log ≡ listing notes (log ++ more)

-- so they are with what is added behind that
adds_then : (by : List Logged → Notes) (notes last : Notes) (f : Notes → Notes) → Adds by notes → Adds (λ log. f (listing notes log)) last
    → Adds (λ log. f (by log)) last
adds_then by notes last f first second = record {
  more = first.more ++ second.more;
  so = λ log. ap f (first.so log) ∙ second.so (log ++ first.more) ∙ ap (listing last) (append_assoc log first.more second.more);
}

module _ (notes : Notes) where
  none : Adds (listing notes) notes
  none = record { more = []; so = λ log. ap (listing notes) (sym (append-nil log)) }

  one : (event : GroupEvent) → Adds (λ log. with_event (listing notes log) event) (with_event notes event)
  one event = record { more = (Comes event, None) ∷ []; so = λ log. refl }

  -- ---- calls that come in

  -- which event a call is, and what numbers it gets, is by the sessions
  same_settled : (of : Realm) (call : PendingCall) (result : CallResult) (log : List Logged) (settled : SettledCall)
      → settled_event of (listing notes log) call settled result ≡ settled_event of notes call settled result
  same_settled of call result log Untold = refl
  same_settled of call result log (AnOpen login) = refl
  same_settled of call result log (AnInvoke func) = refl
  same_settled of call result log ACancel = refl

  same_settled_in : (of : Realm) (call : PendingCall) (log : List Logged) (phase : CallPhase)
      → settled_event_in of (listing notes log) call phase ≡ settled_event_in of notes call phase
  same_settled_in of call log (Runs job) = refl
  same_settled_in of call log (Asks job wanted payload) = refl
  same_settled_in of call log (Waits params) = refl
  same_settled_in of call log (Ends result params told wakes) = same_settled of call result log call.settled

  same_event : (of : Realm) (tables : Tables) (call : PendingCall) (log : List Logged) (call_kind : CallKind)
      → event_of of tables (listing notes log) call call_kind ≡ event_of of tables notes call call_kind
  same_event of tables call log kind.Open = refl
  same_event of tables call log (kind.Invoke func) = refl
  same_event of tables call log kind.Close = refl
  same_event of tables call log kind.Settled = same_settled_in of call log call.phase

  listed_with : (slot : ℕ) (call : PendingCall) (came : GroupEvent) (numbers : Numbering) (uuid : Option (List ℕ)) (log : List Logged)
      (call_kind : CallKind) → record (sessions_with call_kind (with_event (listing notes log) came) call) { uuid = uuid; numbering = numbers }
      ≡ listing (record (sessions_with call_kind (with_event notes came) call) { uuid = uuid; numbering = numbers })
      (log ++ (Comes came, None) ∷ [])
  listed_with slot call came numbers uuid log kind.Open = refl
  listed_with slot call came numbers uuid log (kind.Invoke func) = refl
  listed_with slot call came numbers uuid log kind.Close = refl
  listed_with slot call came numbers uuid log kind.Settled = refl

  same_uuid : (call : PendingCall) (log : List Logged) (came : GroupEvent) → uuid_by came call (listing notes log) ≡ uuid_by came call notes
  same_uuid call log (group.Open input login limited area) = refl
  same_uuid call log (group.Invoke session func input area) = refl
  same_uuid call log (group.Close session area) = refl
  same_uuid call log (group.Cancel session) = refl
  same_uuid call log (Seen number steps) = refl
  same_uuid call log (Room number enough) = refl
  same_uuid call log (Back number input) = refl
  same_uuid call log (Out number) = refl

  call_adds : (of : Realm) (tables : Tables) (slot : ℕ) (call : PendingCall)
      → Adds (λ log. call_noted of tables (listing notes log) slot call) (call_noted of tables notes slot call)
  call_adds of tables slot call =
      let by = adds (event_of of tables notes call call.kind) in
      record {
        more = by.more;
        so = λ log. ap (λ (o : Option GroupEvent). option_map_or (numbered (listing notes log) slot call) o (listing notes log))
            (same_event of tables call log call.kind) ∙ by.so log;
      }
    where
      adds : (o : Option GroupEvent) → Adds (λ log. option_map_or (numbered (listing notes log) slot call) o (listing notes log))
          (option_map_or (numbered notes slot call) o notes)
      adds None = none
      adds (Some came) = record {
        more = (Comes came, None) ∷ [];
        so = λ log. ap (λ (u : Option (List ℕ)). (let n : Notes = record (sessions_with call.kind (with_event (listing notes log) came) call) {
          uuid = u;
          numbering = next_in notes.numbering slot;
        } in n)) (same_uuid call log came)
            ∙ listed_with slot call came (next_in notes.numbering slot) (uuid_by came call notes) log call.kind;
      }

  -- ---- calls that come back

  seen_adds : (number : ℕ) (before now : PendingCall) → Adds (λ log. seen_noted (listing notes log) number before now) (seen_noted notes number before now)
  seen_adds number before now = adds (now.seen && not before.seen)
    where
      adds : (b : Bool) → Adds (λ log. if b then with_event (listing notes log) (Seen number before.steps) else listing notes log)
          (if b then with_event notes (Seen number before.steps) else notes)
      adds true = one (Seen number before.steps)
      adds false = none

  room_adds : (w : Watched) (number : ℕ) (before : PendingCall) → Adds (λ log. room_noted w (listing notes log) number before) (room_noted w notes number before)
  room_adds w number before = adds (room_of w.realm w.boot w.entering.kernel.tables before)
    where
      adds : (o : Option Bool) → Adds
          (λ log. option_map_or (λ enough. with_event (listing notes log) (Room number enough)) o (listing notes log))
          (option_map_or (λ enough. with_event notes (Room number enough)) o notes)
      adds (Some enough) = one (Room number enough)
      adds None = none

  back_adds : (number : ℕ) (leaving : Leaving) (came : Given) → Adds (λ log. back_noted (listing notes log) number leaving came) (back_noted notes number leaving came)
  back_adds number Interrupted came = none
  back_adds number WantsBuffer came = one (Back number (input_of came))
  back_adds number (Requests place request) came = one (Back number (input_of came))
  back_adds number (FreesBuffer buffer) came = one (Back number (input_of came))
  back_adds number (Finishes result params) came = one (Back number (input_of came))

  given_adds : (number : ℕ) (leaving : Leaving) (o : Option Given)
      → Adds (λ log. option_map_or (back_noted (listing notes log) number leaving) o (listing notes log)) (option_map_or (back_noted notes number leaving) o notes)
  given_adds number leaving None = none
  given_adds number leaving (Some came) = back_adds number leaving came

resume_adds : (notes : Notes) (w : Watched) (slot : ℕ) (before now : PendingCall) (number : ℕ)
    → Adds (λ log. resume_noted w slot before now (listing notes log) number) (resume_noted w slot before now notes number)
resume_adds notes w slot before now number =
    let leaving = leaving_of slot before in
    let o = reading (given_to w.entering.visit.regs slot before) w.entering.reads in
    let seen = seen_noted notes number before now in
    let found = room_noted w seen number before in
    adds_then (λ log. room_noted w (seen_noted (listing notes log) number before now) number before) found
    (option_map_or (back_noted found number leaving) o found) (λ (n : Notes). option_map_or (back_noted n number leaving) o n)
    (adds_then (λ log. seen_noted (listing notes log) number before now) seen found (λ (n : Notes). room_noted w n number before)
    (seen_adds notes number before now) (room_adds seen w number before))
    (given_adds found number leaving o)

module _ (notes : Notes) where
  -- ---- entries

  slot_adds : (w : Watched) (slot : ℕ) (held now : Option ThreadSlot)
      → Adds (λ log. slot_noted w slot (listing notes log) held now) (slot_noted w slot notes held now)
  slot_adds w slot None now = none notes
  slot_adds w slot (Some (Active cpu worked)) now = none notes
  slot_adds w slot (Some Free) None = none notes
  slot_adds w slot (Some Free) (Some Free) = none notes
  slot_adds w slot (Some Free) (Some (Suspended client call)) = none notes
  slot_adds w slot (Some Free) (Some (Active cpu call)) = call_adds notes w.realm w.entering.next.tables slot call
  slot_adds w slot (Some (Suspended client left)) None = none notes
  slot_adds w slot (Some (Suspended client left)) (Some Free) = none notes
  slot_adds w slot (Some (Suspended client left)) (Some (Suspended another call)) = none notes
  slot_adds w slot (Some (Suspended client left)) (Some (Active cpu now)) = adds (get notes.numbering.in_slots slot)
    where
      adds : (o : Option ℕ) → Adds (λ log. option_map_or (resume_noted w slot left now (listing notes log)) o (listing notes log))
          (option_map_or (resume_noted w slot left now notes) o notes)
      adds None = none notes
      adds (Some number) = resume_adds notes w slot left now number

  fixed_adds : (e : Entering) (answer : Answer) (client : Option ℕ)
      → Adds (λ log. fixed_noted e (listing notes log) answer client) (fixed_noted e notes answer client)
  fixed_adds e answer None = none notes
  fixed_adds e answer (Some session) = adds (is_limit answer && is_of_client e.kernel session e.visit.regs)
    where
      away : Notes
      away = record notes { turned_away = e.visit.cpu ∷ notes.turned_away }

      adds : (test : Bool) → Adds (λ log. if test then listing away log else listing notes log) (if test then away else notes)
      adds true = none away
      adds false = none notes

  entry_adds : (w : Watched) (there : Option Processor) → Adds (λ log. entry_noted w (listing notes log) there) (entry_noted w notes there)
  entry_adds w None = none notes
  entry_adds w (Some Outside) = none notes
  entry_adds w (Some (Inside regs steps (Fixed answer))) = fixed_adds w.entering answer (client_of w.realm)
  entry_adds w (Some (Inside regs steps (InSlot slot))) =
      slot_adds w slot (slice_get w.entering.kernel.slots slot) (slice_get w.entering.next.slots slot)

  -- ---- exits

  same_opened : (of : Realm) (call : PendingCall) (log : List Logged) (call_kind : CallKind) (leaving : Leaving)
      → opened_in of (listing notes log) call call_kind leaving ≡ opened_in of notes call call_kind leaving
  same_opened of call log kind.Open Interrupted = refl
  same_opened of call log kind.Open WantsBuffer = refl
  same_opened of call log kind.Open (Requests place request) = refl
  same_opened of call log kind.Open (FreesBuffer buffer) = refl
  same_opened of call log kind.Open (Finishes result params) = refl
  same_opened of call log (kind.Invoke func) leaving = refl
  same_opened of call log kind.Close leaving = refl
  same_opened of call log kind.Settled leaving = refl

  exit_adds : (of : Realm) (slot : ℕ) (call : PendingCall) (number : ℕ)
      → Adds (λ log. exit_noted of (listing notes log) slot call number) (exit_noted of notes slot call number)
  exit_adds of slot call number =
      let by = adds (reply_of (wake_kept notes.numbering slot (wake_of call.phase)) call.phase (leaving_of slot call)) in
      record {
        more = by.more;
        so = λ log. ap (λ (opened : Option ℕ). let n : Notes = record
            (option_map_or (with_reply number (listing notes log) opened)
            (reply_of (wake_kept notes.numbering slot (wake_of call.phase)) call.phase (leaving_of slot call)) (listing notes log)) {
              numbering = slot_kept (with_wake notes.numbering slot (wake_kept notes.numbering slot (wake_of call.phase))) slot (leaving_of slot call);
            } in n) (same_opened of call log call.kind (leaving_of slot call)) ∙ by.so log;
      }
    where
      adds : (o : Option OwnReply) → Adds
          (λ log. record (option_map_or (with_reply number (listing notes log) (opened_in of notes call call.kind (leaving_of slot call))) o (listing notes log)) {
            numbering = slot_kept (with_wake notes.numbering slot (wake_kept notes.numbering slot (wake_of call.phase))) slot (leaving_of slot call);
          })
          (record (option_map_or (with_reply number notes (opened_in of notes call call.kind (leaving_of slot call))) o notes) {
            numbering = slot_kept (with_wake notes.numbering slot (wake_kept notes.numbering slot (wake_of call.phase))) slot (leaving_of slot call);
          })
      adds None = record {
        more = [];
        so = λ log. ap (listing (record notes {
          numbering = slot_kept (with_wake notes.numbering slot (wake_kept notes.numbering slot (wake_of call.phase))) slot (leaving_of slot call);
        })) (sym (append-nil log));
      }
      adds (Some told) =
          let replied : GroupReply = record { reply = told; opened = opened_in of notes call call.kind (leaving_of slot call) } in
          record { more = (Comes (Out number), Some replied) ∷ []; so = λ log. refl }

  limit_adds : (cpu : ℕ) → Adds (λ log. limit_noted (listing notes log) cpu) (limit_noted notes cpu)
  limit_adds cpu = adds (list_any (λ away. away == cpu) notes.turned_away)
    where
      others : List ℕ
      others = filter (λ away. not (away == cpu)) notes.turned_away

      gone : List Logged → Notes
      gone log = record notes { turned_away = others; log = log ++ (TurnedAway, Some (plain reply.Limited)) ∷ [] }

      adds : (test : Bool) → Adds (λ log. if test then gone log else listing notes log) (if test then gone notes.log else notes)
      adds true = record { more = (TurnedAway, Some (plain reply.Limited)) ∷ []; so = λ log. refl }
      adds false = none notes

  out_adds : (of : Realm) (kernel : Kernel) (cpu : ℕ) (there : Option Processor) → Adds (λ log. out_noted of kernel (listing notes log) cpu there) (out_noted of kernel notes cpu there)
  out_adds of kernel cpu None = none notes
  out_adds of kernel cpu (Some Outside) = none notes
  out_adds of kernel cpu (Some (Inside regs steps (Fixed answer))) = limit_adds cpu
  out_adds of kernel cpu (Some (Inside regs steps (InSlot slot))) = with_progress (progress_in_slot kernel steps slot)
    where
      by_number : (progress : Progress) (o : Option ℕ)
          → Adds (λ log. option_map_or (exit_noted of (listing notes log) slot progress.call) o (listing notes log))
          (option_map_or (exit_noted of notes slot progress.call) o notes)
      by_number progress None = none notes
      by_number progress (Some number) = exit_adds of slot progress.call number

      with_progress : (o : Option Progress) → Adds
          (λ log. option_map_or (λ (progress : Progress).
          option_map_or (exit_noted of (listing notes log) slot progress.call) (get notes.numbering.in_slots slot) (listing notes log)) o (listing notes log))
          (option_map_or (λ (progress : Progress).
          option_map_or (exit_noted of notes slot progress.call) (get notes.numbering.in_slots slot) notes) o notes)
      with_progress None = none notes
      with_progress (Some progress) = by_number progress (get notes.numbering.in_slots slot)

  -- ---- both

  pub event_adds : (boot : Booted) (of : Realm) (kernel next : Kernel) (event : Event)
      → Adds (λ log. event_noted boot of kernel next (listing notes log) event) (event_noted boot of kernel next notes event)
  event_adds boot of kernel next (Entry cpu regs steps reads) =
      let visit : Visit = record { cpu = cpu; regs = regs.a; steps = steps } in
      let entering : Entering = record { kernel = kernel; next = next; visit = visit; reads = reads } in
      entry_adds (record { boot = boot; realm = of; entering = entering }) (slice_get next.processors cpu)
  event_adds boot of kernel next (Exit cpu regs) = out_adds of kernel cpu (slice_get kernel.processors cpu)
