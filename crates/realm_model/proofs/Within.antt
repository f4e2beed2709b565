-- What is noted of a realm at an event of a history is within what its machine has room for: a new call is none more than have come
-- in by then, and the call that goes out has done no more steps than were granted.
use Rattle.std.proofs.Common.{◌≡◌, ℕ, ◌+◌, ◌*◌, ◌≤◌, Bool, List, [], ◌∷◌, ◌++◌, Option, Some, None, refl, ap, subst, sym, ◌∙◌, arith}
use Rattle.std.specs.Prelude.{◌==◌, ◌&&◌, not, slice_get, is_some}
use Rattle.std.specs.List.{list_any}
use Rattle.std.specs.Option.{option_map_or}
use Rattle.std.proofs.lemmas.List.{append_assoc, append_cancel_left, append-nil}
use Rattle.std.proofs.lemmas.Option.{option_and_then_some}
use Rattle.base.specs.NumberMap.{get}
use Rattle.event_journal.specs.declared.event.Event.{Event}
use Rattle.event_journal.specs.declared.event.Event.TheVariants.{Entry, Exit}
use Rattle.job_model.specs.declared.call_kind.CallKind.{CallKind}
use Rattle.job_model.specs.declared.call_kind.CallKind.TheVariants as kind
use Rattle.ns_ram.specs.Reader.{reading}
use Rattle.smc_abi.specs.declared.answer.Answer.{Answer}
use Rattle.ta_params.specs.declared.call_result.CallResult.{CallResult}
use Rattle.kernel_model.specs.Application.{Application, Booted}
use Rattle.kernel_model.specs.Exit.{progress_in_slot}
use Rattle.kernel_model.specs.Given.{Given, given_to}
use Rattle.kernel_model.specs.Kernel.{ACancel, Active, AnInvoke, AnOpen, Asks, CallPhase, Ends, Fixed, Free, InSlot, Inside, Kernel, Outside, PendingCall}
use Rattle.kernel_model.specs.Kernel.{Processor, Progress, Runs, SettledCall, Suspended, Tables, ThreadSlot, Untold, Visit, Waits}
use Rattle.kernel_model.specs.Leaving.{FreesBuffer, Finishes, Interrupted, Leaving, Requests, WantsBuffer, leaving_of}
use Rattle.kernel_model.specs.Sound.{HasStepsAfter}
use Rattle.kernel_model.proofs.Parts.{if-both, map_or-both, option_map_some}
use Rattle.own_model.proofs.InOrder.{IfAny, if_any_map, if_any_then}
use Rattle.own_model.specs.Own.{Entering, is_limit, is_of_client, reply_of, wake_kept, wake_of}
use Rattle.own_model.specs.Tied.{PhasesAlike, call_in}
use Rattle.own_model.specs.declared.own_reply.OwnReply.{OwnReply}
use Rattle.group_model.proofs.MoreSteps.{Ended, behind}
use Rattle.group_model.specs.Group.{Answered, Group, GroupCall, run, step}
use Rattle.group_model.specs.Read.{invoke_event, is_open_of, open_event_in}
use Rattle.group_model.specs.declared.group_event.GroupEvent.{GroupEvent}
use Rattle.group_model.specs.declared.group_event.GroupEvent.TheVariants.{Open, Invoke, Close, Cancel, Seen, Room, Back, Out}
use Rattle.group_model.specs.declared.group_reply.GroupReply.{GroupReply}
use Rattle.realm_model.specs.Histories.{AllWithin, DidAtMost, IsReady, IsWithin}
use Rattle.realm_model.specs.Laws.{About, AreTied, events_in}
use Rattle.realm_model.specs.Reading.{Logged, Notes, Watched, back_noted, entry_noted, event_noted, event_of}
use Rattle.realm_model.specs.declared.realm_event.RealmEvent.{RealmEvent}
use Rattle.realm_model.specs.declared.realm_event.RealmEvent.TheVariants.{Comes, TurnedAway}
use Rattle.realm_model.specs.Reading.{exit_noted, fixed_noted, number_of, numbered, opened_in, out_noted, resume_noted, room_noted, seen_noted}
use Rattle.realm_model.specs.Reading.{sessions_with, settled_event, settled_event_in, slot_noted, with_event, with_reply}
use Rattle.realm_model.specs.Realm.{AllSessions, OneSession, Realm, client_of, open_of, room_of}

-- ---- events in a row

-- neither a call that comes in nor one that goes out
abbrev IsQuiet : GroupEvent → Type 0
IsQuiet (Open input login limited area) = ⊥
IsQuiet (Invoke session func input area) = ⊥
IsQuiet (Close session area) = ⊥
IsQuiet (Cancel session) = ⊥
IsQuiet (Seen number done_by_now) = Unit {0}
IsQuiet (Room number enough) = Unit {0}
IsQuiet (Back number input) = Unit {0}
IsQuiet (Out number) = ⊥

-- a call that comes in
abbrev IsComing : GroupEvent → Type 0
IsComing (Open input login limited area) = Unit {0}
IsComing (Invoke session func input area) = Unit {0}
IsComing (Close session area) = Unit {0}
IsComing (Cancel session) = Unit {0}
IsComing (Seen number done_by_now) = ⊥
IsComing (Room number enough) = ⊥
IsComing (Back number input) = ⊥
IsComing (Out number) = ⊥

-- what is noted that is of the machine is so
abbrev OfMachine : (GroupEvent → Type 0) → RealmEvent → Type 0
OfMachine P (Comes came) = P came
OfMachine P TurnedAway = Unit {0}

abbrev AreQuiet : List Logged → Type 0
AreQuiet [] = Unit {0}
AreQuiet (logged ∷ items) = OfMachine IsQuiet logged.0 × AreQuiet items

-- the first is within, and those behind it are quiet
abbrev pub FirstWithin : (calls most : ℕ) → Group → List Logged → Type 0
FirstWithin calls most g [] = Unit {0}
FirstWithin calls most g (logged ∷ items) = OfMachine (IsWithin calls most g) logged.0 × AreQuiet items

quiet_within : (calls most : ℕ) (g : Group) (came : GroupEvent) → IsQuiet came → IsWithin calls most g came
quiet_within calls most g (Open input login limited area) quiet = absurd quiet
quiet_within calls most g (Invoke session func input area) quiet = absurd quiet
quiet_within calls most g (Close session area) quiet = absurd quiet
quiet_within calls most g (Cancel session) quiet = absurd quiet
quiet_within calls most g (Seen number done_by_now) quiet = tt
quiet_within calls most g (Room number enough) quiet = tt
quiet_within calls most g (Back number input) quiet = tt
quiet_within calls most g (Out number) quiet = absurd quiet

coming_within : (calls most : ℕ) (g : Group) (came : GroupEvent) → IsComing came → g.entered ≤ calls → IsWithin calls most g came
coming_within calls most g (Open input login limited area) coming few = few
coming_within calls most g (Invoke session func input area) coming few = few
coming_within calls most g (Close session area) coming few = few
coming_within calls most g (Cancel session) coming few = few
coming_within calls most g (Seen number done_by_now) coming few = absurd coming
coming_within calls most g (Room number enough) coming few = absurd coming
coming_within calls most g (Back number input) coming few = absurd coming
coming_within calls most g (Out number) coming few = absurd coming

quiet_first : (calls most : ℕ) (g : Group) (items : List Logged) → AreQuiet items → FirstWithin calls most g items
quiet_first calls most g [] quiet = tt
quiet_first calls most g ((TurnedAway, told) ∷ items) quiet = (tt, quiet.1)
quiet_first calls most g ((Comes came, told) ∷ items) quiet = (quiet_within calls most g came quiet.0, quiet.1)

quiet_all : (calls most : ℕ) (app : Application) (g : Group) (items : List Logged) → AreQuiet items
    → AllWithin calls most app g (events_in items)
quiet_all calls most app g [] quiet = tt
quiet_all calls most app g ((TurnedAway, told) ∷ items) quiet = quiet_all calls most app g items quiet.1
quiet_all calls most app g ((Comes came, told) ∷ items) quiet =
    (quiet_within calls most g came quiet.0, λ answered is. quiet_all calls most app answered.0 items quiet.1)

first_all : (calls most : ℕ) (app : Application) (g : Group) (items : List Logged) → FirstWithin calls most g items
    → AllWithin calls most app g (events_in items)
first_all calls most app g [] first = tt
first_all calls most app g ((TurnedAway, told) ∷ items) first = quiet_all calls most app g items first.1
first_all calls most app g ((Comes came, told) ∷ items) first =
    (first.0, λ answered is. quiet_all calls most app answered.0 items first.1)

same_answer : (o : Option Answered) (a b : Answered) → o ≡ Some a → o ≡ Some b → a ≡ b
same_answer o a b is other = let both : Some a ≡ Some b = sym is ∙ other in cc

same_end : (a b : Ended) → Some a ≡ Some b → a ≡ b
same_end a b is = cc

pub within-append : (calls most : ℕ) (app : Application) (g after_it : Group) (events more : List GroupEvent) (replies : List GroupReply)
    → AllWithin calls most app g events → run most app g events ≡ Some (after_it, replies) → AllWithin calls most app after_it more
    → AllWithin calls most app g (events ++ more)
within-append calls most app g after_it [] more replies all e rest =
    let same = same_end (g, []) (after_it, replies) e in
    subst (λ (z : Group). AllWithin calls most app z more) (sym (ap (λ (x : Ended). x.0) same)) rest
within-append calls most app g after_it (came ∷ events) more replies all e rest = (
  all.0,
  λ answered is.
      option_and_then_some (behind most app events) (step most app g came) (after_it, replies) e
      (λ found there onward.
      let same : found ≡ answered = same_answer (step most app g came) found answered there is in
      let end = option_map_some _ (run most app found.0 events) (after_it, replies) onward in
      let last : end.0.0 ≡ after_it = ap (λ (x : Ended). x.0) end.2 in
      within-append calls most app answered.0 after_it events more end.0.1 (all.1 answered is)
      (ap (λ (a : Answered). run most app a.0 events) (sym same) ∙ end.1 ∙ ap (λ (z : Group). Some (z, end.0.1)) last) rest),
)

-- ---- more is noted

record Grows (P : List Logged → Type 0) (before after : Notes) : Type 0 where
  items : List Logged
  noted : after.log ≡ before.log ++ items
  are : P items

none_more : (before after : Notes) → after.log ≡ before.log → Grows AreQuiet before after
none_more before after same = record { items = []; noted = same ∙ sym (append-nil before.log); are = tt }

one_quiet : (notes : Notes) (came : GroupEvent) → IsQuiet came → Grows AreQuiet notes (with_event notes came)
one_quiet notes came quiet = record { items = (Comes came, None) ∷ []; noted = refl; are = (quiet, tt) }

quiet-append : (items more : List Logged) → AreQuiet items → AreQuiet more → AreQuiet (items ++ more)
quiet-append [] more quiet rest = rest
quiet-append (logged ∷ items) more quiet rest = (quiet.0, quiet-append items more quiet.1 rest)

both_more : (before between after : Notes) → Grows AreQuiet before between → Grows AreQuiet between after → Grows AreQuiet before after
both_more before between after first second = record {
  items = first.items ++ second.items;
  noted = second.noted ∙ ap (λ (log : List Logged). log ++ second.items) first.noted
      ∙ append_assoc before.log first.items second.items;
  are = quiet-append first.items second.items first.are second.are;
}

-- ---- a call that comes back

back_quiet : (notes : Notes) (number : ℕ) (leaving : Leaving) (came : Given)
    → Grows AreQuiet notes (back_noted notes number leaving came)
back_quiet notes number Interrupted came = none_more notes notes refl
back_quiet notes number WantsBuffer came = one_quiet notes _ tt
back_quiet notes number (Requests place request) came = one_quiet notes _ tt
back_quiet notes number (FreesBuffer buffer) came = one_quiet notes _ tt
back_quiet notes number (Finishes result params) came = one_quiet notes _ tt

room_quiet : (w : Watched) (notes : Notes) (number : ℕ) (before : PendingCall)
    → Grows AreQuiet notes (room_noted w notes number before)
room_quiet w notes number before =
    map_or-both (Grows AreQuiet notes) (λ enough. with_event notes (Room number enough))
    (room_of w.realm w.boot w.entering.kernel.tables before) notes
    (λ enough. one_quiet notes (Room number enough) tt) (none_more notes notes refl)

resume_quiet : (w : Watched) (slot : ℕ) (before now : PendingCall) (notes : Notes) (number : ℕ)
    → Grows AreQuiet notes (resume_noted w slot before now notes number)
resume_quiet w slot before now notes number =
    let seen : Notes = seen_noted notes number before now in
    let found : Notes = room_noted w seen number before in
    both_more notes seen (resume_noted w slot before now notes number)
    (if-both (Grows AreQuiet notes) (now.seen && not before.seen) _ notes (one_quiet notes _ tt) (none_more notes notes refl))
    (both_more seen found (resume_noted w slot before now notes number) (room_quiet w seen number before)
    (map_or-both (Grows AreQuiet found) (back_noted found number (leaving_of slot before))
    (reading (given_to w.entering.visit.regs slot before) w.entering.reads) found
    (λ came. back_quiet found number (leaving_of slot before) came) (none_more found found refl)))

-- ---- a call that comes in

abbrev IfComes : Option GroupEvent → Type 0
IfComes found = IfAny IsComing found

one_open : (member : ℕ) (tables : Tables) (call : PendingCall) (phase : CallPhase)
    → IfComes (open_of (OneSession member) tables call phase)
one_open member tables call (Runs job) = if-both IfComes (call.session == member) _ None tt tt
one_open member tables call (Asks job wanted payload) = tt
one_open member tables call (Waits params) = tt
one_open member tables call (Ends result params told wakes) = tt

any_open : (tables : Tables) (call : PendingCall) (phase : CallPhase) → IfComes (open_event_in tables call phase)
any_open tables call (Runs job) = if_any_map IsComing _ (get tables.sessions call.session) (λ session there. tt)
any_open tables call (Asks job wanted payload) = tt
any_open tables call (Waits params) = if_any_map IsComing _ (get tables.sessions call.session) (λ session there. tt)
any_open tables call (Ends result params told wakes) = tt

open_comes : (realm : Realm) (tables : Tables) (call : PendingCall) (phase : CallPhase)
    → IfComes (open_of realm tables call phase)
open_comes (OneSession member) tables call phase = one_open member tables call phase
open_comes (AllSessions app) tables call phase =
    if-both IfComes (is_open_of app call) (open_event_in tables call phase) None (any_open tables call phase) tt

invoke_comes : (session func : ℕ) (area : Bool) (phase : CallPhase) → IfComes (invoke_event session func area phase)
invoke_comes session func area (Runs job) = tt
invoke_comes session func area (Asks job wanted payload) = tt
invoke_comes session func area (Waits params) = tt
invoke_comes session func area (Ends result params told wakes) = tt

settled_comes : (realm : Realm) (notes : Notes) (call : PendingCall) (settled : SettledCall) (result : CallResult)
    → IfComes (settled_event realm notes call settled result)
settled_comes realm notes call Untold result = tt
settled_comes (OneSession member) notes call (AnOpen login) result = tt
settled_comes (AllSessions app) notes call (AnOpen login) result = if-both IfComes (is_open_of app call) _ None tt tt
settled_comes realm notes call (AnInvoke func) result =
    if_any_map IsComing _ (number_of realm notes call.session) (λ session there. tt)
settled_comes realm notes call ACancel result =
    if_any_map IsComing _ (number_of realm notes call.session) (λ session there. tt)

ended_comes : (realm : Realm) (notes : Notes) (call : PendingCall) (phase : CallPhase)
    → IfComes (settled_event_in realm notes call phase)
ended_comes realm notes call (Runs job) = tt
ended_comes realm notes call (Asks job wanted payload) = tt
ended_comes realm notes call (Waits params) = tt
ended_comes realm notes call (Ends result params told wakes) = settled_comes realm notes call call.settled result

of_comes : (realm : Realm) (tables : Tables) (notes : Notes) (call : PendingCall) (call_kind : CallKind)
    → IfComes (event_of realm tables notes call call_kind)
of_comes realm tables notes call kind.Open = open_comes realm tables call call.phase
of_comes realm tables notes call (kind.Invoke func) =
    if_any_then IsComing (λ session. invoke_event session func (is_some call.area) call.phase)
    (number_of realm notes call.session) (λ session there. invoke_comes session func (is_some call.area) call.phase)
of_comes realm tables notes call kind.Close =
    if_any_map IsComing _ (number_of realm notes call.session) (λ session there. tt)
of_comes realm tables notes call kind.Settled = ended_comes realm notes call call.phase

-- a session's number leaves the log
same_log : (call_kind : CallKind) (notes : Notes) (call : PendingCall) → (sessions_with call_kind notes call).log ≡ notes.log
same_log kind.Open notes call = refl
same_log (kind.Invoke func) notes call = refl
same_log kind.Close notes call = refl
same_log kind.Settled notes call = refl

module _ (calls most : ℕ) (g : Group) (notes : Notes) (few : g.entered ≤ calls) where
  quiet_so : (after : Notes) → Grows AreQuiet notes after → Grows (FirstWithin calls most g) notes after
  quiet_so after grows =
      record { items = grows.items; noted = grows.noted; are = quiet_first calls most g grows.items grows.are }

  nothing_so : (after : Notes) → after.log ≡ notes.log → Grows (FirstWithin calls most g) notes after
  nothing_so after same = quiet_so after (none_more notes after same)

  call_so : (slot : ℕ) (call : PendingCall) (found : Option GroupEvent) → IfComes found
      → Grows (FirstWithin calls most g) notes (option_map_or (numbered notes slot call) found notes)
  call_so slot call None comes = nothing_so notes refl
  call_so slot call (Some came) comes = record {
    items = (Comes came, None) ∷ [];
    noted = same_log call.kind (with_event notes came) call;
    are = (coming_within calls most g came comes few, tt);
  }

  -- what is noted of a slot that an entry got into
  slot_so : (w : Watched) (slot : ℕ) (was is : Option ThreadSlot)
      → Grows (FirstWithin calls most g) notes (slot_noted w slot notes was is)
  slot_so w slot None is = nothing_so notes refl
  slot_so w slot (Some (Active cpu worked)) is = nothing_so notes refl
  slot_so w slot (Some Free) None = nothing_so notes refl
  slot_so w slot (Some Free) (Some Free) = nothing_so notes refl
  slot_so w slot (Some Free) (Some (Suspended client call)) = nothing_so notes refl
  slot_so w slot (Some Free) (Some (Active cpu call)) =
      call_so slot call (event_of w.realm w.entering.next.tables notes call call.kind)
      (of_comes w.realm w.entering.next.tables notes call call.kind)
  slot_so w slot (Some (Suspended client left)) None = nothing_so notes refl
  slot_so w slot (Some (Suspended client left)) (Some Free) = nothing_so notes refl
  slot_so w slot (Some (Suspended client left)) (Some (Suspended another call)) = nothing_so notes refl
  slot_so w slot (Some (Suspended client left)) (Some (Active cpu now)) =
      quiet_so (slot_noted w slot notes (Some (Suspended client left)) (Some (Active cpu now)))
      (map_or-both (Grows AreQuiet notes) (resume_noted w slot left now notes) (get notes.numbering.in_slots slot) notes
      (λ number. resume_quiet w slot left now notes number) (none_more notes notes refl))

  fixed_so : (e : Entering) (answer : Answer) (client : Option ℕ)
      → Grows (FirstWithin calls most g) notes (fixed_noted e notes answer client)
  fixed_so e answer None = nothing_so notes refl
  fixed_so e answer (Some session) =
      if-both (Grows (FirstWithin calls most g) notes) (is_limit answer && is_of_client e.kernel session e.visit.regs)
      (record notes { turned_away = e.visit.cpu ∷ notes.turned_away }) notes (nothing_so _ refl) (nothing_so notes refl)

  entry_so : (w : Watched) (processor : Option Processor)
      → Grows (FirstWithin calls most g) notes (entry_noted w notes processor)
  entry_so w None = nothing_so notes refl
  entry_so w (Some Outside) = nothing_so notes refl
  entry_so w (Some (Inside regs granted (Fixed answer))) = fixed_so w.entering answer (client_of w.realm)
  entry_so w (Some (Inside regs granted (InSlot slot))) =
      slot_so w slot (slice_get w.entering.kernel.slots slot) (slice_get w.entering.next.slots slot)

-- ---- a call that goes out

-- what a call of the machine had done by the time that the kernel's has
alike_within : (kept : Option ℕ) (now before most : ℕ) (phase own : CallPhase) → PhasesAlike kept now before phase own → now ≤ most
    → DidAtMost most before own
alike_within kept now before most (Runs job) (Runs from) alike le = less before now most alike.more le
  where
    less : (a b m : ℕ) → a ≤ b → b ≤ m → a ≤ m
    less a b m le few = omega (arith, le, few)
alike_within kept now before most (Asks job wanted payload) (Runs from) alike le = absurd alike
alike_within kept now before most (Waits params) (Runs from) alike le = absurd alike
alike_within kept now before most (Ends result params told wakes) (Runs from) alike le = absurd alike
alike_within kept now before most phase (Asks from asked bytes) alike le = tt
alike_within kept now before most phase (Waits copied) alike le = tt
alike_within kept now before most phase (Ends answer left shown wakes) alike le = tt

steps_in_slot : (events most : ℕ) (held : ThreadSlot) (call : PendingCall) → call_in held ≡ Some call → HasStepsAfter events held
    → 1000000 * events ≤ most → call.steps ≤ most
steps_in_slot events most Free call is has le = absurd cc
steps_in_slot events most (Active cpu worked) call is has le =
    let same : worked ≡ call = cc in subst (λ (c : PendingCall). c.steps ≤ most) same (within worked.steps has)
  where
    within : (n : ℕ) → n + 1000000 ≤ 1000000 * events → n ≤ most
    within n few = omega (arith, few, le)
steps_in_slot events most (Suspended client worked) call is has le =
    let same : worked ≡ call = cc in subst (λ (c : PendingCall). c.steps ≤ most) same (within worked.steps has)
  where
    within : (n : ℕ) → n ≤ 1000000 * events → n ≤ most
    within n few = omega (arith, few, le)

some_call : (o : Option GroupCall) (a b : GroupCall) → o ≡ Some a → o ≡ Some b → a ≡ b
some_call o a b is other = let both : Some a ≡ Some b = sym is ∙ other in cc

module _ (about : About) (events : ℕ) (kernel : Kernel) (notes : Notes) (g : Group) (ready : IsReady about events kernel g)
    (tied : AreTied about kernel.slots kernel.tables notes g) (calls : ℕ) (few : g.entered ≤ calls) where
  -- the call of this number
  out_within : (slot number : ℕ) → get notes.numbering.in_slots slot ≡ Some number → IsWithin calls about.most g (Out number)
  out_within slot number has = λ call there.
      let its = tied.tied.calls.own slot number has in
      option_and_then_some call_in (slice_get kernel.slots slot) its.call its.in_slot
      (λ held in_slot is.
      subst (λ (c : GroupCall). DidAtMost about.most c.steps c.phase)
      (some_call (get g.calls number) its.own call its.of_number there)
      (alike_within (get notes.numbering.wakes slot) its.call.steps its.own.steps about.most its.call.phase its.own.phase
      its.alike.phases (steps_in_slot events about.most held its.call is (ready.steps.calls slot held in_slot) ready.most)))

  nothing_out : (after : Notes) → after.log ≡ notes.log → Grows (FirstWithin calls about.most g) notes after
  nothing_out after same = nothing_so calls about.most g notes few after same

  exit_so : (slot number : ℕ) (opened : Option ℕ) → get notes.numbering.in_slots slot ≡ Some number → (told : Option OwnReply)
      (after : Notes) → after.log ≡ (option_map_or (with_reply number notes opened) told notes).log
      → Grows (FirstWithin calls about.most g) notes after
  exit_so slot number opened has None after same = nothing_out after same
  exit_so slot number opened has (Some told) after same = record {
    items = (Comes (Out number), Some (record { reply = told; opened = opened })) ∷ [];
    noted = same;
    are = (out_within slot number has, tt);
  }

  out_of : (realm : Realm) (slot : ℕ) (call : PendingCall) (found : Option ℕ) → get notes.numbering.in_slots slot ≡ found
      → Grows (FirstWithin calls about.most g) notes (option_map_or (exit_noted realm notes slot call) found notes)
  out_of realm slot call None is = nothing_out notes refl
  out_of realm slot call (Some number) is =
      exit_so slot number (opened_in realm notes call call.kind (leaving_of slot call)) is
      (reply_of (wake_kept notes.numbering slot (wake_of call.phase)) call.phase (leaving_of slot call))
      (exit_noted realm notes slot call number) refl

  out_so : (realm : Realm) (cpu : ℕ) (processor : Option Processor)
      → Grows (FirstWithin calls about.most g) notes (out_noted realm kernel notes cpu processor)
  out_so realm cpu None = nothing_out notes refl
  out_so realm cpu (Some Outside) = nothing_out notes refl
  out_so realm cpu (Some (Inside regs granted (Fixed answer))) =
      if-both (Grows (FirstWithin calls about.most g) notes) (list_any (λ away. away == cpu) notes.turned_away) _ notes
      (record { items = (TurnedAway, _) ∷ []; noted = refl; are = (tt, tt) }) (nothing_out notes refl)
  out_so realm cpu (Some (Inside regs granted (InSlot slot))) =
      map_or-both (Grows (FirstWithin calls about.most g) notes) _ (progress_in_slot kernel granted slot) notes
      (λ (progress : Progress). out_of realm slot progress.call (get notes.numbering.in_slots slot) refl) (nothing_out notes refl)

  event_so : (boot : Booted) (realm : Realm) (next : Kernel) (happened : Event)
      → Grows (FirstWithin calls about.most g) notes (event_noted boot realm kernel next notes happened)
  event_so boot realm next (Entry cpu regs granted reads) =
      let visit : Visit = record { cpu = cpu; regs = regs.a; steps = granted } in
      let entering : Entering = record { kernel = kernel; next = next; visit = visit; reads = reads } in
      entry_so calls about.most g notes few (record { boot = boot; realm = realm; entering = entering })
      (slice_get next.processors cpu)
  event_so boot realm next (Exit cpu regs) = out_so realm cpu (slice_get kernel.processors cpu)

  -- what was noted at the event is within
  pub items_within : (boot : Booted) (realm : Realm) (next : Kernel) (happened : Event) (items : List Logged)
      → (event_noted boot realm kernel next notes happened).log ≡ notes.log ++ items
      → AllWithin calls about.most about.members.app g (events_in items)
  items_within boot realm next happened items logged =
      let grows = event_so boot realm next happened in
      first_all calls about.most about.members.app g items
      (subst (FirstWithin calls about.most g) (append_cancel_left notes.log grows.items items (sym grows.noted ∙ logged))
      grows.are)
