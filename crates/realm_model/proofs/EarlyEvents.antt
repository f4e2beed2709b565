-- Before the open of a session an event notes nothing of it, but for its open, which is its first call.
use Rattle.std.proofs.Common.{◌≡◌, ℕ, ◌≤◌, ◌<◌, Bool, true, false, List, [], ◌∷◌, Option, Some, None, refl, ap, subst}
use Rattle.std.proofs.Common.{sym, ◌∙◌, arith}
use Rattle.std.specs.Prelude.{◌&&◌, ◌==◌, if◌then◌else◌, is_some, slice_get}
use Rattle.std.specs.Option.{option_map, option_map_or, option_and_then}
use Rattle.std.proofs.lemmas.Option.{option_and_then_some}
use Rattle.base.specs.NumberMap.{get}
use Rattle.base.proofs.MapLemmas.{All-get}
use Rattle.event_journal.specs.declared.event.Event.{Event}
use Rattle.event_journal.specs.declared.event.Event.TheVariants.{Entry, Exit}
use Rattle.job_model.specs.declared.call_kind.CallKind.{CallKind}
use Rattle.job_model.specs.declared.call_kind.CallKind.TheVariants as kind
use Rattle.ns_ram.specs.declared.read.Read.{Read}
use Rattle.session_table.specs.declared.session.Session.{Session}
use Rattle.smc_abi.specs.declared.answer.Answer.{Answer}
use Rattle.smc_abi.specs.declared.regs.Regs.{Regs}
use Rattle.kernel_model.specs.Application.{Application, Booted, uuid_of}
use Rattle.kernel_model.specs.Argument.{client_in, thread_in}
use Rattle.kernel_model.specs.Exit.{Exited, exit, exit_of, goes_out_from, progress_held, progress_in_slot, tables_left}
use Rattle.kernel_model.specs.Given.{Given, given_to}
use Rattle.kernel_model.specs.History.{after_event}
use Rattle.kernel_model.specs.Instances.{app_of, is_single}
use Rattle.kernel_model.specs.Kernel.{Active, Asks, CallPhase, Ends, Free, Kernel, PendingCall, Processor, Progress, Runs, Suspended}
use Rattle.kernel_model.specs.Kernel.{Tables, ThreadSlot, Visit, Waits}
use Rattle.kernel_model.specs.Resume.{onward_of, resumed_call}
use Rattle.kernel_model.specs.Sound.{unmarked, unmarked_in}
use Rattle.kernel_model.specs.SoundCalls.{is_over, is_told}
use Rattle.kernel_model.proofs.EntryLaws.{resumes_call}
use Rattle.kernel_model.proofs.FixedAnswer.{fixed_answers}
use Rattle.kernel_model.proofs.Parts.{anything, reading-all}
use Rattle.kernel_model.proofs.SoundExits.{exits_all}
use Rattle.kernel_model.proofs.SoundResumes.{resumes_all}
use Rattle.own_model.proofs.EventKinds.{EntryKind, ExitKind, FromCall, HasAnswer, IsNewCall, IsResume, WithAnswer}
use Rattle.own_model.proofs.EventKinds.{entry_kind, exit_kind}
use Rattle.own_model.proofs.FixedAnswers.{entered, left}
use Rattle.own_model.proofs.Maps.{get-insert-same}
use Rattle.own_model.proofs.NewEntries.{IsTaken, new_call_noted}
use Rattle.own_model.proofs.NotedCalls.{noted_is}
use Rattle.own_model.proofs.OtherResumes.{resumed_noted}
use Rattle.own_model.proofs.BelowNumbers.{AreBelow, IsBelow}
use Rattle.own_model.specs.declared.own_event.OwnEvent.{OwnEvent}
use Rattle.own_model.specs.declared.own_event.OwnEvent.TheVariants as own_event
use Rattle.own_model.specs.Own.{Entering, Notes, entry_noted, event_in, event_noted, event_of, fixed_noted, is_limit, no_notes, exit_noted}
use Rattle.own_model.specs.Own.{numbered, out_noted, uuid_by}
use Rattle.own_model.specs.Parameters.{params_of}
use Rattle.own_model.specs.Tied.{call_at, call_in}
use Rattle.realm_model.proofs.EarlyCalls.{Another, Coming, IsItsOpen, ItWaits, ItsOpen, early_call}
use Rattle.realm_model.proofs.Openings.{IsOpening}

-- nothing is noted of an exit from a slot without a number
pub none_noted : (notes : Notes) (slot : ℕ) (found : Option ℕ) (progress : Option Progress) → found ≡ None
    → option_map_or (λ (p : Progress). option_map_or (exit_noted notes slot p.call) found notes) progress notes ≡ notes
none_noted notes slot None None e = refl
none_noted notes slot None (Some progress) e = refl
none_noted notes slot (Some number) progress e = absurd cc

-- ---- what comes next

-- the session's open is in a slot, as its first call
pub record IsFirstCall (session : ℕ) (next : Kernel) (now : Notes) : Type 0 where
  pub slot : ℕ
  pub call : PendingCall
  pub in_slot : call_at next.slots slot ≡ Some call
  pub opens : call.kind ≡ kind.Open
  pub of_session : call.session ≡ session
  pub number : get now.numbering.in_slots slot ≡ Some 0

-- it is still before the open; or it is with it, of this application; or the open waits, for an instance that is shared
pub data EarlyNext (boot : Booted) (session : ℕ) (next : Kernel) (now : Notes) : Type 0 where
  StillEarly : now ≡ no_notes → next.tables.next_session ≤ session → EarlyNext boot session next now
  NowOpen : (of : Application) → session < next.tables.next_session → app_of boot (uuid_of of) ≡ Some of
      → now.uuid ≡ Some (uuid_of of) → IsOpening session (uuid_of of) next → IsFirstCall session next now
      → EarlyNext boot session next now
  NowNameless : (of : Application) → session < next.tables.next_session → app_of boot (uuid_of of) ≡ Some of
      → is_single of ≡ true → now ≡ no_notes → IsOpening session (uuid_of of) next → EarlyNext boot session next now

-- ---- next numbers

-- an exit leaves the next number of a session
exit_numbers : (tables : Tables) (granted : ℕ) (progress : Progress) (held : ThreadSlot)
    → progress_held tables granted held ≡ Some progress
    → progress.tables.next_session ≡ tables.next_session
exit_numbers tables granted progress Free e = absurd cc
exit_numbers tables granted progress (Suspended client other) e = absurd cc
exit_numbers tables granted progress (Active worker working) e =
    exits_all tables working granted (λ (p : Progress). p.tables.next_session ≡ tables.next_session) progress (record {
      left = λ job later is grant. refl;
      ends = λ job used end is grant. refl;
      panics = λ job used code is grant. refl;
      asks = λ job later used wanted payload is grant. refl;
      asked = λ job wanted payload is. refl;
      waits = λ params is. refl;
      told = λ result params wakes is. refl;
      tells = λ result params wakes is. refl;
    }) e

left_numbers : (tables : Tables) (slot : ℕ) (held : ThreadSlot)
    → (tables_left tables slot held).next_session ≡ tables.next_session
left_numbers tables slot Free = refl
left_numbers tables slot (Active cpu call) = refl
left_numbers tables slot (Suspended client call) = refl

-- and so does a resume
onward_numbers : (boot : Booted) (tables : Tables) (slot : ℕ) (call : PendingCall) (given : Given)
    → (onward_of (resumed_call boot tables slot call given)).tables.next_session ≡ tables.next_session
onward_numbers boot tables slot call given =
    resumes_all (resumed_call boot tables slot call given)
    (λ (p : Progress). p.tables.next_session ≡ tables.next_session) (record {
      runs = λ job is. refl;
      asks_still = λ job wanted payload is. refl;
      answered = λ job wanted payload answer advance is takes. refl;
      ends = λ result params told wakes still is. refl;
      fails = λ params code is. refl;
      sleeps = λ params is. refl;
      opens = λ params session app instance ready alive is of. refl;
      opens_new = λ params session app awake gone is of pages. refl;
      invokes = λ params session instance func ready alive is. refl;
      closes = λ params session instance ready is. refl;
    })

-- ---- kinds of events

-- nobody has the session's number
nobody : (session : ℕ) (kernel : Kernel) (found : Option Session) → AreBelow kernel.slots kernel.tables
    → kernel.tables.next_session ≤ session
    → get kernel.tables.sessions session ≡ found → found ≡ None
nobody session kernel None below before is = refl
nobody session kernel (Some kept) below before is =
    let given = All-get (λ (k : ℕ × Session). IsBelow kernel.tables k.0 k.1.instance) kernel.tables.sessions session
    kept below.sessions is in
    absurd (too_low session kernel.tables.next_session given.0 before)
  where
    too_low : (a n : ℕ) → a < n → n ≤ a → ⊥
    too_low a n lt le = omega arith

and_false : (b : Bool) → (b && false) ≡ false
and_false true = refl
and_false false = refl

fixed_early : (session : ℕ) (kernel : Kernel) (visit : Visit) (answer : Answer) → AreBelow kernel.slots kernel.tables
    → kernel.tables.next_session ≤ session
    → fixed_noted session kernel visit no_notes answer ≡ no_notes
fixed_early session kernel visit answer below before =
    ap (λ (o : Option Session). if is_limit answer
    && option_map_or (λ (kept : Session). kept.client == client_in visit.regs) o false
    then record no_notes { turned_away = visit.cpu ∷ [] } else no_notes)
    (nobody session kernel (get kernel.tables.sessions session) below before refl)
    ∙ ap (λ b. if b then record no_notes { turned_away = visit.cpu ∷ [] } else no_notes) (and_false (is_limit answer))

-- a call that is noted is the first
numbered_first : (slot : ℕ) (now : PendingCall) (found : Option OwnEvent) → is_some found ≡ true
    → get (option_map_or (numbered no_notes slot now) found no_notes).numbering.in_slots slot ≡ Some 0
numbered_first slot now None noted = absurd cc
numbered_first slot now (Some came) noted = get-insert-same [] slot 0

-- the event of an open brings the UUID of its call
pub open_uuid : (session : ℕ) (call : PendingCall) (event : OwnEvent) (notes : Notes) → call.kind ≡ kind.Open
    → event_of session call ≡ Some event → uuid_by event call notes ≡ call.uuid
open_uuid session call event notes opens noted =
    in_kind call.kind call.phase opens (noted_is call.session session _ event noted).1
  where
    in_kind : (call_kind : CallKind) (phase : CallPhase) → call_kind ≡ kind.Open
        → event_in (is_some call.area) call.settled call_kind phase ≡ Some event → uuid_by event call notes ≡ call.uuid
    in_kind kind.Open (Runs job) is e =
        let same : own_event.Open (params_of job) job.login (is_some call.area) ≡ event = cc in
        subst (λ (o : OwnEvent). uuid_by o call notes ≡ call.uuid) same refl
    in_kind kind.Open (Asks job wanted payload) is e = absurd cc
    in_kind kind.Open (Waits params) is e = absurd cc
    in_kind kind.Open (Ends result params told wakes) is e = absurd cc
    in_kind (kind.Invoke func) phase is e = absurd cc
    in_kind kind.Close phase is e = absurd cc
    in_kind kind.Settled phase is e = absurd cc

numbered_uuid : (session slot : ℕ) (now : PendingCall) (found : Option OwnEvent) → event_of session now ≡ found
    → is_some found ≡ true → now.kind ≡ kind.Open
    → (option_map_or (numbered no_notes slot now) found no_notes).uuid ≡ now.uuid
numbered_uuid session slot now None is noted opens = absurd cc
numbered_uuid session slot now (Some came) is noted opens = open_uuid session now came no_notes opens is

-- its open is in a slot
open_there : (session : ℕ) (next : Kernel) (cpu slot : ℕ) (call now : PendingCall) (uuid : List ℕ) → call ≡ now
    → IsItsOpen session call → call.uuid ≡ Some uuid → slice_get next.slots slot ≡ Some (Active cpu now)
    → IsOpening session uuid next
open_there session next cpu slot call now uuid same opens named there = record {
  has = record {
    slot = slot;
    call = unmarked now;
    in_slot = ap (λ (o : Option ThreadSlot). option_and_then unmarked_in o) there;
    opens = ap (λ (c : PendingCall). c.kind) (sym same) ∙ opens.kind;
    untold = ap (λ (c : PendingCall). is_told c.phase) (sym same) ∙ opens.untold;
    of_session = ap (λ (c : PendingCall). c.session) (sym same) ∙ opens.of_session;
    of_app = ap (λ (c : PendingCall). c.uuid) (sym same) ∙ named;
  };
  pending = ap (λ (c : PendingCall). is_over c.phase) (sym same) ∙ opens.pending;
}

call_next : (boot : Booted) (session : ℕ) (kernel next : Kernel) (visit : Visit) (slot : ℕ) (now : PendingCall)
    (notes : Notes) → (found : IsTaken (λ at taken. Coming boot session taken) kernel next visit slot now)
    → notes ≡ option_map_or (numbered no_notes slot now) (event_of session now) no_notes
    → slice_get next.slots slot ≡ Some (Active visit.cpu now)
    → Coming boot session found.taken → EarlyNext boot session next notes
call_next boot session kernel next visit slot now notes found is there (Another none lower) =
    StillEarly (is ∙ ap (λ (o : Option OwnEvent). option_map_or (numbered no_notes slot now) o no_notes)
    (ap (λ (c : PendingCall). event_of session c) (sym found.call_is) ∙ none))
    (subst (λ (k : Kernel). k.tables.next_session ≤ session) found.gives lower)
call_next boot session kernel next visit slot now notes found is there (ItWaits none more its) =
    NowNameless its.of (subst (λ (k : Kernel). session < k.tables.next_session) found.gives more) its.of_boot its.shares
    (is ∙ ap (λ (o : Option OwnEvent). option_map_or (numbered no_notes slot now) o no_notes)
    (ap (λ (c : PendingCall). event_of session c) (sym found.call_is) ∙ none))
    (open_there session next visit.cpu slot found.taken.call now (uuid_of its.of) found.call_is its.opens its.uuid there)
call_next boot session kernel next visit slot now notes found is there (ItsOpen o) =
    NowOpen o.of (subst (λ (k : Kernel). session < k.tables.next_session) found.gives o.given) o.of_boot
    (ap (λ (n : Notes). n.uuid) is ∙ numbered_uuid session slot now (event_of session now) refl noted opens
    ∙ ap (λ (c : PendingCall). c.uuid) (sym found.call_is) ∙ o.uuid)
    (open_there session next visit.cpu slot found.taken.call now (uuid_of o.of) found.call_is o.opens o.uuid there)
    (record {
      slot = slot;
      call = now;
      in_slot = ap (λ (held : Option ThreadSlot). option_and_then call_in held) there;
      opens = opens;
      of_session = ap (λ (c : PendingCall). c.session) (sym found.call_is) ∙ o.opens.of_session;
      number = ap (λ (n : Notes). get n.numbering.in_slots slot) is
          ∙ numbered_first slot now (event_of session now) noted;
    })
  where
    opens : now.kind ≡ kind.Open
    opens = ap (λ (c : PendingCall). c.kind) (sym found.call_is) ∙ o.opens.kind

    noted : is_some (event_of session now) ≡ true
    noted = ap (λ (c : PendingCall). is_some (event_of session c)) (sym found.call_is) ∙ o.noted

entry_next : (boot : Booted) (session : ℕ) (kernel next : Kernel) (cpu steps : ℕ) (regs : Regs) (reads : List Read)
    → AreBelow kernel.slots kernel.tables → kernel.tables.next_session ≤ session
    → after_event boot kernel (Entry cpu regs steps reads) ≡ Some next
    → EntryKind kernel next cpu steps regs
    → EarlyNext boot session next (event_noted session kernel next no_notes (Entry cpu regs steps reads))
entry_next boot session kernel next cpu steps regs reads below before e (HasAnswer answer inside) =
    let visit : Visit = record { cpu = cpu; regs = regs.a; steps = steps } in
    let at : Entering = record { kernel = kernel; next = next; visit = visit; reads = reads } in
    let comes = fixed_answers.entry boot kernel next visit reads answer
    (entered boot kernel next cpu steps regs reads e) inside in
    StillEarly (ap (λ (p : Option Processor). entry_noted session at no_notes p) inside
    ∙ fixed_early session kernel visit answer below before)
    (subst (λ (k : Kernel). k.tables.next_session ≤ session) (sym comes) before)
entry_next boot session kernel next cpu steps regs reads below before e (IsNewCall slot now is inside there) =
    let found = early_call boot session kernel next cpu steps slot regs reads now below before is inside there e in
    call_next boot session kernel next (record { cpu = cpu; regs = regs.a; steps = steps }) slot now _ found
    (new_call_noted session kernel next cpu steps slot regs reads now no_notes inside found.free there) there found.holds
entry_next boot session kernel next cpu steps regs reads below before e (IsResume call is some inside) =
    let visit : Visit = record { cpu = cpu; regs = regs.a; steps = steps } in
    let at : Entering = record { kernel = kernel; next = next; visit = visit; reads = reads } in
    let slot : ℕ = thread_in regs.a in
    let resumes = resumes_call boot kernel next visit reads call is some
    (entered boot kernel next cpu steps regs reads e) in
    let found = reading-all (given_to regs.a slot call)
    (λ given. onward_of (resumed_call boot kernel.tables slot call given)) (λ given. Unit {0})
    (anything (given_to regs.a slot call)) reads resumes.progress resumes.comes_to in
    let same : resumes.progress.tables.next_session ≡ kernel.tables.next_session =
    ap (λ (p : Progress). p.tables.next_session) (sym found.gives)
    ∙ onward_numbers boot kernel.tables slot call found.value in
    StillEarly (ap (λ (p : Option Processor). entry_noted session at no_notes p) inside
    ∙ resumed_noted session (record { regs = regs.a; reads = reads; slot = slot }) no_notes (client_in regs.a) call
    (slice_get kernel.slots slot) (slice_get next.slots slot) some refl)
    (subst (λ n. n ≤ session) (sym (ap (λ (k : Kernel). k.tables.next_session) resumes.next_is ∙ same)) before)

exit_next : (boot : Booted) (session : ℕ) (kernel next : Kernel) (cpu : ℕ) (regs : Regs)
    → kernel.tables.next_session ≤ session → after_event boot kernel (Exit cpu regs) ≡ Some next → ExitKind kernel cpu
    → EarlyNext boot session next (event_noted session kernel next no_notes (Exit cpu regs))
exit_next boot session kernel next cpu regs before e (WithAnswer came steps answer inside) =
    let visit : Visit = record { cpu = cpu; regs = came; steps = steps } in
    let out = left boot kernel next cpu regs e in
    let goes = fixed_answers.exit kernel visit answer inside in
    let same : out.0.kernel.tables ≡ kernel.tables = same_tables _ out.0 (sym goes ∙ out.1) in
    StillEarly (ap (λ (p : Option Processor). out_noted kernel no_notes cpu p) inside)
    (subst (λ (k : Kernel). k.tables.next_session ≤ session) out.2
    (subst (λ (t : Tables). t.next_session ≤ session) (sym same) before))
  where
    same_tables : (one exited : Exited) → Some one ≡ Some exited → exited.kernel.tables ≡ one.kernel.tables
    same_tables one exited is = let same : one ≡ exited = cc in ap (λ (x : Exited). x.kernel.tables) (sym same)
exit_next boot session kernel next cpu regs before e (FromCall came steps slot progress inside comes) =
    let visit : Visit = record { cpu = cpu; regs = came; steps = steps } in
    let out = left boot kernel next cpu regs e in
    let goes : exit kernel cpu ≡ Some (goes_out_from kernel visit slot progress) =
    ap (λ (p : Option Processor). option_and_then (exit_of kernel cpu) p) inside
    ∙ ap (λ (p : Option Progress). option_map (goes_out_from kernel visit slot) p) comes in
    let same : out.0 ≡ goes_out_from kernel visit slot progress = same_exit _ _ (sym out.1 ∙ goes) in
    let numbers : progress.tables.next_session ≡ kernel.tables.next_session =
    option_and_then_some (progress_held kernel.tables steps) (slice_get kernel.slots slot) progress comes
    (λ held there onward. exit_numbers kernel.tables steps progress held onward) in
    let after : (goes_out_from kernel visit slot progress).kernel.tables.next_session ≡ kernel.tables.next_session =
    left_numbers progress.tables slot _ ∙ numbers in
    StillEarly (ap (λ (p : Option Processor). out_noted kernel no_notes cpu p) inside
    ∙ none_noted no_notes slot None (progress_in_slot kernel steps slot) refl)
    (subst (λ (k : Kernel). k.tables.next_session ≤ session) out.2
    (subst (λ (x : Exited). x.kernel.tables.next_session ≤ session) (sym same)
    (subst (λ n. n ≤ session) (sym after) before)))
  where
    same_exit : (a b : Exited) → Some a ≡ Some b → a ≡ b
    same_exit a b is = cc

pub early_next : (boot : Booted) (session : ℕ) (kernel next : Kernel) (happened : Event)
    → AreBelow kernel.slots kernel.tables → kernel.tables.next_session ≤ session
    → after_event boot kernel happened ≡ Some next
    → EarlyNext boot session next (event_noted session kernel next no_notes happened)
early_next boot session kernel next (Entry cpu regs steps reads) below before e =
    entry_next boot session kernel next cpu steps regs reads below before e
    (entry_kind boot kernel next cpu steps regs reads e)
early_next boot session kernel next (Exit cpu regs) below before e =
    exit_next boot session kernel next cpu regs before e (exit_kind boot kernel next cpu regs e)
