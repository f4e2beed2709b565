-- What an entry is for a realm is what the kernel's decision makes of it.
use Rattle.std.proofs.Common.{◌≡◌, ℕ, ◌==◌, ◌<◌, length, Bool, true, false, List, [], Option, Some, None, refl, ap, sym, subst, ◌∙◌}
use Rattle.std.specs.Prelude.{◌&&◌, not, if◌then◌else◌, slice_get, is_some}
use Rattle.std.specs.Option.{is_none, option_map_or}
use Rattle.std.proofs.Math.Logic.{∥∥₁_elim}
use Rattle.std.proofs.Props.{props}
use Rattle.std.proofs.lemmas.Option.{slice_get_within}
use Rattle.base.specs.NumberMap.{get}
use Rattle.group_model.specs.Read.{finds_it_gone}
use Rattle.group_model.specs.declared.group_event.GroupEvent.{GroupEvent}
use Rattle.job_model.specs.declared.call_kind.CallKind.{CallKind}
use Rattle.job_model.specs.declared.call_kind.CallKind.TheVariants as kind
use Rattle.kernel_entry.proofs.Following.{call_found}
use Rattle.kernel_entry.specs.Deciding.{CanBegin, decision_as, goes_on_in}
use Rattle.kernel_entry.specs.Entering.{IsPrepared}
use Rattle.kernel_entry.specs.Resuming.{IsSuspended, goes_on_as}
use Rattle.kernel_entry.specs.declared.deciding.EntryDecision.TheVariants as decision
use Rattle.kernel_entry.specs.declared.deciding.PlannedCall.{PlannedCall}
use Rattle.kernel_entry.specs.declared.preparing.Prepared.{Prepared}
use Rattle.kernel_model.proofs.Parts.{if-both, map_or-both}
use Rattle.kernel_model.specs.Application.{Application, Booted}
use Rattle.kernel_model.specs.Argument.{client_in, thread_in}
use Rattle.kernel_model.specs.Begin.{Opener, has_pages_for, opens_new}
use Rattle.kernel_model.specs.Codes.{bad_parameters, eresume, out_of_memory, target_dead}
use Rattle.kernel_model.specs.Decision as model
use Rattle.kernel_model.specs.Given.{Given, Nothing, Buffer, NoBuffer, Reply, call_given, given_to}
use Rattle.kernel_model.specs.Instances.{is_held}
use Rattle.kernel_model.specs.Kernel.{CallPhase, Runs, Asks, Waits, Ends, Active, Free, Instance, Kernel, PendingCall, Progress, Suspended, Tables, ThreadSlot}
use Rattle.kernel_model.specs.Resume.{Resumed as ResumedCall, app_of_call, begins, begins_in, begins_open, call_resumed_by, ends_with, goes_on, is_without_buffer, onward_in, phase_seen, resumed_call, sees, sleeps_on, suspended_for, tested_again, who_resumes}
use Rattle.kernel_state.specs.Calls.{IsCall}
use Rattle.kernel_state.specs.Replay.{Replays}
use Rattle.kernel_state.specs.Setup.{booted_of_setup}
use Rattle.kernel_state.specs.StandsFor.{StandsFor}
use Rattle.kernel_state.specs.Tables.{tables_of}
use Rattle.kernel_state.specs.declared.parts.Parts.{Parts}
use Rattle.new_calls.specs.Deciding.{call_with, taken_of}
use Rattle.ns_ram.proofs.ReaderLaws.{over_lane-reading}
use Rattle.ns_ram.specs.declared.read.Read.{Read}
use Rattle.realm_model.specs.Reading.{Notes}
use Rattle.realm_model.specs.Realm.{AllSessions, OneSession, Realm, room_of}
use Rattle.realm_notes.proofs.Arrived.{input_is}
use Rattle.realm_notes.proofs.LeftCalls.{PhaseAs, phase_as}
use Rattle.realm_notes.proofs.NewCalls.{planned_free}
use Rattle.realm_notes.proofs.Plans.{IsPlanned, none_counted, plan_is}
use Rattle.realm_notes.specs.Arriving.{IsArrival, IsArrivalBy, IsArrivalIn, IsBackIn, IsResumed, IsRoomIn, Watch, arrival_as, arrival_of, back_as}
use Rattle.realm_notes.specs.Arriving.{event_as, seen_then, watch}
use Rattle.realm_notes.specs.Calls.{planned_call}
use Rattle.realm_notes.specs.Realms.{counted, finds_gone, is_open, is_waiting, room_as}
use Rattle.realm_notes.specs.declared.arriving.Arrival.{Arrival}
use Rattle.realm_notes.specs.declared.arriving.Arrival.TheVariants as arrival
use Rattle.realm_notes.specs.declared.arriving.Back.{Back as BackWith}
use Rattle.realm_notes.specs.declared.arriving.Resumed.{Resumed}
use Rattle.realm_notes.specs.declared.calls.ArrivingCall.{ArrivingCall}
use Rattle.resumed_calls.proofs.Taking.{decision_taken, slot_resumed}
use Rattle.resumed_calls.specs.Deciding.{IsDecided, IsDecidedFor}
use Rattle.resumed_calls.specs.Giving.{given_as}
use Rattle.resumed_calls.specs.declared.deciding.Decided.{Decided}
use Rattle.rpc_cont.specs.declared.cont.Cont.{Cont}
use Rattle.rpc_cont.specs.declared.phase.Phase.{Phase}
use Rattle.session_table.specs.declared.session.Session.{Session}
use Rattle.ta_params.specs.declared.copied_params.CopiedParams.{CopiedParams}

-- ---- what is prepared

-- the kernel decides so, by which it is this
pub arrives : (parts : Parts) (realm : Realm) (notes : Notes) (k : Kernel) (regs lane : List ℕ) (prepared : Prepared) (came : Arrival)
    → IsPrepared parts regs lane prepared → StandsFor parts k
    → IsArrivalBy (watch (booted_of_setup parts.setup) realm notes k) regs prepared.reads came (decision_as parts k regs prepared.decision)
    → IsArrival (watch (booted_of_setup parts.setup) realm notes k) regs lane came
arrives parts realm notes k regs lane prepared came is stands by = record {
  decision = decision_as parts k regs prepared.decision;
  reads = prepared.reads;
  decides = is.decides k stands;
  is = by;
}

-- ---- new calls

event_in_slot : (w : Watch) (regs : List ℕ) (reads : List Read) (slot named : ℕ) (taken : model.Taken) (call : ArrivingCall)
    → slice_get w.kernel.slots slot ≡ Some Free → IsPlanned w.realm w.noted named taken (Some call)
    → (came : Option GroupEvent) → event_as w.realm w.noted named call ≡ came
    → IsArrivalIn w regs reads slot taken.call taken.tables (arrival_of call came)
event_in_slot w regs reads slot named taken call free is None nothing = record {
  free = free;
  none = is.event ∙ ap (counted w.realm taken.call) nothing ∙ none_counted w.realm taken.call;
}
event_in_slot w regs reads slot named taken call free is (Some event) came = record {
  free = free;
  event = event;
  is = refl;
  counts = is.event ∙ ap (counted w.realm taken.call) came;
  sessions = is.sessions;
  names = is.names event came;
}

new_in_slot : (w : Watch) (regs : List ℕ) (reads : List Read) (slot named : ℕ) (taken : model.Taken) (came : Option ArrivingCall)
    → slice_get w.kernel.slots slot ≡ Some Free → IsPlanned w.realm w.noted named taken came
    → IsArrivalIn w regs reads slot taken.call taken.tables (arrival_as w.realm w.noted named came)
new_in_slot w regs reads slot named taken None free is = record {
  free = free;
  none = is.event ∙ none_counted w.realm taken.call;
}
new_in_slot w regs reads slot named taken (Some call) free is =
    event_in_slot w regs reads slot named taken call free is (event_as w.realm w.noted named call) refl

-- by what it is planned for
pub begun_by : (parts : Parts) (w : Watch) (regs : List ℕ) (reads : List Read) (planned : PlannedCall)
    → CanBegin parts planned.entered planned.plan → StandsFor parts w.kernel
    → (let taken = taken_of (call_with (booted_of_setup parts.setup) (tables_of parts.tables) planned.entered) planned.plan in
    IsArrivalIn w regs reads planned.entered.slot taken.call taken.tables
    (arrival_as w.realm w.noted planned.entered.head.session (planned_call planned)))
begun_by parts w regs reads planned begins stands =
    let c = call_with (booted_of_setup parts.setup) (tables_of parts.tables) planned.entered in
    new_in_slot w regs reads planned.entered.slot planned.entered.head.session (taken_of c planned.plan) (planned_call planned)
    (planned_free parts w.kernel planned begins stands) (plan_is w.realm w.noted c planned.plan begins.applies)

-- ---- whether its instance is gone

none_so : {X : Type 0} (o : Option X) → not (is_some o) ≡ is_none o
none_so None = refl
none_so (Some x) = refl

module _ (tables : Tables) (cont : Cont (List ℕ)) (before : PendingCall) where
  abbrev gone_by : CallKind → Phase → ℕ → Bool
  gone_by of at number = is_open of && is_waiting at && not (is_some (get tables.instances number))

  by_phase : (of : CallKind) (at : CallPhase) → PhaseAs cont at
      → gone_by of cont.phase before.instance ≡ finds_it_gone tables before of at
  by_phase kind.Open (Runs job) is = ap (λ (p : Phase). gone_by kind.Open p before.instance) is
  by_phase kind.Open (Asks job wanted payload) is = ap (λ (p : Phase). gone_by kind.Open p before.instance) is.0
  by_phase kind.Open (Waits params) is =
      ap (λ (p : Phase). gone_by kind.Open p before.instance) is ∙ none_so (get tables.instances before.instance)
  by_phase kind.Open (Ends result params told wakes) is = ap (λ (p : Phase). gone_by kind.Open p before.instance) is.0
  by_phase (kind.Invoke func) at is = refl
  by_phase kind.Close at is = refl
  by_phase kind.Settled at is = refl

  gone_so : IsCall cont before → finds_gone tables cont ≡ finds_it_gone tables before before.kind before.phase
  gone_so is =
      ap (λ (of : CallKind). gone_by of cont.phase cont.instance) is.kind
      ∙ ap (λ (n : ℕ). gone_by before.kind cont.phase n) is.instance
      ∙ by_phase before.kind before.phase (phase_as cont before.phase is.phase)

  gone_asked : (app : Application) (boot : Booted) → IsCall cont before
      → room_as (AllSessions app) boot tables cont ≡ room_of (AllSessions app) boot tables before
  gone_asked app boot is = ap (λ (b : Bool). if b then Some (has_pages_for boot tables app) else None) (gone_so is)

  room_is : (realm : Realm) (boot : Booted) → IsCall cont before → room_as realm boot tables cont ≡ room_of realm boot tables before
  room_is (OneSession member) boot is = refl
  room_is (AllSessions app) boot is = gone_asked app boot is

-- ---- calls that come back

-- the call sees as much as before
abbrev SeesAs : ResumedCall → Progress → Type 0
SeesAs r progress = progress.call.seen ≡ r.call.seen

open_sees : (r : ResumedCall) (opener : Opener) (found : Option Instance) → SeesAs r (begins_open r opener found)
open_sees r opener (Some instance) = refl
open_sees r opener None =
    if-both (SeesAs r) (has_pages_for r.boot r.tables opener.app)
    (begins r (opens_new (who_resumes r) opener r.call.instance r.tables.next_instance)) (ends_with r out_of_memory) refl refl

in_sees : (r : ResumedCall) (params : CopiedParams) (session : Session) (call_kind : CallKind) (found : Option Instance)
    → SeesAs r (begins_in r params session call_kind found)
in_sees r params session kind.Open found =
    map_or-both (SeesAs r) (λ (app : Application).
    begins_open r (record { app = app; login = session.login; params = params }) found) (app_of_call r)
    (ends_with r bad_parameters)
    (λ app. open_sees r (record { app = app; login = session.login; params = params }) found) refl
in_sees r params session (kind.Invoke func) (Some instance) = refl
in_sees r params session (kind.Invoke func) None = refl
in_sees r params session kind.Close (Some instance) = refl
in_sees r params session kind.Close None = refl
in_sees r params session kind.Settled found = refl

tested_sees : (r : ResumedCall) (params : CopiedParams) (session : Session) (found : Option Instance)
    → SeesAs r (tested_again r params session found)
tested_sees r params session found =
    if-both (SeesAs r) _ (ends_with r target_dead) _ refl
    (if-both (SeesAs r) (option_map_or is_held found false) (sleeps_on r params)
    (begins_in r params session r.call.kind found)
    (if-both (SeesAs r) (is_without_buffer r.given) (ends_with r out_of_memory) (goes_on r (Waits params)) refl refl)
    (in_sees r params session r.call.kind found))

waiting_sees : (r : ResumedCall) (params : CopiedParams) (found : Option Session)
    → SeesAs r (option_map_or (λ (session : Session). tested_again r params session
    (get r.tables.instances r.call.instance)) found (ends_with r bad_parameters))
waiting_sees r params None = refl
waiting_sees r params (Some session) = tested_sees r params session (get r.tables.instances r.call.instance)

onward_sees : (r : ResumedCall) (phase : CallPhase) → SeesAs r (onward_in r phase)
onward_sees r (Runs job) = refl
onward_sees r (Asks job wanted payload) = refl
onward_sees r (Waits params) = waiting_sees r params (get r.tables.sessions r.call.session)
onward_sees r (Ends result params told wakes) = refl

given_sees : (given : Given) (call : PendingCall) → (call_given given call).seen ≡ call.seen
given_sees Nothing call = refl
given_sees (Buffer buffer) call = refl
given_sees NoBuffer call = refl
given_sees (Reply reply) call = refl

-- it sees now that it was cancelled exactly where it was, and hasn't seen it before
seen_now : (call : PendingCall) (marked : Bool) → call.marked ≡ marked
    → ((sees call).seen && not call.seen) ≡ (marked && not call.seen)
seen_now call true is =
    ap (λ (m : Bool). (if m then record call { seen = true; phase = phase_seen call.phase } else call).seen && not call.seen) is
seen_now call false is =
    ap (λ (m : Bool). (if m then record call { seen = true; phase = phase_seen call.phase } else call).seen && not call.seen) is
    ∙ never call.seen
  where
    never : (b : Bool) → (b && not b) ≡ false
    never true = refl
    never false = refl

-- the call that is suspended, and for whom
suspended_at : (client : ℕ) (held : Option ThreadSlot) (call : PendingCall) → suspended_for client held ≡ Some call
    → (owner : ℕ) × (held ≡ Some (Suspended owner call))
suspended_at client None call e = absurd cc
suspended_at client (Some Free) call e = absurd cc
suspended_at client (Some (Active cpu worked)) call e = absurd cc
suspended_at client (Some (Suspended owner left)) call e = by_owner (owner == client) e
  where
    by_owner : (test : Bool) → (if test then Some left else None) ≡ Some call
        → (kept : ℕ) × (Some (Suspended owner left) ≡ Some (Suspended kept call))
    by_owner true is = (owner, let same : left ≡ call = cc in ap (λ (c : PendingCall). Some (Suspended owner c)) same)
    by_owner false is = absurd cc

module _ (parts : Parts) (k : Kernel) (regs lane : List ℕ) (reads : List Read) (decided : Decided) (before : PendingCall)
    (cont : Cont (List ℕ)) (marked : Bool) where
  abbrev given : Given
  given = given_as decided.given

  abbrev now : PendingCall
  now = (goes_on_as parts regs decided before).call

  pub seen_is : IsCall cont before → before.marked ≡ marked
      → (if marked && not cont.cancelled then Some cont.steps else None) ≡ seen_then before now
  seen_is is was =
      let r : ResumedCall = resumed_call (booted_of_setup parts.setup) (tables_of parts.tables) (thread_in regs) before given in
      let saw : now.seen ≡ (sees before).seen = onward_sees r r.call.phase ∙ given_sees given (sees before) in
      ap (λ (b : Bool). if marked && not b then Some cont.steps else None) is.seen
      ∙ ap (λ (b : Bool). if b then Some cont.steps else None) (sym (seen_now before marked was))
      ∙ ap (λ (b : Bool). if b && not before.seen then Some cont.steps else None) (sym saw)
      ∙ ap (λ n. if now.seen && not before.seen then Some n else None) is.steps

module _ (parts : Parts) (realm : Realm) (notes : Notes) (k : Kernel) (regs lane : List ℕ) (reads : List Read) (decided : Decided)
    (before : PendingCall) (cont : Cont (List ℕ)) (marked : Bool) where
  back_arrives : StandsFor parts k → call_resumed_by k.slots regs ≡ Some before → IsDecidedFor regs lane [] decided reads before
      → IsCall cont before → before.marked ≡ marked → (came : Resumed) → came.back ≡ back_as cont marked (given_as decided.given)
      → came.room ≡ room_as realm (booted_of_setup parts.setup) (tables_of parts.tables) cont
      → IsResumed (watch (booted_of_setup parts.setup) realm notes k) regs reads (thread_in regs) (goes_on_as parts regs decided before).call came
  back_arrives stands found its is was came back room =
      let there = suspended_at (client_in regs) (slice_get k.slots (thread_in regs)) before found in
      let given : Given = given_as decided.given in
      record {
        back = record {
          client = there.0;
          before = before;
          held = there.1;
          given = given;
          reads_it = ((over_lane-reading (given_to regs (thread_in regs) before) lane reads given).0 its).0;
          seen = ap (λ (b : BackWith). b.seen) back ∙ seen_is parts k regs lane reads decided before cont marked is was;
          input = ap (λ (b : BackWith). b.input) back ∙ input_is (thread_in regs) cont before given is;
        };
        room = room ∙ room_is (tables_of parts.tables) cont before realm (booted_of_setup parts.setup) is
            ∙ ap (λ (tables : Tables). room_of realm (booted_of_setup parts.setup) tables before) stands.tables;
      }

-- by what it goes on with
pub back_by : (parts : Parts) (realm : Realm) (notes : Notes) (k : Kernel) (regs lane : List ℕ) (reads : List Read) (decided : Decided)
    (came : Resumed) → StandsFor parts k → IsDecided k.slots regs lane [] (Some decided) reads
    → IsBackIn parts regs (given_as decided.given) came.back → IsRoomIn parts realm regs came.room
    → IsArrivalBy (watch (booted_of_setup parts.setup) realm notes k) regs reads (arrival.Back came)
    (decision_as parts k regs (decision.GoesOn decided))
back_by parts realm notes k regs lane reads decided came stands is back_is room_is =
    let w = watch (booted_of_setup parts.setup) realm notes k in
    let its = decision_taken (booted_of_setup parts.setup) k regs lane [] decided reads is in
    let at = slot_resumed parts.slots parts.cancellations.items k.slots regs its.call stands.slots its.found in
    let goes_on : PendingCall → model.Decision = goes_on_in parts regs decided in
    subst (λ (found : Option PendingCall). IsArrivalBy w regs reads (arrival.Back came) (option_map_or goes_on found (model.Answers eresume)))
    (sym its.found)
    (back_arrives parts realm notes k regs lane reads decided its.call at.cont.value at.cancellation.marked stands its.found its.decides at.is
    (sym at.fits.marked) came (back_is at.cont at.cancellation at.resumes at.there) (room_is at.cont at.resumes))

-- what stands beside the slot of a call that is handed out is there
pub beside_there : (parts : Parts) (regs : List ℕ) → ∥ Replays parts ∥₁ → IsSuspended parts.slots regs
    → thread_in regs < length parts.cancellations.items
beside_there parts regs fact suspended = ∥∥₁_elim fact (Prim.hlevel props) (λ (so : Replays parts).
    let beside = parts.cancellations.items in
    let found = call_found parts.slots beside so.kernel.slots regs so.stands.slots suspended in
    let at = slot_resumed parts.slots beside so.kernel.slots regs found.0 so.stands.slots found.1 in
    slice_get_within beside (thread_in regs) at.cancellation at.there)
