-- A call that is resumed comes to what the kernel's does.
use Rattle.std.proofs.Common.{◌≡◌, ℕ, Bool, List, Option, Some, None, refl, sym, ◌∙◌, ap, subst}
use Rattle.std.proofs.Math.Logic.{∥∥₁_elim}
use Rattle.std.specs.Prelude.{IsSome}
use Rattle.std.specs.Option.{option_map}
use Rattle.base.specs.NumberMap.{get}
use Rattle.begin_call.proofs.Apps.{valid_app}
use Rattle.kernel_model.specs.Application.{Booted}
use Rattle.kernel_model.specs.Given.{Given, call_given}
use Rattle.kernel_model.specs.Instances.{app_of}
use Rattle.kernel_model.specs.Kernel.{CallPhase, Runs, Asks, Waits, Ends, Instance, PendingCall}
use Rattle.kernel_model.specs.Kernel as model
use Rattle.kernel_model.specs.Resume.{Resumed, is_without_buffer, onward_in, onward_of, resumed_call, resumes_waiting, sees}
use Rattle.kernel_state.specs.Calls.{IsCall, IsInPhase, IsWaiting, bytes_of}
use Rattle.kernel_state.specs.Setup.{application_of, boot_of, booted_of_setup, natives_of}
use Rattle.kernel_state.specs.declared.setup.Application.{Application as AnyApplication}
use Rattle.kernel_state.specs.declared.setup.Setup.{Setup}
use Rattle.rpc_cont.specs.Answering.{CanBeAnswered}
use Rattle.rpc_cont.specs.Conts.{uuid_of}
use Rattle.rpc_cont.specs.declared.app.ContApp.{ContApp}
use Rattle.rpc_cont.specs.declared.cont.Cont.{Cont}
use Rattle.rpc_cont.specs.declared.phase.Phase.TheVariants as phase
use Rattle.ta_isa.specs.Boots.{IsBoot}
use Rattle.ta_params.specs.declared.copied_params.CopiedParams.{CopiedParams}
use Rattle.resumed_calls.proofs.Begins.{its_uuid}
use Rattle.kernel_state.proofs.CallFacts.{can_be_answered_prop}
use Rattle.resumed_calls.proofs.Facts.{in_line_prop}
use Rattle.resumed_calls.specs.Onward.{HasCome}
use Rattle.resumed_calls.specs.Resuming.{CanResume}
use Rattle.resumed_calls.specs.Waiting.{IsAppFor, IsInLine, IsOwnInstance, IsWaitingCall, MayBeItsApp, WaitsInLine, resumed_in}
use Rattle.resumed_calls.specs.declared.resuming.Resumed.{Resumed as Resumes}

-- ---- how far it has come

waits_of : (cont : Cont (List ℕ)) (at : CallPhase) → IsInPhase cont at → cont.phase ≡ phase.Waits → (params : CopiedParams) × (at ≡ Waits params)
waits_of cont (Runs job) is waits = let runs = is.1.phase in absurd cc
waits_of cont (Asks job wanted payload) is waits = let asks = is.0 in absurd cc
waits_of cont (Waits params) is waits = (params, refl)
waits_of cont (Ends result params told wakes) is waits = let ends = is.phase in absurd cc

answered_at : (cont : Cont (List ℕ)) (at : CallPhase) → IsInPhase cont at → cont.phase ≡ phase.Asks → CanBeAnswered bytes_of cont
answered_at cont (Runs job) is asks = let runs = is.1.phase in absurd cc
answered_at cont (Asks job wanted payload) is asks = is.2
answered_at cont (Waits params) is asks = let waits = is.phase in absurd cc
answered_at cont (Ends result params told wakes) is asks = let ends = is.phase in absurd cc

-- the call sees a cancel, and then has its buffer
abbrev pub HasSeen : Cont (List ℕ) → Cont (List ℕ) → Bool → Type 0
HasSeen old one marked = (call : PendingCall) → IsCall old call → call.marked ≡ marked → IsCall one (sees call)

abbrev pub HasGot : Cont (List ℕ) → Cont (List ℕ) → Given → Type 0
HasGot one cont given = (call : PendingCall) → IsCall one call → IsCall cont (call_given given call)

pub can_be_answered : (boot : Booted) (tables : model.Tables) (resumed : Resumes) (old one cont : Cont (List ℕ)) (given : Given) → ∥ CanResume boot tables resumed old ∥₁ →
    HasSeen old one resumed.marked → HasGot one cont given → cont.phase ≡ phase.Asks → CanBeAnswered bytes_of cont
can_be_answered boot tables resumed old one cont given fact saw gives asks =
    ∥∥₁_elim fact (can_be_answered_prop cont) (λ (can : CanResume boot tables resumed old).
    let last = call_given given (sees can.call) in
    answered_at cont last.phase (gives (sees can.call) (saw can.call can.is can.marked)).phase asks)

-- ---- one that waits

-- what neither changes
record Stays (old cont : Cont (List ℕ)) : Type 0 where
  kind : cont.kind ≡ old.kind
  session : cont.session ≡ old.session
  instance : cont.instance ≡ old.instance
  app : cont.app ≡ old.app
  phase : cont.phase ≡ old.phase

stays_both : (old one cont : Cont (List ℕ)) → one ≡ record old { cancelled = one.cancelled; machine = one.machine } → cont ≡ record one { buffer = cont.buffer } → Stays old cont
stays_both old one cont first second = record {
  kind = ap (λ (c : Cont (List ℕ)). c.kind) second ∙ ap (λ (c : Cont (List ℕ)). c.kind) first;
  session = ap (λ (c : Cont (List ℕ)). c.session) second ∙ ap (λ (c : Cont (List ℕ)). c.session) first;
  instance = ap (λ (c : Cont (List ℕ)). c.instance) second ∙ ap (λ (c : Cont (List ℕ)). c.instance) first;
  app = ap (λ (c : Cont (List ℕ)). c.app) second ∙ ap (λ (c : Cont (List ℕ)). c.app) first;
  phase = ap (λ (c : Cont (List ℕ)). c.phase) second ∙ ap (λ (c : Cont (List ℕ)). c.phase) first;
}

line_of : (boot : Booted) (tables : model.Tables) (slot : ℕ) (old cont : Cont (List ℕ)) (call : PendingCall) (params : CopiedParams) → Stays old cont → IsCall old call →
    IsSome old.app → IsWaiting cont params → WaitsInLine boot tables slot call → IsInLine boot tables slot cont
line_of boot tables slot old cont call params stays is some waits line =
    let session : cont.session ≡ call.session = stays.session ∙ is.session in
    let instance : cont.instance ≡ call.instance = stays.instance ∙ is.instance in
    let uuid : call.uuid ≡ Some (uuid_of cont.app) = its_uuid old call some is ∙ ap (λ (app : Option (ContApp)). Some (uuid_of app)) (sym stays.app) in
    record {
      fresh = record { fresh = waits.fresh; result = waits.result };
      app = waits.app;
      waits = line.waits;
      sessions = line.sessions;
      instances = line.instances;
      session = λ found there. line.session found (ap (get tables.sessions) (sym session) ∙ there) ∙ sym instance;
      instance = λ found there. subst (λ (uuid : Option (List ℕ)). IsOwnInstance boot uuid found) uuid (line.instance found (ap (get tables.instances) (sym instance) ∙ there));
      room = λ opens gone. line.room (sym (stays.kind ∙ is.kind) ∙ opens) (ap (get tables.instances) (sym instance) ∙ gone);
    }

some_app : (old cont : Cont (List ℕ)) → cont.app ≡ old.app → IsSome cont.app → IsSome old.app
some_app old cont same some = subst (λ (app : Option (ContApp)). IsSome app) same some

waiting_now : (cont : Cont (List ℕ)) (call : PendingCall) → IsCall cont call → cont.phase ≡ phase.Waits → (params : CopiedParams) × (call.phase ≡ Waits params) × IsWaiting cont params
waiting_now cont call is waits =
    let at : (params : CopiedParams) × (call.phase ≡ Waits params) = waits_of cont call.phase is.phase waits in
    (at.0, at.1, subst (IsInPhase cont) at.1 is.phase)

line_by : (boot : Booted) (tables : model.Tables) (resumed : Resumes) (old one cont : Cont (List ℕ)) (given : Given) → CanResume boot tables resumed old →
    HasSeen old one resumed.marked → HasGot one cont given → one ≡ record old { cancelled = one.cancelled; machine = one.machine } → cont ≡ record one { buffer = cont.buffer } →
    cont.phase ≡ phase.Waits → IsInLine boot tables resumed.slot cont
line_by boot tables resumed old one cont given can saw gives first second waits =
    let last = call_given given (sees can.call) in
    let stays = stays_both old one cont first second in
    let now : (params : CopiedParams) × (last.phase ≡ Waits params) × IsWaiting cont params = waiting_now cont last (gives (sees can.call) (saw can.call can.is can.marked)) waits in
    let before : (params : CopiedParams) × (can.call.phase ≡ Waits params) × IsWaiting old params = waiting_now old can.call can.is (sym stays.phase ∙ waits) in
    line_of boot tables resumed.slot old cont can.call now.0 stays can.is (some_app old cont stays.app now.2.app) now.2 (can.line before.0 before.1)

pub in_line : (boot : Booted) (tables : model.Tables) (resumed : Resumes) (old one cont : Cont (List ℕ)) (given : Given) → ∥ CanResume boot tables resumed old ∥₁ →
    HasSeen old one resumed.marked → HasGot one cont given → one ≡ record old { cancelled = one.cancelled; machine = one.machine } → cont ≡ record one { buffer = cont.buffer } →
    cont.phase ≡ phase.Waits → IsInLine boot tables resumed.slot cont
in_line boot tables resumed old one cont given fact saw gives first second waits =
    ∥∥₁_elim fact (in_line_prop boot tables resumed.slot cont) (λ (can : CanResume boot tables resumed old).
    line_by boot tables resumed old one cont given can saw gives first second waits)

app_there : (setup : Setup) (cont : Cont (List ℕ)) (app : Option (AnyApplication)) → IsBoot (boot_of setup) →
    app_of (booted_of_setup setup) (uuid_of cont.app) ≡ option_map application_of app → MayBeItsApp (booted_of_setup setup) cont app
app_there setup cont None boot found = found
app_there setup cont (Some app) boot found =
    record { found = found; valid = valid_app (boot_of setup) (natives_of setup) (uuid_of cont.app) (application_of app) boot found }

pub may_be_app : (setup : Setup) (tables : model.Tables) (resumed : Resumes) (old one cont : Cont (List ℕ)) → IsBoot (boot_of setup) →
    IsAppFor (booted_of_setup setup) old resumed.app → IsInLine (booted_of_setup setup) tables resumed.slot cont →
    one ≡ record old { cancelled = one.cancelled; machine = one.machine } → cont ≡ record one { buffer = cont.buffer } →
    cont.phase ≡ phase.Waits → MayBeItsApp (booted_of_setup setup) cont resumed.app
may_be_app setup tables resumed old one cont boot its line first second waits =
    let stays = stays_both old one cont first second in
    app_there setup cont resumed.app boot
    (ap (λ (app : Option (ContApp)). app_of (booted_of_setup setup) (uuid_of app)) stays.app
    ∙ its (sym stays.phase ∙ waits) (some_app old cont stays.app line.app))

pub waiting_onward : (left tables : model.Tables) (boot : Booted) (resumed : Resumes) (old one cont after : Cont (List ℕ)) (given : Given) (without : Bool) →
    HasSeen old one resumed.marked → HasGot one cont given → cont.phase ≡ phase.Waits → without ≡ is_without_buffer given →
    ((given : Given) (call : PendingCall) (params : CopiedParams) → is_without_buffer given ≡ without → IsWaitingCall cont call params →
    HasCome left after (resumes_waiting (resumed_in boot tables resumed.slot given call) params)) →
    (call : PendingCall) → IsCall old call → call.marked ≡ resumed.marked →
    HasCome left after (onward_of (resumed_call boot tables resumed.slot call given))
waiting_onward left tables boot resumed old one cont after given without saw gives waits is comes call same marked =
    let last = call_given given (sees call) in
    let now : IsCall cont last = gives (sees call) (saw call same marked) in
    let at : (params : CopiedParams) × (last.phase ≡ Waits params) = waits_of cont last.phase now.phase waits in
    let r = resumed_call boot tables resumed.slot call given in
    subst (λ (phase : CallPhase). HasCome left after (onward_in r phase)) (sym at.1)
    (comes given last at.0 (sym is) (record { is = now; waits = at.1 }))

pub working_onward : (tables : model.Tables) (boot : Booted) (resumed : Resumes) (old one cont after : Cont (List ℕ)) (given : Given) →
    HasSeen old one resumed.marked → HasGot one cont given →
    ((r : Resumed) → r.given ≡ given → IsCall cont r.call → HasCome r.tables after (onward_of r)) →
    (call : PendingCall) → IsCall old call → call.marked ≡ resumed.marked →
    HasCome tables after (onward_of (resumed_call boot tables resumed.slot call given))
working_onward tables boot resumed old one cont after given saw gives comes call same marked =
    comes (resumed_call boot tables resumed.slot call given) refl (gives (sees call) (saw call same marked))
