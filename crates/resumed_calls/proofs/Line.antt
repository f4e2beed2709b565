-- A call that waited is tested as the kernel's is.
use Rattle.std.proofs.Common.{◌≡◌, ℕ, Bool, true, false, List, Option, Some, None, refl, sym, ◌∙◌, ap, subst}
use Rattle.std.specs.Prelude.{not, ◌&&◌, if◌then◌else◌, is_some}
use Rattle.std.specs.Option.{option_map_or}
use Rattle.base.specs.NumberMap.{get}
use Rattle.job_model.specs.Job.{of_tee}
use Rattle.job_model.specs.Point.{no_params}
use Rattle.job_model.specs.declared.call_kind.CallKind.{CallKind}
use Rattle.job_model.specs.declared.call_kind.CallKind.TheVariants as kind
use Rattle.kernel_model.specs.Application.{Booted}
use Rattle.kernel_model.specs.Codes.{bad_parameters, out_of_memory, target_dead}
use Rattle.kernel_model.specs.Given.{Given}
use Rattle.kernel_model.specs.Instances.{is_held}
use Rattle.kernel_model.specs.Kernel.{Waits, Ends, Instance, PendingCall, Progress}
use Rattle.kernel_model.specs.Kernel as model
use Rattle.kernel_model.specs.Resume.{begins_in, ends_with, goes_on, is_close, is_without_buffer, resumes_waiting, sleeps_on, tested_again}
use Rattle.kernel_state.specs.Calls.{IsCall, IsInPhase}
use Rattle.kernel_state.specs.Tables.{HasFreePages, tables_of}
use Rattle.kernel_state.specs.declared.setup.Setup.{Setup}
use Rattle.kernel_state.specs.declared.tables.Tables.{Tables}
use Rattle.rpc_cont.specs.declared.cont.Cont.{Cont}
use Rattle.rpc_cont.specs.declared.phase.Phase.TheVariants as phase
use Rattle.session_table.specs.Waiters.{without}
use Rattle.session_table.specs.declared.session.Session.{Session}
use Rattle.session_table.specs.declared.waiters.Waiter.{Waiter}
use Rattle.ta_params.specs.declared.copied_params.CopiedParams.{CopiedParams}
use Rattle.resumed_calls.proofs.Goes.{same_cont}
use Rattle.resumed_calls.proofs.Keeping.{in_phase}
use Rattle.resumed_calls.specs.Onward.{HasCome}
use Rattle.resumed_calls.specs.Waiting.{CanBeginOn, IsWaitingCall, resumed_in}

-- ---- out of the line

abbrev pub without_slot : Tables → ℕ → Tables
without_slot tables slot = record tables { waiters = without tables.waiters slot }

pub left_line : (old : Tables) (waiters : List Waiter) (slot : ℕ) → waiters ≡ without old.waiters slot → record old { waiters = waiters } ≡ without_slot old slot
left_line old waiters slot is = ap (λ (left : List Waiter). record old { waiters = left }) is

-- free pages have nothing to do with it
pub pages_beside : (setup : Setup) (old new : Tables) (waiters : List Waiter) → new ≡ record old { waiters = waiters } →
    HasFreePages setup old → HasFreePages setup new
pages_beside setup old new waiters is pages =
    subst (λ (tables : Tables). HasFreePages setup tables) (sym is) (record { frames = pages.frames; free = pages.free })

ended_call : (cont : Cont (List ℕ)) (call : PendingCall) (code : ℕ) → cont.request ≡ None → IsCall cont call →
    IsCall (record cont { result = of_tee code; params = None; phase = phase.Ends; done = false }) (record call { phase = Ends (of_tee code) no_params false None })
ended_call cont call code none is = record {
  client = is.client;
  kind = is.kind;
  app = is.app;
  login = is.login;
  arg = is.arg;
  area = is.area;
  places = is.places;
  session = is.session;
  instance = is.instance;
  seen = is.seen;
  steps = is.steps;
  buffer = is.buffer;
  phase = record { phase = refl; result = refl; params = refl; told = refl; wakes = rw none refl };
}

pub ended : (old new : Tables) (cont after : Cont (List ℕ)) (slot code : ℕ) → new ≡ without_slot old slot →
    after ≡ record cont { result = of_tee code; params = None; phase = phase.Ends; done = false } → cont.request ≡ None →
    (boot : Booted) (given : Given) (call : PendingCall) → IsCall cont call →
    HasCome (tables_of new) after (ends_with (resumed_in boot (tables_of old) slot given call) code)
ended old new cont after slot code tables becomes none boot given call is = record {
  tables = ap tables_of tables;
  call =
      subst (λ (one : Cont (List ℕ)). IsCall one (record call { phase = Ends (of_tee code) no_params false None })) (sym becomes)
      (ended_call cont call code none is);
}

-- it ends with this code, whichever call of the kernel it is
abbrev pub EndsSo : model.Tables → Cont (List ℕ) → Cont (List ℕ) → model.Tables → ℕ → ℕ → Type 0
EndsSo left cont after tables slot code =
    (boot : Booted) (given : Given) (call : PendingCall) → IsCall cont call → HasCome left after (ends_with (resumed_in boot tables slot given call) code)

-- ---- its session

pub session_gone : (left tables : model.Tables) (cont after : Cont (List ℕ)) (slot : ℕ) (without : Bool) (boot : Booted) →
    get tables.sessions cont.session ≡ None → EndsSo left cont after tables slot 0xffff0006 →
    (given : Given) (call : PendingCall) (params : CopiedParams) → is_without_buffer given ≡ without → IsWaitingCall cont call params →
    HasCome left after (resumes_waiting (resumed_in boot tables slot given call) params)
session_gone left tables cont after slot without boot none ends given call params is waits =
    let r = resumed_in boot tables slot given call in
    let gone : get tables.sessions call.session ≡ None = ap (get tables.sessions) (sym waits.is.session) ∙ none in
    subst (λ (one : Option Session). HasCome left after
    (option_map_or (λ (session : Session). tested_again r params session (get tables.instances call.instance)) one (ends_with r bad_parameters))) (sym gone)
    (ends boot given call waits.is)

pub in_session : (left tables : model.Tables) (cont after : Cont (List ℕ)) (slot : ℕ) (without : Bool) (session : Session) (boot : Booted) →
    get tables.sessions cont.session ≡ Some session →
    ((given : Given) (call : PendingCall) (params : CopiedParams) → is_without_buffer given ≡ without → IsWaitingCall cont call params →
    HasCome left after (tested_again (resumed_in boot tables slot given call) params session (get tables.instances cont.instance))) →
    (given : Given) (call : PendingCall) (params : CopiedParams) → is_without_buffer given ≡ without → IsWaitingCall cont call params →
    HasCome left after (resumes_waiting (resumed_in boot tables slot given call) params)
in_session left tables cont after slot without session boot some come given call params is waits =
    let r = resumed_in boot tables slot given call in
    let there : get tables.sessions call.session ≡ Some session = ap (get tables.sessions) (sym waits.is.session) ∙ some in
    let found : get tables.instances cont.instance ≡ get tables.instances call.instance = ap (get tables.instances) waits.is.instance in
    subst (λ (one : Option Session). HasCome left after
    (option_map_or (λ (session : Session). tested_again r params session (get tables.instances call.instance)) one (ends_with r bad_parameters))) (sym there)
    (subst (λ (found : Option Instance). HasCome left after (tested_again r params session found)) found (come given call params is waits))

-- ---- the tests

-- an instance that is dead, for a call that is no close
abbrev pub is_lost : Option Instance → CallKind → Bool
is_lost found of_kind = option_map_or (λ (instance : Instance). instance.dead) found false && not (is_close of_kind)

abbrev chosen : Bool → Bool → Progress → Progress → Progress → Progress
chosen lost held end sleep begin = if lost then end else (if held then sleep else begin)

-- by what the tests give
chosen_come : (left : model.Tables) (after : Cont (List ℕ)) (lost held is_lost is_held : Bool) (end sleep begin : Progress) → is_lost ≡ lost → is_held ≡ held →
    HasCome left after (chosen lost held end sleep begin) → HasCome left after (chosen is_lost is_held end sleep begin)
chosen_come left after lost held is_lost is_held end sleep begin loses holds come =
    subst (λ (one : Bool). HasCome left after (chosen one is_held end sleep begin)) (sym loses)
    (subst (λ (one : Bool). HasCome left after (chosen lost one end sleep begin)) (sym holds) come)

same_lost : (cont : Cont (List ℕ)) (call : PendingCall) (found : Option Instance) (lost : Bool) → IsCall cont call → is_lost found cont.kind ≡ lost →
    is_lost found call.kind ≡ lost
same_lost cont call found lost is test = ap (is_lost found) (sym is.kind) ∙ test

pub on_dead : (left tables : model.Tables) (cont after : Cont (List ℕ)) (slot : ℕ) (without : Bool) (session : Session) (found : Option Instance) (boot : Booted) →
    is_lost found cont.kind ≡ true → EndsSo left cont after tables slot 0xffff3024 →
    (given : Given) (call : PendingCall) (params : CopiedParams) → is_without_buffer given ≡ without → IsWaitingCall cont call params →
    HasCome left after (tested_again (resumed_in boot tables slot given call) params session found)
on_dead left tables cont after slot without session found boot lost ends given call params is waits =
    let r = resumed_in boot tables slot given call in
    chosen_come left after true (option_map_or is_held found false) (is_lost found call.kind) (option_map_or is_held found false)
    (ends_with r target_dead) (sleeps_on r params) (begins_in r params session call.kind found) (same_lost cont call found true waits.is lost) refl
    (ends boot given call waits.is)

pub on_held : (left tables : model.Tables) (cont after : Cont (List ℕ)) (slot : ℕ) (without : Bool) (session : Session) (found : Option Instance) (boot : Booted) →
    is_lost found cont.kind ≡ false → option_map_or is_held found false ≡ true →
    ((boot : Booted) (given : Given) (call : PendingCall) (params : CopiedParams) → is_without_buffer given ≡ without → IsWaitingCall cont call params →
    HasCome left after (sleeps_on (resumed_in boot tables slot given call) params)) →
    (given : Given) (call : PendingCall) (params : CopiedParams) → is_without_buffer given ≡ without → IsWaitingCall cont call params →
    HasCome left after (tested_again (resumed_in boot tables slot given call) params session found)
on_held left tables cont after slot without session found boot lost held come given call params is waits =
    let r = resumed_in boot tables slot given call in
    chosen_come left after false true (is_lost found call.kind) (option_map_or is_held found false)
    (ends_with r target_dead) (sleeps_on r params) (begins_in r params session call.kind found) (same_lost cont call found false waits.is lost) held
    (come boot given call params is waits)

pub on_free : (left tables : model.Tables) (cont after : Cont (List ℕ)) (slot : ℕ) (without : Bool) (session : Session) (found : Option Instance) (boot : Booted) →
    is_lost found cont.kind ≡ false → option_map_or is_held found false ≡ false →
    ((given : Given) (call : PendingCall) (params : CopiedParams) → IsWaitingCall cont call params →
    HasCome left after (begins_in (resumed_in boot tables slot given call) params session cont.kind found)) →
    (given : Given) (call : PendingCall) (params : CopiedParams) → is_without_buffer given ≡ without → IsWaitingCall cont call params →
    HasCome left after (tested_again (resumed_in boot tables slot given call) params session found)
on_free left tables cont after slot without session found boot lost held come given call params is waits =
    let r = resumed_in boot tables slot given call in
    chosen_come left after false false (is_lost found call.kind) (option_map_or is_held found false)
    (ends_with r target_dead) (sleeps_on r params) (begins_in r params session call.kind found) (same_lost cont call found false waits.is lost) held
    (subst (λ (of_kind : CallKind). HasCome left after (begins_in r params session of_kind found)) waits.is.kind (come given call params waits))

-- ---- what the tests say of the instance

no_holder : (holder : Option ℕ) → is_some holder ≡ false → holder ≡ None
no_holder None free = refl
no_holder (Some slot) free = absurd cc

closes : (of_kind : CallKind) (dead : Bool) → (dead && not (is_close of_kind)) ≡ false → dead ≡ true → of_kind ≡ kind.Close
closes kind.Close dead lost is = refl
closes kind.Open true lost is = absurd cc
closes (kind.Invoke func) true lost is = absurd cc
closes kind.Settled true lost is = absurd cc
closes kind.Open false lost is = absurd cc
closes (kind.Invoke func) false lost is = absurd cc
closes kind.Settled false lost is = absurd cc

pub ready_on : (cont : Cont (List ℕ)) (found : Option Instance) → is_lost found cont.kind ≡ false → option_map_or is_held found false ≡ false →
    (instance : Instance) → found ≡ Some instance → CanBeginOn cont instance
ready_on cont None lost held instance is = absurd cc
ready_on cont (Some one) lost held instance is =
    let same : one ≡ instance = cc in
    subst (CanBeginOn cont) same (record { free = no_holder one.holder held; alive = closes cont.kind one.dead lost })

-- ---- sleep

pub without_buffer : (left tables : model.Tables) (cont after : Cont (List ℕ)) (slot : ℕ) (without : Bool) → without ≡ true →
    EndsSo left cont after tables slot 0xffff000c →
    (boot : Booted) (given : Given) (call : PendingCall) (params : CopiedParams) → is_without_buffer given ≡ without → IsWaitingCall cont call params →
    HasCome left after (sleeps_on (resumed_in boot tables slot given call) params)
without_buffer left tables cont after slot without so ends boot given call params is waits =
    let r = resumed_in boot tables slot given call in
    subst (λ (none : Bool). HasCome left after (if none then ends_with r out_of_memory else goes_on r (Waits params))) (sym (is ∙ so))
    (ends boot given call waits.is)

pub with_place : (tables : model.Tables) (cont : Cont (List ℕ)) (slot : ℕ) (without : Bool) → without ≡ false →
    (boot : Booted) (given : Given) (call : PendingCall) (params : CopiedParams) → is_without_buffer given ≡ without → IsWaitingCall cont call params →
    HasCome tables cont (sleeps_on (resumed_in boot tables slot given call) params)
with_place tables cont slot without so boot given call params is waits =
    let r = resumed_in boot tables slot given call in
    subst (λ (none : Bool). HasCome tables cont (if none then ends_with r out_of_memory else goes_on r (Waits params))) (sym (is ∙ so))
    (record { tables = refl; call = in_phase cont cont call (Waits params) (same_cont cont) waits.is (subst (IsInPhase cont) waits.waits waits.is.phase) })
