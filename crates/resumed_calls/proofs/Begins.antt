-- A call that waited begins as the kernel's does.
use Rattle.std.proofs.Common.{◌≡◌, ℕ, ◌*◌, Bool, true, false, List, [], ◌∷◌, length, Option, Some, None, refl, sym, ◌∙◌, ap, ap₂, subst, ◌<◌}
use Rattle.std.specs.Prelude.{is_some, IsSome, if◌then◌else◌}
use Rattle.std.specs.Option.{IsSomeAnd, option_and_then, option_map_or}
use Rattle.base.specs.NumberMap.{get}
use Rattle.begin_call.proofs.Apps.{found_uuid, pages_found}
use Rattle.begin_call.specs.Begins.{HasBegun, IsReady, IsReadyFor, who_begins}
use Rattle.job_model.specs.Job.{Job}
use Rattle.job_model.specs.declared.call_kind.CallKind.{CallKind}
use Rattle.job_model.specs.declared.call_kind.CallKind.TheVariants as kind
use Rattle.job_model.specs.declared.entry_point.EntryPoint.{EntryPoint}
use Rattle.job_model.specs.declared.entry_point.EntryPoint.TheVariants as entry
use Rattle.kernel_model.specs.Application.{Application, Booted, uuid_of}
use Rattle.kernel_model.specs.Begin.{Begun, Opener, begins_on, closing_points, has_pages_for, opens_kept, opens_new}
use Rattle.kernel_model.specs.Codes.{bad_parameters, out_of_memory}
use Rattle.kernel_model.specs.Given.{Given}
use Rattle.kernel_model.specs.Instances.{app_of}
use Rattle.kernel_model.specs.Kernel.{CallPhase, Runs, Waits, Instance, PendingCall}
use Rattle.kernel_model.specs.Kernel as model
use Rattle.kernel_model.specs.Resume.{Resumed, app_of_call, begins, begins_in, begins_open, ends_with, who_resumes, without_waiter}
use Rattle.kernel_state.specs.Calls.{IsAppOf, IsCall, IsInPhase, IsWaiting}
use Rattle.kernel_state.specs.Tables.{HasFreePages, tables_of}
use Rattle.kernel_state.specs.declared.setup.Setup.{Setup}
use Rattle.kernel_state.specs.declared.tables.Tables.{Tables}
use Rattle.rpc_cont.specs.Conts as conts
use Rattle.rpc_cont.specs.Conts.{kept_params}
use Rattle.rpc_cont.specs.declared.app.ContApp.{ContApp}
use Rattle.rpc_cont.specs.declared.cont.Cont.{Cont}
use Rattle.session_table.specs.declared.session.Session.{Session}
use Rattle.ta_params.specs.declared.copied_params.CopiedParams.{CopiedParams}
use Rattle.resumed_calls.proofs.Line.{EndsSo, without_slot}
use Rattle.resumed_calls.specs.Onward.{HasCome}
use Rattle.resumed_calls.specs.Waiting.{CanBeginOn, IsInLine, IsItsApp, IsWaitingCall, resumed_in}

-- ---- what a call that waits has

its_uuid_at : (app : Option (ContApp)) (uuid : Option (List ℕ)) → IsSome app → IsAppOf app uuid → uuid ≡ Some (conts.uuid_of app)
its_uuid_at None uuid some is = absurd cc
its_uuid_at (Some app) uuid some is = is

pub its_uuid : (cont : Cont (List ℕ)) (call : PendingCall) → IsSome cont.app → IsCall cont call → call.uuid ≡ Some (conts.uuid_of cont.app)
its_uuid cont call some is = its_uuid_at cont.app call.uuid some is.app

its_params : (cont : Cont (List ℕ)) (call : PendingCall) (params : CopiedParams) → IsWaitingCall cont call params → kept_params cont.params ≡ params
its_params cont call params waits = let at : IsWaiting cont params = subst (IsInPhase cont) waits.waits waits.is.phase in at.params

same_some : {A : Type 0} (a b : A) → Some a ≡ Some b → a ≡ b
same_some a b is = cc

pub its_application : (boot : Booted) (cont : Cont (List ℕ)) (call : PendingCall) (found : Option Application) → IsSome cont.app → IsCall cont call →
    app_of boot (conts.uuid_of cont.app) ≡ found → option_and_then (app_of boot) call.uuid ≡ found
its_application boot cont call found some is there = ap (option_and_then (app_of boot)) (its_uuid cont call some is) ∙ there

-- ---- by its kind

-- no application of its UUID
without_app : (r : Resumed) (params : CopiedParams) (session : Session) (of_kind : CallKind) (found : Option Instance) → app_of_call r ≡ None → ((instance : Instance) → found ≡ Some instance → ⊥) →
    begins_in r params session of_kind found ≡ ends_with r bad_parameters
without_app r params session kind.Open found none gone =
    ap (λ (app : Option Application). option_map_or (λ (app : Application). begins_open r (record { app = app; login = session.login; params = params }) found) app (ends_with r bad_parameters)) none
without_app r params session (kind.Invoke func) None none gone = refl
without_app r params session (kind.Invoke func) (Some instance) none gone = absurd (gone instance refl)
without_app r params session kind.Close None none gone = refl
without_app r params session kind.Close (Some instance) none gone = absurd (gone instance refl)
without_app r params session kind.Settled found none gone = refl

not_without : {A : Type 0} (found other : Option A) → found ≡ None → other ≡ found → IsSome other → ⊥
not_without None None none is some = absurd cc
not_without None (Some a) none is some = absurd cc
not_without (Some a) other none is some = absurd cc

pub no_app : (left tables : model.Tables) (cont after : Cont (List ℕ)) (slot : ℕ) (session : Session) (boot : Booted) →
    app_of boot (conts.uuid_of cont.app) ≡ None → IsInLine boot tables slot cont → EndsSo left cont after tables slot 0xffff0006 →
    (given : Given) (call : PendingCall) (params : CopiedParams) → IsWaitingCall cont call params →
    HasCome left after (begins_in (resumed_in boot tables slot given call) params session cont.kind (get tables.instances cont.instance))
no_app left tables cont after slot session boot none line ends given call params waits =
    let r = resumed_in boot tables slot given call in
    subst (HasCome left after)
    (sym (without_app r params session cont.kind (get tables.instances cont.instance) (its_application boot cont call None line.app waits.is none)
    (λ instance is. let own = line.instance instance is in
    not_without (app_of boot (conts.uuid_of cont.app)) (app_of boot instance.uuid) none
    (ap (app_of boot) (sym (same_some (conts.uuid_of cont.app) instance.uuid own.same))) own.app)))
    (ends boot given call waits.is)

-- an open
pub opening : (left tables : model.Tables) (cont after : Cont (List ℕ)) (slot : ℕ) (session : Session) (found : Option Instance) (app : Application) (opener : Opener)
    (boot : Booted) → cont.kind ≡ kind.Open → IsItsApp boot cont app → IsSome cont.app →
    opener ≡ record { app = app; login = session.login; params = kept_params cont.params } →
    ((given : Given) (call : PendingCall) (params : CopiedParams) → IsWaitingCall cont call params →
    HasCome left after (begins_open (resumed_in boot tables slot given call) opener found)) →
    (given : Given) (call : PendingCall) (params : CopiedParams) → IsWaitingCall cont call params →
    HasCome left after (begins_in (resumed_in boot tables slot given call) params session cont.kind found)
opening left tables cont after slot session found app opener boot opens its some is come given call params waits =
    let r = resumed_in boot tables slot given call in
    let there : app_of_call r ≡ Some app = its_application boot cont call (Some app) some waits.is its.found in
    subst (λ (of_kind : CallKind). HasCome left after (begins_in r params session of_kind found)) (sym opens)
    (subst (λ (app : Option Application). HasCome left after
    (option_map_or (λ (app : Application). begins_open r (record { app = app; login = session.login; params = params }) found) app (ends_with r bad_parameters))) (sym there)
    (subst (λ (one : Opener). HasCome left after (begins_open r one found))
    (is ∙ ap (λ (kept : CopiedParams). record { app = app; login = session.login; params = kept }) (its_params cont call params waits)) (come given call params waits)))

found_some : (found : Option Instance) → is_some found ≡ true → (instance : Instance) × (found ≡ Some instance)
found_some None some = absurd cc
found_some (Some instance) some = (instance, refl)

found_none : (found : Option Instance) → is_some found ≡ false → found ≡ None
found_none None none = refl
found_none (Some instance) none = absurd cc

-- how one in a session comes to begin at these entry points
abbrev pub BeginsAt : model.Tables → Cont (List ℕ) → Cont (List ℕ) → Booted → ℕ → model.Tables → Session → List EntryPoint → Type 0
BeginsAt left cont after boot slot tables session points =
    (given : Given) (call : PendingCall) (params : CopiedParams) (instance : Instance) → IsWaitingCall cont call params → get tables.instances cont.instance ≡ Some instance →
    HasCome left after (begins (resumed_in boot tables slot given call) (begins_on (who_resumes (resumed_in boot tables slot given call)) session instance params points))

-- an invoke
pub invoking : (left tables : model.Tables) (cont after : Cont (List ℕ)) (slot func : ℕ) (session : Session) (points : List EntryPoint)
    (boot : Booted) → cont.kind ≡ kind.Invoke func → is_some (get tables.instances cont.instance) ≡ true → points ≡ entry.Invoke func ∷ [] →
    BeginsAt left cont after boot slot tables session points → (given : Given) (call : PendingCall) (params : CopiedParams) → IsWaitingCall cont call params →
    HasCome left after (begins_in (resumed_in boot tables slot given call) params session cont.kind (get tables.instances cont.instance))
invoking left tables cont after slot func session points boot invokes some at come given call params waits =
    let r = resumed_in boot tables slot given call in
    let found : (instance : Instance) × (get tables.instances cont.instance ≡ Some instance) = found_some (get tables.instances cont.instance) some in
    subst (λ (of_kind : CallKind). HasCome left after (begins_in r params session of_kind (get tables.instances cont.instance))) (sym invokes)
    (subst (λ (one : Option Instance). HasCome left after (begins_in r params session (kind.Invoke func) one)) (sym found.1)
    (subst (λ (points : List EntryPoint). HasCome left after (begins r (begins_on (who_resumes r) session found.0 params points))) at
    (come given call params found.0 waits found.1)))

-- a close
pub closing : (left tables : model.Tables) (cont after : Cont (List ℕ)) (slot : ℕ) (session : Session) (points : List EntryPoint) (app : Application)
    (boot : Booted) → cont.kind ≡ kind.Close → is_some (get tables.instances cont.instance) ≡ true → IsInLine boot tables slot cont → IsItsApp boot cont app →
    ((boot : Booted) (slot : ℕ) (seen : Bool) (instance : Instance) → app_of boot instance.uuid ≡ Some app →
    points ≡ closing_points (record { boot = boot; tables = tables; slot = slot; seen = seen }) cont.session session instance) →
    BeginsAt left cont after boot slot tables session points → (given : Given) (call : PendingCall) (params : CopiedParams) → IsWaitingCall cont call params →
    HasCome left after (begins_in (resumed_in boot tables slot given call) params session cont.kind (get tables.instances cont.instance))
closing left tables cont after slot session points app boot closes some line its at come given call params waits =
    let r = resumed_in boot tables slot given call in
    let found : (instance : Instance) × (get tables.instances cont.instance ≡ Some instance) = found_some (get tables.instances cont.instance) some in
    let own = line.instance found.0 found.1 in
    let its_own : app_of boot found.0.uuid ≡ Some app = ap (app_of boot) (sym (same_some (conts.uuid_of cont.app) found.0.uuid own.same)) ∙ its.found in
    let same : points ≡ closing_points (who_resumes r) call.session session found.0 =
    at boot slot call.seen found.0 its_own ∙ ap (λ (number : ℕ). closing_points (who_resumes r) number session found.0) waits.is.session in
    subst (λ (of_kind : CallKind). HasCome left after (begins_in r params session of_kind (get tables.instances cont.instance))) (sym closes)
    (subst (λ (one : Option Instance). HasCome left after (begins_in r params session kind.Close one)) (sym found.1)
    (subst (λ (points : List EntryPoint). HasCome left after (begins r (begins_on (who_resumes r) session found.0 params points))) same
    (come given call params found.0 waits found.1)))

-- one that ends: its instance is gone, or it never began
ends_in : (r : Resumed) (params : CopiedParams) (session : Session) (of_kind : CallKind) (found : Option Instance) → (of_kind ≡ kind.Open → ⊥) → found ≡ None →
    begins_in r params session of_kind found ≡ ends_with r bad_parameters
ends_in r params session kind.Open found other none = absurd (other refl)
ends_in r params session (kind.Invoke func) None other none = refl
ends_in r params session (kind.Invoke func) (Some instance) other none = absurd cc
ends_in r params session kind.Close None other none = refl
ends_in r params session kind.Close (Some instance) other none = absurd cc
ends_in r params session kind.Settled found other none = refl

pub invoke_not_open : (of_kind : CallKind) (func : ℕ) → of_kind ≡ kind.Invoke func → of_kind ≡ kind.Open → ⊥
invoke_not_open of_kind func invokes opens = absurd cc

pub open_unsettled : (of_kind : CallKind) → of_kind ≡ kind.Open → of_kind ≡ kind.Settled → ⊥
open_unsettled of_kind opens settled = absurd cc

pub invoke_unsettled : (of_kind : CallKind) (func : ℕ) → of_kind ≡ kind.Invoke func → of_kind ≡ kind.Settled → ⊥
invoke_unsettled of_kind func invokes settled = absurd cc

pub close_unsettled : (of_kind : CallKind) → of_kind ≡ kind.Close → of_kind ≡ kind.Settled → ⊥
close_unsettled of_kind closes settled = absurd cc

pub close_not_open : (of_kind : CallKind) → of_kind ≡ kind.Close → of_kind ≡ kind.Open → ⊥
close_not_open of_kind closes opens = absurd cc

pub instance_gone : (left tables : model.Tables) (cont after : Cont (List ℕ)) (slot : ℕ) (session : Session) (found : Option Instance) (boot : Booted) →
    (cont.kind ≡ kind.Open → ⊥) → is_some found ≡ false → EndsSo left cont after tables slot 0xffff0006 →
    (given : Given) (call : PendingCall) (params : CopiedParams) → IsWaitingCall cont call params →
    HasCome left after (begins_in (resumed_in boot tables slot given call) params session cont.kind found)
instance_gone left tables cont after slot session found boot other none ends given call params waits =
    subst (HasCome left after)
    (sym (ends_in (resumed_in boot tables slot given call) params session cont.kind found other (found_none found none))) (ends boot given call waits.is)

pub settled : (left tables : model.Tables) (cont after : Cont (List ℕ)) (slot : ℕ) (session : Session) (found : Option Instance) (boot : Booted) →
    cont.kind ≡ kind.Settled → EndsSo left cont after tables slot 0xffff0006 →
    (given : Given) (call : PendingCall) (params : CopiedParams) → IsWaitingCall cont call params →
    HasCome left after (begins_in (resumed_in boot tables slot given call) params session cont.kind found)
settled left tables cont after slot session found boot is ends given call params waits =
    let r = resumed_in boot tables slot given call in
    subst (λ (of_kind : CallKind). HasCome left after (begins_in r params session of_kind found)) (sym is) (ends boot given call waits.is)

-- ---- what has begun

-- a call that begins gets the boot's key
abbrev pub keyed : Cont (List ℕ) → Booted → Cont (List ℕ)
keyed cont boot = record cont { key = boot.key }

begun_call : (left : Tables) (cont after : Cont (List ℕ)) (r : Resumed) (params : CopiedParams) (uuid : List ℕ) (came begun : Begun) →
    (cont.kind ≡ kind.Settled → ⊥) →
    HasBegun left (keyed cont r.boot) after uuid came → came.tables ≡ without_waiter begun.tables r.slot → came.job ≡ begun.job → came.instance ≡ cont.instance →
    IsWaitingCall cont r.call params → r.call.uuid ≡ Some uuid → HasCome (tables_of left) after (begins r begun)
begun_call left cont after r params uuid came begun unsettled has tables job instance waits its = record {
  tables = has.tables ∙ tables;
  call = record {
    client = ap (λ (one : Cont (List ℕ)). one.client) has.stays ∙ waits.is.client;
    kind = ap (λ (one : Cont (List ℕ)). one.kind) has.stays ∙ waits.is.kind;
    app = subst (IsAppOf after.app) (sym its) has.app;
    login = λ login settled opens. absurd (unsettled (sym (ap (λ (one : Cont (List ℕ)). one.kind) has.stays) ∙ settled));
    arg = ap (λ (one : Cont (List ℕ)). one.arg) has.stays ∙ waits.is.arg;
    area = ap (λ (one : Cont (List ℕ)). one.area) has.stays ∙ waits.is.area;
    places = ap (λ (one : Cont (List ℕ)). one.places.items) has.stays ∙ waits.is.places;
    session = ap (λ (one : Cont (List ℕ)). one.session) has.stays ∙ waits.is.session;
    instance = has.instance ∙ instance ∙ waits.is.instance;
    seen = ap (λ (one : Cont (List ℕ)). one.cancelled) has.stays ∙ waits.is.seen;
    steps = ap (λ (one : Cont (List ℕ)). one.steps) has.stays ∙ waits.is.steps;
    buffer = ap (λ (one : Cont (List ℕ)). one.buffer) has.stays ∙ waits.is.buffer;
    phase = subst (λ (job : Job). IsInPhase after (Runs job)) job has.runs;
  };
}

-- in its session
pub begun_on : (old mid left : Tables) (cont after : Cont (List ℕ)) (slot : ℕ) (session : Session) (points : List EntryPoint) (app : Application) (boot : Booted) →
    (cont.kind ≡ kind.Settled → ⊥) →
    mid ≡ without_slot old slot → IsInLine boot (tables_of old) slot cont → IsItsApp boot cont app → get (tables_of old).sessions cont.session ≡ Some session →
    ((any : Booted) (instance : Instance) → get (tables_of mid).instances session.instance ≡ Some instance → app_of any instance.uuid ≡ Some app →
    HasBegun left (keyed cont boot) after instance.uuid (begins_on (who_begins any mid slot (keyed cont boot)) session instance (kept_params cont.params) points)) →
    BeginsAt (tables_of left) cont after boot slot (tables_of old) session points
begun_on old mid left cont after slot session points app boot unsettled becomes line its there begins given call params instance waits found =
    let r = resumed_in boot (tables_of old) slot given call in
    let own = line.instance instance found in
    let uuid : conts.uuid_of cont.app ≡ instance.uuid = same_some (conts.uuid_of cont.app) instance.uuid own.same in
    let at : session.instance ≡ cont.instance = line.session session there in
    let in_mid : get (tables_of mid).instances session.instance ≡ Some instance =
    ap₂ (λ (tables : Tables) (number : ℕ). get (tables_of tables).instances number) becomes at ∙ found in
    let has : HasBegun left (keyed cont boot) after instance.uuid (begins_on (who_begins boot mid slot (keyed cont boot)) session instance (kept_params cont.params) points) =
    begins boot instance in_mid (ap (app_of boot) (sym uuid) ∙ its.found) in
    begun_call left cont after r params instance.uuid (begins_on (who_begins boot mid slot (keyed cont boot)) session instance (kept_params cont.params) points)
    (begins_on (who_resumes r) session instance params points) unsettled has
    (ap (λ (tables : Tables). (begins_on (who_begins boot tables slot (keyed cont boot)) session instance (kept_params cont.params) points).tables) becomes)
    (ap₂ (λ (seen : Bool) (kept : CopiedParams). (begins_on (record { boot = boot; tables = tables_of old; slot = slot; seen = seen }) session instance kept points).job) waits.is.seen
    (its_params cont call params waits))
    at waits (its_uuid cont call line.app waits.is ∙ ap Some uuid)

pub ready_in : (old mid : Tables) (cont : Cont (List ℕ)) (slot : ℕ) (session : Session) (app : Application) (boot : Booted) →
    mid ≡ without_slot old slot → IsInLine boot (tables_of old) slot cont → IsItsApp boot cont app → get (tables_of old).sessions cont.session ≡ Some session →
    is_some (get (tables_of old).instances cont.instance) ≡ true →
    ((instance : Instance) → get (tables_of old).instances cont.instance ≡ Some instance → CanBeginOn cont instance) →
    IsSomeAnd (get (tables_of mid).instances session.instance) (IsReady app)
ready_in old mid cont slot session app boot becomes line its there some ready =
    let found : (instance : Instance) × (get (tables_of old).instances cont.instance ≡ Some instance) = found_some (get (tables_of old).instances cont.instance) some in
    let own = line.instance found.0 found.1 in
    let on = ready found.0 found.1 in
    let uuid : conts.uuid_of cont.app ≡ found.0.uuid = same_some (conts.uuid_of cont.app) found.0.uuid own.same in
    let its_own : app_of boot found.0.uuid ≡ Some app = ap (app_of boot) (sym uuid) ∙ its.found in
    let at : get (tables_of mid).instances session.instance ≡ Some found.0 =
    ap₂ (λ (tables : Tables) (number : ℕ). get (tables_of tables).instances number) becomes (line.session session there) ∙ found.1 in
    subst (λ (one : Option Instance). IsSomeAnd one (IsReady app)) (sym at) (record {
      free = on.free;
      uuid = sym (found_uuid boot found.0.uuid app its_own);
      pages = λ alive. own.pages on.free alive ∙ ap (λ (n : ℕ). 4096 * n) (pages_found boot found.0.uuid app its_own);
    })

-- ---- an open

-- on its instance
pub opened_kept : (old mid left : Tables) (cont after : Cont (List ℕ)) (slot : ℕ) (opener : Opener) (boot : Booted) →
    cont.kind ≡ kind.Open →
    mid ≡ without_slot old slot → IsInLine boot (tables_of old) slot cont → IsItsApp boot cont opener.app → is_some (get (tables_of old).instances cont.instance) ≡ true →
    ((any : Booted) (instance : Instance) → get (tables_of mid).instances cont.instance ≡ Some instance →
    HasBegun left (keyed cont boot) after (uuid_of opener.app) (opens_kept (who_begins any mid slot (keyed cont boot)) opener (cont.instance, instance))) →
    (given : Given) (call : PendingCall) (params : CopiedParams) → IsWaitingCall cont call params →
    HasCome (tables_of left) after (begins_open (resumed_in boot (tables_of old) slot given call) opener (get (tables_of old).instances cont.instance))
opened_kept old mid left cont after slot opener boot opens becomes line its some begins given call params waits =
    let r = resumed_in boot (tables_of old) slot given call in
    let found : (instance : Instance) × (get (tables_of old).instances cont.instance ≡ Some instance) = found_some (get (tables_of old).instances cont.instance) some in
    let uuid : uuid_of opener.app ≡ conts.uuid_of cont.app = found_uuid boot (conts.uuid_of cont.app) opener.app its.found in
    let in_mid : get (tables_of mid).instances cont.instance ≡ Some found.0 =
    ap (λ (tables : Tables). get (tables_of tables).instances cont.instance) becomes ∙ found.1 in
    subst (λ (one : Option Instance). HasCome (tables_of left) after (begins_open r opener one)) (sym found.1)
    (begun_call left cont after r params (uuid_of opener.app) (opens_kept (who_begins boot mid slot (keyed cont boot)) opener (cont.instance, found.0))
    (opens_kept (who_resumes r) opener (call.instance, found.0)) (open_unsettled cont.kind opens) (begins boot found.0 in_mid)
    (ap₂ (λ (tables : Tables) (number : ℕ). (opens_kept (who_begins boot tables slot (keyed cont boot)) opener (number, found.0)).tables) becomes waits.is.instance)
    (ap (λ (tables : Tables). (opens_kept (who_begins boot tables slot (keyed cont boot)) opener (cont.instance, found.0)).job) becomes
    ∙ ap₂ (λ (seen : Bool) (number : ℕ). (opens_kept (record { boot = boot; tables = tables_of old; slot = slot; seen = seen }) opener (number, found.0)).job) waits.is.seen waits.is.instance)
    refl waits (its_uuid cont call line.app waits.is ∙ ap Some (sym uuid)))

not_dead : (dead : Bool) (of_kind : CallKind) → (dead ≡ true → of_kind ≡ kind.Close) → of_kind ≡ kind.Open → dead ≡ false
not_dead false of_kind closes opens = refl
not_dead true of_kind closes opens = let closed : of_kind ≡ kind.Close = closes refl in absurd cc

pub ready_for : (old mid : Tables) (cont : Cont (List ℕ)) (slot : ℕ) (app : Application) (boot : Booted) →
    mid ≡ without_slot old slot → IsInLine boot (tables_of old) slot cont → IsItsApp boot cont app → cont.kind ≡ kind.Open →
    is_some (get (tables_of old).instances cont.instance) ≡ true →
    ((instance : Instance) → get (tables_of old).instances cont.instance ≡ Some instance → CanBeginOn cont instance) →
    IsSomeAnd (get (tables_of mid).instances cont.instance) (IsReadyFor app)
ready_for old mid cont slot app boot becomes line its opens some ready =
    let found : (instance : Instance) × (get (tables_of old).instances cont.instance ≡ Some instance) = found_some (get (tables_of old).instances cont.instance) some in
    let own = line.instance found.0 found.1 in
    let on = ready found.0 found.1 in
    let its_own : app_of boot found.0.uuid ≡ Some app = ap (app_of boot) (sym (same_some (conts.uuid_of cont.app) found.0.uuid own.same)) ∙ its.found in
    let at : get (tables_of mid).instances cont.instance ≡ Some found.0 = ap (λ (tables : Tables). get (tables_of tables).instances cont.instance) becomes ∙ found.1 in
    subst (λ (one : Option Instance). IsSomeAnd one (IsReadyFor app)) (sym at) (record {
      free = on.free;
      pages = own.pages on.free (not_dead found.0.dead cont.kind on.alive opens) ∙ ap (λ (n : ℕ). 4096 * n) (pages_found boot found.0.uuid app its_own);
    })

-- on a new one
opened_on : (r : Resumed) (opener : Opener) (found : Option Instance) (pages : Bool) → is_some found ≡ false → has_pages_for r.boot r.tables opener.app ≡ pages →
    begins_open r opener found ≡ (if pages then begins r (opens_new (who_resumes r) opener r.call.instance r.tables.next_instance) else ends_with r out_of_memory)
opened_on r opener None pages gone is =
    ap (λ (pages : Bool). if pages then begins r (opens_new (who_resumes r) opener r.call.instance r.tables.next_instance) else ends_with r out_of_memory) is
opened_on r opener (Some instance) pages gone is = absurd cc

pub opened_new : (old mid left : Tables) (cont after : Cont (List ℕ)) (slot : ℕ) (opener : Opener) (boot : Booted) →
    cont.kind ≡ kind.Open →
    mid ≡ without_slot old slot → IsInLine boot (tables_of old) slot cont → IsItsApp boot cont opener.app → is_some (get (tables_of old).instances cont.instance) ≡ false →
    has_pages_for boot (tables_of old) opener.app ≡ true →
    ((any : Booted) → HasBegun left (keyed cont boot) after (uuid_of opener.app) (opens_new (who_begins any mid slot (keyed cont boot)) opener cont.instance (tables_of mid).next_instance)) →
    (given : Given) (call : PendingCall) (params : CopiedParams) → IsWaitingCall cont call params →
    HasCome (tables_of left) after (begins_open (resumed_in boot (tables_of old) slot given call) opener (get (tables_of old).instances cont.instance))
opened_new old mid left cont after slot opener boot opens becomes line its gone pages begins given call params waits =
    let r = resumed_in boot (tables_of old) slot given call in
    let uuid : uuid_of opener.app ≡ conts.uuid_of cont.app = found_uuid boot (conts.uuid_of cont.app) opener.app its.found in
    subst (HasCome (tables_of left) after) (sym (opened_on r opener (get (tables_of old).instances cont.instance) true gone pages))
    (begun_call left cont after r params (uuid_of opener.app) (opens_new (who_begins boot mid slot (keyed cont boot)) opener cont.instance (tables_of mid).next_instance)
    (opens_new (who_resumes r) opener call.instance (tables_of old).next_instance) (open_unsettled cont.kind opens) (begins boot)
    (ap₂ (λ (tables : Tables) (number : ℕ). (opens_new (who_begins boot tables slot (keyed cont boot)) opener number (tables_of tables).next_instance).tables) becomes waits.is.instance)
    (ap (λ (tables : Tables). (opens_new (who_begins boot tables slot (keyed cont boot)) opener cont.instance (tables_of tables).next_instance).job) becomes
    ∙ ap₂ (λ (seen : Bool) (number : ℕ). (opens_new (record { boot = boot; tables = tables_of old; slot = slot; seen = seen }) opener number (tables_of old).next_instance).job) waits.is.seen waits.is.instance)
    refl waits (its_uuid cont call line.app waits.is ∙ ap Some (sym uuid)))

pub no_pages : (left tables : model.Tables) (cont after : Cont (List ℕ)) (slot : ℕ) (opener : Opener) (found : Option Instance) (boot : Booted) →
    is_some found ≡ false → has_pages_for boot tables opener.app ≡ false → EndsSo left cont after tables slot 0xffff000c →
    (given : Given) (call : PendingCall) (params : CopiedParams) → IsWaitingCall cont call params →
    HasCome left after (begins_open (resumed_in boot tables slot given call) opener found)
no_pages left tables cont after slot opener found boot gone pages ends given call params waits =
    subst (HasCome left after) (sym (opened_on (resumed_in boot tables slot given call) opener found false gone pages)) (ends boot given call waits.is)

pub absent_in : (old mid : Tables) (slot number : ℕ) → mid ≡ without_slot old slot → is_some (get (tables_of old).instances number) ≡ false → get (tables_of mid).instances number ≡ None
absent_in old mid slot number becomes gone =
    ap (λ (tables : Tables). get (tables_of tables).instances number) becomes ∙ found_none (get (tables_of old).instances number) gone

pub room_in : (old mid : Tables) (cont : Cont (List ℕ)) (slot : ℕ) (boot : Booted) → mid ≡ without_slot old slot → IsInLine boot (tables_of old) slot cont → cont.kind ≡ kind.Open →
    is_some (get (tables_of old).instances cont.instance) ≡ false → length (tables_of mid).instances < 80
room_in old mid cont slot boot becomes line opens gone =
    subst (λ (tables : Tables). length (tables_of tables).instances < 80) (sym becomes) (line.room opens (found_none (get (tables_of old).instances cont.instance) gone))

-- ---- free pages

-- those that it leaves are the pool's
pub pages_begun : (setup : Setup) (old mid left : Tables) (slot : ℕ) → mid ≡ without_slot old slot →
    (HasFreePages setup mid → HasFreePages setup left) → HasFreePages setup old → HasFreePages setup left
pages_begun setup old mid left slot becomes keeps pages =
    keeps (subst (HasFreePages setup) (sym becomes) (record { frames = pages.frames; free = pages.free }))

-- where the application is the one that it was made of
pub app_again : (boot : Booted) (cont : Cont (List ℕ)) (app : Application) → IsItsApp boot cont app → app_of boot (uuid_of app) ≡ Some app
app_again boot cont app its = ap (app_of boot) (found_uuid boot (conts.uuid_of cont.app) app its.found) ∙ its.found
