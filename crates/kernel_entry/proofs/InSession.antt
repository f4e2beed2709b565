-- A call in a session comes to what the definition takes its slot for.
use Rattle.std.proofs.Common.{◌≡◌, ℕ, Bool, true, false, List, Option, Some, None, refl, sym, ap, ap₂, ◌∙◌, subst}
use Rattle.std.specs.Prelude.{IsSome, if◌then◌else◌, fold}
use Rattle.std.specs.List.{AllByRecursion}
use Rattle.std.specs.Option.{IsSomeAnd, option_map_or}
use Rattle.base.specs.NumberMap.{get}
use Rattle.begin_call.specs.Begins.{who_begins}
use Rattle.job_model.specs.declared.call_kind.CallKind.{CallKind}
use Rattle.job_model.specs.declared.entry_point.EntryPoint.{EntryPoint}
use Rattle.kernel_model.specs.Application.{Application, Booted, uuid_of}
use Rattle.kernel_model.specs.Begin.{Beginner, begins_on}
use Rattle.kernel_model.specs.Decision.{Taken}
use Rattle.kernel_model.specs.Instances.{app_of, is_held}
use Rattle.kernel_model.specs.Kernel as model
use Rattle.kernel_model.specs.Kernel.{Instance}
use Rattle.kernel_model.specs.NewCall.{About, NewCall, about_session, beginner, call_about, runs_in, takes, waits_in, with_pins, works_or_waits}
use Rattle.new_calls.specs.Applying.{AreRegistered}
use Rattle.new_calls.specs.Deciding.{call_found}
use Rattle.new_calls.specs.declared.entered.Entered.{Entered}
use Rattle.param_copy.specs.Copying.{Copies}
use Rattle.rpc_cont.specs.Beginning.{IsEntered}
use Rattle.rpc_cont.specs.Conts.{kept_params}
use Rattle.rpc_cont.specs.declared.call_entry.CallEntry.{CallEntry}
use Rattle.rpc_cont.specs.declared.cont.Cont.{Cont}
use Rattle.session_table.specs.declared.session.Session.{Session}
use Rattle.shm_registry.specs.Registered.{Registered, with_pin}
use Rattle.ta_params.specs.declared.copied_params.CopiedParams.{CopiedParams}
use Rattle.kernel_state.specs.Tables.{tables_of}
use Rattle.kernel_state.specs.declared.tables.Tables.{Tables}
use Rattle.kernel_entry.proofs.Coming.{call_come, session_leaves}
use Rattle.kernel_entry.proofs.Opens.{boot_of_one, known_alone, still_kept}
use Rattle.kernel_entry.specs.Applying.{Came, CanComeIn, HasCome, IsTaken, MayWork, began, queued, session_comes}

-- the slot is taken for a call that has come to this
abbrev pub session_takes : NewCall → About → List ℕ → Came → Taken
session_takes c about cookies came = takes (with_pins c came.tables cookies) (call_about c about came.phase)

held_or_not : (held : Bool) (c : NewCall) (kind : CallKind) (session : Session) (instance : Instance) (copies : Copies) (points : List EntryPoint) →
    (let about = about_session c kind session instance copies in
    let begun = begins_on (beginner c) session instance copies.params points in
    if held then waits_in c c.tables about copies else runs_in c begun.tables about copies.cookies begun.job)
    ≡ session_takes c (about_session c kind session instance copies) copies.cookies
    (if held then queued (beginner c) session.instance instance.uuid copies.params else began (begins_on (beginner c) session instance copies.params points))
held_or_not true c kind session instance copies points = refl
held_or_not false c kind session instance copies points = refl

works_so : (c : NewCall) (kind : CallKind) (session : Session) (instance : Instance) (copies : Copies) (points : List EntryPoint) →
    works_or_waits c kind session instance copies points
    ≡ session_takes c (about_session c kind session instance copies) copies.cookies (session_comes (beginner c) session instance copies.params points)
works_so c kind session instance copies points = held_or_not (is_held instance) c kind session instance copies points

came_on : (held : Bool) (who : Beginner) (session : Session) (kept : Instance) (params : CopiedParams) (points : List EntryPoint) →
    session.instance ≡ (if held then queued who session.instance kept.uuid params else began (begins_on who session kept params points)).instance
came_on true who session kept params points = refl
came_on false who session kept params points = refl

-- what its slot is taken for, by what it has come to
pub session_taken : (boot : Booted) (before after : Tables) (entered : Entered) (entry : CallEntry) (old new : Cont (List ℕ)) (kind : CallKind)
    (session : Session) (instance : Instance) (copies : Copies) (points : List EntryPoint) (registry : Registered) →
    IsEntered entry old → kept_params old.params ≡ copies.params → old.key ≡ boot.key →
    entry.client ≡ entered.client → entry.kind ≡ kind → entry.arg ≡ entered.arg → entry.area ≡ entered.area → entry.places.items ≡ copies.places → entry.session ≡ entered.head.session →
    HasCome after old new instance.uuid (session_comes (who_begins boot before entered.slot old) session instance (kept_params old.params) points) →
    registry ≡ record after.registry { pins = fold (λ pins cookie. with_pin pins cookie entered.slot) after.registry.pins copies.cookies } →
    IsTaken None entered (record after { registry = registry }) new
    (works_or_waits (call_found boot (tables_of before) entered) kind session instance copies points)
session_taken boot before after entered entry old new kind session instance copies points registry is_entered params keyed client kind_is arg area places named come pinned =
    let c = call_found boot (tables_of before) entered in
    let came = session_comes (beginner c) session instance copies.params points in
    let who : who_begins boot before entered.slot old ≡ beginner c =
    ap₂ (λ (seen : Bool) (key : List ℕ). record { boot = record boot { key = key }; tables = tables_of before; slot = entered.slot; seen = seen }) is_entered.cancelled keyed in
    let has : HasCome after old new instance.uuid came =
    subst (λ (params : CopiedParams). HasCome after old new instance.uuid (session_comes (beginner c) session instance params points)) params
    (subst (λ (who : Beginner). HasCome after old new instance.uuid (session_comes who session instance (kept_params old.params) points)) who come) in
    let about = about_session c kind session instance copies in
    let pins : tables_of (record after { registry = registry }) ≡ with_pins c (tables_of after) copies.cookies =
    ap (λ (registry : Registered). tables_of (record after { registry = registry })) pinned in
    subst (IsTaken None entered (record after { registry = registry }) new) (sym (works_so c kind session instance copies points))
    (record {
      tables = pins ∙ ap (λ (tables : model.Tables). with_pins c tables copies.cookies) has.tables;
      call = call_come c about entry after old new came
          (record { client = client; kind = kind_is; arg = arg; area = area; places = places; session = named }) is_entered has
          (came_on (is_held instance) (beginner c) session instance copies.params points);
      cancel_id = refl;
      marked = refl;
      cancels = refl;
    })

-- ---- by who holds the instance

waits_if : (held : Bool) (after : Tables) (old new : Cont (List ℕ)) (uuid : List ℕ) (waits works : Came) → held ≡ true →
    HasCome after old new uuid waits → HasCome after old new uuid (if held then waits else works)
waits_if true after old new uuid waits works is has = has
waits_if false after old new uuid waits works is has = absurd cc

-- the call has come to an instance that is held
pub came_waiting : (tables after : Tables) (old new : Cont (List ℕ)) (app : Application) (who : Beginner) (session : Session) (instance : Instance)
    (params : CopiedParams) (points : List EntryPoint) (held : Bool) →
    get (tables_of tables).instances session.instance ≡ Some instance → MayWork tables app session →
    held ≡ option_map_or is_held (get (tables_of tables).instances session.instance) false → held ≡ true →
    HasCome after old new (uuid_of app) (queued who session.instance (uuid_of app) params) →
    HasCome after old new instance.uuid (session_comes who session instance params points)
came_waiting tables after old new app who session instance params points held there may test is_true come =
    let can : CanComeIn app instance = subst (λ (o : Option Instance). IsSomeAnd o (CanComeIn app)) there may in
    let is_so : is_held instance ≡ true = sym (ap (λ (o : Option Instance). option_map_or is_held o false) there) ∙ sym test ∙ is_true in
    waits_if (is_held instance) after old new instance.uuid (queued who session.instance instance.uuid params) (began (begins_on who session instance params points)) is_so
    (subst (λ (uuid : List ℕ). HasCome after old new uuid (queued who session.instance uuid params)) (sym can.uuid) come)

-- buffers are still those that were there
kept_of : (found : Option Instance) (tables after : Tables) (session : Session) (app : Application) (slot : ℕ) (old new : Cont (List ℕ)) (points : List EntryPoint) (cookies : List ℕ) →
    ((instance : Instance) → found ≡ Some instance → app_of (boot_of_one app) instance.uuid ≡ Some app →
    HasCome after old new instance.uuid (session_comes (who_begins (boot_of_one app) tables slot old) session instance (kept_params old.params) points)) →
    IsSomeAnd found (CanComeIn app) → AreRegistered (tables_of tables) cookies → AllByRecursion (λ cookie. IsSome (get after.registry.buffers cookie)) cookies
kept_of None tables after session app slot old new points cookies come may kept = absurd may
kept_of (Some instance) tables after session app slot old new points cookies come may kept =
    let who = who_begins (boot_of_one app) tables slot old in
    still_kept tables after (session_comes who session instance (kept_params old.params) points) cookies
    (come instance refl (known_alone app instance.uuid may.uuid)).tables (session_leaves who session instance (kept_params old.params) points) kept

pub session_kept : (tables after : Tables) (session : Session) (app : Application) (slot : ℕ) (old new : Cont (List ℕ)) (points : List EntryPoint) (cookies : List ℕ) →
    ((boot : Booted) (instance : Instance) → get (tables_of tables).instances session.instance ≡ Some instance → app_of boot instance.uuid ≡ Some app →
    HasCome after old new instance.uuid (session_comes (who_begins boot tables slot old) session instance (kept_params old.params) points)) →
    MayWork tables app session → AreRegistered (tables_of tables) cookies → AllByRecursion (λ cookie. IsSome (get after.registry.buffers cookie)) cookies
session_kept tables after session app slot old new points cookies come may kept =
    kept_of (get (tables_of tables).instances session.instance) tables after session app slot old new points cookies (come (boot_of_one app)) may kept
