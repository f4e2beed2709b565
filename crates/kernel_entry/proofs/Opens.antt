-- An open comes to what the definition takes its slot for.
use Rattle.std.proofs.Common.{◌≡◌, ℕ, ◌+◌, Bool, true, false, List, [], ◌∷◌, Option, Some, None, refl, sym, ap, ap₂, ◌∙◌, subst}
use Rattle.std.specs.Prelude.{IsSome, bytes_eq, if◌then◌else◌, fold}
use Rattle.std.proofs.lemmas.Slice.Eq.{bytes_eq-Decides}
use Rattle.std.specs.List.{AllByRecursion}
use Rattle.std.specs.Option.{option_map_or}
use Rattle.base.specs.NumberMap.{NumberMap, get, insert}
use Rattle.begin_call.specs.Begins.{brought, who_begins}
use Rattle.job_model.specs.declared.call_kind.CallKind.TheVariants as kind
use Rattle.kernel_model.specs.Application.{Application, Booted, uuid_of}
use Rattle.kernel_model.specs.Argument.{Opening}
use Rattle.kernel_model.specs.Begin.{Beginner, Opener, opens_kept, opens_made}
use Rattle.kernel_model.specs.Decision.{Taken}
use Rattle.kernel_model.specs.Instances.{app_of, is_held, shared_instance}
use Rattle.kernel_model.specs.Kernel as model
use Rattle.kernel_model.specs.Kernel.{Instance}
use Rattle.kernel_model.specs.NewCall.{About, NewCall, about_open, beginner, call_about, open_waits, opener, opens_or_waits, runs_in, shared_by, takes, with_pins, with_session}
use Rattle.new_calls.specs.Applying.{AreRegistered}
use Rattle.new_calls.specs.Deciding.{asked_by, call_found}
use Rattle.new_calls.specs.declared.entered.Entered.{Entered}
use Rattle.param_copy.specs.Copying.{Copies}
use Rattle.param_copy.specs.Outcome.{copies_in}
use Rattle.param_copy.specs.declared.taken.TakenParams.{TakenParams}
use Rattle.rpc_cont.specs.Beginning.{IsEntered}
use Rattle.rpc_cont.specs.Conts.{kept_params}
use Rattle.rpc_cont.specs.declared.call_entry.CallEntry.{CallEntry}
use Rattle.rpc_cont.specs.declared.cont.Cont.{Cont}
use Rattle.session_table.specs.Session.{reserved_for}
use Rattle.session_table.specs.Sessions.{SessionTable, has_room}
use Rattle.session_table.specs.declared.session.Session.{Session}
use Rattle.shm_registry.specs.Registered.{Registered, with_pin}
use Rattle.ta_params.specs.declared.copied_params.CopiedParams.{CopiedParams}
use Rattle.ta_params.specs.declared.login.Login.{Login}
use Rattle.kernel_state.specs.Calls.{IsCall}
use Rattle.kernel_state.specs.Setup.{application_of}
use Rattle.kernel_state.specs.Tables.{tables_of}
use Rattle.kernel_state.specs.declared.setup.Application.{Application as CodeApp}
use Rattle.kernel_state.specs.declared.tables.Tables.{Tables}
use Rattle.kernel_entry.proofs.Coming.{LeavesThose, call_come, call_numbered, open_leaves, with_number}
use Rattle.kernel_entry.specs.Applying.{Came, HasCome, IsTaken, began, open_comes, queued}

-- ---- what the slot is taken for

-- the slot is taken for an open that has come to this
abbrev pub open_takes : NewCall → Opening → Application → Copies → Came → Taken
open_takes c wanted app copies came =
    takes (with_pins c (with_session c wanted came.tables came.instance) copies.cookies)
    (call_about c (about_open c app copies came.instance) came.phase)

held_or_not : (held : Bool) (c : NewCall) (wanted : Opening) (app : Application) (copies : Copies) (kept : ℕ × Instance) →
    (let begun = opens_kept (beginner c) (opener wanted app copies) kept in
    if held then open_waits c wanted app copies kept
    else runs_in c (with_session c wanted begun.tables begun.instance) (about_open c app copies begun.instance) copies.cookies begun.job)
    ≡ open_takes c wanted app copies
    (if held then queued (beginner c) kept.0 (uuid_of app) copies.params else began (opens_kept (beginner c) (opener wanted app copies) kept))
held_or_not true c wanted app copies kept = refl
held_or_not false c wanted app copies kept = refl

-- the same by what it shares
abbrev opens_by : NewCall → Opening → Application → Copies → Option (ℕ × Instance) → Taken
opens_by c wanted app copies shared =
    let begun = option_map_or (opens_kept (beginner c) (opener wanted app copies)) shared (opens_made (beginner c) (opener wanted app copies)) in
    let taken = runs_in c (with_session c wanted begun.tables begun.instance) (about_open c app copies begun.instance) copies.cookies begun.job in
    option_map_or (λ (kept : ℕ × Instance). if is_held kept.1 then open_waits c wanted app copies kept else taken) shared taken

by_shared : (c : NewCall) (wanted : Opening) (app : Application) (copies : Copies) (shared : Option (ℕ × Instance)) →
    opens_by c wanted app copies shared ≡ open_takes c wanted app copies (open_comes (beginner c) (opener wanted app copies) shared)
by_shared c wanted app copies None = refl
by_shared c wanted app copies (Some kept) = held_or_not (is_held kept.1) c wanted app copies kept

pub opens_so : (c : NewCall) (wanted : Opening) (app : Application) (copies : Copies) →
    opens_or_waits c wanted app copies
    ≡ open_takes c wanted app copies (open_comes (beginner c) (opener wanted app copies) (shared_by c app))
opens_so c wanted app copies = by_shared c wanted app copies (shared_by c app)

-- ---- the tables

-- tables with a session that isn't opened yet, and with pins
abbrev pub entered_in : ℕ → Login → ℕ → List ℕ → model.Tables → ℕ → ℕ → model.Tables
entered_in client login slot cookies tables number instance = record tables {
  sessions = insert tables.sessions number (reserved_for client login instance);
  next_session = number + 1;
  registered = record tables.registered { pins = fold (λ pins cookie. with_pin pins cookie slot) tables.registered.pins cookies };
}

pub tables_entered : (client : ℕ) (login : Login) (slot : ℕ) (cookies : List ℕ) (after : Tables) (came : Came) (next instance : ℕ)
    (sessions : SessionTable) (registry : Registered) →
    sessions ≡ record { kept = insert after.sessions.kept after.sessions.next (reserved_for client login instance); next = after.sessions.next + 1 } →
    registry ≡ record after.registry { pins = fold (λ pins cookie. with_pin pins cookie slot) after.registry.pins cookies } →
    tables_of after ≡ came.tables → came.tables.next_session ≡ next → instance ≡ came.instance →
    tables_of (record after { sessions = sessions; registry = registry }) ≡ entered_in client login slot cookies came.tables next came.instance
tables_entered client login slot cookies after came next instance sessions registry kept pinned is same on =
    ap₂ (λ (sessions : SessionTable) (registry : Registered). tables_of (record after { sessions = sessions; registry = registry })) kept pinned
    ∙ ap (λ (tables : model.Tables). entered_in client login slot cookies tables tables.next_session instance) is
    ∙ ap₂ (entered_in client login slot cookies came.tables) same on

-- ---- an open

-- what its slot is taken for, by what it has come to
pub open_taken : (boot : Booted) (before after : Tables) (entered : Entered) (entry : CallEntry) (old new : Cont (List ℕ)) (app : CodeApp) (login : Login)
    (copies : TakenParams) (number : ℕ) (sessions : SessionTable) (registry : Registered) →
    IsEntered entry old → old.params ≡ Some copies.params → old.key ≡ boot.key →
    entry.client ≡ entered.client → entry.kind ≡ kind.Open → entry.arg ≡ entered.arg → entry.area ≡ entered.area → entry.places ≡ copies.places → entry.session ≡ 0 →
    HasCome after old new (uuid_of (application_of app)) (open_comes (who_begins boot before entered.slot old)
    (brought (record { slot = entered.slot; app = app; login = login }) old) (shared_instance (tables_of before).instances (application_of app))) →
    number ≡ after.sessions.next →
    sessions ≡ record { kept = insert after.sessions.kept after.sessions.next (reserved_for entered.client login new.instance); next = after.sessions.next + 1 } →
    registry ≡ record after.registry { pins = fold (λ pins cookie. with_pin pins cookie entered.slot) after.registry.pins copies.cookies.items } →
    IsTaken None entered (record after { sessions = sessions; registry = registry }) (with_number new number)
    (opens_or_waits (call_found boot (tables_of before) entered) (asked_by (application_of app) login) (application_of app) (copies_in copies))
open_taken boot before after entered entry old new app login copies number sessions registry is_entered params keyed client kind_is arg area places none come number_is kept pinned =
    let c = call_found boot (tables_of before) entered in
    let wanted = asked_by (application_of app) login in
    let shared = shared_by c (application_of app) in
    let came = open_comes (beginner c) (opener wanted (application_of app) (copies_in copies)) shared in
    let who : who_begins boot before entered.slot old ≡ beginner c =
    ap₂ (λ (seen : Bool) (key : List ℕ). record { boot = record boot { key = key }; tables = tables_of before; slot = entered.slot; seen = seen }) is_entered.cancelled keyed in
    let what : brought (record { slot = entered.slot; app = app; login = login }) old ≡ opener wanted (application_of app) (copies_in copies) =
    ap (λ (params : Option CopiedParams). record { app = application_of app; login = login; params = kept_params params }) params in
    let same : open_comes (who_begins boot before entered.slot old) (brought (record { slot = entered.slot; app = app; login = login }) old) shared ≡ came =
    ap₂ (λ (who : Beginner) (what : Opener). open_comes who what shared) who what in
    let has : HasCome after old new (uuid_of (application_of app)) came = subst (HasCome after old new (uuid_of (application_of app))) same come in
    let leaves : LeavesThose (tables_of before) came = open_leaves (beginner c) (opener wanted (application_of app) (copies_in copies)) shared in
    let next : came.tables.next_session ≡ (tables_of before).next_session = leaves.next in
    let given : number ≡ (tables_of before).next_session = number_is ∙ ap (λ (tables : model.Tables). tables.next_session) has.tables ∙ next in
    let about : About = record { kind = kind.Open; session = 0; instance = came.instance; uuid = uuid_of (application_of app); places = copies.places.items } in
    let at_first : IsCall new (call_about c about came.phase) =
    call_come c about entry after old new came
    (record { client = client; kind = kind_is; arg = arg; area = area; places = ap (λ places. places.items) places; session = none }) is_entered has refl in
    let numbered : IsCall (with_number new number) (call_about c (record about { session = number }) came.phase) =
    call_numbered c about new number came.phase leaves.start at_first in
    subst (IsTaken None entered (record after { sessions = sessions; registry = registry }) (with_number new number))
    (sym (opens_so c wanted (application_of app) (copies_in copies)))
    (record {
      tables = tables_entered entered.client login entered.slot copies.cookies.items after came (tables_of before).next_session new.instance
          sessions registry kept pinned has.tables next has.instance;
      call = subst (λ (session : ℕ). IsCall (with_number new number) (call_about c (record about { session = session }) came.phase)) given numbered;
      cancel_id = refl;
      marked = refl;
      cancels = refl;
    })

-- sessions and buffers are still those that were there
pub still_room : (before after : Tables) (came : Came) → tables_of after ≡ came.tables → LeavesThose (tables_of before) came →
    has_room before.sessions ≡ true → has_room after.sessions ≡ true
still_room before after came is leaves room =
    let kept : after.sessions.kept ≡ before.sessions.kept = ap (λ (tables : model.Tables). tables.sessions) is ∙ leaves.sessions in
    let next : after.sessions.next ≡ before.sessions.next = ap (λ (tables : model.Tables). tables.next_session) is ∙ leaves.next in
    ap₂ (λ (kept : NumberMap Session) (next : ℕ). has_room (record { kept = kept; next = next })) kept next ∙ room

pub still_kept : (before after : Tables) (came : Came) (cookies : List ℕ) → tables_of after ≡ came.tables → LeavesThose (tables_of before) came →
    AreRegistered (tables_of before) cookies → AllByRecursion (λ cookie. IsSome (get after.registry.buffers cookie)) cookies
still_kept before after came cookies is leaves kept =
    let same : after.registry ≡ before.registry = ap (λ (tables : model.Tables). tables.registered) is ∙ leaves.registered in
    subst (λ (registry : Registered). AllByRecursion (λ cookie. IsSome (get registry.buffers cookie)) cookies) (sym same) kept

-- what is the same for each boot is so for one of this application alone
abbrev pub boot_of_one : Application → Booted
boot_of_one app = record { cpus = 1; threads = 1; frames = 1; apps = app ∷ []; key = [] }

pub known_alone : (app : Application) (uuid : List ℕ) → uuid ≡ uuid_of app → app_of (boot_of_one app) uuid ≡ Some app
known_alone app uuid same = let test : bytes_eq (uuid_of app) uuid ≡ true = (bytes_eq-Decides (uuid_of app) uuid).1 (sym same) in rw test refl
