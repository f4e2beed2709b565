-- What applying a plan needs of the tables follows from what legal histories make of them.
use Rattle.std.proofs.Common.{◌≡◌, ℕ, ◌+◌, ◌*◌, ◌<◌, ◌≤◌, ◌^◌, Bool, true, false, List, [], ◌∷◌, length, Option, Some, None, refl, sym, ap, ◌∙◌, subst, arith}
use Rattle.std.proofs.lemmas.Bool.Decides.{Decides-eqb, nat_tests}
use Rattle.std.proofs.lemmas.List.Elements.{All-head, All-tail, All-weaker}
use Rattle.std.proofs.lemmas.Slice.Eq.{bytes_eq-Decides}
use Rattle.std.specs.Prelude.{All, nat_le, nat_lt, ◌==◌, ◌||◌, bytes_eq, find, if◌then◌else◌, is_some}
use Rattle.std.specs.Option.{IsSomeAnd, option_map_or}
use Rattle.std.proofs.lemmas.Bool.{and_parts}
use Rattle.base.proofs.MapLemmas.{All-get}
use Rattle.base.specs.NumberMap.{NumberMap, get}
use Rattle.begin_call.proofs.Apps.{found_uuid, pages_found, valid_app}
use Rattle.begin_call.specs.Begins.{IsReadyFor, new_number}
use Rattle.event_journal.specs.declared.event.Event.{Event}
use Rattle.kernel_model.proofs.SoundCallsJoined.{kernels_joined}
use Rattle.kernel_model.proofs.SoundFew.{kernels_few}
use Rattle.kernel_model.proofs.SoundMaps.{find-all, if_some, shared_all}
use Rattle.kernel_model.proofs.SoundMemory.{kernels_in_memory}
use Rattle.kernel_model.proofs.SoundNewJoined.{Before, awaited_uuids, gone, new_instance}
use Rattle.kernel_model.proofs.SoundNumbers.{kernels_numbered}
use Rattle.kernel_model.proofs.SoundOrder.{kernels_in_order}
use Rattle.kernel_model.proofs.SoundWaiters.{kernels_waiting}
use Rattle.kernel_model.specs.Application.{Application, Booted, IsBooted, pages_in, uuid_of}
use Rattle.kernel_model.specs.Begin.{awaited_number, has_pages_for}
use Rattle.kernel_model.specs.History.{kernel_after}
use Rattle.kernel_model.specs.Instances.{app_of, free_pages, is_single, pages_of, shared_instance}
use Rattle.kernel_model.specs.Kernel as model
use Rattle.kernel_model.specs.Kernel.{Instance, Kernel}
use Rattle.kernel_model.specs.NewCall.{NewCall, has_pages, shared_by}
use Rattle.kernel_model.specs.Sound.{Calls, unmarked_at}
use Rattle.kernel_model.specs.SoundInstances.{AreFew}
use Rattle.kernel_model.specs.SoundMemory.{AreInMemory, IsInMemory, KeepsMemory}
use Rattle.kernel_model.specs.SoundOrder.{AreInOrder}
use Rattle.kernel_model.specs.SoundWaiters.{IsWaiter, awaited}
use Rattle.kernel_state.specs.Setup.{application_of, boot_of, booted_of_setup, natives_of}
use Rattle.kernel_state.specs.Tables.{HasFreePages, tables_of}
use Rattle.kernel_state.specs.declared.setup.Setup.{Setup}
use Rattle.kernel_state.specs.declared.tables.Tables.{Tables}
use Rattle.new_calls.specs.Applying.{CanApply, CanOpen, IsInSession}
use Rattle.new_calls.specs.Deciding.{call_found, call_with}
use Rattle.new_calls.specs.declared.entered.Entered.{Entered}
use Rattle.new_calls.specs.declared.plan.Plan.{Plan}
use Rattle.new_calls.specs.declared.plan.Plan.TheVariants as plan
use Rattle.session_table.specs.Sessions.{has_room}
use Rattle.session_table.specs.Waiters.{waits}
use Rattle.session_table.specs.declared.session.Session.{Session}
use Rattle.session_table.specs.declared.waiters.Waiter.{Waiter}
use Rattle.ta_isa.specs.Boots.{IsBoot}
use Rattle.kernel_entry.proofs.Applied.{found_there}
use Rattle.kernel_entry.specs.Applying.{CanComeIn, CanMake, CanShare, FitsOpen, FitsPlan, FitsSession, MayCome}

-- ---- what holds of all tables

-- the laws of tables, with the calls of all slots
pub record AreSound (boot : Booted) (calls : Calls) (tables : model.Tables) : Type 0 where
  pub before : Before calls tables
  pub order : AreInOrder tables
  pub memory : AreInMemory boot calls tables
  pub few : AreFew tables

pub sound_by_laws : (boot : Booted) (history : List Event) (kernel : Kernel) → IsBooted boot → kernel_after boot history ≡ Some kernel →
    AreSound boot (unmarked_at kernel.slots) kernel.tables
sound_by_laws boot history kernel booted comes = record {
  before = record {
    joined = kernels_joined boot history kernel booted comes;
    numbers = kernels_numbered boot history kernel booted comes;
    waiters = kernels_waiting boot history kernel booted comes;
    rising = (kernels_in_order boot history kernel booted comes).instances;
  };
  order = kernels_in_order boot history kernel booted comes;
  memory = kernels_in_memory boot history kernel booted comes;
  few = kernels_few boot history kernel booted comes;
}

-- ---- the line

-- a call that isn't there doesn't wait
never_waits : (calls : Calls) (waiters : List Waiter) (slot : ℕ) → All (IsWaiter calls) waiters → calls slot ≡ None → waits waiters slot ≡ false
never_waits calls [] slot each none = refl
never_waits calls (first ∷ waiters) slot each none =
    by_test (first.slot == slot) refl (All-head (IsWaiter calls) first waiters each)
    (never_waits calls waiters slot (All-tail (IsWaiter calls) first waiters each) none)
  where
    by_test : (here : Bool) → (first.slot == slot) ≡ here → IsWaiter calls first → waits waiters slot ≡ false → (here || waits waiters slot) ≡ false
    by_test true is waiter rest =
        let same : first.slot ≡ slot = (Decides-eqb first.slot slot).0 is in
        let nothing : calls first.slot ≡ None = ap calls same ∙ none in
        let never : awaited None ≡ Some (first.instance, Some first.uuid) = ap awaited (sym nothing) ∙ waiter in
        absurd cc
    by_test false is waiter rest = rest

-- ---- memory of a kept instance

-- an instance of the application that nobody holds and that isn't dead has all its pages
all_pages : (boot : Booted) (app : Application) (instance : Instance) → app_of boot instance.uuid ≡ Some app → IsInMemory boot instance →
    instance.holder ≡ None → instance.dead ≡ false → length instance.memory ≡ 4096 * pages_in app
all_pages boot app instance known is free alive =
    let kept : KeepsMemory boot instance None = subst (KeepsMemory boot instance) free is.memory in
    kept
    ∙ ap (λ (dead : Bool). if dead then 0 else 4096 * pages_of boot instance.uuid) alive
    ∙ ap (λ (n : ℕ). 4096 * n) (pages_found boot instance.uuid app known)

can_come_in : (boot : Booted) (app : Application) (instance : Instance) → app_of boot instance.uuid ≡ Some app → IsInMemory boot instance →
    CanComeIn app instance
can_come_in boot app instance known is = record {
  uuid = sym (found_uuid boot instance.uuid app known);
  ready = λ free. record {
    free = free;
    uuid = sym (found_uuid boot instance.uuid app known);
    pages = all_pages boot app instance known is free;
  };
}

-- the instance of a session
session_ready : (boot : Booted) (calls : Calls) (tables : model.Tables) (app : Application) (number : ℕ) (instance : Instance) → AreSound boot calls tables →
    get tables.instances number ≡ Some instance → app_of boot instance.uuid ≡ Some app → IsSomeAnd (get tables.instances number) (CanComeIn app)
session_ready boot calls tables app number instance sound there known =
    subst (λ (o : Option Instance). IsSomeAnd o (CanComeIn app)) (sym there)
    (can_come_in boot app instance known
    (All-get (λ (kept : ℕ × Instance). IsInMemory boot kept.1) tables.instances number instance sound.memory.instances there))

-- ---- the instance that an open shares

same_uuid : (instances : NumberMap Instance) (app : Application) (kept : ℕ × Instance) → All (λ (kept : ℕ × Instance). Unit {0}) instances →
    shared_instance instances app ≡ Some kept → kept.1.uuid ≡ uuid_of app
same_uuid instances app kept any is =
    let found = (if_some (is_single app) (find (λ (kept : ℕ × Instance). bytes_eq kept.1.uuid (uuid_of app)) instances) kept is).1 in
    (bytes_eq-Decides kept.1.uuid (uuid_of app)).0
    (find-all (λ (kept : ℕ × Instance). Unit {0}) (λ (kept : ℕ × Instance). bytes_eq kept.1.uuid (uuid_of app)) instances kept any found).passes

shared_ready : (boot : Booted) (calls : Calls) (tables : model.Tables) (app : Application) (kept : ℕ × Instance) → AreSound boot calls tables →
    app_of boot (uuid_of app) ≡ Some app → shared_instance tables.instances app ≡ Some kept → kept.1.dead ≡ false → kept.1.holder ≡ None →
    IsReadyFor app kept.1
shared_ready boot calls tables app kept sound known shared alive free =
    let uuid = same_uuid tables.instances app kept (All-weaker (λ (kept : ℕ × Instance). IsInMemory boot kept.1) (λ kept. Unit {0}) (λ kept is. tt) tables.instances sound.memory.instances) shared in
    record {
      free = free;
      pages = all_pages boot app kept.1 (ap (app_of boot) uuid ∙ known)
          (shared_all (λ (kept : ℕ × Instance). IsInMemory boot kept.1) tables.instances app kept sound.memory.instances shared) free alive;
    }

-- ---- a new instance

no_instance : (found : Option Instance) → ((instance : Instance) → found ≡ Some instance → ⊥) → found ≡ None
no_instance None never = refl
no_instance (Some instance) never = absurd (never instance refl)

-- the number that it gets is that of none that is kept
new_absent : (calls : Calls) (c : NewCall) (app : Application) → Before calls c.tables → calls c.slot ≡ None → shared_by c app ≡ None →
    get c.tables.instances (new_number c.tables app) ≡ None
new_absent calls c app before free none = by (awaited_number c.tables app) refl
  where
    by : (number : Option ℕ) → awaited_number c.tables app ≡ number →
        get c.tables.instances (option_map_or (λ (number : ℕ). number) number c.tables.next_instance) ≡ None
    by None is = new_instance calls c before free c.tables.next_instance refl
    by (Some number) is =
        let waiter = awaited_uuids calls c before free app number is in
        let on = (before.joined.each waiter.1 waiter.0 waiter.2).instance.settled waiter.6 in
        no_instance (get c.tables.instances number) (λ instance kept.
        gone calls c before free app number waiter.0 waiter.1 waiter.2 waiter.3 waiter.4 waiter.5 on none instance kept)

at_most : (a b : ℕ) → nat_le a b ≡ true → a ≤ b
at_most a b is = grind (arith, nat_tests)

below : (a b : ℕ) → nat_lt a b ≡ true → a < b
below a b is = grind (arith, nat_tests)

-- there are pages for it
pages_left : (setup : Setup) (tables : Tables) (entered : Entered) (app : Application) → HasFreePages setup tables →
    has_pages (call_with (booted_of_setup setup) (tables_of tables) entered) app ≡ true → shared_instance (tables_of tables).instances app ≡ None →
    pages_in app ≤ tables.pool.free
pages_left setup tables entered app pages has none =
    let enough : has_pages_for (booted_of_setup setup) (tables_of tables) app ≡ true =
    sym (ap (λ (shared : Option (ℕ × Instance)). is_some shared || has_pages_for (booted_of_setup setup) (tables_of tables) app) none) ∙ has in
    subst (λ (n : ℕ). pages_in app ≤ n) (sym pages.free)
    (at_most (pages_in app) (free_pages (booted_of_setup setup) (tables_of tables).instances) enough)

few_kept : (instances sessions : ℕ) → instances ≤ sessions + 16 → sessions < 64 → instances < 80
few_kept instances sessions most room = omega (arith, most, room)

few_made : (next sessions : ℕ) → next ≤ sessions → sessions < 4294967296 → next < 4294967296
few_made next sessions fewer room = omega (arith, fewer, room)

can_make : (setup : Setup) (calls : Calls) (tables : Tables) (entered : Entered) (app : Application) → AreSound (booted_of_setup setup) calls (tables_of tables) →
    calls entered.slot ≡ None → HasFreePages setup tables → has_pages (call_with (booted_of_setup setup) (tables_of tables) entered) app ≡ true →
    has_room tables.sessions ≡ true → shared_instance (tables_of tables).instances app ≡ None → CanMake tables app
can_make setup calls tables entered app sound free pages has room none =
    let c = call_found (booted_of_setup setup) (tables_of tables) entered in
    let rooms = and_parts (nat_lt (length tables.sessions.kept) 64) (nat_lt tables.sessions.next (2 ^ 32)) room in
    record {
      pages = pages_left setup tables entered app pages has none;
      absent = new_absent calls c app sound.before free none;
      room = few_kept (length (tables_of tables).instances) (length tables.sessions.kept) sound.few.most (below (length tables.sessions.kept) 64 rooms.0);
      number = few_made (tables_of tables).next_instance tables.sessions.next sound.before.numbers.fewer
          (below tables.sessions.next 4294967296 rooms.1);
    }

-- ---- plans

may_come : (setup : Setup) (calls : Calls) (tables : Tables) (slot : ℕ) (uuid : List ℕ) (app : Application) → IsBoot (boot_of setup) →
    AreSound (booted_of_setup setup) calls (tables_of tables) → calls slot ≡ None → slot < 16 → app_of (booted_of_setup setup) uuid ≡ Some app →
    MayCome tables slot app
may_come setup calls tables slot uuid app is_boot sound free few known = record {
  valid = valid_app (boot_of setup) (natives_of setup) uuid app is_boot known;
  rising = sound.before.rising;
  in_range = few;
  absent = never_waits calls tables.waiters slot sound.before.waiters.each free;
}

fits_open : (setup : Setup) (calls : Calls) (tables : Tables) (entered : Entered) (app : Application) (cookies : List ℕ) → IsBoot (boot_of setup) →
    AreSound (booted_of_setup setup) calls (tables_of tables) → calls entered.slot ≡ None → entered.slot < 16 → HasFreePages setup tables →
    CanOpen (call_with (booted_of_setup setup) (tables_of tables) entered) app cookies → FitsOpen tables entered.slot app
fits_open setup calls tables entered app cookies is_boot sound free few pages can = record {
  comes = may_come setup calls tables entered.slot (uuid_of app) app is_boot sound free few can.known;
  opens = record { share = by (shared_instance (tables_of tables).instances app) refl; room = can.room };
}
  where
    by : (shared : Option (ℕ × Instance)) → shared_instance (tables_of tables).instances app ≡ shared → CanShare tables app shared
    by None is = can_make setup calls tables entered app sound free pages can.pages can.room is
    by (Some kept) is = λ unheld.
        shared_ready (booted_of_setup setup) calls (tables_of tables) app kept sound can.known is
        (sym (ap (λ (shared : Option (ℕ × Instance)). option_map_or (λ (kept : ℕ × Instance). kept.1.dead) shared false) is) ∙ can.alive) unheld

fits_session : (setup : Setup) (calls : Calls) (tables : Tables) (entered : Entered) (app : Application) (session : Session) → IsBoot (boot_of setup) →
    AreSound (booted_of_setup setup) calls (tables_of tables) → calls entered.slot ≡ None → entered.slot < 16 →
    IsInSession (call_with (booted_of_setup setup) (tables_of tables) entered) session app → FitsSession tables entered.slot app session
fits_session setup calls tables entered app session is_boot sound free few there =
    let c = call_with (booted_of_setup setup) (tables_of tables) entered in
    record {
      comes = may_come setup calls tables entered.slot there.instance.uuid app is_boot sound free few there.known;
      works = session_ready (booted_of_setup setup) calls (tables_of tables) app session.instance there.instance sound (found_there c session app there) there.known;
      rising = sound.order.sessions.rising;
    }

-- the tables are such that a plan can be applied to which the tests have come
pub fits_plan : (setup : Setup) (calls : Calls) (tables : Tables) (entered : Entered) (of : Plan) → IsBoot (boot_of setup) →
    AreSound (booted_of_setup setup) calls (tables_of tables) → calls entered.slot ≡ None → entered.slot < 16 → HasFreePages setup tables →
    CanApply (call_with (booted_of_setup setup) (tables_of tables) entered) of → FitsPlan tables entered.slot of
fits_plan setup calls tables entered (plan.Settles settled) is_boot sound free few pages can = tt
fits_plan setup calls tables entered (plan.Opens app login copies) is_boot sound free few pages can =
    fits_open setup calls tables entered (application_of app) copies.value.cookies.items is_boot sound free few pages can
fits_plan setup calls tables entered (plan.Invokes session app copies) is_boot sound free few pages can =
    fits_session setup calls tables entered (application_of app) session is_boot sound free few can.there
fits_plan setup calls tables entered (plan.Closes session app) is_boot sound free few pages can =
    fits_session setup calls tables entered (application_of app) session is_boot sound free few can
fits_plan setup calls tables entered plan.Cancels is_boot sound free few pages can = tt
fits_plan setup calls tables entered (plan.KeepsBuffer cookie buffer) is_boot sound free few pages can = tt
fits_plan setup calls tables entered (plan.DropsBuffer cookie) is_boot sound free few pages can = tt
