use Rattle.std.proofs.Common.{List, ℕ, refl, sym, ap, ◌∙◌, subst}
use Rattle.std.specs.Prelude.{IsSome, fold}
use Rattle.std.specs.List.{AllByRecursion}
use Rattle.base.specs.NumberMap.{get}
use Rattle.begin_call.specs.Begins.{brought, who_begins}
use Rattle.kernel_model.specs.Instances.{shared_instance}
use Rattle.kernel_state.specs.Setup.{application_of}
use Rattle.kernel_state.specs.Tables.{tables_of}
use Rattle.shm_registry.specs.Registered.{with_pin}
use Rattle.kernel_entry.proofs.Coming.{open_leaves}
use Rattle.kernel_entry.proofs.Opens.{boot_of_one, open_taken, still_kept, still_room}
use Rattle.kernel_entry.specs.Applying.{open_comes}
use Rattle.kernel_entry.proofs.opening.apply_open.Goals as goal

pub reserve_session-cont-requires : goal.reserve_session-cont-requires
reserve_session-cont-requires c =
    let boot = boot_of_one (application_of c.args.app) in
    let who = who_begins boot c.args.tables.now c.args.entered.now.slot c.fill_waiting.new.cont in
    let what = brought (record { slot = c.args.entered.now.slot; app = c.args.app; login = c.args.login }) c.fill_waiting.new.cont in
    let shared = shared_instance (tables_of c.args.tables.now).instances (application_of c.args.app) in
    still_room c.args.tables.now c.open_or_wait.new.tables (open_comes who what shared) (c.open_or_wait.ensures.came boot).tables
    (open_leaves who what shared) c.requires.opens.room

pub pin_cookies-requires-clause-kept : goal.pin_cookies-requires-clause-kept
pin_cookies-requires-clause-kept c =
    let boot = boot_of_one (application_of c.args.app) in
    let who = who_begins boot c.args.tables.now c.args.entered.now.slot c.fill_waiting.new.cont in
    let what = brought (record { slot = c.args.entered.now.slot; app = c.args.app; login = c.args.login }) c.fill_waiting.new.cont in
    let shared = shared_instance (tables_of c.args.tables.now).instances (application_of c.args.app) in
    subst (λ (cookies : List ℕ). AllByRecursion (λ cookie. IsSome (get c.open_or_wait.new.tables.registry.buffers cookie)) cookies) (sym c.as_slice.ensures.value)
    (still_kept c.args.tables.now c.open_or_wait.new.tables (open_comes who what shared) c.into_inner-params.result.cookies.items (c.open_or_wait.ensures.came boot).tables
    (open_leaves who what shared) (rw (← c.into_inner-params.ensures) at c.requires.buffers))

pub returns-clause-taken : goal.returns-clause-taken
returns-clause-taken c boot keyed =
    rw (← c.into_inner-params.ensures) (open_taken boot c.args.tables.now c.open_or_wait.new.tables c.args.entered.now _ c.fill_waiting.new.cont c.open_or_wait.new.cont c.args.app c.args.login
    c.into_inner-params.result c.reserve_session-cont.result c.reserve_session-cont.new.sessions c.pin_cookies.new.registry
    c.fill_waiting.ensures.entered c.fill_waiting.ensures.params (c.fill_waiting.ensures.key ∙ keyed) refl refl refl refl refl refl (c.open_or_wait.ensures.came boot)
    c.reserve_session-cont.ensures.number c.reserve_session-cont.ensures.after
    (c.pin_cookies.ensures ∙ ap (λ (cookies : List ℕ). record c.open_or_wait.new.tables.registry
    { pins = fold (λ pins cookie. with_pin pins cookie c.args.entered.now.slot) c.open_or_wait.new.tables.registry.pins cookies }) c.as_slice.ensures.value))
