use Rattle.std.proofs.Common.{List, ℕ, refl, sym, ap, ◌∙◌, subst, None}
use Rattle.std.specs.Prelude.{IsSome, fold}
use Rattle.std.specs.List.{AllByRecursion}
use Rattle.base.specs.NumberMap.{get}
use Rattle.begin_call.specs.Points.{points_of}
use Rattle.job_model.specs.declared.call_kind.CallKind.TheVariants as kind
use Rattle.job_model.specs.declared.entry_point.EntryPoint.{EntryPoint}
use Rattle.kernel_model.specs.NewCall.{works_or_waits}
use Rattle.kernel_state.specs.Setup.{application_of}
use Rattle.kernel_state.specs.Tables.{tables_of}
use Rattle.new_calls.specs.Deciding.{call_found}
use Rattle.param_copy.specs.Outcome.{copies_in}
use Rattle.rpc_cont.specs.Conts.{kept_params}
use Rattle.shm_registry.specs.Registered.{with_pin}
use Rattle.kernel_entry.proofs.InSession.{session_kept, session_taken}
use Rattle.kernel_entry.specs.Applying.{IsTaken}
use Rattle.kernel_entry.proofs.in_session.apply_invoke.Goals as goal

pub pin_cookies-requires-clause-kept : goal.pin_cookies-requires-clause-kept
pin_cookies-requires-clause-kept c =
    subst (λ (cookies : List ℕ). AllByRecursion (λ cookie. IsSome (get c.work_or_wait.new.tables.registry.buffers cookie)) cookies) (sym c.as_slice.ensures.value)
    (session_kept c.args.tables.now c.work_or_wait.new.tables c.args.session (application_of c.args.app) c.args.entered.now.slot c.fill_waiting.new.cont c.work_or_wait.new.cont
    (points_of c.only.result) c.into_inner-params.result.cookies.items c.work_or_wait.ensures.came c.requires.works
    (rw (← c.into_inner-params.ensures) at c.requires.buffers))

pub returns-clause-taken : goal.returns-clause-taken
returns-clause-taken c boot instance keyed there known =
    let model = call_found boot (tables_of c.args.tables.now) c.args.entered.now in
    rw (← c.into_inner-params.ensures) (subst (λ (points : List EntryPoint). IsTaken None c.args.entered.now (record c.work_or_wait.new.tables { registry = c.pin_cookies.new.registry }) c.work_or_wait.new.cont
    (works_or_waits model (kind.Invoke c.args.entered.now.head.func) c.args.session instance (copies_in c.into_inner-params.result) points))
    c.only.ensures
    (session_taken boot c.args.tables.now c.work_or_wait.new.tables c.args.entered.now _ c.fill_waiting.new.cont c.work_or_wait.new.cont (kind.Invoke c.args.entered.now.head.func)
    c.args.session instance (copies_in c.into_inner-params.result) (points_of c.only.result) c.pin_cookies.new.registry
    c.fill_waiting.ensures.entered (ap kept_params c.fill_waiting.ensures.params) (c.fill_waiting.ensures.key ∙ keyed) refl refl refl refl refl refl
    (c.work_or_wait.ensures.came boot instance there known)
    (c.pin_cookies.ensures ∙ ap (λ (cookies : List ℕ). record c.work_or_wait.new.tables.registry
    { pins = fold (λ pins cookie. with_pin pins cookie c.args.entered.now.slot) c.work_or_wait.new.tables.registry.pins cookies }) c.as_slice.ensures.value)))

pub returns-clause-pages : goal.returns-clause-pages
returns-clause-pages c setup has =
    let mid = c.work_or_wait.ensures.pages setup has in
    record { frames = mid.frames; free = mid.free }
