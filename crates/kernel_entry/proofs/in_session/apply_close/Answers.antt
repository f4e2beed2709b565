use Rattle.std.proofs.Common.{List, false, refl, ap, ◌∙◌, subst, None}
use Rattle.begin_call.specs.Points.{points_of}
use Rattle.job_model.specs.declared.call_kind.CallKind.TheVariants as kind
use Rattle.job_model.specs.declared.entry_point.EntryPoint.{EntryPoint}
use Rattle.kernel_model.specs.NewCall.{no_copies, works_or_waits}
use Rattle.kernel_state.specs.Tables.{tables_of}
use Rattle.new_calls.specs.Deciding.{call_found}
use Rattle.rpc_cont.specs.Conts.{kept_params}
use Rattle.kernel_entry.proofs.InSession.{session_taken}
use Rattle.kernel_entry.specs.Applying.{IsTaken}
use Rattle.kernel_entry.proofs.in_session.apply_close.Goals as goal

pub returns-clause-taken : goal.returns-clause-taken
returns-clause-taken c boot instance keyed there known =
    let model = call_found boot (tables_of c.args.tables.now) c.args.entered.now in
    subst (λ (points : List EntryPoint). IsTaken None c.args.entered.now c.work_or_wait.new.tables c.work_or_wait.new.cont
    (works_or_waits model kind.Close c.args.session instance no_copies points))
    (c.closing_points-points.ensures boot model.slot false instance known)
    (session_taken boot c.args.tables.now c.work_or_wait.new.tables c.args.entered.now _ c.fill_waiting.new.cont c.work_or_wait.new.cont kind.Close
    c.args.session instance no_copies (points_of c.closing_points-points.result) c.work_or_wait.new.tables.registry
    c.fill_waiting.ensures.entered (ap kept_params c.fill_waiting.ensures.params) (c.fill_waiting.ensures.key ∙ keyed) refl refl refl refl c.new_in.ensures refl
    (c.work_or_wait.ensures.came boot instance there known) refl)
