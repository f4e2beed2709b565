use Rattle.std.proofs.Common.{subst}
use Rattle.group_model.specs.declared.group_event.GroupEvent.TheVariants as event
use Rattle.solo.proofs.Stepped.{on_err_always}
use Rattle.group_solo.proofs.Stepped.{silent_then, went_out}
use Rattle.group_solo.specs.Standing.{app_in}
use Rattle.group_solo.specs.Stepping.{HasRoom}
use Rattle.group_solo.proofs.group.GroupSolo.step_within.Goals as goal

pub returns-in-Out-clause-ok : goal.returns-in-Out-clause-ok
returns-in-Out-clause-ok c most g next told is short room e =
    let s = c.args.self.now in
    let fits : HasRoom most g (event.Out c.in-Out.call) = subst (HasRoom most g) c.in-Out.is room in
    let went = went_out most (app_in s) g next c.args.event.now c.in-Out.call told c.in-Out.is e in
    c.go_out.ensures.ok most g next went.0 told is.stands is.numbered went.1.0 (fits went.0 went.1.0) short went.1.1

pub returns-in_err-step_silently-in-Open-clause-err : goal.returns-in_err-step_silently-in-Open-clause-err
returns-in_err-step_silently-in-Open-clause-err c g stands =
    on_err_always c.from_residual.result _ (c.in_err-step_silently-in-Open.ensures.err g stands)

pub returns-in_ok-step_silently-in-Open-clause-ok : goal.returns-in_ok-step_silently-in-Open-clause-ok
returns-in_ok-step_silently-in-Open-clause-ok c most g next told is short room e =
    c.in_ok-step_silently-in-Open.ensures.ok most g next told is (silent_then c.args.event.now c.in-Open.is) e
