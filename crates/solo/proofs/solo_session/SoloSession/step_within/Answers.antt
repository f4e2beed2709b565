use Rattle.std.proofs.Common.{subst}
use Rattle.own_model.specs.declared.own_event.OwnEvent.TheVariants as event
use Rattle.solo.proofs.Stepped.{limited, on_err_always, silent_then, went_out}
use Rattle.solo.specs.Standing.{StandsFor, app_in}
use Rattle.solo.specs.Stepping.{HasRoom}
use Rattle.solo.proofs.solo_session.SoloSession.step_within.Goals as goal

pub returns-in-Out-clause-ok : goal.returns-in-Out-clause-ok
returns-in-Out-clause-ok c most solo next told is short room e =
    let s = c.args.self.now in
    let fits : HasRoom most solo (event.Out c.in-Out.call) = subst (HasRoom most solo) c.in-Out.is room in
    let went = went_out most (app_in s) solo next c.args.event.now c.in-Out.call told c.in-Out.is e in
    c.go_out.ensures.ok most solo next went.0 told is.stands went.1.0 (fits went.0 went.1.0) short went.1.1

pub returns-in-Limited-clause-ok : goal.returns-in-Limited-clause-ok
returns-in-Limited-clause-ok c most solo next told is short room e =
    let s = c.args.self.now in
    let so = limited most (app_in s) solo next c.args.event.now told c.in-Limited.is e in
    (so.1, subst (StandsFor s) so.0 is.stands)

pub returns-in_err-step_silently-in-Open-clause-err : goal.returns-in_err-step_silently-in-Open-clause-err
returns-in_err-step_silently-in-Open-clause-err c solo stands =
    on_err_always c.from_residual.result _ (c.in_err-step_silently-in-Open.ensures.err solo stands)

pub returns-in_ok-step_silently-in-Open-clause-ok : goal.returns-in_ok-step_silently-in-Open-clause-ok
returns-in_ok-step_silently-in-Open-clause-ok c most solo next told is short room e =
    c.in_ok-step_silently-in-Open.ensures.ok most solo next told is (silent_then c.args.event.now c.in-Open.is) e
