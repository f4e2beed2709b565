use Rattle.std.proofs.Common.{Some, false, refl, subst}
use Rattle.job_model.specs.declared.call_kind.CallKind.TheVariants as kind
use Rattle.kernel_model.specs.Kernel.{Instance, Waits}
use Rattle.own_model.specs.Solo.{OwnSession, fresh_call, made}
use Rattle.solo.proofs.Adding.{stands_still}
use Rattle.solo.proofs.Coming.{made_stands, next_is, opened_at_once}
use Rattle.solo.proofs.Stepped.{on_err_always}
use Rattle.solo.specs.Standing.{StandsFor, app_in}
use Rattle.solo.specs.declared.kept_session.KeptSession.{KeptSession}
use Rattle.solo.specs.declared.solo_session.SoloSession.{SoloSession}
use Rattle.solo.proofs.solo_session.SoloSession.open.Goals as goal

pub returns-in_err-reserve-clause-err : goal.returns-in_err-reserve-clause-err
returns-in_err-reserve-clause-err c solo stands =
    on_err_always _ _ (stands_still c.args.self.now _ solo refl c.reserve.ensures.items stands)

pub returns-in_err-call-clause-err : goal.returns-in_err-call-clause-err
returns-in_err-call-clause-err c solo stands =
    on_err_always _ _ (stands_still c.args.self.now _ solo refl c.reserve.ensures.items stands)

pub returns-in_err-instance-clause-err : goal.returns-in_err-instance-clause-err
returns-in_err-instance-clause-err c solo stands =
    on_err_always _ _ (stands_still c.args.self.now _ solo refl c.reserve.ensures.items stands)

pub returns-in_err-ready-clause-err : goal.returns-in_err-ready-clause-err
returns-in_err-ready-clause-err c solo stands =
    on_err_always _ _ (stands_still c.args.self.now _ solo refl c.reserve.ensures.items stands)

pub returns-clause-ok : goal.returns-clause-ok
returns-clause-ok c solo stands first =
    let s = c.args.self.now in
    let number = c.next_number-number.result in
    let session : OwnSession = record { login = c.args.login; context = 0; opened = false } in
    let own : KeptSession = record { login = c.args.login; context = 0; opened = false } in
    let roomy : SoloSession = record s { calls = c.reserve.new.self } in
    let now : SoloSession = record roomy { session = Some own; instance = Some c.in_ok-instance.instance } in
    let next = next_is s solo number c.next_number-number.ensures stands in
    let kept = made_stands roomy now solo own c.in_ok-instance.instance refl (stands_still s roomy solo refl c.reserve.ensures.items stands) in
    subst (StandsFor c.begin_last.new.self) (opened_at_once (app_in s) solo c.args.params.now c.args.params.now c.args.login c.args.area number next refl)
    (c.begin_last.ensures.begins (record solo { session = Some session; instance = Some (made (app_in s)) }) (fresh_call kind.Open c.args.area (Waits c.args.params.now))
    (session, made (app_in s)) c.args.params.now
    (subst (λ (i : Instance). StandsFor now (record solo { session = Some session; instance = Some i })) c.in_ok-instance.ensures kept)
    next c.in_ok-call.ensures.call refl (λ e. absurd cc) refl)
