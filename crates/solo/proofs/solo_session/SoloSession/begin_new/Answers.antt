use Rattle.std.proofs.Common.{refl, subst}
use Rattle.std.specs.Option.{option_copied}
use Rattle.kernel_model.specs.Kernel.{Waits}
use Rattle.own_model.specs.Solo.{fresh_call, start_with}
use Rattle.rpc_cont.specs.Conts.{kept_params}
use Rattle.solo.proofs.Adding.{stands_still}
use Rattle.solo.proofs.Coming.{begun_at_once, next_is}
use Rattle.solo.proofs.Stepped.{on_err_always}
use Rattle.solo.specs.Standing.{StandsFor, app_in}
use Rattle.solo.proofs.solo_session.SoloSession.begin_new.Goals as goal

pub returns-in_err-reserve-clause-err : goal.returns-in_err-reserve-clause-err
returns-in_err-reserve-clause-err c solo stands =
    on_err_always _ _ (stands_still c.args.self.now _ solo refl c.reserve.ensures.items stands)

pub returns-in_err-call-clause-err : goal.returns-in_err-call-clause-err
returns-in_err-call-clause-err c solo stands =
    on_err_always _ _ (stands_still c.args.self.now _ solo refl c.reserve.ensures.items stands)

pub returns-in_err-ready-clause-err : goal.returns-in_err-ready-clause-err
returns-in_err-ready-clause-err c solo stands =
    on_err_always _ _ (stands_still c.args.self.now _ solo refl c.reserve.ensures.items stands)

pub returns-clause-ok : goal.returns-clause-ok
returns-clause-ok c solo at stands home works =
    let s = c.args.self.now in
    let params = kept_params (option_copied c.args.params) in
    let call = fresh_call c.args.entering.kind c.args.entering.area (Waits params) in
    let next = next_is s solo c.next_number-number.result c.next_number-number.ensures stands in
    subst (StandsFor c.begin_last.new.self) (begun_at_once (app_in s) solo call (start_with solo at params) c.next_number-number.result next)
    (c.begin_last.ensures.begins solo call at params (stands_still s _ solo refl c.reserve.ensures.items stands) next c.in_ok-call.ensures.call refl works home)
