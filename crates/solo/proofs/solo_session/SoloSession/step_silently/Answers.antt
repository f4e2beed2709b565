use Rattle.std.proofs.Common.{subst}
use Rattle.solo.proofs.Adding.{on_ok}
use Rattle.solo.proofs.Kept.{valid_when_kept}
use Rattle.solo.proofs.Stepped.{came_back, cancelled, closed, invoked, opened, saw}
use Rattle.solo.specs.Standing.{StandsFor, app_in}
use Rattle.solo.proofs.solo_session.SoloSession.step_silently.Goals as goal

pub open-requires-clause-valid : goal.open-requires-clause-valid
open-requires-clause-valid c = valid_when_kept c.args.self.now c.requires.some

pub invoke-requires-clause-valid : goal.invoke-requires-clause-valid
invoke-requires-clause-valid c = valid_when_kept c.args.self.now c.requires.some

pub close-requires-clause-valid : goal.close-requires-clause-valid
close-requires-clause-valid c = valid_when_kept c.args.self.now c.requires.some

pub returns-in-Open-clause-ok : goal.returns-in-Open-clause-ok
returns-in-Open-clause-ok c most solo next told is silent e =
    let o = opened most (app_in c.args.self.now) solo next c.args.event.now c.in-Open.params c.in-Open.login c.in-Open.area told c.in-Open.is e in
    on_ok c.open.result _ _ (λ stands. (o.1.1, subst (StandsFor c.open.new.self) o.1.0 stands)) (c.open.ensures.ok solo is.stands o.0)

pub returns-in-Invoke-clause-ok : goal.returns-in-Invoke-clause-ok
returns-in-Invoke-clause-ok c most solo next told is silent e =
    let o = invoked most (app_in c.args.self.now) solo next c.args.event.now c.in-Invoke.func c.in-Invoke.input c.in-Invoke.area told c.in-Invoke.is e in
    on_ok c.invoke.result _ _ (λ stands. (o.1, stands)) (c.invoke.ensures.ok solo next is.stands o.0)

pub returns-in-Close-clause-ok : goal.returns-in-Close-clause-ok
returns-in-Close-clause-ok c most solo next told is silent e =
    let o = closed most (app_in c.args.self.now) solo next c.args.event.now c.in-Close.area told c.in-Close.is e in
    on_ok c.close.result _ _ (λ stands. (o.1.1.1, subst (StandsFor c.close.new.self) o.1.1.0 stands)) (c.close.ensures.ok solo o.0 is.stands o.1.0)

pub returns-in-Cancel-clause-ok : goal.returns-in-Cancel-clause-ok
returns-in-Cancel-clause-ok c most solo next told is silent e =
    let o = cancelled most (app_in c.args.self.now) solo next c.args.event.now told c.in-Cancel.is e in
    on_ok c.settle.result _ _ (λ stands. (o.1, subst (StandsFor c.settle.new.self) o.0 stands)) (c.settle.ensures.ok solo is.stands)

pub returns-in-Seen-clause-ok : goal.returns-in-Seen-clause-ok
returns-in-Seen-clause-ok c most solo next told is silent e =
    let o = saw most (app_in c.args.self.now) solo next c.args.event.now c.in-Seen.call c.in-Seen.steps told c.in-Seen.is e in
    (o.silent_so, c.see.ensures.sees solo next o.call is.stands o.there o.does_so)

pub returns-in-Back-clause-ok : goal.returns-in-Back-clause-ok
returns-in-Back-clause-ok c most solo next told is silent e =
    let o = came_back most (app_in c.args.self.now) solo next c.args.event.now c.in-Back.call c.in-Back.input told c.in-Back.is e in
    on_ok c.come_back.result _ _ (λ stands. (o.silent_so, stands)) (c.come_back.ensures.ok solo next o.call is.stands is.order o.there o.does_so)
