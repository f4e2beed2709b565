use Rattle.std.proofs.Common.{subst}
use Rattle.solo.proofs.Adding.{on_ok}
use Rattle.solo.proofs.Coming.{invoked_alive, invoked_copied, invoked_dead, invoked_faulty, not_copied}
use Rattle.solo.proofs.Onward.{some_home}
use Rattle.solo.specs.Standing.{StandsFor, app_in}
use Rattle.solo.proofs.solo_session.SoloSession.invoke.Goals as goal

pub returns-then-found-clause-ok : goal.returns-then-found-clause-ok
returns-then-found-clause-ok c solo next stands e =
    let s = c.args.self.now in
    let home = some_home s solo c.in-Some.found c.in-Some.ensures stands.beside in
    on_ok c.settle-then-found.result _ _
    (λ then_stands. subst (StandsFor c.settle-then-found.new.self)
    (invoked_dead (app_in s) solo next c.args.func c.args.input.now c.args.area c.in-Some.found home c.if-found.true e) then_stands)
    (c.settle-then-found.ensures.ok solo stands)

pub returns-in-Copied-clause-ok : goal.returns-in-Copied-clause-ok
returns-in-Copied-clause-ok c solo next stands e =
    let s = c.args.self.now in
    let home = some_home s solo c.in-Some.found c.in-Some.ensures stands.beside in
    let alive = invoked_alive (app_in s) solo next c.args.func c.args.input.now c.args.area c.in-Some.found home c.if-found.false e in
    on_ok c.work_or_wait.result _ _
    (λ then_stands. subst (StandsFor c.work_or_wait.new.self)
    (invoked_copied (app_in s) solo next c.args.func c.args.input.now c.args.area c.in-Copied.params home.at c.in-Copied.is alive) then_stands)
    (c.work_or_wait.ensures.ok solo home.at stands home.home (λ e. absurd cc))

pub returns-in-Faulty-clause-ok : goal.returns-in-Faulty-clause-ok
returns-in-Faulty-clause-ok c solo next stands e =
    let s = c.args.self.now in
    let home = some_home s solo c.in-Some.found c.in-Some.ensures stands.beside in
    let alive = invoked_alive (app_in s) solo next c.args.func c.args.input.now c.args.area c.in-Some.found home c.if-found.false e in
    on_ok c.settle-in-Faulty.result _ _
    (λ then_stands. subst (StandsFor c.settle-in-Faulty.new.self)
    (invoked_faulty (app_in s) solo next c.args.func c.args.input.now c.args.area home.at (not_copied c.args.input.now c.in-Faulty.is) alive) then_stands)
    (c.settle-in-Faulty.ensures.ok solo stands)
