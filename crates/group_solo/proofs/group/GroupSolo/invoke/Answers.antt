use Rattle.std.proofs.Common.{◌∙◌, List, ap, subst}
use Rattle.group_model.specs.Group.{works_or_waits}
use Rattle.job_model.specs.declared.call_kind.CallKind.TheVariants as kind
use Rattle.job_model.specs.declared.entry_point.EntryPoint.{EntryPoint}
use Rattle.solo.proofs.Adding.{on_ok}
use Rattle.solo.proofs.Coming.{not_copied}
use Rattle.group_solo.proofs.Homes.{about_same, at_home, invoked_alive, invoked_copied, invoked_dead, invoked_faulty, some_home}
use Rattle.group_solo.specs.Standing.{StandsFor, app_in}
use Rattle.group_solo.proofs.group.GroupSolo.invoke.Goals as goal

pub returns-then-found-clause-ok : goal.returns-then-found-clause-ok
returns-then-found-clause-ok c g next stands e =
    let s = c.args.self.now in
    let home = some_home s g c.args.session c.in-Some.found c.in-Some.ensures stands.beside in
    on_ok c.settle-then-found.result _ _
    (λ then_stands. subst (StandsFor c.settle-then-found.new.self)
    (invoked_dead (app_in s) g next c.args.session c.args.func c.args.input.now c.args.area c.in-Some.found home c.if-found.true e) then_stands)
    (c.settle-then-found.ensures.ok g stands)

pub returns-in-Copied-clause-ok : goal.returns-in-Copied-clause-ok
returns-in-Copied-clause-ok c g next stands e =
    let s = c.args.self.now in
    let home = some_home s g c.args.session c.in-Some.found c.in-Some.ensures stands.beside in
    let alive = invoked_alive (app_in s) g next c.args.session c.args.func c.args.input.now c.args.area c.in-Some.found home c.if-found.false e in
    on_ok c.work_or_wait.result _ _
    (λ then_stands. subst (StandsFor c.work_or_wait.new.self)
    (ap (λ (points : List EntryPoint). works_or_waits (app_in s) g (record { kind = kind.Invoke c.args.func; area = c.args.area }) home.at c.in-Copied.params points) c.only-points.ensures
    ∙ invoked_copied (app_in s) g next c.args.func c.args.input.now c.args.area c.in-Copied.params home.at c.in-Copied.is alive) then_stands)
    (c.work_or_wait.ensures.ok g (record { kind = kind.Invoke c.args.func; area = c.args.area }) home.at stands home.home
    (about_same (record { kind = kind.Invoke c.args.func; area = c.args.area }) home.at c.args.session c.in-Some.found.instance
    (at_home g c.args.session home.at home.home).number_is home.instance))

pub returns-in-Faulty-clause-ok : goal.returns-in-Faulty-clause-ok
returns-in-Faulty-clause-ok c g next stands e =
    let s = c.args.self.now in
    let home = some_home s g c.args.session c.in-Some.found c.in-Some.ensures stands.beside in
    let alive = invoked_alive (app_in s) g next c.args.session c.args.func c.args.input.now c.args.area c.in-Some.found home c.if-found.false e in
    on_ok c.settle-in-Faulty.result _ _
    (λ then_stands. subst (StandsFor c.settle-in-Faulty.new.self)
    (invoked_faulty (app_in s) g next c.args.func c.args.input.now c.args.area home.at (not_copied c.args.input.now c.in-Faulty.is) alive) then_stands)
    (c.settle-in-Faulty.ensures.ok g stands)
