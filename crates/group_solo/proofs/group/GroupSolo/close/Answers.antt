use Rattle.std.proofs.Common.{ap, subst}
use Rattle.group_model.specs.Group.{works_or_waits}
use Rattle.job_model.specs.Point.{no_params}
use Rattle.job_model.specs.declared.call_kind.CallKind.TheVariants as kind
use Rattle.solo.proofs.Adding.{on_ok}
use Rattle.group_solo.proofs.Homes.{about_same, at_home, closing_same, found_is}
use Rattle.group_solo.specs.Standing.{StandsFor, app_in}
use Rattle.group_solo.specs.declared.found.Home as code
use Rattle.group_solo.proofs.group.GroupSolo.close.Goals as goal

pub returns-clause-ok : goal.returns-clause-ok
returns-clause-ok c g at stands home =
    let s = c.args.self.now in
    let same = found_is s g c.args.session c.in-Some.found at c.in-Some.ensures stands.beside home in
    let its = at_home g c.args.session at home in
    on_ok c.work_or_wait.result _ _
    (λ then_stands. subst (StandsFor c.work_or_wait.new.self)
    (ap (works_or_waits (app_in s) g (record { kind = kind.Close; area = c.args.area }) at no_params)
    (closing_same s g c.args.session c.in-Some.found at _ c.destroys_beside.result stands.beside same its.number_is c.closing-points.ensures c.destroys_beside.ensures)) then_stands)
    (c.work_or_wait.ensures.ok g (record { kind = kind.Close; area = c.args.area }) at stands home
    (about_same (record { kind = kind.Close; area = c.args.area }) at c.args.session c.in-Some.found.instance its.number_is (ap (λ (f : code.Home). f.instance) same)))
