use Rattle.std.proofs.Common.{sym, ap, subst, ◌∙◌}
use Rattle.solo.proofs.Adding.{on_ok}
use Rattle.group_solo.proofs.Openings.{none_instance, opens_anew, opens_free, opens_held, some_instance}
use Rattle.group_solo.specs.Coming.{opener_of}
use Rattle.group_solo.specs.Standing.{StandsFor, app_in}
use Rattle.group_solo.specs.declared.found.There.{There}
use Rattle.group_solo.proofs.group.GroupSolo.open.Goals as goal

pub returns-in_default-clause-ok : goal.returns-in_default-clause-ok
returns-in_default-clause-ok c g stands numbered =
    let s = c.args.self.now in
    let none = none_instance s g stands.beside (sym c.in_default.is ∙ c.there.ensures) in
    on_ok c.open_made.result _ _
    (λ stands_then. subst (StandsFor c.open_made.new.self) (opens_anew (app_in s) g c.args.params.now (opener_of c.args.opener) none) stands_then)
    (c.open_made.ensures.ok g stands numbered none)

pub returns-then-there-clause-ok : goal.returns-then-there-clause-ok
returns-then-there-clause-ok c g stands numbered =
    let s = c.args.self.now in
    let its = some_instance s g c.in-Some.there stands.beside c.in-Some.ensures in
    on_ok c.wait_to_open.result _ _
    (λ stands_then. subst (StandsFor c.wait_to_open.new.self)
    (opens_held (app_in s) g c.args.params.now (opener_of c.args.opener) c.in-Some.there its c.if-there.true) stands_then)
    (c.wait_to_open.ensures.ok g stands numbered)

pub returns-else-there-clause-ok : goal.returns-else-there-clause-ok
returns-else-there-clause-ok c g stands numbered =
    let s = c.args.self.now in
    let its = some_instance s g c.in-Some.there stands.beside c.in-Some.ensures in
    on_ok c.open_kept.result _ _
    (λ stands_then. subst (StandsFor c.open_kept.new.self)
    (opens_free (app_in s) g c.args.params.now (opener_of c.args.opener) c.in-Some.there its c.if-there.false) stands_then)
    (c.open_kept.ensures.ok g its.there stands numbered its.instance (ap (λ (f : There). f.number) its.same))
