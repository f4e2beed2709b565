use Rattle.std.proofs.Common.{rules, ◌≡◌, ◌∙◌, true, false, refl, sym, ap, subst}
use Rattle.std.specs.Option.{option_copied}
use Rattle.begin_call.specs.Points.{points_of}
use Rattle.group_model.specs.Group.{About, fresh_call, waits}
use Rattle.base.specs.NumberMap.{get}
use Rattle.kernel_model.specs.Kernel.{Waits}
use Rattle.rpc_cont.specs.Conts.{kept_params}
use Rattle.solo.proofs.Adding.{on_ok}
use Rattle.group_solo.proofs.Homes.{at_home, held_so, home_beginner, works_free, works_held}
use Rattle.group_solo.specs.Standing.{StandsFor, app_in}
use Rattle.group_solo.proofs.group.GroupSolo.work_or_wait.Goals as goal

pub returns-then-held-clause-ok : goal.returns-then-held-clause-ok
returns-then-held-clause-ok c g coming at stands home about =
    let s = c.args.self.now in
    let params = kept_params (option_copied c.args.params) in
    let is : c.is_held-held.result ≡ true = search rules in
    let same = held_so s g c.args.about.session c.args.about.instance at c.is_held-held.result stands.beside home (ap (λ (a : About). a.instance) about) c.is_held-held.ensures in
    on_ok c.wait.result _ _
    (λ stands. subst (StandsFor c.wait.new.self) (ap (λ (a : About). waits g a params) about
    ∙ works_held (app_in s) g coming at params (points_of c.args.points) c.is_held-held.result same is) stands) (c.wait.ensures.ok g stands)

pub returns-else-held-clause-ok : goal.returns-else-held-clause-ok
returns-else-held-clause-ok c g coming at stands home about =
    let s = c.args.self.now in
    let params = kept_params (option_copied c.args.params) in
    let is : c.is_held-held.result ≡ false = search rules in
    let same = held_so s g c.args.about.session c.args.about.instance at c.is_held-held.result stands.beside home (ap (λ (a : About). a.instance) about) c.is_held-held.ensures in
    let its = at_home g c.args.about.session at home in
    on_ok c.begin_new.result _ _
    (λ stands. subst (StandsFor c.begin_new.new.self) (works_free (app_in s) g coming at params (points_of c.args.points) c.is_held-held.result same is) stands)
    (c.begin_new.ensures.ok g (home_beginner g coming at params) stands refl refl
    (ap (λ (a : About). fresh_call a (Waits params)) (sym about))
    (ap (get g.sessions) its.number_is ∙ its.session) its.there)
