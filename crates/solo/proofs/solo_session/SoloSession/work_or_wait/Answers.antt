use Rattle.std.proofs.Common.{rules, ◌≡◌, true, false, subst}
use Rattle.std.specs.Option.{option_copied}
use Rattle.own_model.specs.Solo.{start_with}
use Rattle.rpc_cont.specs.Conts.{kept_params}
use Rattle.solo.proofs.Adding.{on_ok}
use Rattle.solo.proofs.Coming.{held_so, works_free, works_held}
use Rattle.solo.specs.Standing.{StandsFor, app_in}
use Rattle.solo.proofs.solo_session.SoloSession.work_or_wait.Goals as goal

pub returns-then-held-clause-ok : goal.returns-then-held-clause-ok
returns-then-held-clause-ok c solo at stands home works =
    let s = c.args.self.now in
    let start = start_with solo at (kept_params (option_copied c.args.params)) in
    let is : c.is_held-held.result ≡ true = search rules in
    let same = held_so s solo at c.is_held-held.result stands.beside home c.is_held-held.ensures in
    on_ok c.wait.result _ _
    (λ stands. subst (StandsFor c.wait.new.self) (works_held (app_in s) solo c.args.entering.kind c.args.entering.area start c.is_held-held.result same is) stands) (c.wait.ensures.ok solo stands)

pub returns-else-held-clause-ok : goal.returns-else-held-clause-ok
returns-else-held-clause-ok c solo at stands home works =
    let s = c.args.self.now in
    let start = start_with solo at (kept_params (option_copied c.args.params)) in
    let is : c.is_held-held.result ≡ false = search rules in
    let same = held_so s solo at c.is_held-held.result stands.beside home c.is_held-held.ensures in
    on_ok c.begin_new.result _ _
    (λ stands. subst (StandsFor c.begin_new.new.self) (works_free (app_in s) solo c.args.entering.kind c.args.entering.area start c.is_held-held.result same is) stands)
    (c.begin_new.ensures.ok solo at stands home works)
