use Rattle.std.proofs.Common.{◌∙◌, ℕ, ◌∷◌, false, refl, ap, subst}
use Rattle.group_model.specs.Group.{About, about_open, destroy_after}
use Rattle.job_model.specs.declared.entry_point.EntryPoint.TheVariants as point
use Rattle.solo.proofs.Stepped.{on_err_always}
use Rattle.group_solo.proofs.Adding.{next_is, reserved, sessions_reserved}
use Rattle.group_solo.proofs.Openings.{about_beside, added_there, begins_so, kept_points, few_sessions, opening_beginner, session_added, with_one_more}
use Rattle.begin_call.specs.Points.{points_of}
use Rattle.kernel_model.specs.Application.{Application}
use Rattle.group_solo.specs.Beginning.{begun, counted}
use Rattle.group_solo.specs.Coming.{about_of, opener_of}
use Rattle.group_solo.specs.Standing.{StandsFor, app_in, session_of}
use Rattle.group_solo.specs.declared.group.GroupSolo.{GroupSolo}
use Rattle.group_solo.proofs.group.GroupSolo.open_kept.Goals as goal

pub returns-in_err-reserve-clause-err : goal.returns-in_err-reserve-clause-err
returns-in_err-reserve-clause-err c g stands = on_err_always _ _ (sessions_reserved c.args.self.now _ g refl c.reserve.ensures.items stands)

pub returns-in_err-reserve-2-clause-err : goal.returns-in_err-reserve-2-clause-err
returns-in_err-reserve-2-clause-err c g stands =
    on_err_always _ _ (reserved _ _ g refl c.reserve-2.ensures.items (sessions_reserved c.args.self.now _ g refl c.reserve.ensures.items stands))

pub returns-in_err-call-clause-err : goal.returns-in_err-call-clause-err
returns-in_err-call-clause-err c g stands =
    on_err_always _ _ (reserved _ _ g refl c.reserve-2.ensures.items (sessions_reserved c.args.self.now _ g refl c.reserve.ensures.items stands))

pub returns-in_err-ready-clause-err : goal.returns-in_err-ready-clause-err
returns-in_err-ready-clause-err c g stands =
    on_err_always _ _ (reserved _ _ g refl c.reserve-2.ensures.items (sessions_reserved c.args.self.now _ g refl c.reserve.ensures.items stands))

pub returns-clause-ok : goal.returns-clause-ok
returns-clause-ok c g there stands numbered at same =
    let s = c.args.self.now in
    let later = c.add_session.new.self in
    let number = c.next_number-number.result in
    let session = session_of c.opening.result in
    let roomy : GroupSolo = record s { sessions = c.reserve.new.self; calls = c.reserve-2.new.self } in
    let still : StandsFor roomy g = reserved _ _ g refl c.reserve-2.ensures.items (sessions_reserved s _ g refl c.reserve.ensures.items stands) in
    let grown = session_added roomy later g c.opening.result still numbered.given (few_sessions g numbered) c.add_session.ensures.stays c.add_session.ensures.sessions c.add_session.ensures.next in
    let next = next_is s g number c.next_number-number.ensures stands in
    let about = about_beside roomy g c.args.opener.area c.args.instance _ still.beside c.about_open.ensures in
    let who = opening_beginner number (about_of c.about_open.result) session c.args.params.now there in
    subst (StandsFor c.begin_last.new.self)
    (begins_so (app_in s) g c.args.params.now (opener_of c.args.opener) there number session _ _ _ next
    (c.opening.ensures ∙ ap (λ (n : ℕ). record { login = c.args.opener.login; context = 0; opened = false; instance = n }) same)
    (about ∙ ap (λ (n : ℕ). about_open g c.args.opener.area n) same)
    (kept_points roomy g c.args.instance _ c.destroys.result still.beside c.opening-points.ensures c.destroys.ensures
    ∙ ap (λ (n : ℕ). point.Open ∷ destroy_after (app_in s) g.sessions n) same))
    (subst (λ (app : Application). StandsFor c.begin_last.new.self (counted (begun app (with_one_more g session) who (points_of c.opening-points.result))))
    (ap app_in c.add_session.ensures.stays)
    (c.begin_last.ensures.begins (with_one_more g session) who grown refl next
    c.in_ok-call.ensures.call refl (added_there g session _ (ap (λ (a : About). a.session) about)) at))
