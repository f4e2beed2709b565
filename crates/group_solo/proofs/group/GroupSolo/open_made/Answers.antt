use Rattle.std.proofs.Common.{◌≡◌, ◌∙◌, ℕ, false, refl, sym, ap, subst}
use Rattle.group_model.specs.Group.{About, about_open, made, open_begins, start_of_open}
use Rattle.begin_call.specs.Points.{points_of}
use Rattle.kernel_model.specs.Application.{Application}
use Rattle.kernel_model.specs.Kernel.{Instance}
use Rattle.solo.proofs.Stepped.{on_err_always}
use Rattle.group_solo.proofs.Adding.{next_is, reserved, sessions_reserved}
use Rattle.group_solo.proofs.Openings.{about_beside, added_there, begins_so, few_instances, few_sessions, made_points, made_so, new_placed, on_instance, opening_beginner, session_added, with_new, with_one_more}
use Rattle.group_solo.specs.Beginning.{begun, counted}
use Rattle.group_solo.specs.Coming.{about_of, opener_of}
use Rattle.group_solo.specs.Opening.{number_of_new}
use Rattle.group_solo.specs.Standing.{StandsFor, app_in, session_of}
use Rattle.group_solo.specs.declared.group.GroupSolo.{GroupSolo}
use Rattle.group_solo.proofs.group.GroupSolo.open_made.Goals as goal

pub returns-in_err-reserve-clause-err : goal.returns-in_err-reserve-clause-err
returns-in_err-reserve-clause-err c g stands = on_err_always _ _ (sessions_reserved c.args.self.now _ g refl c.reserve.ensures.items stands)

pub returns-in_err-reserve-2-clause-err : goal.returns-in_err-reserve-2-clause-err
returns-in_err-reserve-2-clause-err c g stands =
    on_err_always _ _ (reserved _ _ g refl c.reserve-2.ensures.items (sessions_reserved c.args.self.now _ g refl c.reserve.ensures.items stands))

pub returns-in_err-call-clause-err : goal.returns-in_err-call-clause-err
returns-in_err-call-clause-err c g stands =
    on_err_always _ _ (reserved _ _ g refl c.reserve-2.ensures.items (sessions_reserved c.args.self.now _ g refl c.reserve.ensures.items stands))

pub returns-in_err-kept-clause-err : goal.returns-in_err-kept-clause-err
returns-in_err-kept-clause-err c g stands =
    on_err_always _ _ (reserved _ _ g refl c.reserve-2.ensures.items (sessions_reserved c.args.self.now _ g refl c.reserve.ensures.items stands))

pub returns-in_err-ready-clause-err : goal.returns-in_err-ready-clause-err
returns-in_err-ready-clause-err c g stands =
    on_err_always _ _ (reserved _ _ g refl c.reserve-2.ensures.items (sessions_reserved c.args.self.now _ g refl c.reserve.ensures.items stands))

pub returns-clause-ok : goal.returns-clause-ok
returns-clause-ok c g stands numbered none =
    let s = c.args.self.now in
    let later = c.add_session.new.self in
    let number = c.next_number-number.result in
    let counts = c.new_number-instance in
    let session = session_of c.opening.result in
    let there : ℕ × Instance = (number_of_new g, made (app_in s)) in
    let roomy : GroupSolo = record s { sessions = c.reserve.new.self; calls = c.reserve-2.new.self } in
    let still : StandsFor roomy g = reserved _ _ g refl c.reserve-2.ensures.items (sessions_reserved s _ g refl c.reserve.ensures.items stands) in
    let is : counts.result ≡ number_of_new g = counts.ensures.number ∙ ap number_of_new (sym still.beside) in
    let placed = new_placed roomy counts.new.self c.place.new.self g counts.result c.in_ok-kept.kept still (few_instances g numbered)
    counts.ensures.stays counts.ensures.next counts.ensures.number c.place.ensures.stays c.place.ensures.instance c.in_ok-kept.ensures in
    let own : app_in later ≡ app_in s = ap app_in c.add_session.ensures.stays ∙ ap app_in c.place.ensures.stays ∙ ap app_in counts.ensures.stays in
    let grown = session_added c.place.new.self later (with_new (app_in s) g) c.opening.result placed numbered.given (few_sessions g numbered)
    c.add_session.ensures.stays c.add_session.ensures.sessions c.add_session.ensures.next in
    let next = next_is s g number c.next_number-number.ensures stands in
    let about : About = record (about_of c.about_open.result) { instance = counts.result } in
    let about_is : about ≡ about_open g c.args.opener.area (number_of_new g) =
    ap (λ (a : About). record a { instance = counts.result }) (about_beside roomy g c.args.opener.area 0 _ still.beside c.about_open.ensures)
    ∙ ap (λ (n : ℕ). about_open g c.args.opener.area n) is in
    let who = opening_beginner number about session c.args.params.now there in
    subst (StandsFor c.begin_last.new.self)
    (begins_so (app_in s) (with_new (app_in s) g) c.args.params.now (opener_of c.args.opener) there number session about _ _ next
    (c.opening.ensures ∙ ap (λ (n : ℕ). record { login = c.args.opener.login; context = 0; opened = false; instance = n }) is)
    about_is
    (made_points roomy counts.new.self g counts.result (number_of_new g) _ c.destroys.result still.beside counts.ensures.stays c.opening-points.ensures c.destroys.ensures is)
    ∙ ap (open_begins g (opener_of c.args.opener)) (sym (made_so (app_in s) g (start_of_open g c.args.params.now c.args.opener.login))))
    (subst (λ (app : Application). StandsFor c.begin_last.new.self
    (counted (begun app (with_one_more (with_new (app_in s) g) session) who (points_of c.opening-points.result)))) own
    (c.begin_last.ensures.begins (with_one_more (with_new (app_in s) g) session) who grown refl next
    (rw c.deref_mut.ensures.value (on_instance _ (about_of c.about_open.result) c.args.params.now counts.result c.in_ok-call.ensures.call)) refl (added_there (with_new (app_in s) g) session _ (ap (λ (a : About). a.session) about_is)) refl))
