use Rattle.std.proofs.Common.{refl, subst}
use Rattle.solo.proofs.Stepped.{on_err_always}
use Rattle.group_solo.proofs.Adding.{line_reserved, next_is, reserved, sessions_reserved}
use Rattle.group_solo.proofs.Openings.{about_beside, few_sessions, session_added, waits_so}
use Rattle.group_solo.specs.Coming.{opener_of}
use Rattle.group_solo.specs.Standing.{StandsFor}
use Rattle.group_solo.specs.declared.group.GroupSolo.{GroupSolo}
use Rattle.group_solo.proofs.group.GroupSolo.wait_to_open.Goals as goal

pub returns-in_err-reserve-clause-err : goal.returns-in_err-reserve-clause-err
returns-in_err-reserve-clause-err c g stands = on_err_always _ _ (sessions_reserved c.args.self.now _ g refl c.reserve.ensures.items stands)

pub returns-in_err-reserve-2-clause-err : goal.returns-in_err-reserve-2-clause-err
returns-in_err-reserve-2-clause-err c g stands =
    on_err_always _ _ (line_reserved _ _ g refl c.reserve-2.ensures.items (sessions_reserved c.args.self.now _ g refl c.reserve.ensures.items stands))

pub returns-in_err-reserve-3-clause-err : goal.returns-in_err-reserve-3-clause-err
returns-in_err-reserve-3-clause-err c g stands =
    on_err_always _ _ (reserved _ _ g refl c.reserve-3.ensures.items
    (line_reserved _ _ g refl c.reserve-2.ensures.items (sessions_reserved c.args.self.now _ g refl c.reserve.ensures.items stands)))

pub returns-in_err-call-clause-err : goal.returns-in_err-call-clause-err
returns-in_err-call-clause-err c g stands =
    on_err_always _ _ (reserved _ _ g refl c.reserve-3.ensures.items
    (line_reserved _ _ g refl c.reserve-2.ensures.items (sessions_reserved c.args.self.now _ g refl c.reserve.ensures.items stands)))

pub returns-clause-ok : goal.returns-clause-ok
returns-clause-ok c g stands numbered =
    let s = c.args.self.now in
    let roomy : GroupSolo = record s { sessions = c.reserve.new.self; waiting = c.reserve-2.new.self; calls = c.reserve-3.new.self } in
    let still : StandsFor roomy g = reserved _ _ g refl c.reserve-3.ensures.items
    (line_reserved _ _ g refl c.reserve-2.ensures.items (sessions_reserved s _ g refl c.reserve.ensures.items stands)) in
    let grown = session_added roomy c.add_session.new.self g c.opening.result still numbered.given (few_sessions g numbered) c.add_session.ensures.stays c.add_session.ensures.sessions c.add_session.ensures.next in
    subst (StandsFor c.wait_last.new.self)
    (waits_so g c.args.params.now (opener_of c.args.opener) c.args.instance c.next_number.result _ _ (next_is s g c.next_number.result c.next_number.ensures stands)
    c.opening.ensures (about_beside roomy g c.args.opener.area c.args.instance _ still.beside c.about_open.ensures))
    (c.wait_last.ensures.waits _ _ grown c.in_ok-call.ensures.call)
