use Rattle.std.proofs.Common.{[], false, get_or, sym, ap, ◌∙◌}
use Rattle.std.specs.Prelude.{slice_set}
use Rattle.std.proofs.lemmas.Option.{slice_get-get_or}
use Rattle.group_solo.proofs.SessionMaps.{opened_nowhere, opened_somewhere}
use Rattle.group_solo.specs.Standing.{sessions_of}
use Rattle.group_solo.specs.declared.kept_session.KeptSession.{KeptSession}
use Rattle.group_solo.proofs.sessions.open_session.Goals as goal

pub returns-in_default : goal.returns-in_default
returns-in_default c rising =
    opened_nowhere c.args.sessions.now c.args.number c.args.context (sym c.in_default.is ∙ c.place_of.ensures.place)

-- what a list of sessions has past its end
abbrev none : KeptSession
none = record { login = record { client = []; kind = 0 }; context = 0; opened = false; instance = 0 }

pub returns : goal.returns
returns c rising =
    let sessions = c.args.sessions.now in
    let place = c.in-Some.place in
    ap (λ (session : KeptSession). sessions_of (slice_set sessions place (c.args.number, session))) c.opened.ensures
    ∙ opened_somewhere sessions c.args.number c.args.context place (get_or sessions place (0, none)) c.in-Some.ensures.place
    (slice_get-get_or sessions place (0, none) c.in-Some.ensures.inside) rising
