use Rattle.std.proofs.Common.{rules, ◌==◌, ℕ, not, ap, ◌∙◌}
use Rattle.std.proofs.lemmas.Fn.{filter_same}
use Rattle.group_solo.proofs.SessionMaps.{left}
use Rattle.group_solo.specs.Standing.{sessions_of}
use Rattle.group_solo.specs.declared.kept_session.KeptSession.{KeptSession}
use Rattle.group_solo.proofs.group.GroupSolo.remove_session.Goals as goal

pub returns-clause-sessions : goal.returns-clause-sessions
returns-clause-sessions c =
    ap sessions_of (filter_same _ (λ (e : ℕ × KeptSession). not (e.0 == c.args.number)) _ (λ x b g called. (search rules, search rules)) _ _ c.retain.ensures.filtered)
    ∙ left c.args.self.now.sessions.items c.args.number
