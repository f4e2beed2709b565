use Rattle.std.proofs.Common.{ℕ, sym, ap, ◌∙◌}
use Rattle.std.specs.Option.{option_copied, option_map}
use Rattle.group_solo.proofs.SessionMaps.{found}
use Rattle.group_solo.specs.Standing.{session_of}
use Rattle.group_solo.specs.declared.kept_session.KeptSession.{KeptSession}
use Rattle.group_solo.proofs.sessions.session_at.Goals as goal

pub returns-in_default : goal.returns-in_default
returns-in_default c =
    ap (option_map (λ (e : ℕ × KeptSession). session_of e.1)) (sym (ap option_copied c.in_default.is) ∙ c.entry_at.ensures)
    ∙ found c.args.sessions.now c.args.number

pub returns : goal.returns
returns c =
    ap (option_map (λ (e : ℕ × KeptSession). session_of e.1)) (sym (ap option_copied c.in-Some.is) ∙ c.entry_at.ensures)
    ∙ found c.args.sessions.now c.args.number
