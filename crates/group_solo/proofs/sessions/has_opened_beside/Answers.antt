use Rattle.std.proofs.Common.{◌∙◌}
use Rattle.group_solo.proofs.SessionMaps.{beside}
use Rattle.group_solo.proofs.sessions.has_opened_beside.Goals as goal

pub returns : goal.returns
returns c = c.any_opened_beside.ensures ∙ beside c.args.sessions.now c.args.number c.args.instance
