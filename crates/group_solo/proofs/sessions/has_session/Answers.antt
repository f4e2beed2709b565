use Rattle.std.proofs.Common.{◌∙◌}
use Rattle.group_solo.proofs.SessionMaps.{there}
use Rattle.group_solo.proofs.sessions.has_session.Goals as goal

pub returns : goal.returns
returns c = c.any_there.ensures ∙ there c.args.sessions.now c.args.instance
