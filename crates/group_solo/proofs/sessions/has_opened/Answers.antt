use Rattle.std.proofs.Common.{◌∙◌}
use Rattle.group_solo.proofs.SessionMaps.{opened}
use Rattle.group_solo.proofs.sessions.has_opened.Goals as goal

pub returns : goal.returns
returns c = c.any_opened.ensures ∙ opened c.args.sessions.now c.args.instance
