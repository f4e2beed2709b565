use Rattle.live_play.proofs.Refused.{refused_lines_change_nothing as law}
use Rattle.live_play.proofs.laws.refused_lines_change_nothing.Goals as goal

pub returns : goal.returns
returns c = law
