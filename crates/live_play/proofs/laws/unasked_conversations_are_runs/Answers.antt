use Rattle.live_play.proofs.Traces.{unasked_conversations_are_runs as law}
use Rattle.live_play.proofs.laws.unasked_conversations_are_runs.Goals as goal

pub returns : goal.returns
returns c = law
