use Rattle.live_play.proofs.Traces.{good_conversations_are_traces as law}
use Rattle.live_play.proofs.laws.good_conversations_are_traces.Goals as goal

pub returns : goal.returns
returns c = law
