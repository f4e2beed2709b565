use Rattle.threads_play.proofs.TracesInTurn.{sound_traces_are_in_turn as law}
use Rattle.threads_play.proofs.laws.sound_traces_are_in_turn.Goals as goal

pub returns : goal.returns
returns c = law
