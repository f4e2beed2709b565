use Rattle.live_player.proofs.Staging.{one_sound}
use Rattle.live_player.proofs.stage.signal_on.Goals as goal

pub take_signals-requires : goal.take_signals-requires
take_signals-requires c = (0, one_sound c.args.value c.requires.least c.requires.most)
