use Rattle.std.proofs.Common.{refl}
use Rattle.threads_play.proofs.CpuEnds.{full_told}
use Rattle.threads_play.proofs.player.CpuPlayer.tell_full.Goals as goal

pub returns-in-Ok-clause-tells : goal.returns-in-Ok-clause-tells
returns-in-Ok-clause-tells c boot items lane was =
    full_told boot items lane c.args.copied c.args.more c.args.self.now _ refl c.in-Ok.ensures was
