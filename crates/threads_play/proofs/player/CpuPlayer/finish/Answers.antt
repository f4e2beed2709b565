use Rattle.std.proofs.Common.{refl}
use Rattle.threads_play.proofs.Passes.{on_same}
use Rattle.threads_play.proofs.player.CpuPlayer.finish.Goals as goal

pub returns-then-is_none-clause-on : goal.returns-then-is_none-clause-on
returns-then-is_none-clause-on g c = on_same c.args.shared.now c.args.self.now _ refl refl c.requires.on
