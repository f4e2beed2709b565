use Rattle.kernel_model.specs.Application.{booted}
use Rattle.native_tas.specs.Table.{entries}
use Rattle.client_runner.proofs.playing.play.Given as goal

abbrev pub ghosts-play_booted : goal.ghosts-play_booted
ghosts-play_booted g a = record { booted = booted a.boot (entries a.natives.now) }
