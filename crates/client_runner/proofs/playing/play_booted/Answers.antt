use Rattle.native_tas.specs.Table.{entries}
use Rattle.client_runner.proofs.Started.{at_start}
use Rattle.client_runner.specs.Playing.{script_of}
use Rattle.client_runner.proofs.playing.play_booted.Goals as goal

pub play_calls-requires : goal.play_calls-requires
play_calls-requires g c = (
  entries c.args.natives.now,
  script_of c.args.boot c.args.fills.now c.args.calls.now,
  at_start (entries c.args.natives.now) c.args.boot c.args.fills.now c.args.calls.now g.B.OfBoot.booted
      c.new-player.result.client c.new-player.result.names c.in-Ok.port c.requires.of c.requires.sound
      c.new-player.ensures.over c.in-Ok.ensures c.new-player.ensures.client c.new-player.ensures.names,
)

pub returns-clause-told : goal.returns-clause-told
returns-clause-told g c =
    c.play_calls.ensures.told (entries c.args.natives.now) (script_of c.args.boot c.args.fills.now c.args.calls.now)
    (at_start (entries c.args.natives.now) c.args.boot c.args.fills.now c.args.calls.now g.B.OfBoot.booted
    c.new-player.result.client c.new-player.result.names c.in-Ok.port c.requires.of c.requires.sound
    c.new-player.ensures.over c.in-Ok.ensures c.new-player.ensures.client c.new-player.ensures.names)
