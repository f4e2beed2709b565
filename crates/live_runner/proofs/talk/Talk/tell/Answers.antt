use Rattle.std.proofs.Common.{refl}
use Rattle.live_play.specs.Answer.{Platform, platform}
use Rattle.native_tas.specs.Table.{drivers, entries}
use Rattle.live_runner.proofs.Answered.{watch_told}
use Rattle.live_runner.proofs.talk.Talk.tell.Goals as goal

pub returns-in-Watch : goal.returns-in-Watch
returns-in-Watch g c = λ here stands can.
    let on : Platform = platform (entries c.args.natives.now) (drivers c.args.natives.now) in
    rw c.in-Watch.is (watch_told on here c.in-Watch.is_on _ c.requires.none stands.player refl)
