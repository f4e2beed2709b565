use Rattle.std.proofs.Common.{sym, ◌∙◌}
use Rattle.live_play.specs.Answer.{Platform, platform}
use Rattle.native_tas.specs.Table.{drivers, entries}
use Rattle.live_runner.proofs.Answered.{unwatched_taken, watched_taken}
use Rattle.live_runner.proofs.talk.Talk.take_line.Goals as goal

pub returns-then-self : goal.returns-then-self
returns-then-self g c = λ here stands.
    let on : Platform = platform (entries c.args.natives.now) (drivers c.args.natives.now) in
    watched_taken on here c.args.self.now.line.items c.take_watched_line.result _ c.args.self.now.answer.items c.requires.none
    stands.watching (sym stands.watching ∙ c.if-self.true)
    (rw c.as_slice-line.ensures.value at (c.take_watched_line.ensures here.lines stands.player))

pub returns-else-self : goal.returns-else-self
returns-else-self g c = λ here stands.
    let on : Platform = platform (entries c.args.natives.now) (drivers c.args.natives.now) in
    unwatched_taken on here c.args.self.now.line.items c.take_line.result _ c.args.self.now.answer.items c.requires.none
    stands.watching (sym stands.watching ∙ c.if-self.false)
    (rw c.as_slice-line.ensures.value at (c.take_line.ensures here.lines stands.player))
