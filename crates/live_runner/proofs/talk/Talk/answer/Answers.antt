use Rattle.live_play.specs.Answer.{Platform, platform}
use Rattle.native_tas.specs.Table.{drivers, entries}
use Rattle.live_runner.proofs.Answered.{cut_answered, line_answered, long_answered}
use Rattle.live_runner.proofs.talk.Talk.answer.Goals as goal

pub answer_line-requires-clause-stands : goal.answer_line-requires-clause-stands
answer_line-requires-clause-stands g c = (c.requires.0, record { player = c.requires.1.player; watching = c.requires.1.watching })

pub returns-in-Line : goal.returns-in-Line
returns-in-Line g c = λ here input stands is.
    let on : Platform = platform (entries c.args.natives.now) (drivers c.args.natives.now) in
    line_answered on here c.args.self.now.line.items input _ c.answer_line.result (rw c.in-Line.is at is)
    (c.answer_line.ensures here (record { player = stands.player; watching = stands.watching }))

pub returns-in-Long : goal.returns-in-Long
returns-in-Long g c = λ here input stands is.
    let on : Platform = platform (entries c.args.natives.now) (drivers c.args.natives.now) in
    long_answered on here c.args.self.now.line.items input _ _ c.push_too_long.result (rw c.in-Long.is at is)
    c.clear.ensures.items (record { player = stands.player; watching = stands.watching }) c.push_too_long.ensures

pub returns-in-Cut : goal.returns-in-Cut
returns-in-Cut g c = λ here input stands is.
    let on : Platform = platform (entries c.args.natives.now) (drivers c.args.natives.now) in
    cut_answered on here c.args.self.now.line.items input _ _ c.push_bad.result (rw c.in-Cut.is at is)
    c.clear.ensures.items (record { player = stands.player; watching = stands.watching }) c.push_bad.ensures
