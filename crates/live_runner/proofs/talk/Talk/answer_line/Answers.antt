use Rattle.std.proofs.Common.{refl}
use Rattle.live_play.specs.Answer.{Platform, platform}
use Rattle.live_play.specs.Showing.{Position}
use Rattle.live_text.specs.Asking.{kind_of_line}
use Rattle.native_tas.specs.Table.{drivers, entries}
use Rattle.live_runner.proofs.Answered.{asked_can, broken_answered, question_answered}
use Rattle.live_runner.proofs.talk.Talk.answer_line.Goals as goal

pub tell-requires-clause-stands : goal.tell-requires-clause-stands
tell-requires-clause-stands g c =
    let on : Platform = platform (entries c.args.natives.now) (drivers c.args.natives.now) in
    let here : Position = c.requires.stands.0 in (
      here,
      c.requires.stands.1,
      asked_can here.lines c.args.self.now.line.items c.in-Some-Ok.question c.scene.result.now
          (kind_of_line c.args.self.now.line.items) (c.scene.ensures on here.lines c.requires.stands.1.player)
          (rw c.as_slice.ensures.value at (rw c.in-Some-Ok.field-0-is at c.in-Some-Ok.ensures.asked)),
    )

pub returns-in_ok-tell-in-Some-Ok : goal.returns-in_ok-tell-in-Some-Ok
returns-in_ok-tell-in-Some-Ok g c = λ here stands.
    let on : Platform = platform (entries c.args.natives.now) (drivers c.args.natives.now) in
    let booted = c.scene.ensures on here.lines stands.player in
    let judged = rw c.as_slice.ensures.value at (rw c.in-Some-Ok.field-0-is at c.in-Some-Ok.ensures.asked) in
    question_answered on here c.args.self.now.line.items c.in-Some-Ok.question c.scene.result.now c.tell.new.self _
    c.push_done.result booted judged
    (c.in_ok-tell-in-Some-Ok.ensures here stands
    (asked_can here.lines c.args.self.now.line.items c.in-Some-Ok.question c.scene.result.now
    (kind_of_line c.args.self.now.line.items) booted judged))
    refl refl c.push_done.ensures

pub returns-in-Some-Err : goal.returns-in-Some-Err
returns-in-Some-Err g c = λ here stands.
    let on : Platform = platform (entries c.args.natives.now) (drivers c.args.natives.now) in
    broken_answered on here c.args.self.now.line.items c.in-Some-Err.fault c.scene.result.now c.args.self.now _ c.push_fault.result
    (c.scene.ensures on here.lines stands.player)
    (rw c.as_slice.ensures.value at (rw c.in-Some-Err.field-0-is at c.in-Some-Err.ensures.asked))
    c.requires.none stands refl refl c.push_fault.ensures.told c.push_fault.ensures.no_room
