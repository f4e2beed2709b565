use Rattle.std.proofs.Common.{refl}
use Rattle.live_play.specs.Answer.{Platform, platform}
use Rattle.live_play.specs.Answer as ends
use Rattle.native_tas.specs.Table.{drivers, entries}
use Rattle.live_runner.proofs.Answered.{fault_answered, plain_answered}
use Rattle.live_runner.proofs.talk.Talk.answer_plain.Goals as goal

pub returns-in-Ok-Done : goal.returns-in-Ok-Done
returns-in-Ok-Done g c = λ here stands.
    let on : Platform = platform (entries c.args.natives.now) (drivers c.args.natives.now) in
    plain_answered on here c.args.self.now.line.items ends.Done c.take_line.new.self _ c.push_done.result
    (rw c.in-Ok-Done.field-0-is at (c.in-Ok-Done.ensures here stands)) refl refl c.push_done.ensures

pub returns-in-Ok-Full : goal.returns-in-Ok-Full
returns-in-Ok-Full g c = λ here stands.
    let on : Platform = platform (entries c.args.natives.now) (drivers c.args.natives.now) in
    plain_answered on here c.args.self.now.line.items (ends.Full c.in-Ok-Full.copied) c.take_line.new.self _ c.push_full.result
    (rw c.in-Ok-Full.field-0-is at (c.in-Ok-Full.ensures here stands)) refl refl c.push_full.ensures

pub returns-in-Err : goal.returns-in-Err
returns-in-Err g c = λ here stands.
    let on : Platform = platform (entries c.args.natives.now) (drivers c.args.natives.now) in
    fault_answered on here c.args.self.now.line.items c.in-Err.fault c.take_line.new.self _ c.push_fault.result
    (c.in-Err.ensures here stands) refl refl c.push_fault.ensures.told c.push_fault.ensures.no_room
