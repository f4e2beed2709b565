use Rattle.std.proofs.Common.{◌≡◌, ◌≤◌, length, take, arith}
use Rattle.std.proofs.lemmas.List.{take_all}
use Rattle.core_machine.proofs.Served.{extends_none, further, is_next, served_all, served_more, served_none}
use Rattle.core_machine.proofs.Served.{served_part}
use Rattle.core_machine.proofs.machine.Machine.serve_all.Goals as goal

pub loop-served-init : goal.loop-served-init
loop-served-init c =
    let room = c.requires.room in
    record {
      so = served_none c.args.self.now c.args.answers.now.items c.args.smcs.now c.requires.can;
      room = omega arith;
    }

pub returns-in-Err-clause-serves : goal.returns-in-Err-clause-serves
returns-in-Err-clause-serves c =
    let now = c.loop-served in
    let few : now.served ≤ length c.args.smcs.now = let below = c.loop-served-test.true in omega arith in
    served_part c.args.self.now now.self c.serve_one.new.self c.args.answers.now.items now.answers.items
    c.serve_one.new.answers.items c.args.smcs.now now.served _
    c.in-Err.why now.invariant.so (is_next c.args.smcs.now now.served _ c.loop-served-test.true) few
    c.in-Err.ensures.serves

pub returns-in-Err-clause-extends : goal.returns-in-Err-clause-extends
returns-in-Err-clause-extends c =
    let now = c.loop-served in
    further c.args.self.now now.self c.serve_one.new.self now.invariant.so.extends
    (extends_none now.self c.serve_one.new.self now.answers.items c.serve_one.new.answers.items _ c.in-Err.why
    c.in-Err.ensures.serves)

pub loop-served-preserved : goal.loop-served-preserved
loop-served-preserved c =
    let now = c.loop-served in
    let room = now.invariant.room in
    let same = c.serve_one.ensures.room in
    let more = c.serve_one.ensures.len in
    record {
      so = served_more c.args.self.now now.self c.serve_one.new.self c.args.answers.now.items now.answers.items
          c.serve_one.new.answers.items c.args.smcs.now now.served _
          now.invariant.so (is_next c.args.smcs.now now.served _ c.loop-served-test.true) c.in_default.ensures.serves;
      room = omega arith;
    }

pub returns-clause-serves : goal.returns-clause-serves
returns-clause-serves c =
    let now = c.loop-served in
    let whole : take now.served c.args.smcs.now ≡ c.args.smcs.now = take_all now.served c.args.smcs.now
    c.loop-served-test.false in
    served_all c.args.self.now now.self c.args.answers.now.items now.answers.items c.args.smcs.now now.served
    now.invariant.so whole
