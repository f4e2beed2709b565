use Rattle.std.proofs.Common.{[]}
use Rattle.kernel_entry.specs.Visiting.{coming_of}
use Rattle.kernel_entry.proofs.Admitted.{answer_prepared}
use Rattle.kernel_entry.proofs.Arrived.{has_entered_with_room}
use Rattle.kernel_entry.proofs.Entered.{few_read}
use Rattle.kernel_entry.proofs.answering.enter_at_once.Goals as goal

pub admit_answer-requires-clause-prepared : goal.admit_answer-requires-clause-prepared
admit_answer-requires-clause-prepared c =
    let core = c.make_room_in.new.core in
    record {
      lane = [];
      is = answer_prepared c.args.core.now.parts core.parts c.args.visitor.regs.a [] c.args.answer c.new.result c.make_room_in.ensures.more c.requires.fixed c.new.ensures
          c.in-Ok.ensures.room (few_read core.parts core.replay);
    }

pub returns : goal.returns
returns c lane =
    let core = c.make_room_in.new.core in
    has_entered_with_room c.args.core.now core c.admit_answer.new.core (coming_of c.args.visitor) lane c.admit_answer.result c.make_room_in.ensures.more
    (c.admit_answer.ensures lane (answer_prepared c.args.core.now.parts core.parts c.args.visitor.regs.a lane c.args.answer c.new.result c.make_room_in.ensures.more
    c.requires.fixed c.new.ensures c.in-Ok.ensures.room (few_read core.parts core.replay)))
