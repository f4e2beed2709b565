use Rattle.std.proofs.lemmas.Result.{err_from_is_err_and}
use Rattle.kernel_entry.specs.Visiting.{coming_of}
use Rattle.kernel_entry.proofs.Admitted.{resume_prepared, resume_refused}
use Rattle.kernel_entry.proofs.Arrived.{has_entered_with_room}
use Rattle.kernel_entry.proofs.Entered.{can_decide, few_read}
use Rattle.kernel_entry.proofs.returning.enter_returning.Goals as goal

pub resumed_call-requires : goal.resumed_call-requires
resumed_call-requires c = let core = c.make_room_in.new.core in can_decide core.parts c.args.visitor.regs.a core.replay

pub fit-requires : goal.fit-requires
fit-requires c = let core = c.make_room_in.new.core in few_read core.parts core.replay

pub returns-in_err-fit : goal.returns-in_err-fit
returns-in_err-fit c =
    let told = err_from_is_err_and c.from_residual.result c.from_residual.ensures.1 in
    rw (told.1, told.2) (resume_refused c.args.core.now c.make_room_in.new.core c.args.visitor c.args.lane.now c.new-reads.result c.resumed_call.new.reads
    c.in-Ok-resumed_call.call c.in_err-fit.field-0.0 c.make_room_in.ensures.more c.new-reads.ensures c.requires.resume c.in-Ok-resumed_call.ensures.decides
    c.in_err-fit.ensures)

pub admit_resumed-requires-clause-prepared : goal.admit_resumed-requires-clause-prepared
admit_resumed-requires-clause-prepared c =
    let core = c.make_room_in.new.core in
    let is = resume_prepared core.parts c.args.visitor.regs.a c.args.lane.now c.new-reads.result c.resumed_call.new.reads c.in-Ok-resumed_call.call
    c.new-reads.ensures c.requires.resume c.in-Ok-resumed_call.ensures.decides c.in-Ok-resumed_call.ensures.given c.in-Ok-resumed_call.ensures.found
    c.in-Ok.ensures.room c.in_ok-fit.ensures in
    record { lane = c.args.lane.now; is = rw c.in-Some.is at is }

pub admit_answer-requires-clause-prepared : goal.admit_answer-requires-clause-prepared
admit_answer-requires-clause-prepared c =
    let core = c.make_room_in.new.core in
    let is = resume_prepared core.parts c.args.visitor.regs.a c.args.lane.now c.new-reads.result c.resumed_call.new.reads c.in-Ok-resumed_call.call
    c.new-reads.ensures c.requires.resume c.in-Ok-resumed_call.ensures.decides c.in-Ok-resumed_call.ensures.given c.in-Ok-resumed_call.ensures.found
    c.in-Ok.ensures.room c.in_ok-fit.ensures in
    record { lane = c.args.lane.now; is = rw c.code.ensures (rw c.in-None.is at is) }

pub returns-in-Some : goal.returns-in-Some
returns-in-Some c =
    let core = c.make_room_in.new.core in
    let is = resume_prepared core.parts c.args.visitor.regs.a c.args.lane.now c.new-reads.result c.resumed_call.new.reads c.in-Ok-resumed_call.call
    c.new-reads.ensures c.requires.resume c.in-Ok-resumed_call.ensures.decides c.in-Ok-resumed_call.ensures.given c.in-Ok-resumed_call.ensures.found
    c.in-Ok.ensures.room c.in_ok-fit.ensures in
    has_entered_with_room c.args.core.now core c.admit_resumed.new.core (coming_of c.args.visitor) c.args.lane.now c.admit_resumed.result c.make_room_in.ensures.more
    (c.admit_resumed.ensures c.args.lane.now (rw c.in-Some.is at is))

pub returns-in-None : goal.returns-in-None
returns-in-None c =
    let core = c.make_room_in.new.core in
    let is = resume_prepared core.parts c.args.visitor.regs.a c.args.lane.now c.new-reads.result c.resumed_call.new.reads c.in-Ok-resumed_call.call
    c.new-reads.ensures c.requires.resume c.in-Ok-resumed_call.ensures.decides c.in-Ok-resumed_call.ensures.given c.in-Ok-resumed_call.ensures.found
    c.in-Ok.ensures.room c.in_ok-fit.ensures in
    has_entered_with_room c.args.core.now core c.admit_answer.new.core (coming_of c.args.visitor) c.args.lane.now c.admit_answer.result c.make_room_in.ensures.more
    (c.admit_answer.ensures c.args.lane.now (rw c.code.ensures (rw c.in-None.is at is)))
