use Rattle.std.proofs.Common.{sym}
use Rattle.kernel_model.specs.Codes.{bad_parameters}
use Rattle.kernel_model.specs.NewCall.{settles}
use Rattle.new_calls.proofs.Commands.{register_passes, register_refused, register_unpaged}
use Rattle.new_calls.specs.Deciding.{call_of}
use Rattle.new_calls.proofs.call.CallAtEntry.register_buffer.Goals as goal

pub returns-in-Some-clause-decides : goal.returns-in-Some-clause-decides
returns-in-Some-clause-decides c before said =
    register_refused (call_of c.args.self.now) c.args.lane.now before c.args.reads.now c.args.param.now c.in-Some.code said (sym c.in-Some.ensures)

pub returns-in_default-2-clause-decides : goal.returns-in_default-2-clause-decides
returns-in_default-2-clause-decides c before said =
    let call = call_of c.args.self.now in
    register_unpaged call c.args.lane.now before c.args.reads.now c.listed_pages.new.reads c.args.param.now (settles call bad_parameters)
    said (sym c.in_default.ensures)
    (rw c.in_default-2.is at (c.in_ok-pages.ensures.walked (settles call bad_parameters)))

pub returns-clause-decides : goal.returns-clause-decides
returns-clause-decides c before said =
    let call = call_of c.args.self.now in
    rw (c.of.ensures, c.offset_in.ensures.value)
    (register_passes call c.args.lane.now before c.args.reads.now c.listed_pages.new.reads c.args.param.now c.in-Some-2.pages.items
    said (sym c.in_default.ensures)
    (rw c.in-Some-2.is at (c.in_ok-pages.ensures.walked (settles call bad_parameters))))
