use Rattle.std.proofs.Common.{refl}
use Rattle.kernel_state.specs.Setup.{booted_of_setup}
use Rattle.kernel_state.specs.Tables.{tables_of}
use Rattle.new_calls.proofs.Coming.{is_answered, is_taken}
use Rattle.new_calls.specs.Commands.{tests_of}
use Rattle.new_calls.specs.Deciding.{call_with, taken_of}
use Rattle.new_calls.proofs.entering.new_call.Goals as goal

pub returns-in-Err-Answer-clause-decides : goal.returns-in-Err-Answer-clause-decides
returns-in-Err-Answer-clause-decides c =
    let boot = booted_of_setup c.args.found.now.setup.now in
    let tables = tables_of c.args.found.now.tables.now in
    rw c.in-Err-Answer.field-0-is
    (is_answered boot tables c.args.regs.now.a c.args.found.now.free c.in-Some.slot c.args.lane.now c.args.reads.now c.come_in.new.reads c.in-Err-Answer.answer
    c.in-Some.is (rw c.in-Err-Answer.field-0-is at c.in-Err-Answer.ensures.comes tables refl boot))

pub returns-clause-decides : goal.returns-clause-decides
returns-clause-decides c =
    let boot = booted_of_setup c.args.found.now.setup.now in
    let tables = tables_of c.args.found.now.tables.now in
    let call = call_with boot tables c.in-Ok.came.0 in
    is_taken boot tables c.args.regs.now.a c.args.found.now.free c.in-Some.slot c.args.lane.now c.args.reads.now c.come_in.new.reads c.plan.new.reads
    (tests_of c.in-Ok.came.1 call) (taken_of call c.in_ok-plan.plan) c.in-Ok.came.0.slot
    c.in-Some.is c.in-Ok.ensures.slot (c.in-Ok.ensures.comes tables refl boot) c.in_ok-plan.ensures.decides
