use Rattle.std.proofs.Common.{◌∙◌, refl, sym}
use Rattle.kernel_model.specs.Decision as model
use Rattle.kernel_state.specs.Setup.{booted_of_setup}
use Rattle.kernel_state.specs.Tables.{tables_of}
use Rattle.new_calls.specs.Deciding.{call_with, taken_of}
use Rattle.kernel_entry.proofs.Decisions.{new_so}
use Rattle.kernel_entry.proofs.deciding.decide_new.Goals as goal

pub returns-in-Answers-clause-decides : goal.returns-in-Answers-clause-decides
returns-in-Answers-clause-decides c kernel stands =
    new_so c.args.parts.now kernel c.args.regs.now.a c.args.lane.now c.args.reads.now c.new_call.new.reads c.in_ok-decided.decided c.lowest_free-free.result
    (model.Answers c.in-Answers.answer) c.lowest_free-free.ensures.slot (rw c.in-Answers.is refl) stands c.in_ok-decided.ensures.decides

pub returns-in_ok-call-in-Takes-clause-decides : goal.returns-in_ok-call-in-Takes-clause-decides
returns-in_ok-call-in-Takes-clause-decides c kernel stands =
    let parts = c.args.parts.now in
    let taken = taken_of (call_with (booted_of_setup parts.setup) (tables_of parts.tables) c.in-Takes.entered) c.in-Takes.plan in
    rw c.in_ok-call-in-Takes.ensures.ok (new_so parts kernel c.args.regs.now.a c.args.lane.now c.args.reads.now c.new_call.new.reads c.in_ok-decided.decided c.lowest_free-free.result
    (model.Takes c.in-Takes.entered.slot taken) c.lowest_free-free.ensures.slot (rw c.in-Takes.is refl) stands c.in_ok-decided.ensures.decides)

pub returns-in_ok-call-in-Takes-clause-found : goal.returns-in_ok-call-in-Takes-clause-found
returns-in_ok-call-in-Takes-clause-found c = rw c.in_ok-call-in-Takes.ensures.ok (record {
  lowest = sym c.lowest_free-free.ensures.slot ∙ (rw c.in-Takes.is at c.in_ok-decided.ensures.slot);
  pins = (rw c.in-Takes.is at c.in_ok-decided.ensures.can_apply).0;
  applies = (rw c.in-Takes.is at c.in_ok-decided.ensures.can_apply).1;
})
