use Rattle.std.proofs.Common.{arith, ◌∙◌}
use Rattle.std.proofs.Math.ListN.{length-set}
use Rattle.trace_bin.specs.Record.{is_register, register, register_places}
use Rattle.trace_bin.proofs.Places.{forms_more, values_more}
use Rattle.trace_bin.proofs.body.registers.Goals as goal

pub loop-number-preserved : goal.loop-number-preserved
loop-number-preserved c =
    let body = c.args.body.now in
    let i = c.loop-number.number in
    let so_far = c.loop-number.invariant in
    record {
      whole = length-set c.loop-number.regs i _ ∙ so_far.whole;
      forms = forms_more (is_register body) register_places i _ _ c.loop-number-test.true c.in_ok-regs.ensures.0 so_far.forms;
      read = values_more (register body) register_places c.loop-number.regs i _ _ _ c.loop-number-test.true (omega arith) c.in_ok-regs.ensures.1 so_far.read;
    }
