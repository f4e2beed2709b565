use Rattle.ta_step.specs.Machine.{state_of}
use Rattle.rpc_cont.proofs.Spans.{around-rest}
use Rattle.rpc_cont.proofs.machine_span.MachineSpan.into_machine.Goals as goal

pub returns : goal.returns
returns g c old addr len e alike = around-rest (state_of g.M.TaMemory.bytes c.args.self.machine) old c.args.self.addr c.args.self.len addr len e alike
