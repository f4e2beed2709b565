use Rattle.ta_step.specs.Machine.{state_of}
use Rattle.rpc_cont.proofs.Spans.{slice_get-bytes_at}
use Rattle.rpc_cont.proofs.machine_span.MachineSpanSpan.get.Goals as goal

pub returns : goal.returns
returns g c =
    let span = c.args.self.now in
    slice_get-bytes_at (state_of g.M.TaMemory.bytes span.machine) span.addr span.len c.args.at c.unwrap_or.result span.inside c.requires (cc)
