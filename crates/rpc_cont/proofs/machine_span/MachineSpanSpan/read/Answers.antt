use Rattle.std.proofs.Common.{ℕ, ◌+◌, ◌<◌, ◌≤◌, length, ◌∙◌, arith}
use Rattle.std.proofs.lemmas.Bool.Decides.{nat_tests}
use Rattle.job_model.proofs.Ranges.{length-bytes_at}
use Rattle.ta_step.specs.Machine.{state_of}
use Rattle.rpc_cont.proofs.SpanParts.{bytes_at-part}
use Rattle.rpc_cont.proofs.machine_span.MachineSpanSpan.read.Goals as goal

pub returns-then-not-is_empty : goal.returns-then-not-is_empty
returns-then-not-is_empty g c =
    let span = c.args.self.now in
    let s = state_of g.M.TaMemory.bytes span.machine in
    let count : ℕ = length c.args.out.now in
    let some : 0 < length c.args.out.now = grind (arith, nat_tests, c.is_empty.ensures, c.if-not-is_empty.true) in
    let within : c.args.at + count ≤ span.len = omega (arith, c.requires, length-bytes_at s span.addr span.len span.inside) in
    c.read.ensures ∙ bytes_at-part s span.addr span.len c.args.at count span.inside some within
