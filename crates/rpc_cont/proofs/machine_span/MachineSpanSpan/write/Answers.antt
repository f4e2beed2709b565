use Rattle.std.proofs.Common.{◌+◌, ◌<◌, ◌≤◌, length, ap, ◌∙◌, arith}
use Rattle.std.proofs.lemmas.Bool.Decides.{nat_tests}
use Rattle.job_model.proofs.Ranges.{length-bytes_at}
use Rattle.job_model.specs.Asking.{bytes_at}
use Rattle.rpc_cont.specs.Spans.{rest_of}
use Rattle.ta_step.specs.Machine.{state_of}
use Rattle.ta_step.specs.State.{State}
use Rattle.ta_step.specs.SystemCalls.{is_range}
use Rattle.rpc_cont.proofs.SpanParts.{bytes_at-stored, is_range-stored, rest_of-stored}
use Rattle.rpc_cont.proofs.machine_span.MachineSpanSpan.write.Goals as goal

pub invariant_of-self : goal.invariant_of-self
invariant_of-self g c =
    let span = c.args.self.now in
    let old = state_of g.M.TaMemory.bytes span.machine in
    let some : 0 < length c.args.part.now = grind (arith, nat_tests, c.is_empty.ensures, c.if-not-is_empty.true) in
    let within : c.args.at + length c.args.part.now ≤ span.len = omega (arith, c.requires, length-bytes_at old span.addr span.len span.inside) in
    record {
      inside =
          ap (λ (s : State). is_range s span.addr span.len) c.write.ensures.state
          ∙ is_range-stored old span.addr span.len c.args.at c.args.part.now span.inside some within;
    }

pub returns-then-not-is_empty-clause-bytes : goal.returns-then-not-is_empty-clause-bytes
returns-then-not-is_empty-clause-bytes g c =
    let span = c.args.self.now in
    let old = state_of g.M.TaMemory.bytes span.machine in
    let some : 0 < length c.args.part.now = grind (arith, nat_tests, c.is_empty.ensures, c.if-not-is_empty.true) in
    let within : c.args.at + length c.args.part.now ≤ span.len = omega (arith, c.requires, length-bytes_at old span.addr span.len span.inside) in
    ap (λ (s : State). bytes_at s span.addr span.len) c.write.ensures.state
    ∙ bytes_at-stored old span.addr span.len c.args.at c.args.part.now span.inside some within

pub returns-then-not-is_empty-clause-rest : goal.returns-then-not-is_empty-clause-rest
returns-then-not-is_empty-clause-rest g c =
    let span = c.args.self.now in
    let old = state_of g.M.TaMemory.bytes span.machine in
    let some : 0 < length c.args.part.now = grind (arith, nat_tests, c.is_empty.ensures, c.if-not-is_empty.true) in
    let within : c.args.at + length c.args.part.now ≤ span.len = omega (arith, c.requires, length-bytes_at old span.addr span.len span.inside) in
    ap (λ (s : State). rest_of s span.addr span.len) c.write.ensures.state
    ∙ rest_of-stored old span.addr span.len c.args.at c.args.part.now span.inside some within
