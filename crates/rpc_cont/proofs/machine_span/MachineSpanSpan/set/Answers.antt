use Rattle.std.proofs.Common.{◌∙◌, ap}
use Rattle.job_model.specs.Asking.{bytes_at}
use Rattle.rpc_cont.specs.Spans.{rest_of}
use Rattle.ta_step.specs.Machine.{state_of}
use Rattle.ta_step.specs.State.{State}
use Rattle.ta_step.specs.SystemCalls.{is_range}
use Rattle.rpc_cont.proofs.Spans.{bytes_at-one, rest_of-one, is_range-one}
use Rattle.rpc_cont.proofs.machine_span.MachineSpanSpan.set.Goals as goal

pub invariant_of-self : goal.invariant_of-self
invariant_of-self g c =
    let span = c.args.self.now in
    let old = state_of g.M.TaMemory.bytes span.machine in
    record {
      inside =
          ap (λ (s : State). is_range s span.addr span.len) c.store.ensures.state
          ∙ is_range-one old span.addr span.len c.args.at c.args.byte span.inside c.requires;
    }

pub returns-clause-bytes : goal.returns-clause-bytes
returns-clause-bytes g c =
    let span = c.args.self.now in
    let old = state_of g.M.TaMemory.bytes span.machine in
    ap (λ (s : State). bytes_at s span.addr span.len) c.store.ensures.state
    ∙ bytes_at-one old span.addr span.len c.args.at c.args.byte span.inside c.requires

pub returns-clause-rest : goal.returns-clause-rest
returns-clause-rest g c =
    let span = c.args.self.now in
    let old = state_of g.M.TaMemory.bytes span.machine in
    ap (λ (s : State). rest_of s span.addr span.len) c.store.ensures.state
    ∙ rest_of-one old span.addr span.len c.args.at c.args.byte span.inside c.requires
