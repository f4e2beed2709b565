use Rattle.std.proofs.Common.{◌≡◌, ℕ, ◌+◌, ◌%◌, ◌<◌, ◌≤◌, List, length, take, drop, ap, sym, ◌∙◌, arith}
use Rattle.std.proofs.lemmas.List.{length-take-le, take-take}
use Rattle.job_model.proofs.Ranges.{length-bytes_at}
use Rattle.job_model.specs.Asking.{bytes_at}
use Rattle.ta_step.specs.Addresses.{range_at}
use Rattle.ta_step.specs.Machine.{state_of}
use Rattle.rpc_cont.proofs.SpanParts.{bytes_at-part}
use Rattle.rpc_cont.proofs.machine_span.MachineSpanSpan.part.Goals as goal

pub returns-clause-part : goal.returns-clause-part
returns-clause-part g c =
    let span = c.args.self.now in
    let s = state_of g.M.TaMemory.bytes span.machine in
    let at = c.args.at in
    let part : List ℕ = c.part-part.result.now in
    let len = c.min-len.result in
    let long = length-bytes_at s span.addr span.len span.inside in
    let some : 0 < len = omega (arith, c.part-part.ensures.some, long, c.requires) in
    let within : at + len ≤ span.len = omega (arith, long, c.requires) in
    let few : len ≤ length part = omega arith in
    let count : length (take len part) ≡ len = length-take-le len part few in
    let rest : List ℕ = drop ((span.addr + at) % 0x10000000) (range_at s (span.addr + at)) in
    ap (λ (l : List ℕ). take len l) c.part-part.ensures.part
    ∙ take-take len (length part) rest few
    ∙ bytes_at-part s span.addr span.len at len span.inside some within
    ∙ ap (λ (k : ℕ). take k (drop at (bytes_at s span.addr span.len))) (sym count)

pub returns-clause-some : goal.returns-clause-some
returns-clause-some g c =
    let span = c.args.self.now in
    let s = state_of g.M.TaMemory.bytes span.machine in
    let part : List ℕ = c.part-part.result.now in
    let len = c.min-len.result in
    let long = length-bytes_at s span.addr span.len span.inside in
    let some : 0 < len = omega (arith, c.part-part.ensures.some, long, c.requires) in
    let few : len ≤ length part = omega arith in
    omega (arith, length-take-le len part few)
