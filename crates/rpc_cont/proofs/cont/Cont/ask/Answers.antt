use Rattle.std.proofs.Common.{◌≡◌, List, ℕ, [], ap, sym, subst, ◌∙◌, Option, Some, None, length}
use Rattle.job_model.specs.Owner.{owner_of}
use Rattle.job_model.specs.Asking.{bytes_at, range_of}
use Rattle.job_model.specs.Steps.{new_request}
use Rattle.rpc_cont.specs.Conts.{job_at, memory_of}
use Rattle.rpc_cont.specs.Running.{HasAskedFor}
use Rattle.ta_step.specs.Machine.{state_of}
use Rattle.ta_step.specs.Requests.{object_span}
use Rattle.ta_step.specs.State.{State}
use Rattle.ta_step.specs.declared.machine.Machine.{Machine as AnyMachine}
use Rattle.ta_step.specs.declared.stop.Request.{Request}
use Rattle.ta_step.specs.declared.stop.Request.TheVariants as request
use Rattle.tee_storage.specs.ObjectCalls.{Serving}
use Rattle.tee_storage.specs.States.{StandsFor}
use Rattle.rpc_cont.proofs.Asking.{holds_as, holds_there, object-served, came-over, unread}
use Rattle.rpc_cont.proofs.cont.Cont.ask.Goals as goal

pub go_on-requires : goal.go_on-requires
go_on-requires g c =
    let bytes = g.M.TaMemory.bytes in
    let old = c.args.self.now in
    let span = object_span c.in-Object.call in
    let s = state_of bytes c.unwrap-machine.result in
    let is : old.machine ≡ Some c.unwrap-machine.result = cc in
    let asks =
    subst (λ (r : Request). HasAskedFor old.cancelled r s) c.in-Object.is
    (holds_there old.machine _ c.unwrap-machine.result is c.requires.machine)
    in
    let kept =
    unread s (state_of bytes c.into_machine.result) span.0 span.1 _ asks.in_range
    (c.into_machine.ensures s span.0 span.1 asks.in_range c.of-span.ensures.rest) c.of-span.ensures.bytes
    in
    record {
      memory = c.requires.memory;
      object = c.requires.object;
      machine = subst (λ (t : State). HasAskedFor old.cancelled (request.Object c.in-Object.call) t) (sym kept) asks;
    }

pub returns-in-Object-clause-asks : goal.returns-in-Object-clause-asks
returns-in-Object-clause-asks g c image =
    let bytes = g.M.TaMemory.bytes in
    let old = c.args.self.now in
    let call = c.in-Object.call in
    let span = object_span call in
    let m = c.unwrap-machine.result in
    let n = c.into_machine.result in
    let s = state_of bytes m in
    let is : old.machine ≡ Some m = cc in
    let asks =
    subst (λ (r : Request). HasAskedFor old.cancelled r s) c.in-Object.is (holds_there old.machine _ m is c.requires.machine)
    in
    let stored = c.into_machine.ensures s span.0 span.1 asks.in_range c.of-span.ensures.rest in
    let kept = unread s (state_of bytes n) span.0 span.1 _ asks.in_range stored c.of-span.ensures.bytes in
    let asked = new_request (job_at bytes (owner_of c.args.uuid c.args.self.now.key) image old) s c.args.request in
    let range = bytes_at (state_of bytes c.of-span.result.machine) c.of-span.result.addr c.of-span.result.len in
    let now : Serving = record { step = c.start-state.result.1; range = range; objects = c.start-state.new.handles } in
    let named = c.of-span.ensures.bytes ∙ ap (λ (r : Request). range_of r s) (sym c.in-Object.is) in
    let stands = subst (λ (r : List ℕ). StandsFor c.start-state.result.0 call c.args.uuid old.key r old.objects [] now) named c.start-state.ensures.stands in
    holds_as old.machine (Some m) _ is
    (λ here at.
    object-served bytes (owner_of c.args.uuid c.args.self.now.key) image old here m n None call asked c.start-state.result.0 now _ c.in-Object.is stored stands
    (c.go_on.ensures.turns (owner_of c.args.uuid c.args.self.now.key) image asked c.in-Object.is here at
    (came-over (state_of bytes n) call c.args.uuid old.key asked.range range asked.objects c.start-state.new.handles [] c.start-state.result.0 c.start-state.result.1
    (ap (λ (t : State). bytes_at t span.0 span.1) kept ∙ sym c.of-span.ensures.bytes) stands)))

pub returns-in-Object-clause-size : goal.returns-in-Object-clause-size
returns-in-Object-clause-size g c =
    let bytes = g.M.TaMemory.bytes in
    let old = c.args.self.now in
    let span = object_span c.in-Object.call in
    let s = state_of bytes c.unwrap-machine.result in
    let is : old.machine ≡ Some c.unwrap-machine.result = cc in
    let asks =
    subst (λ (r : Request). HasAskedFor old.cancelled r s) c.in-Object.is
    (holds_there old.machine _ c.unwrap-machine.result is c.requires.machine)
    in
    let kept =
    unread s (state_of bytes c.into_machine.result) span.0 span.1 _ asks.in_range
    (c.into_machine.ensures s span.0 span.1 asks.in_range c.of-span.ensures.rest) c.of-span.ensures.bytes
    in
    c.go_on.ensures.size
    ∙ ap (λ (t : State). length t.memory) kept
    ∙ ap (λ (o : Option (AnyMachine _)). length (memory_of bytes o old.memory)) (sym is)
