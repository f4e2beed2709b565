use Rattle.std.proofs.Common.{◌≡◌, ℕ, List, Option, Some, None, ap, sym, subst, ◌∙◌, length}
use Rattle.job_model.specs.Asking.{bytes_at, object_asking}
use Rattle.job_model.specs.Steps.{Advance, on_from}
use Rattle.rpc_cont.specs.Answering.{IsAnswered}
use Rattle.rpc_cont.specs.Conts.{job_at, memory_of, call_owner}
use Rattle.rpc_msgs.specs.Answer.{Replied}
use Rattle.ta_step.specs.Machine.{state_of}
use Rattle.ta_step.specs.Requests.{object_span}
use Rattle.ta_step.specs.State.{State}
use Rattle.ta_step.specs.declared.machine.Machine.{Machine as AnyMachine}
use Rattle.ta_step.specs.declared.stop.Request.TheVariants as request
use Rattle.tee_storage.specs.ObjectCalls.{Serving}
use Rattle.tee_storage.specs.States.{StandsFor}
use Rattle.tee_storage.specs.declared.step.StorageStep.TheVariants as storage
use Rattle.rpc_cont.proofs.Asking.{holds_as, holds_there, object-served, came-over, moved}
use Rattle.rpc_cont.proofs.Answered.{waiting, come-object, goes_or_asks, in_phase, one_more, ran-answered, stored-asks, stored-there}
use Rattle.rpc_cont.proofs.Spans.{store-same_but}
use Rattle.rpc_cont.proofs.cont.Cont.object_answer.Goals as goal

pub go_on-stop-requires : goal.go_on-stop-requires
go_on-stop-requires g c =
    let bytes = g.M.TaMemory.bytes in
    let old = c.args.self.now in
    let m = c.unwrap-machine.result in
    let span = object_span c.args.call in
    let is : old.machine ≡ Some m = cc in
    let wants = holds_there old.machine _ m is c.requires.asked in
    let asks = (holds_there m.asked _ (request.Object c.args.call) wants (holds_there old.machine _ m is c.requires.can.pending.machine)).0 in
    let stored = c.into_machine.ensures (state_of bytes m) span.0 span.1 asks.in_range (c.answer-step.ensures.rest ∙ c.of-span.ensures.rest) in
    record {
      memory = c.requires.can.pending.memory;
      object = c.take-2.ensures.after;
      machine = stored-asks old.cancelled c.args.call (state_of bytes m) (state_of bytes c.into_machine.result) _ stored asks;
    }

pub returns-clause-answers : goal.returns-clause-answers
returns-clause-answers g c job waits =
    let bytes = g.M.TaMemory.bytes in
    let old = c.args.self.now in
    let owner = call_owner old in
    let call = c.args.call in
    let span = object_span call in
    let m = c.unwrap-machine.result in
    let n = c.into_machine.result in
    let s = state_of bytes m in
    let is : old.machine ≡ Some m = cc in
    let object_is : old.object ≡ Some c.unwrap-state.result = cc in
    let wants = holds_there old.machine _ m is c.requires.asked in
    let w = waiting bytes old job m (request.Object call) c.requires.can waits is wants in
    let answer = Replied c.args.reply.now in
    let more = one_more w.asked answer in
    let left = c.answer-step.new.span in
    let range = bytes_at (state_of bytes left.machine) left.addr left.len in
    let rest = c.answer-step.ensures.rest ∙ c.of-span.ensures.rest in
    let stored = c.into_machine.ensures s span.0 span.1 w.asks.in_range rest in
    let here = stored-there s (state_of bytes n) (state_of bytes left.machine) left.addr left.len span.0 span.1 left.inside w.asks.in_range rest stored in
    let come = come-object owner (bytes_at s span.0 span.1) w.asked old call old.request old.object c.unwrap-state.result object_is w.come in
    let asking = storage.Ask come.0.rpc come.0.payload in
    let came =
    subst (λ (r : List ℕ).
    StandsFor c.unwrap-state.result call owner.uuid owner.key w.asked.range w.asked.objects w.asked.answers (record { step = asking; range = r; objects = old.objects }))
    (sym c.of-span.ensures.bytes) come.1
    in
    let stands = c.answer-step.ensures.stands call owner.uuid owner.key w.asked.range w.asked.objects w.asked.answers come.0.rpc come.0.payload came in
    let step = c.answer-step.result in
    let objects = c.answer-step.new.handles in
    let now : Serving = record { step = step; range = range; objects = objects } in
    let plain = record old { object = None } in
    let mid = moved plain n objects in
    let next = on_from (job_at bytes owner w.image mid) w.image w.here (state_of bytes n) more objects (object_asking step) in
    let calm = goes_or_asks (job_at bytes owner w.image mid) w.image w.here (state_of bytes n) more objects step c.answer-step.ensures.no_panic in
    let turn =
    c.go_on-stop.ensures.turns owner w.image more w.names w.here w.at
    (came-over (state_of bytes n) call owner.uuid owner.key more.range range more.objects objects more.answers c.answer-step.new.self step here stands)
    in
    let done = ran-answered bytes mid c.go_on-stop.new.self w.image c.go_on-stop.result c.phase_behind-self.result next c.go_on-stop.ensures.stays w.runs c.phase_behind-self.ensures calm turn in
    let goes_on = λ (t : Advance). IsAnswered bytes (in_phase c.go_on-stop.new.self c.phase_behind-self.result) t in
    holds_as _ _ goes_on (w.given answer)
    (object-served bytes owner w.image plain w.here m n (Some w.asked) call more c.answer-step.new.self now goes_on w.names stored stands done)

pub returns-clause-size : goal.returns-clause-size
returns-clause-size g c =
    let bytes = g.M.TaMemory.bytes in
    let old = c.args.self.now in
    let m = c.unwrap-machine.result in
    let s = state_of bytes m in
    let span = object_span c.args.call in
    let is : old.machine ≡ Some m = cc in
    let wants = holds_there old.machine _ m is c.requires.asked in
    let asks = (holds_there m.asked _ (request.Object c.args.call) wants (holds_there old.machine _ m is c.requires.can.pending.machine)).0 in
    let stored = c.into_machine.ensures s span.0 span.1 asks.in_range (c.answer-step.ensures.rest ∙ c.of-span.ensures.rest) in
    let kept = store-same_but s span.0 _ in
    c.go_on-stop.ensures.size
    ∙ ap (λ (t : State). length t.memory) stored
    ∙ kept.memory
    ∙ ap (λ (o : Option (AnyMachine _)). length (memory_of bytes o old.memory)) (sym is)
