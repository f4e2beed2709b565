use Rattle.std.proofs.Common.{◌≡◌, Some, ap, refl, ◌∙◌}
use Rattle.job_model.specs.Asking.{bytes_at}
use Rattle.rpc_cont.specs.Conts.{call_owner}
use Rattle.rpc_msgs.specs.Answer.{NoBuffer}
use Rattle.ta_params.specs.declared.codes.TheConstants.{TEE_ERROR_OUT_OF_MEMORY}
use Rattle.ta_step.specs.Machine.{state_of}
use Rattle.ta_step.specs.Requests.{object_span}
use Rattle.ta_step.specs.declared.stop.Request.TheVariants as request
use Rattle.rpc_cont.proofs.Asking.{from_there, holds_there}
use Rattle.rpc_cont.proofs.Pending.{has_object}
use Rattle.rpc_cont.proofs.Answered.{waiting, answered_plain, gives-answered, time-gives, wait-gives, come-object, object-fails}
use Rattle.rpc_cont.proofs.cont.Cont.without_buffer.Goals as goal

pub returns-in-Time-clause-answers : goal.returns-in-Time-clause-answers
returns-in-Time-clause-answers g c job waits =
    let bytes = g.M.TaMemory.bytes in
    let old = c.args.self.now in
    from_there old.machine _ c.asked.ensures
    (λ m there wants.
    let time = wants ∙ ap Some c.in-Time.is in
    let w = waiting bytes old job m request.Time c.requires waits there time in
    gives-answered bytes old c.answer.new.self job m request.Time w NoBuffer TEE_ERROR_OUT_OF_MEMORY 0 0 c.requires.pending.memory
    (answered_plain old c.answer.new.self (has_object (call_owner old) w.asked old (state_of bytes m) request.Time old.request old.object w.come) c.answer.ensures.stays)
    (holds_there old.machine _ m there c.answer.ensures.gives request.Time time)
    (time-gives bytes old job m w NoBuffer TEE_ERROR_OUT_OF_MEMORY 0 0 refl))

pub returns-in-Suspend-clause-answers : goal.returns-in-Suspend-clause-answers
returns-in-Suspend-clause-answers g c job waits =
    let bytes = g.M.TaMemory.bytes in
    let old = c.args.self.now in
    let code = c.waited-code.result in
    let ms = c.in-Suspend.field-0 in
    from_there old.machine _ c.asked.ensures
    (λ m there wants.
    let wait = wants ∙ ap Some c.in-Suspend.is in
    let w = waiting bytes old job m (request.Suspend ms) c.requires waits there wait in
    gives-answered bytes old c.answer-in-Suspend.new.self job m (request.Suspend ms) w NoBuffer code 0 0 c.requires.pending.memory
    (answered_plain old c.answer-in-Suspend.new.self
    (has_object (call_owner old) w.asked old (state_of bytes m) (request.Suspend ms) old.request old.object w.come) c.answer-in-Suspend.ensures.stays)
    (holds_there old.machine _ m there c.answer-in-Suspend.ensures.gives (request.Suspend ms) wait)
    (wait-gives bytes old job m ms w NoBuffer code (holds_there old.machine _ m there c.waited-code.ensures)))

pub returns-in-Object-clause-answers : goal.returns-in-Object-clause-answers
returns-in-Object-clause-answers g c job waits =
    let bytes = g.M.TaMemory.bytes in
    let old = c.args.self.now in
    let owner = call_owner old in
    let call = c.in-Object.field-0 in
    let span = object_span call in
    let state = c.unwrap-state.result in
    let code = c.no_buffer.result in
    let is : old.object ≡ Some state = cc in
    from_there old.machine _ c.asked.ensures
    (λ m there wants.
    let object = wants ∙ ap Some c.in-Object.is in
    let range = bytes_at (state_of bytes m) span.0 span.1 in
    let w = waiting bytes old job m (request.Object call) c.requires waits there object in
    let come = come-object owner range w.asked old call old.request old.object state is w.come in
    gives-answered bytes old c.answer-in-Object.new.self job m (request.Object call) w NoBuffer code 0 0 c.requires.pending.memory
    (answered_plain (record old { object = c.take.new.self }) c.answer-in-Object.new.self c.take.ensures.after c.answer-in-Object.ensures.stays)
    (holds_there old.machine _ m there c.answer-in-Object.ensures.gives (request.Object call) object)
    (object-fails bytes old job m call w NoBuffer code
    (c.no_buffer.ensures.serves call owner.uuid owner.key w.asked.range range w.asked.objects old.objects w.asked.answers come.0.rpc come.0.payload come.1)))
