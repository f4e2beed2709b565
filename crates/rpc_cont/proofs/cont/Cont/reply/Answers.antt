use Rattle.std.proofs.Common.{Some, ap, ◌∙◌}
use Rattle.rpc_cont.specs.Conts.{call_owner}
use Rattle.rpc_msgs.specs.Answer.{Replied}
use Rattle.ta_step.specs.Machine.{state_of}
use Rattle.ta_step.specs.declared.stop.Request.TheVariants as request
use Rattle.rpc_cont.proofs.Asking.{from_there, holds_there}
use Rattle.rpc_cont.proofs.Pending.{has_object}
use Rattle.rpc_cont.proofs.Answered.{waiting, answered_plain, gives-answered, time-gives, wait-gives}
use Rattle.rpc_cont.proofs.cont.Cont.reply.Goals as goal

pub returns-in-Time-clause-answers : goal.returns-in-Time-clause-answers
returns-in-Time-clause-answers g c job waits =
    let bytes = g.M.TaMemory.bytes in
    let old = c.args.self.now in
    let answer = Replied c.args.reply.now in
    let told = c.told_time-r0.result in
    from_there old.machine _ c.asked.ensures
    (λ m there wants.
    let time = wants ∙ ap Some c.in-Time.is in
    let w = waiting bytes old job m request.Time c.requires waits there time in
    gives-answered bytes old c.answer.new.self job m request.Time w answer told.0 told.1 told.2 c.requires.pending.memory
    (answered_plain old c.answer.new.self (has_object (call_owner old) w.asked old (state_of bytes m) request.Time old.request old.object w.come) c.answer.ensures.stays)
    (holds_there old.machine _ m there c.answer.ensures.gives request.Time time)
    (time-gives bytes old job m w answer told.0 told.1 told.2 (ap Some c.told_time-r0.ensures)))

pub returns-in-Suspend-clause-answers : goal.returns-in-Suspend-clause-answers
returns-in-Suspend-clause-answers g c job waits =
    let bytes = g.M.TaMemory.bytes in
    let old = c.args.self.now in
    let answer = Replied c.args.reply.now in
    let code = c.waited-code.result in
    let ms = c.in-Suspend.field-0 in
    from_there old.machine _ c.asked.ensures
    (λ m there wants.
    let wait = wants ∙ ap Some c.in-Suspend.is in
    let w = waiting bytes old job m (request.Suspend ms) c.requires waits there wait in
    gives-answered bytes old c.answer-in-Suspend.new.self job m (request.Suspend ms) w answer code 0 0 c.requires.pending.memory
    (answered_plain old c.answer-in-Suspend.new.self
    (has_object (call_owner old) w.asked old (state_of bytes m) (request.Suspend ms) old.request old.object w.come) c.answer-in-Suspend.ensures.stays)
    (holds_there old.machine _ m there c.answer-in-Suspend.ensures.gives (request.Suspend ms) wait)
    (wait-gives bytes old job m ms w answer code (holds_there old.machine _ m there c.waited-code.ensures)))
