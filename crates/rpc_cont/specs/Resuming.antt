-- What a call is resumed with.
use Rattle.std.specs.Prelude.{Option, Some, None}
use Rattle.rpc_cont.specs.declared.input.ResumeInput.{ResumeInput}
use Rattle.rpc_cont.specs.declared.input.ResumeInput.TheVariants as input
use Rattle.rpc_msgs.specs.Answer.{RpcAnswer, Replied, NoBuffer}

-- the answer to its request, if that is what it gets
abbrev pub answer_in : ResumeInput → Option RpcAnswer
answer_in input.Nothing = None
answer_in (input.Buffer addr cookie) = None
answer_in input.NoBuffer = Some NoBuffer
answer_in (input.Reply reply) = Some (Replied reply.value)
