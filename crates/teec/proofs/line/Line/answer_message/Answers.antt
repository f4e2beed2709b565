use Rattle.std.proofs.Common.{ℕ, List, ap, ◌∙◌}
use Rattle.supplicant.specs.Supplicant.{answered}
use Rattle.teec.proofs.Answering.{none_held, one_held}
use Rattle.teec.proofs.line.Line.answer_message.Goals as goal

pub returns-in_default-clause-answered : goal.returns-in_default-clause-answered
returns-in_default-clause-answered g c =
    none_held (g.W.SmcPort.ram c.args.self.now.world) (g.W.SmcPort.ram c.put_refusal.new.world) c.args.self.now.supplicant c.read_request.result
    c.in_default.is c.read_request.ensures.only c.put_refusal.ensures.ram

pub returns-clause-answered : goal.returns-clause-answered
returns-clause-answered g c =
    one_held (g.W.SmcPort.ram c.args.self.now.world) (g.W.SmcPort.ram c.put_reply.new.world) c.args.self.now.supplicant c.answer-answer.new.self c.read_request.result c.in-Some.request c.in-Ok.reply
    c.in-Some.is c.read_request.ensures.only c.in-Some.ensures.found
    (c.in-Ok.ensures.reply ∙ ap (λ (payload : List ℕ). (answered c.args.self.now.supplicant c.in-Some.request.rpc payload).reply) c.bytes.ensures.bytes)
    (c.in-Ok.ensures.after ∙ ap (λ (payload : List ℕ). (answered c.args.self.now.supplicant c.in-Some.request.rpc payload).after) c.bytes.ensures.bytes)
    c.put_reply.ensures.ram
