use Rattle.std.proofs.Common.{Some, sym, ap, ◌∙◌}
use Rattle.smc_abi.specs.declared.regs.Regs.{Regs}
use Rattle.teec.specs.Rounds.{Cancels}
use Rattle.teec.specs.Runs.{moment, scene_of}
use Rattle.teec.proofs.Going.{cancel_over, cancel_prepared, cancel_strange, cancel_went, passed_on, stopped_at}
use Rattle.teec.proofs.line.Line.cancel.Goals as goal

pub returns-in_err-answer-clause-stopped : goal.returns-in_err-answer-clause-stopped
returns-in_err-answer-clause-stopped g c =
    passed_on c.from_residual.result c.in_err-answer.field-0.0 _ c.from_residual.ensures.1 (λ limits call returns rpc same.
    stopped_at limits call (moment (g.W.SmcPort.ram c.args.self.now.world) (g.W.SmcPort.made c.args.self.now.world) c.args.self.now.supplicant (Cancels returns rpc)) (scene_of (g.W.SmcPort.ram c.smc.new.self.world) c.smc.new.self.supplicant) (g.W.SmcPort.made c.smc.new.self.world) (g.W.SmcPort.has_room c.smc.new.self.world) c.in_err-answer.field-0.0
    (sym (c.in_err-answer.ensures.made_stays ∙ c.put_argument.ensures.made))
    (c.in_err-answer.ensures.stop (Cancels returns rpc) (ap (λ (regs : Regs). Some regs) (sym c.call_with_arg.ensures)))
    (λ spent. cancel_prepared call c.args.session (scene_of (g.W.SmcPort.ram c.args.self.now.world) c.args.self.now.supplicant) (scene_of (g.W.SmcPort.ram c.smc.new.self.world) c.smc.new.self.supplicant) c.cancel_argument.result
    same c.cancel_argument.ensures (c.in_err-answer.ensures.ram_stays ∙ c.put_argument.ensures.ram) (c.in_err-answer.ensures.storage ∙ c.put_argument.ensures.storage)))

pub returns-in-Unknown-clause-stopped : goal.returns-in-Unknown-clause-stopped
returns-in-Unknown-clause-stopped g c = λ limits call returns rpc same.
    cancel_strange limits call (moment (g.W.SmcPort.ram c.args.self.now.world) (g.W.SmcPort.made c.args.self.now.world) c.args.self.now.supplicant (Cancels returns rpc)) (scene_of (g.W.SmcPort.ram c.smc.new.self.world) c.smc.new.self.supplicant) (g.W.SmcPort.made c.smc.new.self.world) returns rpc c.in_ok-answer.answer (g.W.SmcPort.has_room c.smc.new.self.world)
    (sym c.of.ensures ∙ c.in-Unknown.is)
    (cancel_went limits call returns rpc c.args.session (scene_of (g.W.SmcPort.ram c.args.self.now.world) c.args.self.now.supplicant) (scene_of (g.W.SmcPort.ram c.put_argument.new.self.world) c.put_argument.new.self.supplicant) (scene_of (g.W.SmcPort.ram c.smc.new.self.world) c.smc.new.self.supplicant)
    (g.W.SmcPort.made c.args.self.now.world) (g.W.SmcPort.made c.put_argument.new.self.world) (g.W.SmcPort.made c.smc.new.self.world) c.cancel_argument.result c.call_with_arg.result c.in_ok-answer.answer
    same c.cancel_argument.ensures c.put_argument.ensures.ram c.put_argument.ensures.storage c.call_with_arg.ensures c.in_ok-answer.ensures.made
    c.put_argument.ensures.made c.in_ok-answer.ensures.storage)

pub returns-in_default-clause-went : goal.returns-in_default-clause-went
returns-in_default-clause-went g c = λ limits call returns rpc same.
    cancel_over limits call (moment (g.W.SmcPort.ram c.args.self.now.world) (g.W.SmcPort.made c.args.self.now.world) c.args.self.now.supplicant (Cancels returns rpc)) (scene_of (g.W.SmcPort.ram c.smc.new.self.world) c.smc.new.self.supplicant) (g.W.SmcPort.made c.smc.new.self.world) returns rpc c.in_ok-answer.answer
    (λ says. c.in_default.not-Unknown (c.of.ensures ∙ says))
    (cancel_went limits call returns rpc c.args.session (scene_of (g.W.SmcPort.ram c.args.self.now.world) c.args.self.now.supplicant) (scene_of (g.W.SmcPort.ram c.put_argument.new.self.world) c.put_argument.new.self.supplicant) (scene_of (g.W.SmcPort.ram c.smc.new.self.world) c.smc.new.self.supplicant)
    (g.W.SmcPort.made c.args.self.now.world) (g.W.SmcPort.made c.put_argument.new.self.world) (g.W.SmcPort.made c.smc.new.self.world) c.cancel_argument.result c.call_with_arg.result c.in_ok-answer.answer
    same c.cancel_argument.ensures c.put_argument.ensures.ram c.put_argument.ensures.storage c.call_with_arg.ensures c.in_ok-answer.ensures.made
    c.put_argument.ensures.made c.in_ok-answer.ensures.storage)
