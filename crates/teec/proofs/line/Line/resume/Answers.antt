use Rattle.std.proofs.Common.{◌≡◌, ℕ, List, Some, inr, sym, ap, ap₂, ◌∙◌, subst}
use Rattle.smc_abi.specs.declared.regs.Regs.{Regs}
use Rattle.supplicant.specs.Supplicant.{Storage}
use Rattle.teec.specs.declared.answer.RpcKind.{RpcKind}
use Rattle.teec.specs.declared.fault.TeecFault.{TeecFault}
use Rattle.teec.specs.Rounds.{Resumes, Stage, regs_at}
use Rattle.teec.specs.Runs.{AnswersRpc, IsStop, Scene, moment, scene_of}
use Rattle.teec.proofs.Going.{if_err_three, not_spent, passed_on, stopped_at}
use Rattle.teec.proofs.line.Line.resume.Goals as goal

pub returns-in_err-answer_rpc-clause-stopped : goal.returns-in_err-answer_rpc-clause-stopped
returns-in_err-answer_rpc-clause-stopped g c =
    passed_on c.from_residual.result c.in_err-answer_rpc.field-0.0 _ c.from_residual.ensures.1 (λ limits call returns.
    stopped_at limits call
    (moment (g.W.SmcPort.ram c.args.self.now.world) (g.W.SmcPort.made c.args.self.now.world) c.args.self.now.supplicant (Resumes returns c.args.rpc.now))
    (scene_of (g.W.SmcPort.ram c.answer_rpc.new.self.world) c.answer_rpc.new.self.supplicant) (g.W.SmcPort.made c.answer_rpc.new.self.world) (g.W.SmcPort.has_room c.answer_rpc.new.self.world) c.in_err-answer_rpc.field-0.0
    (sym c.answer_rpc.ensures.made)
    (subst (λ (fault : TeecFault). IsStop (Resumes returns c.args.rpc.now) (g.W.SmcPort.has_room c.answer_rpc.new.self.world) fault) (sym c.in_err-answer_rpc.ensures.fault)
    (inr (returns, c.args.rpc.now.thread, ap (λ (kind : RpcKind). Resumes returns (record { kind = kind; thread = c.args.rpc.now.thread })) c.in_err-answer_rpc.ensures.short)))
    (not_spent c.in_err-answer_rpc.field-0.0 c.in_err-answer_rpc.ensures.fault))

pub returns-clause-stopped : goal.returns-clause-stopped
returns-clause-stopped g c =
    if_err_three c.smc.result (λ fault. g.W.SmcPort.ram c.smc.new.self.world ≡ g.W.SmcPort.ram c.answer_rpc.new.self.world) (λ fault. g.W.SmcPort.made c.smc.new.self.world ≡ g.W.SmcPort.made c.answer_rpc.new.self.world)
    (λ fault. (stage : Stage) → regs_at stage ≡ Some c.return_from_rpc.result → IsStop stage (g.W.SmcPort.has_room c.smc.new.self.world) fault) _
    (λ fault stays same stop. λ limits call returns.
    stopped_at limits call
    (moment (g.W.SmcPort.ram c.args.self.now.world) (g.W.SmcPort.made c.args.self.now.world) c.args.self.now.supplicant (Resumes returns c.args.rpc.now))
    (scene_of (g.W.SmcPort.ram c.smc.new.self.world) c.smc.new.self.supplicant) (g.W.SmcPort.made c.smc.new.self.world) (g.W.SmcPort.has_room c.smc.new.self.world) fault
    (sym (same ∙ c.answer_rpc.ensures.made)) (stop (Resumes returns c.args.rpc.now) (ap (λ (regs : Regs). Some regs) (sym c.return_from_rpc.ensures)))
    (λ spent. subst (λ (now : Scene). AnswersRpc c.args.rpc.now.kind (scene_of (g.W.SmcPort.ram c.args.self.now.world) c.args.self.now.supplicant) now)
    (sym (ap₂ (λ (ram : List ℕ) (storage : Storage). scene_of ram storage) stays c.smc.ensures.storage)) c.in_ok-answer_rpc.ensures.answered))
    c.smc.ensures.ram_stays c.smc.ensures.made_stays c.smc.ensures.stop
