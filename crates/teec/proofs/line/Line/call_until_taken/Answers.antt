use Rattle.std.proofs.Common.{ℕ, List, Some, sym, ap, ap₂, ◌∙◌, subst}
use Rattle.smc_abi.specs.declared.regs.Regs.{Regs}
use Rattle.smc_port.specs.Smc.{Makes}
use Rattle.supplicant.specs.Supplicant.{Storage}
use Rattle.teec.specs.Runs.{scene_of}
use Rattle.teec.proofs.Going.{passed_on}
use Rattle.teec.proofs.Trying.{tried_more, tried_stopped, tried_taken}
use Rattle.teec.proofs.line.Line.call_until_taken.Goals as goal

pub returns-in_err-answer-clause-stopped : goal.returns-in_err-answer-clause-stopped
returns-in_err-answer-clause-stopped g c =
    passed_on c.from_residual.result c.in_err-answer.field-0.0 _ c.from_residual.ensures.1 (λ call old prepared.
    tried_stopped c.args.limits.now call old (scene_of (g.W.SmcPort.ram c.args.self.now.world) c.args.self.now.supplicant) (g.W.SmcPort.made c.args.self.now.world)
    c.loop-tries.tries (scene_of (g.W.SmcPort.ram c.loop-tries.self.world) c.loop-tries.self.supplicant) (g.W.SmcPort.made c.loop-tries.self.world) (scene_of (g.W.SmcPort.ram c.smc.new.self.world) c.smc.new.self.supplicant) (g.W.SmcPort.made c.smc.new.self.world) (g.W.SmcPort.has_room c.smc.new.self.world) c.in_err-answer.field-0.0
    prepared.written c.loop-tries-test.true (c.loop-tries.invariant.1 call old prepared)
    (ap₂ (λ (ram : List ℕ) (storage : Storage). scene_of ram storage) c.in_err-answer.ensures.ram_stays c.in_err-answer.ensures.storage) c.in_err-answer.ensures.made_stays
    (λ stage next. c.in_err-answer.ensures.stop stage (next ∙ ap (λ (regs : Regs). Some regs) (sym c.call_with_arg.ensures))))

pub returns-in_default-clause-taken : goal.returns-in_default-clause-taken
returns-in_default-clause-taken g c = λ call old prepared.
    tried_taken c.args.limits.now call old (scene_of (g.W.SmcPort.ram c.args.self.now.world) c.args.self.now.supplicant) (g.W.SmcPort.made c.args.self.now.world)
    c.loop-tries.tries (scene_of (g.W.SmcPort.ram c.loop-tries.self.world) c.loop-tries.self.supplicant) (scene_of (g.W.SmcPort.ram c.smc.new.self.world) c.smc.new.self.supplicant) (g.W.SmcPort.made c.loop-tries.self.world) (g.W.SmcPort.made c.smc.new.self.world) c.in_ok-answer.answer
    prepared.written c.loop-tries-test.true (c.loop-tries.invariant.1 call old prepared)
    (subst (λ (regs : Regs). Makes (g.W.SmcPort.ram c.loop-tries.self.world) (g.W.SmcPort.made c.loop-tries.self.world) regs c.in_ok-answer.answer (g.W.SmcPort.ram c.smc.new.self.world) (g.W.SmcPort.made c.smc.new.self.world))
    c.call_with_arg.ensures c.in_ok-answer.ensures.made)
    c.in_ok-answer.ensures.storage (λ says. c.in_default.not-NoThread (c.of.ensures ∙ says))

pub loop-tries-preserved : goal.loop-tries-preserved
loop-tries-preserved g c = (
  c.in_ok-answer.ensures.storage ∙ c.loop-tries.invariant.0,
  λ call old prepared.
      tried_more c.args.limits.now call old (scene_of (g.W.SmcPort.ram c.args.self.now.world) c.args.self.now.supplicant) (g.W.SmcPort.made c.args.self.now.world)
      c.loop-tries.tries (scene_of (g.W.SmcPort.ram c.loop-tries.self.world) c.loop-tries.self.supplicant) (scene_of (g.W.SmcPort.ram c.smc.new.self.world) c.smc.new.self.supplicant) (g.W.SmcPort.made c.loop-tries.self.world) (g.W.SmcPort.made c.smc.new.self.world) c.in_ok-answer.answer
      prepared.written c.loop-tries-test.true (c.loop-tries.invariant.1 call old prepared)
      (subst (λ (regs : Regs). Makes (g.W.SmcPort.ram c.loop-tries.self.world) (g.W.SmcPort.made c.loop-tries.self.world) regs c.in_ok-answer.answer (g.W.SmcPort.ram c.smc.new.self.world) (g.W.SmcPort.made c.smc.new.self.world))
      c.call_with_arg.ensures c.in_ok-answer.ensures.made)
      c.in_ok-answer.ensures.storage (sym c.of.ensures ∙ c.in-NoThread.is),
)
