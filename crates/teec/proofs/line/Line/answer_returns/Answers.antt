use Rattle.std.proofs.Common.{◌≡◌, ℕ, suc, sym, ap, ◌∙◌, subst, add-one, arith}
use Rattle.teec.specs.Answers.{said}
use Rattle.teec.specs.Rounds.{after_resume, after_return}
use Rattle.teec.specs.Runs.{Went, moment, scene_of}
use Rattle.teec.proofs.Going.{passed_on, returned_so, returned_bound, returned_end, returned_next, returned_strange, stopped_then, went_then}
use Rattle.teec.proofs.line.Line.answer_returns.Goals as goal

pub returns-in_err-rpc-clause-stopped : goal.returns-in_err-rpc-clause-stopped
returns-in_err-rpc-clause-stopped g c =
    passed_on c.from_residual.result c.in_err-rpc.field-0.0 _ c.from_residual.ensures.1 (λ call same.
    returned_strange c.args.limits.now call (moment (g.W.SmcPort.ram c.args.self.now.world) (g.W.SmcPort.made c.args.self.now.world) c.args.self.now.supplicant (after_resume c.args.limits.now 0 c.args.first (said c.args.first)))
    (scene_of (g.W.SmcPort.ram c.loop-returns.self.world) c.loop-returns.self.supplicant) (g.W.SmcPort.made c.loop-returns.self.world) c.loop-returns.returns c.loop-returns.answer (g.W.SmcPort.has_room c.loop-returns.self.world) c.in_err-rpc.field-0.0
    (sym c.rpc_return.ensures ∙ c.in_err-rpc.was) (c.loop-returns.invariant call same))

pub returns-in_default-clause-ended : goal.returns-in_default-clause-ended
returns-in_default-clause-ended g c = λ call same.
    returned_end c.args.limits.now call (moment (g.W.SmcPort.ram c.args.self.now.world) (g.W.SmcPort.made c.args.self.now.world) c.args.self.now.supplicant (after_resume c.args.limits.now 0 c.args.first (said c.args.first)))
    (scene_of (g.W.SmcPort.ram c.loop-returns.self.world) c.loop-returns.self.supplicant) (g.W.SmcPort.made c.loop-returns.self.world) c.loop-returns.returns c.loop-returns.answer
    (sym c.rpc_return.ensures ∙ c.in_ok-rpc.was ∙ ap returned_so c.in_default.is) (c.loop-returns.invariant call same)

pub returns-in_err-answer-clause-stopped : goal.returns-in_err-answer-clause-stopped
returns-in_err-answer-clause-stopped g c =
    passed_on c.from_residual-in_err-answer.result c.in_err-answer.field-0.0 _ c.from_residual-in_err-answer.ensures.1 (λ call same.
    stopped_then c.args.limits.now call (moment (g.W.SmcPort.ram c.args.self.now.world) (g.W.SmcPort.made c.args.self.now.world) c.args.self.now.supplicant (after_resume c.args.limits.now 0 c.args.first (said c.args.first)))
    (moment (g.W.SmcPort.ram c.loop-returns.self.world) (g.W.SmcPort.made c.loop-returns.self.world) c.loop-returns.self.supplicant (after_return c.args.limits.now c.loop-returns.returns c.in-Some.rpc))
    (scene_of (g.W.SmcPort.ram c.answer_return.new.self.world) c.answer_return.new.self.supplicant) (g.W.SmcPort.made c.answer_return.new.self.world) (g.W.SmcPort.has_room c.answer_return.new.self.world) c.in_err-answer.field-0.0
    (returned_next c.args.limits.now call (moment (g.W.SmcPort.ram c.args.self.now.world) (g.W.SmcPort.made c.args.self.now.world) c.args.self.now.supplicant (after_resume c.args.limits.now 0 c.args.first (said c.args.first)))
    (scene_of (g.W.SmcPort.ram c.loop-returns.self.world) c.loop-returns.self.supplicant) (g.W.SmcPort.made c.loop-returns.self.world) c.loop-returns.returns c.loop-returns.answer c.in-Some.rpc
    (sym c.rpc_return.ensures ∙ c.in_ok-rpc.was ∙ ap returned_so c.in-Some.is) (c.loop-returns.invariant call same))
    (c.in_err-answer.ensures.stopped call same))

pub loop-returns-preserved : goal.loop-returns-preserved
loop-returns-preserved g c = λ call same.
    let went = went_then c.args.limits.now call (moment (g.W.SmcPort.ram c.args.self.now.world) (g.W.SmcPort.made c.args.self.now.world) c.args.self.now.supplicant (after_resume c.args.limits.now 0 c.args.first (said c.args.first)))
    (moment (g.W.SmcPort.ram c.loop-returns.self.world) (g.W.SmcPort.made c.loop-returns.self.world) c.loop-returns.self.supplicant (after_return c.args.limits.now c.loop-returns.returns c.in-Some.rpc))
    (moment (g.W.SmcPort.ram c.answer_return.new.self.world) (g.W.SmcPort.made c.answer_return.new.self.world) c.answer_return.new.self.supplicant (after_resume c.args.limits.now (suc c.loop-returns.returns) c.in_ok-answer.answer (said c.in_ok-answer.answer)))
    (returned_next c.args.limits.now call (moment (g.W.SmcPort.ram c.args.self.now.world) (g.W.SmcPort.made c.args.self.now.world) c.args.self.now.supplicant (after_resume c.args.limits.now 0 c.args.first (said c.args.first)))
    (scene_of (g.W.SmcPort.ram c.loop-returns.self.world) c.loop-returns.self.supplicant) (g.W.SmcPort.made c.loop-returns.self.world) c.loop-returns.returns c.loop-returns.answer c.in-Some.rpc
    (sym c.rpc_return.ensures ∙ c.in_ok-rpc.was ∙ ap returned_so c.in-Some.is) (c.loop-returns.invariant call same))
    (c.in_ok-answer.ensures.went call same) in
    subst (λ (n : ℕ). Went c.args.limits.now call (moment (g.W.SmcPort.ram c.args.self.now.world) (g.W.SmcPort.made c.args.self.now.world) c.args.self.now.supplicant (after_resume c.args.limits.now 0 c.args.first (said c.args.first)))
    (moment (g.W.SmcPort.ram c.answer_return.new.self.world) (g.W.SmcPort.made c.answer_return.new.self.world) c.answer_return.new.self.supplicant (after_resume c.args.limits.now n c.in_ok-answer.answer (said c.in_ok-answer.answer))))
    (sym (add-one c.loop-returns.returns)) went

pub returns-in_err-rpc_return-clause-stopped : goal.returns-in_err-rpc_return-clause-stopped
returns-in_err-rpc_return-clause-stopped g c =
    passed_on c.from_residual-in_err-rpc_return.result c.in_err-rpc_return.field-0.0 _ c.from_residual-in_err-rpc_return.ensures.1 (λ call same.
    returned_strange c.args.limits.now call (moment (g.W.SmcPort.ram c.args.self.now.world) (g.W.SmcPort.made c.args.self.now.world) c.args.self.now.supplicant (after_resume c.args.limits.now 0 c.args.first (said c.args.first)))
    (scene_of (g.W.SmcPort.ram c.loop-returns.self.world) c.loop-returns.self.supplicant) (g.W.SmcPort.made c.loop-returns.self.world) c.loop-returns.returns c.loop-returns.answer (g.W.SmcPort.has_room c.loop-returns.self.world) c.in_err-rpc_return.field-0.0
    (sym c.rpc_return-2.ensures ∙ c.in_err-rpc_return.was) (c.loop-returns.invariant call same))

pub returns-in-Some-2-clause-stopped : goal.returns-in-Some-2-clause-stopped
returns-in-Some-2-clause-stopped g c = λ call same.
    let all : c.loop-returns.returns ≡ c.args.limits.now.rounds = omega arith in
    returned_bound c.args.limits.now call (moment (g.W.SmcPort.ram c.args.self.now.world) (g.W.SmcPort.made c.args.self.now.world) c.args.self.now.supplicant (after_resume c.args.limits.now 0 c.args.first (said c.args.first)))
    (scene_of (g.W.SmcPort.ram c.loop-returns.self.world) c.loop-returns.self.supplicant) (g.W.SmcPort.made c.loop-returns.self.world) c.loop-returns.returns c.loop-returns.answer c.in-Some-2.field-0 (g.W.SmcPort.has_room c.loop-returns.self.world)
    (sym c.rpc_return-2.ensures ∙ c.in_ok-rpc_return.was ∙ ap returned_so c.in-Some-2.is) all (c.loop-returns.invariant call same)

pub returns-in-None-clause-ended : goal.returns-in-None-clause-ended
returns-in-None-clause-ended g c = λ call same.
    returned_end c.args.limits.now call (moment (g.W.SmcPort.ram c.args.self.now.world) (g.W.SmcPort.made c.args.self.now.world) c.args.self.now.supplicant (after_resume c.args.limits.now 0 c.args.first (said c.args.first)))
    (scene_of (g.W.SmcPort.ram c.loop-returns.self.world) c.loop-returns.self.supplicant) (g.W.SmcPort.made c.loop-returns.self.world) c.loop-returns.returns c.loop-returns.answer
    (sym c.rpc_return-2.ensures ∙ c.in_ok-rpc_return.was ∙ ap returned_so c.in-None.is) (c.loop-returns.invariant call same)
