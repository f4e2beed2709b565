use Rattle.std.proofs.Common.{refl}
use Rattle.std.proofs.lemmas.Result.{IfErr-weaker, on_ok_weaker}
use Rattle.teec.specs.Answers.{said}
use Rattle.teec.specs.Rounds.{Calls, Ended, after_resume}
use Rattle.teec.specs.Runs.{moment, scene_of}
use Rattle.teec.proofs.Going.{stopped_then, went_then}
use Rattle.teec.proofs.line.Line.call.Goals as goal

pub returns-clause-ended : goal.returns-clause-ended
returns-clause-ended g c =
    on_ok_weaker c.answer_returns.result (λ went call old prepared.
    went_then c.args.limits.now call (moment old.ram (g.W.SmcPort.made c.args.self.now.world) old.storage (Calls 0))
    (moment (g.W.SmcPort.ram c.call_until_taken.new.self.world) (g.W.SmcPort.made c.call_until_taken.new.self.world) c.call_until_taken.new.self.supplicant
    (after_resume c.args.limits.now 0 c.in_ok-answer.answer (said c.in_ok-answer.answer)))
    (moment (g.W.SmcPort.ram c.answer_returns.new.self.world) (g.W.SmcPort.made c.answer_returns.new.self.world) c.answer_returns.new.self.supplicant Ended)
    (c.in_ok-answer.ensures.taken call old (record { session_is = refl; written = prepared.written }))
    (went call prepared.session_is)) c.answer_returns.ensures.ended

pub returns-clause-stopped : goal.returns-clause-stopped
returns-clause-stopped g c =
    IfErr-weaker c.answer_returns.result _ _ (λ fault stopped call old prepared.
    stopped_then c.args.limits.now call (moment old.ram (g.W.SmcPort.made c.args.self.now.world) old.storage (Calls 0))
    (moment (g.W.SmcPort.ram c.call_until_taken.new.self.world) (g.W.SmcPort.made c.call_until_taken.new.self.world) c.call_until_taken.new.self.supplicant
    (after_resume c.args.limits.now 0 c.in_ok-answer.answer (said c.in_ok-answer.answer)))
    (scene_of (g.W.SmcPort.ram c.answer_returns.new.self.world) c.answer_returns.new.self.supplicant) (g.W.SmcPort.made c.answer_returns.new.self.world) (g.W.SmcPort.has_room c.answer_returns.new.self.world) fault
    (c.in_ok-answer.ensures.taken call old (record { session_is = refl; written = prepared.written }))
    (stopped call prepared.session_is)) c.answer_returns.ensures.stopped
