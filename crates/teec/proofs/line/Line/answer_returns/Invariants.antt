use Rattle.std.proofs.Common.{◌≡◌}
use Rattle.teec.specs.Answers.{said}
use Rattle.teec.specs.Calls.{Call}
use Rattle.teec.specs.Rounds.{after_resume}
use Rattle.teec.specs.Runs.{Went, moment}
use Rattle.teec.proofs.line.Line.answer_returns.Given as goal

abbrev pub invariant-loop-returns : goal.invariant-loop-returns
invariant-loop-returns g l =
    (call : Call) → call.session ≡ l.fn.session
    → Went l.limits call
    (moment (g.W.SmcPort.ram l.fn.self.world) (g.W.SmcPort.made l.fn.self.world) l.fn.self.supplicant (after_resume l.limits 0 l.fn.first (said l.fn.first)))
    (moment (g.W.SmcPort.ram l.self.world) (g.W.SmcPort.made l.self.world) l.self.supplicant (after_resume l.limits l.returns l.answer (said l.answer)))
