use Rattle.std.proofs.Common.{◌≡◌}
use Rattle.teec.specs.Calls.{Call}
use Rattle.teec.specs.Runs.{IsPrepared, Scene, scene_of}
use Rattle.teec.proofs.Trying.{HasTried}
use Rattle.teec.proofs.line.Line.call_until_taken.Given as goal

abbrev pub invariant-loop-tries : goal.invariant-loop-tries
invariant-loop-tries g l =
    (l.self.supplicant ≡ l.fn.self.supplicant)
    × ((call : Call) (old : Scene)
    → IsPrepared call call.session old (scene_of (g.W.SmcPort.ram l.fn.self.world) l.fn.self.supplicant)
    → HasTried l.limits call old (scene_of (g.W.SmcPort.ram l.fn.self.world) l.fn.self.supplicant) (g.W.SmcPort.made l.fn.self.world) l.tries
    (scene_of (g.W.SmcPort.ram l.self.world) l.self.supplicant) (g.W.SmcPort.made l.self.world))
