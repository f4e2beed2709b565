use Rattle.std.proofs.Common.{refl}
use Rattle.teec.specs.Runs.{scene_of}
use Rattle.teec.proofs.Answering.{nothing_asked}
use Rattle.teec.proofs.line.Line.answer_rpc.Goals as goal

pub returns-in-Cmd-clause-answered : goal.returns-in-Cmd-clause-answered
returns-in-Cmd-clause-answered g c =
    nothing_asked c.args.rpc.now.kind (scene_of (g.W.SmcPort.ram c.args.self.now.world) c.args.self.now.supplicant) (λ same. let tested = rw same at c.in-Cmd.field-0-test in tested.1 refl)
