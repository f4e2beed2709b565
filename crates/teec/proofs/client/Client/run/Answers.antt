use Rattle.std.proofs.Common.{List}
use Rattle.smc_port.specs.Smc.{Smc}
use Rattle.teec.specs.declared.limits.Limits.{Limits}
use Rattle.teec.specs.Calls.{Call}
use Rattle.teec.specs.Client.{HasRun}
use Rattle.teec.specs.Runs.{Scene, scene_of}
use Rattle.teec.proofs.Sending.{call_with}
use Rattle.teec.proofs.client.Client.run.Goals as goal

pub returns-clause-run : goal.returns-clause-run
returns-clause-run g c =
    call_with
    (λ (limits : Limits) (call : Call) (old : Scene) (made : List Smc). HasRun limits call old made c.finish.result (scene_of (g.W.SmcPort.ram c.finish.new.self.world) c.finish.new.self.storage) (g.W.SmcPort.made c.finish.new.self.world) (g.W.SmcPort.has_room c.finish.new.self.world))
    g.W.SmcPort.ram g.W.SmcPort.made c.self.view_is c.args.op.now.cancel_after c.args.arg.now c.args.op.now c.args.session
    c.put_buffers.new.world c.put_argument.new.self.world c.put_argument.new.self.supplicant
    c.put_buffers.ensures.ram c.put_buffers.ensures.made c.put_argument.ensures.ram c.put_argument.ensures.made c.put_argument.ensures.storage
    c.finish.ensures.run
