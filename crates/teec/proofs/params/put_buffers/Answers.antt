use Rattle.teec.proofs.SentParams.{four_buffers}
use Rattle.teec.proofs.params.put_buffers.Goals as goal

pub returns-clause-ram : goal.returns-clause-ram
returns-clause-ram g c =
    four_buffers (g.W.SmcPort.ram c.args.world.now) (g.W.SmcPort.ram c.put_buffer.new.world) (g.W.SmcPort.ram c.put_buffer-2.new.world)
    (g.W.SmcPort.ram c.put_buffer-3.new.world) (g.W.SmcPort.ram c.put_buffer-4.new.world) c.args.op.now
    c.put_buffer.ensures.ram c.put_buffer-2.ensures.ram c.put_buffer-3.ensures.ram c.put_buffer-4.ensures.ram
