use Rattle.std.proofs.Common.{sym, ap, ◌∙◌}
use Rattle.std.specs.Int.{to_le_bytes, w32}
use Rattle.msg_args.specs.Layout.{ret_at}
use Rattle.ns_ram.specs.Writes.{lane_after}
use Rattle.rpc_msgs.specs.declared.rpc.Rpc.{Rpc}
use Rattle.supplicant.specs.Answering.{numbers_writes}
use Rattle.supplicant.proofs.Written.{after_one}
use Rattle.supplicant.proofs.reply.put_reply.Goals as goal

pub returns-in-Time-clause-ram : goal.returns-in-Time-clause-ram
returns-in-Time-clause-ram g c =
    after_one (g.W.SmcPort.ram c.args.world.now) (g.W.SmcPort.ram c.poke.new.self) (g.W.SmcPort.ram c.put_time.new.world) c.ret_at.result
    (ret_at c.args.buffer) _ (to_le_bytes w32 c.args.reply.now.ret) (numbers_writes c.args.buffer c.args.rpc.now c.args.reply.now)
    c.poke.ensures.bytes c.ret_at.ensures c.to_le_bytes.ensures
    (c.put_time.ensures.ram
    ∙ ap (λ (rpc : Rpc). lane_after (g.W.SmcPort.ram c.poke.new.self) (numbers_writes c.args.buffer rpc c.args.reply.now)) (sym c.in-Time.is))
