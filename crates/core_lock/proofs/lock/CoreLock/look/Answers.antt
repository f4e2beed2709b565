use Rattle.std.proofs.Common.{arith}
use Rattle.core_lock.proofs.Looking.{looks}
use Rattle.core_lock.proofs.lock.CoreLock.look.Goals as goal

pub load-requires : goal.load-requires
load-requires g c =
    let laid = c.args.self.now.laid in
    (c.requires.own, omega arith, looks _ _ _ _ _ _ _ _ _ c.requires.waits.0 c.requires.waits.1)
