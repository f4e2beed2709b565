use Rattle.std.proofs.Common.{arith}
use Rattle.core_lock.proofs.Drawing.{draws}
use Rattle.core_lock.proofs.lock.CoreLock.draw.Goals as goal

pub fetch_add-requires : goal.fetch_add-requires
fetch_add-requires g c =
    let laid = c.args.self.now.laid in
    (c.requires.own, omega arith, draws _ _ _ _ _ _ _ _ c.requires.outside.0 c.requires.outside.1)
