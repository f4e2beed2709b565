use Rattle.std.proofs.Common.{arith}
use Rattle.core_lock.proofs.Counting.{counts}
use Rattle.core_lock.proofs.lock.CoreLock.count.Goals as goal

pub store-requires : goal.store-requires
store-requires g c =
    let laid = c.args.self.now.laid in
    let v = c.requires.value in
    (c.requires.own, omega arith, counts _ _ _ _ _ _ _ _ v.ticket _ v.value v.more v.turn v.recorded v.held v.grows v.mine v.counts)
