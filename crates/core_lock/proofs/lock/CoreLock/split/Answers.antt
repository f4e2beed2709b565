use Rattle.std.proofs.Common.{arith}
use Rattle.core_lock.proofs.Splitting.{splits}
use Rattle.core_lock.proofs.lock.CoreLock.split.Goals as goal

pub split_seat-requires : goal.split_seat-requires
split_seat-requires g c =
    let laid = c.args.self.now.laid in
    (c.requires.own, omega arith, splits _ _ _ _ _ _ _ c.requires.two.0 c.requires.two.1)
