use Rattle.std.proofs.Common.{arith}
use Rattle.core_lock.proofs.Joining.{joins}
use Rattle.core_lock.proofs.lock.CoreLock.join.Goals as goal

pub join_seat-requires : goal.join_seat-requires
join_seat-requires g c =
    let laid = c.args.self.now.laid in
    let o = c.requires.outside in
    (c.requires.own.0, c.requires.own.1, o.2, omega arith, joins _ _ _ _ _ _ _ _ _ o.0 o.1 o.3)
