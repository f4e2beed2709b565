use Rattle.std.proofs.Common.{arith}
use Rattle.core_lock.proofs.Serving.{serves}
use Rattle.core_lock.proofs.lock.CoreLock.serve.Goals as goal

pub fetch_add-requires : goal.fetch_add-requires
fetch_add-requires g c =
    let laid = c.args.self.now.laid in
    let v = c.requires.value in
    (c.requires.own, omega arith, serves _ _ _ _ _ _ _ _ v.ticket v.value v.turn v.recorded v.held v.is_counted v.basis_is)
