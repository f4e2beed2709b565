use Rattle.std.proofs.Common.{rules, Some}
use Rattle.core_lock.proofs.lock.CoreLock.take.Goals as goal

pub exchange-requires : goal.exchange-requires
exchange-requires g c = (c.requires.own, (Some c.requires.held.0, search rules))
