-- A shared core may be lent to other threads.
use denote.Param.Send.{IsSync, recorded_sync, sendable}
use Rattle.core_lock.proofs.lock.CoreLock.TheSendSync as lock
use Rattle.kernel_state.proofs.Crossing.{core_send}
use Rattle.std.proofs.Crossing as any
use Rattle.normal_cpus.specs.contracts.shared_core.SharedCore as SharedCore

shared_field_sync : IsSync SharedCore.the_field.row
shared_field_sync = search (lock.the_field_sync, core_send, any.crosses, sendable) depth 60 fits 20000

pub shared_sync : IsSync SharedCore.the_row
shared_sync = recorded_sync (SharedCore.the_field).row _ _ (SharedCore.the_type).to_one shared_field_sync
