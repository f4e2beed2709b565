-- What a thread is given and what it hands back may go to another thread.
use denote.Param.Send.{IsSend, IsSync, recorded_send, recorded_sync, sendable, struct_send, struct_sync}
use denote.RattleType.{RattleType}
use denote.Ref.{NamedLft}
use denote.Struct.Declared as Declared
use Rattle.core_lock.specs.contracts.pass.Pass as Pass
use Rattle.core_lock.proofs.pass.Pass.TheSendSync as pass
use Rattle.event_journal.specs.contracts.event.Event as Event
use Rattle.kernel_state.proofs.Crossing.{core_send}
use Rattle.kernel_state.proofs.enter_refusal.EnterRefusal.TheSendSync as refusal
use Rattle.kernel_state.specs.contracts.kernel_core.Core as Core
use Rattle.kernel_state.specs.contracts.logging.CoreBasis as CoreBasis
use Rattle.normal_cpus.proofs.Crossing.{shared_sync}
use Rattle.ns_ram.proofs.lane.Lane.TheSendSync as lane
use Rattle.std.proofs.Crossing as any
use Rattle.std.proofs.vec.Vec.TheSendSync as vec
use Rattle.trace_text.proofs.item.Item.TheSendSync as item
use Rattle.trace_text.specs.contracts.item.Item as Item
use Rattle.threads_play.specs.contracts.ending.CpuEnd as CpuEnd
use Rattle.threads_play.specs.contracts.threads.Lent as Lent

pub pass_send : IsSend (Pass.the_row Core.the_row Event.the_row CoreBasis.the_row)
pass_send = search (core_send, pass.the_send, sendable) depth 20

pass_field : IsSend (Pass.the_field Core.the_row Event.the_row CoreBasis.the_row).row
pass_field = search (core_send, pass.the_field_send, sendable) depth 20

end_field : IsSend CpuEnd.the_field.row
end_field =
    struct_send (Declared.shape CpuEnd.the_type) (
      search (pass_field) depth 5,
      (
        search (lane.the_send, sendable) depth 5,
        (
          search (vec.the_send, any.crosses, sendable) depth 60 fits 20000,
          (search (refusal.the_send, any.crosses, sendable) depth 20, tt),
        ),
      ),
    )

pub end_send : IsSend CpuEnd.the_row
end_send = recorded_send (CpuEnd.the_field).row _ _ (CpuEnd.the_type).to_one end_field

-- ---- what all threads borrow

item_sync : IsSync Item.the_row
item_sync = search (item.the_sync, any.crosses, sendable) depth 60 fits 20000

lent_field : (a : NamedLft) (R G : RattleType) → IsSync R → IsSync G → IsSync (Lent.the_field a R G).row
lent_field a R G r g =
    struct_sync (Declared.shape (Lent.the_type a R G)) (
      search sendable depth 20,
      (
        search (any.crosses, sendable) depth 20,
        (
          search (shared_sync, sendable) depth 20,
          (
            search (item_sync, sendable) depth 20,
            (search sendable depth 20, tt),
          ),
        ),
      ),
    )

pub lent_sync : (a : NamedLft) (R G : RattleType) → IsSync R → IsSync G → IsSync (Lent.the_row a R G)
lent_sync a R G r g = recorded_sync (Lent.the_field a R G).row _ _ (Lent.the_type a R G).to_one (lent_field a R G r g)
