-- A core may go to another thread: level by level, since one search over all that it holds is too long.
use denote.Param.Send.{IsSend, recorded_send, sendable, struct_send}
use denote.Struct.Declared as Declared
use Rattle.event_log.proofs.log.Log.TheSendSync as log
use Rattle.frame_pool.proofs.rooms.Link.TheLaws.TheKnot as knot
use Rattle.frame_pool.specs.contracts.pages.Pages as Pages
use Rattle.frame_pool.specs.contracts.pool.Pool as Pool
use Rattle.rpc_cont.proofs.cont.Cont.TheSendSync as cont
use Rattle.session_table.proofs.sessions.Sessions.TheSendSync as sessions
use Rattle.session_table.proofs.waiters.Waiters.TheSendSync as waiters
use Rattle.shm_registry.proofs.registry.Registry.TheSendSync as registry
use Rattle.std.proofs.Crossing as any
use Rattle.std.proofs.alloc.Global.TheSendSync as global
use Rattle.std.proofs.boxed.Box.TheSendSync as boxed
use Rattle.std.proofs.vec.Vec.TheSendSync as vec
use Rattle.ta_instances.specs.contracts.instances.Instances as Instances
use Rattle.thread_slots.proofs.slots.Slots.TheSendSync as slots
use Rattle.kernel_state.specs.contracts.blanks.Blanks as Blanks
use Rattle.kernel_state.specs.contracts.kernel_core.Core as Core
use Rattle.kernel_state.specs.contracts.parts.Parts as Parts
use Rattle.kernel_state.specs.contracts.tables.Tables as Tables
use Rattle.kernel_state.proofs.cancellation.Cancellation.TheSendSync as cancellation
use Rattle.kernel_state.proofs.processor.Processor.TheSendSync as processor
use Rattle.kernel_state.proofs.setup.Setup.TheSendSync as setup

-- ---- memory

pub pages_send : IsSend Pages.the_row
pages_send = search (any.crosses, knot.crosses, sendable) depth 60 fits 20000

pool_send : IsSend Pool.the_row
pool_send = search (any.crosses, knot.crosses, sendable) depth 60 fits 20000

-- ---- tables

instances_send : IsSend Instances.the_row
instances_send = search (pages_send, any.crosses, sendable) depth 60 fits 20000

tables_send : IsSend Tables.the_field.row
tables_send = search (sessions.the_send, waiters.the_send, registry.the_send, instances_send, pool_send, sendable) depth 60 fits 20000

blanks_send : IsSend Blanks.the_row
blanks_send = search (pages_send, cont.the_send, boxed.the_send, vec.the_send, global.the_send, any.crosses, sendable) depth 60 fits 20000

-- ---- all of it

parts_send : IsSend Parts.the_field.row
parts_send =
    struct_send (Declared.shape Parts.the_type) (
      search (setup.the_field_send, setup.the_send) depth 5,
      (
        search (pages_send, cont.the_send, boxed.the_send, slots.the_send, global.the_send, any.crosses, sendable) depth 60 fits 20000,
        (
          search (cancellation.the_send, vec.the_send, global.the_send, any.crosses, sendable) depth 60 fits 20000,
          (
            search (processor.the_send, vec.the_send, global.the_send, any.crosses, sendable) depth 60 fits 20000,
            (
              search (tables_send) depth 5,
              (
                search (blanks_send) depth 5,
                (
                  search (log.the_send) depth 5,
                  tt,
                ),
              ),
            ),
          ),
        ),
      ),
    )

pub core_field_send : IsSend Core.the_field.row
core_field_send = struct_send (Declared.shape Core.the_type) (parts_send, tt)

pub core_send : IsSend Core.the_row
core_send = recorded_send (Core.the_field).row _ _ (Core.the_type).to_one core_field_send
