-- A suspended call as it is resumed.
use Rattle.std.specs.Prelude.{◌≡◌, ℕ, List}
use Rattle.kernel_model.specs.Application.{Booted}
use Rattle.kernel_model.specs.Kernel.{PendingCall, Tables, Waits}
use Rattle.kernel_state.specs.Calls.{IsCall}
use Rattle.rpc_cont.specs.declared.cont.Cont.{Cont}
use Rattle.ta_params.specs.declared.copied_params.CopiedParams.{CopiedParams}
use Rattle.resumed_calls.specs.Waiting.{WaitsInLine}
use Rattle.resumed_calls.specs.declared.resuming.Resumed.{Resumed}

-- the call as data is a call of the kernel in this slot, cancelled or not, which stands in line where it waits
pub record CanResume (boot : Booted) (tables : Tables) (resumed : Resumed) (cont : Cont (List ℕ)) : Type 0 where
  pub call : PendingCall
  pub is : IsCall cont call
  pub marked : call.marked ≡ resumed.marked
  pub line : (params : CopiedParams) → call.phase ≡ Waits params → WaitsInLine boot tables resumed.slot call
