-- What calls ask for, in every kernel that a legal history comes to. This project's own.
use Rattle.std.specs.Prelude.{◌≡◌, ℕ, List, Some}
use Rattle.job_model.specs.Job.{Job}
use Rattle.rpc_msgs.specs.Request.{IsPayloadOf, IsRequest}
use Rattle.rpc_msgs.specs.declared.rpc.Rpc.{Rpc}
use Rattle.kernel_model.specs.Kernel.{Asks, PendingCall}
use Rattle.kernel_model.specs.Sound.{Calls}

-- a message has room for what the call's application has asked for, and its payload is that of the request
pub record HasFittingRequest (call : PendingCall) : Type 0 where
  pub request : (job : Job) (wanted : Rpc) (payload : List ℕ) → call.phase ≡ Asks job wanted payload → IsRequest wanted
  pub payload : (job : Job) (wanted : Rpc) (payload : List ℕ) → call.phase ≡ Asks job wanted payload →
      IsPayloadOf wanted payload

-- of each call
abbrev pub HaveFittingRequests : Calls → Type 0
HaveFittingRequests calls = (slot : ℕ) (call : PendingCall) → calls slot ≡ Some call → HasFittingRequest call
