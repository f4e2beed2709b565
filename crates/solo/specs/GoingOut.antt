-- A call that goes out.
use Rattle.std.specs.Prelude.{◌≡◌, ℕ, Bool, false, not, ◌&&◌, ◌||◌, if◌then◌else◌, List, Option, None}
use Rattle.kernel_model.specs.Kernel.{CallPhase, Runs, Asks, Waits, Ends}
use Rattle.own_model.specs.Own.{request_reply}
use Rattle.own_model.specs.Solo.{Going, Solo}
use Rattle.own_model.specs.declared.own_reply.OwnReply.{OwnReply}
use Rattle.own_model.specs.declared.own_reply.OwnReply.TheVariants as reply
use Rattle.rpc_cont.specs.declared.cont.Cont.{Cont}
use Rattle.rpc_msgs.specs.Request.{has_payload}
use Rattle.solo.specs.Calls.{IsCall}
use Rattle.solo.specs.Standing.{IsBeside}
use Rattle.solo.specs.declared.solo_session.SoloSession.{SoloSession}
use Rattle.ta_params.specs.declared.call_result.CallResult.{CallResult}
use Rattle.ta_params.specs.declared.copied_params.CopiedParams.{CopiedParams}

-- whom a call in this phase wakes
abbrev pub woken_by : CallPhase → Option ℕ
woken_by (Runs job) = None
woken_by (Asks job wanted payload) = None
woken_by (Waits params) = None
woken_by (Ends result params told wakes) = wakes

-- what it asks for, where that has a place
abbrev pub asked_in : CallPhase → Option OwnReply
asked_in phase = request_reply (woken_by phase) phase

-- bytes go with what is asked for, in a buffer
abbrev pub asks_with_payload : OwnReply → Bool
asks_with_payload (reply.Ask wanted payload) = has_payload wanted
asks_with_payload _ = false

-- it, where an area or a buffer gives it a place, or first that a buffer is wanted
abbrev pub placed_or_alloc : (has_area has_buffer : Bool) → OwnReply → OwnReply
placed_or_alloc has_area has_buffer asked =
    if has_buffer || (has_area && not (asks_with_payload asked)) then asked else reply.Alloc

-- the machine and its call, before that goes out; the calls are those that were
pub record IsGoing (s : SoloSession) (cont : Cont (List ℕ)) (before : Solo) (going : Going) : Type 0 where
  pub beside : IsBeside s going.solo
  pub is : IsCall cont going.call
  pub calls : going.solo.calls ≡ before.calls

-- a call that has ended and wakes nobody more
pub record Ending : Type 0 where
  pub result : CallResult
  pub params : CopiedParams
  pub was_told : Bool

abbrev pub phase_of : Ending → CallPhase
phase_of ends = Ends ends.result ends.params ends.was_told None
