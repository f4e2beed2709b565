-- What is told of a call as data that goes out.
use Rattle.std.specs.Prelude.{ℕ, Bool, true, false, not, ◌&&◌, ◌||◌, List, Option, Some, None, is_some}
use Rattle.std.specs.Option.{option_and_then, option_map}
use Rattle.group_model.specs.declared.group_reply.GroupReply.{GroupReply}
use Rattle.kernel_state.specs.Calls.{woken_slot}
use Rattle.kernel_state.specs.declared.carried.Carried.{Carried}
use Rattle.kernel_state.specs.declared.carried.Carried.TheVariants.{Nothing, Resting, Running}
use Rattle.own_model.specs.Own as own
use Rattle.own_model.specs.declared.own_reply.OwnReply.{OwnReply}
use Rattle.own_model.specs.declared.own_reply.OwnReply.TheVariants as reply
use Rattle.rpc_cont.specs.Conts.{kept_params}
use Rattle.rpc_cont.specs.declared.cont.Asked.{Asked}
use Rattle.rpc_cont.specs.declared.cont.Cont.{Cont}
use Rattle.rpc_cont.specs.declared.phase.Phase.{Phase}
use Rattle.rpc_cont.specs.declared.phase.Phase.TheVariants as phase
use Rattle.rpc_msgs.specs.Request.{has_payload}

-- the slot of the call that one in this phase wakes
abbrev pub wake_at : Phase → Option Asked → Option ℕ
wake_at phase.Ends request = option_and_then (λ (asked : Asked). woken_slot asked.rpc) request
wake_at _ request = None

abbrev pub wake_as : Cont (List ℕ) → Option ℕ
wake_as cont = wake_at cont.phase cont.request

-- the request of an application
abbrev pub asked_reply : Asked → OwnReply
asked_reply asked = reply.Ask asked.rpc asked.payload

-- bytes go with what one in this phase asks for, in a buffer
abbrev pub asks_with_payload : Phase → Option Asked → Bool
asks_with_payload phase.Asks (Some asked) = has_payload asked.rpc
asks_with_payload _ _ = false

-- what it asks for has a place
abbrev pub has_place : Cont (List ℕ) → Bool
has_place cont = is_some cont.buffer || (is_some cont.area && not (asks_with_payload cont.phase cont.request))

-- ---- a call that stays in its slot

-- it has ended: whether it has a call to wake, whether that has a place, and the number of the call that it wakes. One that
-- asks for nothing has given its buffer back
abbrev pub told_behind : Bool → Bool → Option ℕ → Option OwnReply
told_behind false has_place woken = Some reply.Free
told_behind true false woken = Some reply.Alloc
told_behind true true woken = option_map (λ number. reply.Wake number) woken

-- by how far it has come, and whether what it asks for has a place
abbrev pub reply_of_phase : Cont (List ℕ) → Option ℕ → Phase → Bool → Option OwnReply
reply_of_phase cont woken phase.Runs placed = None
reply_of_phase cont woken phase.Asks false = Some reply.Alloc
reply_of_phase cont woken phase.Asks true = option_map asked_reply cont.request
reply_of_phase cont woken phase.Waits false = Some reply.Alloc
reply_of_phase cont woken phase.Waits true = Some reply.Sleep
reply_of_phase cont woken phase.Ends placed = told_behind (is_some (wake_as cont)) placed woken

abbrev pub reply_of_call : Cont (List ℕ) → Option ℕ → Option OwnReply
reply_of_call cont woken = reply_of_phase cont woken cont.phase (has_place cont)

-- ---- a call that has finished

abbrev pub ended_as : Cont (List ℕ) → OwnReply
ended_as cont = own.ended cont.result (kept_params cont.params)

-- with the realm's number of the session that it has opened, if it has opened one
abbrev pub reply_with : Option ℕ → OwnReply → GroupReply
reply_with opened told = record { reply = told; opened = opened }

-- by how far it has come
abbrev pub ended_in : Cont (List ℕ) → Phase → Option OwnReply
ended_in cont phase.Ends = Some (ended_as cont)
ended_in cont _ = None

-- the call that a processor carries, if it goes out ended
abbrev pub told_at_end : Carried → Option OwnReply
told_at_end Nothing = None
told_at_end (Resting cont) = ended_in cont.value cont.value.phase
told_at_end (Running cont) = ended_in cont.value cont.value.phase
