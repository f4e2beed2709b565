-- What a call has come to at an exit: each of its forms; and what its slot is left with.
use Rattle.std.proofs.Common.{◌≡◌, ℕ, Bool, true, false, List, Option, Some, None, refl, subst}
use Rattle.std.specs.Option.{option_map_or}
use Rattle.job_model.specs.Job.{Job, of_tee}
use Rattle.job_model.specs.Point.{no_params}
use Rattle.job_model.specs.Steps.{End, Grant, Left, Stopped, grant_of}
use Rattle.job_model.specs.Steps as steps
use Rattle.rpc_msgs.specs.declared.rpc.Rpc.{Rpc}
use Rattle.rpc_msgs.specs.declared.rpc.Rpc.TheVariants as rpc
use Rattle.rpc_msgs.specs.declared.request_place.RequestPlace.{RequestPlace}
use Rattle.rpc_msgs.specs.declared.rpc_buffer.RpcBuffer.{RpcBuffer}
use Rattle.ta_params.specs.declared.call_result.CallResult.{CallResult}
use Rattle.ta_params.specs.declared.copied_params.CopiedParams.{CopiedParams}
use Rattle.kernel_model.specs.Codes.{target_dead}
use Rattle.kernel_model.specs.Exit.{after_grant, further, progress_in, progress_of, shows_result, slot_left, tables_after_end, tables_after_panic, tables_unrun}
use Rattle.kernel_model.specs.Kernel.{Active, Asks, CallPhase, Ends, Free, PendingCall, Progress, Runs, Suspended, Tables, ThreadSlot, Waits}
use Rattle.kernel_model.specs.Leaving.{Finishes, FreesBuffer, Request, Requests, WantsBuffer, asks_for, leaving_in, leaving_of, place_of, plain_request}
use Rattle.kernel_model.proofs.Parts.{option_map_some}

-- it holds of each form
pub record ExitCases (tables : Tables) (call : PendingCall) (granted : ℕ) (P : Progress → Type 0) : Type 0 where
  pub left : (job later : Job) → call.phase ≡ Runs job → grant_of granted job ≡ Some (Left later) →
      P (record { call = record (further call granted) { phase = Runs later }; tables = tables })
  pub ends : (job : Job) (used : ℕ) (end : End) → call.phase ≡ Runs job → grant_of granted job ≡ Some (Stopped used (steps.Ends end)) →
      P (shows_result (tables_after_end tables (further call used) end) (further call used) end.result end.params)
  pub panics : (job : Job) (used code : ℕ) → call.phase ≡ Runs job → grant_of granted job ≡ Some (Stopped used (steps.Panics code)) →
      P (shows_result (tables_after_panic tables (further call used)) (further call used) (of_tee target_dead) no_params)
  pub asks : (job later : Job) (used : ℕ) (wanted : Rpc) (payload : List ℕ) → call.phase ≡ Runs job →
      grant_of granted job ≡ Some (Stopped used (steps.Asks wanted payload later)) →
      P (record { call = record (further call used) { phase = Asks later wanted payload }; tables = tables })
  pub asked : (job : Job) (wanted : Rpc) (payload : List ℕ) → call.phase ≡ Asks job wanted payload → P (record { call = call; tables = tables })
  pub waits : (params : CopiedParams) → call.phase ≡ Waits params → P (record { call = call; tables = tables })
  pub told : (result : CallResult) (params : CopiedParams) (wakes : Option ℕ) → call.phase ≡ Ends result params true wakes →
      P (record { call = call; tables = tables })
  pub tells : (result : CallResult) (params : CopiedParams) (wakes : Option ℕ) → call.phase ≡ Ends result params false wakes →
      P (shows_result (tables_unrun tables call) call result params)

module _ (tables : Tables) (call : PendingCall) (granted : ℕ) (P : Progress → Type 0) (cases : ExitCases tables call granted P) where
  after_all : (job : Job) (grant : Grant) → call.phase ≡ Runs job → grant_of granted job ≡ Some grant → P (after_grant tables call granted grant)
  after_all job (Left later) is e = cases.left job later is e
  after_all job (Stopped used (steps.Ends end)) is e = cases.ends job used end is e
  after_all job (Stopped used (steps.Panics code)) is e = cases.panics job used code is e
  after_all job (Stopped used (steps.Asks wanted payload later)) is e = cases.asks job later used wanted payload is e

  this_one : (found progress : Progress) → Some found ≡ Some progress → P found → P progress
  this_one found progress e holds = let same : found ≡ progress = cc in subst P same holds

  in_phase : (phase : CallPhase) (progress : Progress) → call.phase ≡ phase → progress_in tables call granted phase ≡ Some progress → P progress
  in_phase (Runs job) progress is e =
      let came = option_map_some (after_grant tables call granted) (grant_of granted job) progress e in
      subst P came.2 (after_all job came.0 is came.1)
  in_phase (Asks job wanted payload) progress is e = this_one _ progress e (cases.asked job wanted payload is)
  in_phase (Waits params) progress is e = this_one _ progress e (cases.waits params is)
  in_phase (Ends result params false wakes) progress is e = this_one _ progress e (cases.tells result params wakes is)
  in_phase (Ends result params true wakes) progress is e = this_one _ progress e (cases.told result params wakes is)

-- it holds of what a call comes to at an exit where it holds of each form
pub exits_all : (tables : Tables) (call : PendingCall) (granted : ℕ) (P : Progress → Type 0) (progress : Progress) → ExitCases tables call granted P
    → progress_of tables call granted ≡ Some progress → P progress
exits_all tables call granted P progress cases e = in_phase tables call granted P cases call.phase progress refl e

-- ---- what is left

-- a call without its buffer
abbrev pub unbuffered : PendingCall → PendingCall
unbuffered call = record call { buffer = None }

module _ (slot : ℕ) (call : PendingCall) (Q : ThreadSlot → Type 0) (still : Q (Suspended call.client call))
    (freed : Q (Suspended call.client (unbuffered call)))
    (finished : (result : CallResult) (params : CopiedParams) (told : Bool) → call.phase ≡ Ends result params told None → Q Free) where
  asking_left : (at : Option RequestPlace) (request : Request)
      → Q (slot_left call (option_map_or (λ place. Requests place request) at WantsBuffer))
  asking_left None request = still
  asking_left (Some place) request = still

  asks_left : (request : Request) → Q (slot_left call (asks_for call request))
  asks_left request = asking_left (place_of call request) request

  ended_left : (buffer : Option RpcBuffer) (result : CallResult) (params : CopiedParams) (told : Bool) → call.phase ≡ Ends result params told None
      → Q (slot_left call (option_map_or FreesBuffer buffer (Finishes result params)))
  ended_left None result params told is = finished result params told is
  ended_left (Some buffer) result params told is = freed

  phase_left : (phase : CallPhase) → call.phase ≡ phase → Q (slot_left call (leaving_in slot call phase))
  phase_left (Runs job) is = still
  phase_left (Asks job wanted payload) is = asks_left (record { wanted = wanted; payload = payload })
  phase_left (Waits params) is = asks_left (plain_request (rpc.Sleep slot))
  phase_left (Ends result params told (Some woken)) is = asks_left (plain_request (rpc.Wake woken))
  phase_left (Ends result params told None) is = ended_left call.buffer result params told is

-- it holds of what a slot is left with: the call, perhaps without its buffer, or nothing once it has ended
pub left_all : (slot : ℕ) (call : PendingCall) (Q : ThreadSlot → Type 0) → Q (Suspended call.client call)
    → Q (Suspended call.client (unbuffered call))
    → ((result : CallResult) (params : CopiedParams) (told : Bool) → call.phase ≡ Ends result params told None → Q Free)
    → Q (slot_left call (leaving_of slot call))
left_all slot call Q still freed finished = phase_left slot call Q still freed finished call.phase refl

-- what a slot is left with: nothing, or a call for its own client
abbrev pub IsLeft : ThreadSlot → Type 0
IsLeft Free = Unit {0}
IsLeft (Active cpu call) = ⊥
IsLeft (Suspended client call) = client ≡ call.client

pub left_so : (slot : ℕ) (call : PendingCall) → IsLeft (slot_left call (leaving_of slot call))
left_so slot call = left_all slot call IsLeft refl refl (λ result params told is. tt)

pub left_for : (held : ThreadSlot) (client : ℕ) (call : PendingCall) → held ≡ Suspended client call → IsLeft held → client ≡ call.client
left_for held client call e is = subst IsLeft e is
