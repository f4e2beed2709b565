-- What the normal world is shown of a call that goes out: a function of the session's reply, and of the numbers and addresses that
-- no reply tells, but for the registers a4 to a7, which are the caller's own. This project's own.
use Rattle.std.specs.Prelude.{◌≡◌, ℕ, ◌==◌, List, [], ◌∷◌, ◌++◌, Option, Some, None, drop, if◌then◌else◌, slice_get}
use Rattle.std.specs.Option.{option_map, option_map_or, option_and_then}
use Rattle.base.specs.NumberMap.{get}
use Rattle.event_journal.specs.declared.event.Event.{Event}
use Rattle.event_journal.specs.declared.event.Event.TheVariants.{Exit}
use Rattle.job_model.specs.declared.call_kind.CallKind.{CallKind}
use Rattle.job_model.specs.declared.call_kind.CallKind.TheVariants as kind
use Rattle.msg_args.specs.Layout.{session_at, ret_at, origin_at}
use Rattle.ns_ram.specs.Writes.{Write}
use Rattle.param_copy.specs.WritingBack.{writes_back}
use Rattle.param_copy.specs.declared.copied.Place.{Place}
use Rattle.rpc_msgs.specs.Place.{cookie_told, place_for, writes_at}
use Rattle.rpc_msgs.specs.declared.request_place.RequestPlace.{RequestPlace}
use Rattle.rpc_msgs.specs.declared.rpc_buffer.RpcBuffer.{RpcBuffer}
use Rattle.rpc_msgs.specs.declared.rpc.Rpc.TheVariants as rpc
use Rattle.smc_abi.specs.Answer.{registers_of}
use Rattle.smc_abi.specs.declared.answer.Answer.{Answer}
use Rattle.smc_abi.specs.declared.answer.Answer.TheVariants.{Alloc, Cmd, Free}
use Rattle.smc_abi.specs.declared.regs.Regs.{Regs}
use Rattle.ta_params.specs.declared.copied_params.CopiedParams.{CopiedParams}
use Rattle.kernel_model.specs.Application.{Application, Booted}
use Rattle.kernel_model.specs.Codes.{ok, success}
use Rattle.kernel_model.specs.Exit.{Exited, exit, progress_in_slot, word32}
use Rattle.kernel_model.specs.History.{kernel_after}
use Rattle.kernel_model.specs.Kernel.{CallPhase, InSlot, Inside, Kernel, PendingCall, Progress}
use Rattle.kernel_model.specs.Leaving.{Request, leaving_of, plain_request}
use Rattle.own_model.specs.declared.own_reply.OwnReply.{OwnReply}
use Rattle.own_model.specs.declared.own_reply.OwnReply.TheVariants as reply
use Rattle.own_model.specs.Isolation.{IsSessionOf}
use Rattle.own_model.specs.Own.{noted, own_events, reply_of, wake_kept, wake_of}

-- ---- numbers and addresses

-- those of a call
pub record CallPlaces : Type 0 where
  pub slot : ℕ
  -- where its requests go
  pub area : Option ℕ
  pub buffer : Option RpcBuffer
  -- the slot of the call that it wakes
  pub wakes : Option ℕ
  -- its argument, the places of its parameters, and the number of the session that it opens
  pub argument : ℕ
  pub params : List Place
  pub opens : Option ℕ

abbrev pub opened_number : CallKind → ℕ → Option ℕ
opened_number kind.Open session = Some session
opened_number _ session = None

-- of the call of a slot, in a phase
abbrev pub places_in : ℕ → PendingCall → CallPhase → CallPlaces
places_in slot call phase = record {
  slot = slot;
  area = call.area;
  buffer = call.buffer;
  wakes = wake_of phase;
  argument = call.arg;
  params = call.places;
  opens = opened_number call.kind call.session;
}

abbrev pub places_of : ℕ → PendingCall → CallPlaces
places_of slot call = places_in slot call call.phase

-- ---- what is shown

-- an answer, and what is written, in this order
pub record Shown : Type 0 where
  pub answer : Answer
  pub writes : List Write

-- a request at its place
abbrev pub requested_at : ℕ → Request → RequestPlace → Shown
requested_at slot request place =
    record { answer = Cmd (cookie_told place) slot; writes = writes_at place request.wanted request.payload }

abbrev pub request_shown : CallPlaces → Request → Option Shown
request_shown places request =
    option_map (requested_at places.slot request) (place_for places.area places.buffer request.wanted)

-- a buffer that is given back
abbrev pub buffer_freed : ℕ → RpcBuffer → Shown
buffer_freed slot buffer = record { answer = Free buffer.cookie slot; writes = [] }

-- the outputs, where the application returned the result
abbrev pub outputs_shown : CallPlaces → ℕ → CopiedParams → List Write
outputs_shown places origin outputs = if origin == 4 then writes_back places.argument places.params outputs else []

-- the number of the session that was opened
abbrev pub session_shown : CallPlaces → ℕ → List Write
session_shown places result =
    option_map_or (λ number. if result == success then word32 (session_at places.argument) number ∷ [] else []) places.opens []

-- the end of a call
abbrev pub end_shown : CallPlaces → ℕ → ℕ → CopiedParams → Shown
end_shown places result origin outputs = record {
  answer = ok;
  writes = outputs_shown places origin outputs ++ session_shown places result
      ++ word32 (ret_at places.argument) result ∷ word32 (origin_at places.argument) origin ∷ [];
}

-- of a call with these places that is replied so
abbrev pub shown : CallPlaces → OwnReply → Option Shown
shown places reply.Alloc = Some (record { answer = Alloc 4096 places.slot; writes = [] })
shown places reply.Sleep = request_shown places (plain_request (rpc.Sleep places.slot))
shown places (reply.Wake call) = option_and_then (λ slot. request_shown places (plain_request (rpc.Wake slot))) places.wakes
shown places (reply.Ask wanted payload) = request_shown places (record { wanted = wanted; payload = payload })
shown places reply.Free = option_map (buffer_freed places.slot) places.buffer
shown places (reply.Ended result origin outputs) = Some (end_shown places result origin outputs)
shown places reply.Limited = None

-- ---- the law

-- the exit of a call that has come to this, from a processor that came in with these registers
pub record GoesOutFrom (kernel : Kernel) (cpu slot : ℕ) (regs : List ℕ) (progress : Progress) (exited : Exited) : Type 0 where
  pub steps : ℕ
  pub is_inside : slice_get kernel.processors cpu ≡ Some (Inside regs steps (InSlot slot))
  pub comes_to : progress_in_slot kernel steps slot ≡ Some progress
  pub exits : exit kernel cpu ≡ Some exited

-- the registers of a processor that came in with these, and what is written
abbrev pub seen_with : List ℕ → Shown → List ℕ × List Write
seen_with regs shown = (registers_of shown.answer regs, shown.writes)

-- its registers and writes are those that are shown of its reply
abbrev pub ExitsShowReplies : Type 0
ExitsShowReplies =
    (kernel : Kernel) (cpu slot : ℕ) (regs : List ℕ) (progress : Progress) (exited : Exited) (woken : Option ℕ) (told : OwnReply) →
    GoesOutFrom kernel cpu slot regs progress exited →
    reply_of woken progress.call.phase (leaving_of slot progress.call) ≡ Some told →
    option_map (seen_with regs) (shown (places_of slot progress.call) told) ≡ Some (exited.regs, exited.writes)

-- ---- in a history

-- the history ends with the exit of a processor for a call of the session, which goes out with a reply
pub record EndsWithReply (boot : Booted) (history : List Event) (session : ℕ) : Type 0 where
  pub before : List Event
  pub cpu : ℕ
  pub went : Regs
  pub last_exit : history ≡ before ++ Exit cpu went ∷ []
  pub kernel : Kernel
  pub there : kernel_after boot before ≡ Some kernel
  -- the registers with which the processor came in
  pub came : List ℕ
  pub slot : ℕ
  pub progress : Progress
  pub exited : Exited
  pub goes_out : GoesOutFrom kernel cpu slot came progress exited
  pub number : ℕ
  pub is_own : get (noted boot before session).numbering.in_slots slot ≡ Some number
  pub told : OwnReply
  pub replies : reply_of (wake_kept (noted boot before session).numbering slot (wake_of progress.call.phase)) progress.call.phase
      (leaving_of slot progress.call) ≡ Some told

-- so in two worlds: where the same has happened to sessions of one application up to such an exit of each, whatever else happened, and
-- their calls have the same places there, the same is written for them, and they have the same registers, if the processors came in with
-- the same a4 to a7
abbrev pub SameEventsShowTheSame : Type 0
SameEventsShowTheSame =
    (boot another : Booted) (history other : List Event) (session number : ℕ) (app : Application) →
    boot.key ≡ another.key → IsSessionOf boot history session app → IsSessionOf another other number app →
    own_events boot history session ≡ own_events another other number →
    (one : EndsWithReply boot history session) (two : EndsWithReply another other number) →
    places_of one.slot one.progress.call ≡ places_of two.slot two.progress.call →
    (drop 4 one.came ≡ drop 4 two.came → one.exited.regs ≡ two.exited.regs) × (one.exited.writes ≡ two.exited.writes)
