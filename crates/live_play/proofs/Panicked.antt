-- The panic that is told is the one in which a call ends.
use Rattle.std.proofs.Common.{◌≡◌, ℕ, List, [], ◌∷◌, ◌++◌, true, Option, Some, None, refl, sym, ap, subst, ◌∙◌}
use Rattle.std.specs.Prelude.{slice_get}
use Rattle.std.specs.Option.{option_and_then, option_map, option_map_or}
use Rattle.core_at_work.specs.Panics.{grant_panic, phase_panic, slot_panic, state_panic}
use Rattle.job_model.specs.Point.{no_params}
use Rattle.job_model.specs.Steps.{Grant, Left, Stopped, grant_of}
use Rattle.job_model.specs.Steps as steps
use Rattle.job_model.specs.declared.call_kind.CallKind.{CallKind}
use Rattle.job_model.specs.declared.call_kind.CallKind.TheVariants.{Close, Invoke, Open, Settled}
use Rattle.kernel_model.specs.Codes.{target_dead}
use Rattle.kernel_model.specs.Exit.{Exited, after_grant, exit_of, goes_out_from, progress_held, progress_in, result_writes, session_writes, slot_left, word32, writes_of}
use Rattle.kernel_model.specs.Kernel.{Active, Asks, CallPhase, Ends, Fixed, Free, InSlot, Inside, Kernel, Outside, PendingCall, Processor, Progress, Runs, Suspended, ThreadSlot, Visit, Waits}
use Rattle.kernel_model.specs.Leaving.{Finishes, FreesBuffer, Interrupted, Leaving, Request, Requests, WantsBuffer, leaving_in, leaving_of, place_of, plain_request}
use Rattle.kernel_model.proofs.Parts.{set_found}
use Rattle.msg_args.specs.Layout.{origin_at, ret_at}
use Rattle.ns_ram.specs.Writes.{Write}
use Rattle.rpc_msgs.specs.declared.request_place.RequestPlace.{RequestPlace}
use Rattle.rpc_msgs.specs.declared.rpc.Rpc.TheVariants as rpc
use Rattle.rpc_msgs.specs.declared.rpc_buffer.RpcBuffer.{RpcBuffer}
use Rattle.ta_params.specs.declared.call_result.CallResult.{CallResult}
use Rattle.ta_params.specs.declared.copied_params.CopiedParams.{CopiedParams}
use Rattle.live_play.specs.PanickingLaws.{ComesTo, GivesResult, IsEnded, IsLeftWith, PanicsEndCalls, has_ended, has_result, result_in, result_of_panic, slot_of}

-- ---- behind the exit

-- a call that has its result leaves its slot with it, or free
pub left_ended : (call : PendingCall) (leaving : Leaving) → has_result call.phase ≡ true → has_ended (slot_left call leaving) ≡ true
left_ended call Interrupted ended = ended
left_ended call WantsBuffer ended = ended
left_ended call (Requests place request) ended = ended
left_ended call (FreesBuffer buffer) ended = ended
left_ended call (Finishes result params) ended = refl

-- no session's number is written where a call has panicked
no_session : (call : PendingCall) (kind : CallKind) → session_writes call kind result_of_panic ≡ []
no_session call Open = refl
no_session call (Invoke func) = refl
no_session call Close = refl
no_session call Settled = refl

-- where it finishes, that is with its result
frees_or_finishes : (buffer : Option RpcBuffer) (params left : CopiedParams) (result : CallResult)
    → option_map_or FreesBuffer buffer (Finishes result_of_panic params) ≡ Finishes result left → result ≡ result_of_panic
frees_or_finishes None params left result is = sym cc
frees_or_finishes (Some buffer) params left result is = absurd cc

never_finishes : (place : Option RequestPlace) (request : Request) (left : CopiedParams) (result : CallResult)
    → option_map_or (λ (p : RequestPlace). Requests p request) place WantsBuffer ≡ Finishes result left → result ≡ result_of_panic
never_finishes None request left result is = absurd cc
never_finishes (Some place) request left result is = absurd cc

finishes_dead : (slot : ℕ) (call : PendingCall) (params left : CopiedParams) (wakes : Option ℕ) (result : CallResult)
    → leaving_in slot call (Ends result_of_panic params true wakes) ≡ Finishes result left → result ≡ result_of_panic
finishes_dead slot call params left None result is = frees_or_finishes call.buffer params left result is
finishes_dead slot call params left (Some woken) result is =
    let request : Request = plain_request (rpc.Wake woken) in
    never_finishes (place_of call request) request left result is

-- a call that has come on is the one that was carried
record IsStill (carried call : PendingCall) : Type 0 where
  client : call.client ≡ carried.client
  session : call.session ≡ carried.session
  arg : call.arg ≡ carried.arg

-- with its result it is left so
left_with : (carried call : PendingCall) (params : CopiedParams) (wakes : Option ℕ) → IsStill carried call
    → call.phase ≡ Ends result_of_panic params true wakes → IsLeftWith carried result_of_panic call.client call
left_with carried call params wakes still phase =
    record { client = still.client; session = still.session; arg = still.arg; result = ap result_in phase }

-- so it leaves its slot with its result, or free, and that was written
leaves_dead : (slot : ℕ) (carried call : PendingCall) (params : CopiedParams) (wakes : Option ℕ) → IsStill carried call
    → call.phase ≡ Ends result_of_panic params true wakes → (leaving : Leaving) → leaving_of slot call ≡ leaving
    → GivesResult carried result_of_panic (writes_of call leaving) (slot_left call leaving)
leaves_dead slot carried call params wakes still phase Interrupted is = left_with carried call params wakes still phase
leaves_dead slot carried call params wakes still phase WantsBuffer is = left_with carried call params wakes still phase
leaves_dead slot carried call params wakes still phase (Requests place request) is = left_with carried call params wakes still phase
leaves_dead slot carried call params wakes still phase (FreesBuffer buffer) is =
    record { client = still.client; session = still.session; arg = still.arg; result = ap result_in phase }
leaves_dead slot carried call params wakes still phase (Finishes result left) is =
    let same : result ≡ result_of_panic =
    finishes_dead slot call params left wakes result (ap (leaving_in slot call) (sym phase) ∙ is) in
    let last : List Write = word32 (ret_at call.arg) target_dead ∷ word32 (origin_at call.arg) 3 ∷ [] in
    ap (λ (r : CallResult). result_writes call r left) same ∙ ap (λ (writes : List Write). writes ++ last) (no_session call call.kind)
    ∙ ap (λ (arg : ℕ). word32 (ret_at arg) target_dead ∷ word32 (origin_at arg) 3 ∷ []) still.arg

module _ (kernel : Kernel) (visit : Visit) (slot code worker : ℕ) (call : PendingCall)
    (was : slice_get kernel.slots slot ≡ Some (Active worker call)) (exited : Exited) where
  -- it goes out with what its call has panicked with
  gone_dead : (used granted panic : ℕ)
      → goes_out_from kernel visit slot (after_grant kernel.tables call granted (Stopped used (steps.Panics panic))) ≡ exited
      → ComesTo kernel slot result_of_panic exited
  gone_dead used granted panic is =
      let progress : Progress = after_grant kernel.tables call granted (Stopped used (steps.Panics panic)) in
      let leaving : Leaving = leaving_of slot progress.call in
      let left : ThreadSlot = slot_left progress.call leaving in
      subst (ComesTo kernel slot result_of_panic) is (record {
        worker = worker;
        call = call;
        was = was;
        held = left;
        there = set_found kernel.slots slot left (Active worker call) was;
        gives = leaves_dead slot call progress.call no_params _ (record { client = refl; session = refl; arg = refl }) refl leaving refl;
      })

  grant_dead : (granted : ℕ) (grant : Option Grant) → option_and_then grant_panic grant ≡ Some code
      → option_map (goes_out_from kernel visit slot) (option_map (after_grant kernel.tables call granted) grant) ≡ Some exited
      → ComesTo kernel slot result_of_panic exited
  grant_dead granted None panics goes = absurd cc
  grant_dead granted (Some (Left job)) panics goes = absurd cc
  grant_dead granted (Some (Stopped used (steps.Ends end))) panics goes = absurd cc
  grant_dead granted (Some (Stopped used (steps.Panics panic))) panics goes =
      let is : goes_out_from kernel visit slot (after_grant kernel.tables call granted (Stopped used (steps.Panics panic))) ≡ exited = cc in
      gone_dead used granted panic is
  grant_dead granted (Some (Stopped used (steps.Asks wanted payload left))) panics goes = absurd cc

  phase_dead : (granted : ℕ) (phase : CallPhase) → phase_panic granted phase ≡ Some code
      → option_map (goes_out_from kernel visit slot) (progress_in kernel.tables call granted phase) ≡ Some exited
      → ComesTo kernel slot result_of_panic exited
  phase_dead granted (Runs job) panics goes = grant_dead granted (grant_of granted job) panics goes
  phase_dead granted (Asks job wanted payload) panics goes = absurd cc
  phase_dead granted (Waits params) panics goes = absurd cc
  phase_dead granted (Ends result params told wakes) panics goes = absurd cc

slot_dead : (kernel : Kernel) (visit : Visit) (slot code granted : ℕ) (exited : Exited) (held : Option ThreadSlot)
    → slice_get kernel.slots slot ≡ held → option_and_then (slot_panic granted) held ≡ Some code
    → option_map (goes_out_from kernel visit slot) (option_and_then (progress_held kernel.tables granted) held) ≡ Some exited
    → ComesTo kernel slot result_of_panic exited
slot_dead kernel visit slot code granted exited None there panics goes = absurd cc
slot_dead kernel visit slot code granted exited (Some Free) there panics goes = absurd cc
slot_dead kernel visit slot code granted exited (Some (Active worker call)) there panics goes =
    phase_dead kernel visit slot code worker call there exited granted call.phase panics goes
slot_dead kernel visit slot code granted exited (Some (Suspended client call)) there panics goes = absurd cc

-- the call of a processor
abbrev EndsDead : Kernel → Option Processor → Exited → Type 0
EndsDead kernel processor exited =
    (slot : ℕ) × (option_and_then slot_of processor ≡ Some slot) × ComesTo kernel slot result_of_panic exited

call_dead : (kernel : Kernel) (cpu code : ℕ) (exited : Exited) (processor : Option Processor)
    → option_and_then (state_panic kernel) processor ≡ Some code → option_and_then (exit_of kernel cpu) processor ≡ Some exited
    → EndsDead kernel processor exited
call_dead kernel cpu code exited None panics goes = absurd cc
call_dead kernel cpu code exited (Some Outside) panics goes = absurd cc
call_dead kernel cpu code exited (Some (Inside regs granted (Fixed answer))) panics goes = absurd cc
call_dead kernel cpu code exited (Some (Inside regs granted (InSlot slot))) panics goes = (
  slot,
  refl,
  slot_dead kernel (record { cpu = cpu; regs = regs; steps = granted }) slot code granted exited (slice_get kernel.slots slot) refl panics goes,
)

-- a call that has come to a result has ended
phase_of_result : (phase : CallPhase) (result : CallResult) → result_in phase ≡ Some result → has_result phase ≡ true
phase_of_result (Runs job) result is = absurd cc
phase_of_result (Asks job wanted payload) result is = absurd cc
phase_of_result (Waits params) result is = absurd cc
phase_of_result (Ends given params told wakes) result is = refl

gives_ended : (carried : PendingCall) (result : CallResult) (writes : List Write) (held : ThreadSlot)
    → GivesResult carried result writes held → has_ended held ≡ true
gives_ended carried result writes Free gives = refl
gives_ended carried result writes (Active worker call) gives = absurd gives
gives_ended carried result writes (Suspended client left) gives = phase_of_result left.phase result gives.result

comes_ended : (kernel : Kernel) (slot : ℕ) (result : CallResult) (exited : Exited) → ComesTo kernel slot result exited
    → IsEnded exited.kernel slot
comes_ended kernel slot result exited comes = record {
  held = comes.held;
  there = comes.there;
  ended = gives_ended comes.call result exited.writes comes.held comes.gives;
}

-- ---- of a call that has its result

ended_phase : (granted : ℕ) (phase : CallPhase) → has_result phase ≡ true → phase_panic granted phase ≡ None
ended_phase granted (Runs job) ended = absurd cc
ended_phase granted (Asks job wanted payload) ended = refl
ended_phase granted (Waits params) ended = refl
ended_phase granted (Ends result params told wakes) ended = refl

ended_slot : (granted : ℕ) (held : ThreadSlot) → has_ended held ≡ true → slot_panic granted held ≡ None
ended_slot granted Free ended = refl
ended_slot granted (Active worker call) ended = ended_phase granted call.phase ended
ended_slot granted (Suspended client call) ended = refl

told_no_more : (kernel : Kernel) (slot : ℕ) (processor : Option Processor) → option_and_then slot_of processor ≡ Some slot
    → IsEnded kernel slot → option_and_then (state_panic kernel) processor ≡ None
told_no_more kernel slot None works ended = refl
told_no_more kernel slot (Some Outside) works ended = refl
told_no_more kernel slot (Some (Inside regs granted (Fixed answer))) works ended = refl
told_no_more kernel slot (Some (Inside regs granted (InSlot other))) works ended =
    let same : other ≡ slot = cc in
    ap (λ (n : ℕ). option_and_then (slot_panic granted) (slice_get kernel.slots n)) same
    ∙ ap (option_and_then (slot_panic granted)) ended.there
    ∙ ended_slot granted ended.held ended.ended

pub panics_end_calls : PanicsEndCalls
panics_end_calls = record {
  ends = λ kernel cpu code exited panics goes.
      let dead = call_dead kernel cpu code exited (slice_get kernel.processors cpu) panics goes in
      (dead.0, dead.1, comes_ended kernel dead.0 result_of_panic exited dead.2);
  result = λ kernel cpu code exited panics goes. call_dead kernel cpu code exited (slice_get kernel.processors cpu) panics goes;
  told_no_more = λ kernel cpu slot works ended. told_no_more kernel slot (slice_get kernel.processors cpu) works ended;
}
