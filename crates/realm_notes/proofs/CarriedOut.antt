-- What is told of a call that a processor carries out, and what its slot is left with.
use Rattle.std.proofs.Common.{◌≡◌, ℕ, Bool, true, false, List, Option, Some, None, refl, ap, sym, subst, ◌∙◌}
use Rattle.std.specs.Prelude.{IsSomeAnd}
use Rattle.std.specs.Global.{Box}
use Rattle.std.specs.Option.{option_map_or}
use Rattle.realm_notes.specs.Noted.{IsLeft, ended_in}
use Rattle.realm_notes.specs.Replaying.{left_at}
use Rattle.realm_notes.specs.Telling.{told_at_end}
use Rattle.realm_notes.specs.Telling as telling
use Rattle.job_model.specs.Job.{Job}
use Rattle.job_model.specs.Steps.{End, Grant, Left, Stopped, grant_of}
use Rattle.job_model.specs.Steps as job
use Rattle.kernel_exit.proofs.ComesTo.{granted}
use Rattle.kernel_exit.specs.Ending.{IsAtRest}
use Rattle.kernel_exit.specs.GoingOut.{HasRunOut, IsCarriedOut, call_carried}
use Rattle.kernel_model.proofs.SoundExits.{exits_all}
use Rattle.kernel_model.specs.Exit.{progress_of, slot_left}
use Rattle.kernel_model.specs.Kernel.{CallPhase, Runs, Asks, Waits, Ends, PendingCall, Progress, Tables, ThreadSlot}
use Rattle.kernel_model.specs.Kernel as model
use Rattle.kernel_model.specs.Leaving.{Leaving, Interrupted, WantsBuffer, Requests, FreesBuffer, Finishes, Request, leaving_in, leaving_of, place_of, plain_request}
use Rattle.kernel_state.specs.Calls.{IsCall, IsInPhase, bytes_of}
use Rattle.kernel_state.specs.StandsFor.{IsSlotAt}
use Rattle.kernel_state.specs.declared.cancellation.Cancellation.{Cancellation}
use Rattle.kernel_state.specs.declared.carried.Carried.{Carried}
use Rattle.kernel_state.specs.declared.carried.Carried.TheVariants.{Nothing, Resting, Running}
use Rattle.own_model.specs.Own as own
use Rattle.rpc_cont.specs.Advancing.{IsAdvance, phase_after}
use Rattle.rpc_cont.specs.Conts.{kept_params}
use Rattle.rpc_cont.specs.declared.cont.Cont.{Cont}
use Rattle.rpc_cont.specs.declared.stop.ContStop.{ContStop}
use Rattle.rpc_msgs.specs.declared.request_place.RequestPlace.{RequestPlace}
use Rattle.rpc_msgs.specs.declared.rpc.Rpc.TheVariants as rpc
use Rattle.ta_params.specs.declared.call_result.CallResult.{CallResult}
use Rattle.ta_params.specs.declared.copied_params.CopiedParams.{CopiedParams}
use Rattle.thread_slots.specs.declared.slot.Slot.{Slot}
use Rattle.thread_slots.specs.declared.slot.Slot.TheVariants.{Free, Active, Suspended}

-- ---- what is told

-- of the call that it carries
pub carried_told : (carried : Carried) (cont : Box (Cont (List ℕ))) → call_carried carried ≡ Some cont
    → told_at_end carried ≡ telling.ended_in cont.value cont.value.phase
carried_told Nothing cont e = absurd cc
carried_told (Resting held) cont e =
    let same : held ≡ cont = cc in ap (λ (b : Box (Cont (List ℕ))). telling.ended_in b.value b.value.phase) same
carried_told (Running held) cont e =
    let same : held ≡ cont = cc in ap (λ (b : Box (Cont (List ℕ))). telling.ended_in b.value b.value.phase) same

module _ (tables : Tables) (cont : Cont (List ℕ)) (call : PendingCall) (steps : ℕ) where
  -- it is told as the kernel's call is, by how far that has come
  abbrev ToldAs : Progress → Type 0
  ToldAs progress = telling.ended_in cont cont.phase ≡ ended_in progress.call.phase

  -- what its granted steps came to
  advance_of : (why : ContStop) (out : HasRunOut cont why call steps) (its : Job) (grant : Grant) → call.phase ≡ Runs its
      → grant_of steps its ≡ Some grant → IsAdvance bytes_of cont.app cont out.before.steps steps grant why
  advance_of why out its grant is so =
      subst (λ (o : Option Grant). IsSomeAnd o (λ g. IsAdvance bytes_of cont.app cont out.before.steps steps g why)) so
      (granted out.before call its steps (λ g. IsAdvance bytes_of cont.app cont out.before.steps steps g why) out.is is
      out.ran.advances)

  ran_told : (why : ContStop) → HasRunOut cont why call steps → (progress : Progress)
      → progress_of tables call steps ≡ Some progress → ToldAs progress
  ran_told why out progress comes = exits_all tables call steps ToldAs progress (record {
    left = λ its later is so. (let came = advance_of why out its (Left later) is so in
        ap (telling.ended_in cont) (out.ran.phase ∙ ap phase_after came.0));
    ends = λ its used end is so. (let came = advance_of why out its (Stopped used (job.Ends end)) is so in
        ap (telling.ended_in cont) (out.ran.phase ∙ ap phase_after came.0.0)
        ∙ ap (λ (e : End). Some (own.ended e.result e.params)) (sym came.0.1));
    panics = λ its used code is so. (let came = advance_of why out its (Stopped used (job.Panics code)) is so in
        ap (telling.ended_in cont) (out.ran.phase ∙ ap phase_after came.0.0)
        ∙ ap (λ (r : CallResult). Some (own.ended r (kept_params cont.params))) came.0.1);
    asks = λ its later used wanted payload is so.
        (let came = advance_of why out its (Stopped used (job.Asks wanted payload later)) is so in
        ap (telling.ended_in cont) (out.ran.phase ∙ ap phase_after came.0.0));
    asked = λ its wanted payload is. (let other = out.runs in absurd (cc));
    waits = λ params is. (let other = out.runs in absurd (cc));
    told = λ result params wakes is. (let other = out.runs in absurd (cc));
    tells = λ result params wakes is. (let other = out.runs in absurd (cc));
  }) comes

  rested_told : IsCall cont call → IsAtRest call.phase → (progress : Progress)
      → progress_of tables call steps ≡ Some progress → ToldAs progress
  rested_told is rests progress comes = exits_all tables call steps ToldAs progress (record {
    left = λ its later at so. absurd (subst IsAtRest at rests);
    ends = λ its used end at so. absurd (subst IsAtRest at rests);
    panics = λ its used code at so. absurd (subst IsAtRest at rests);
    asks = λ its later used wanted payload at so. absurd (subst IsAtRest at rests);
    asked = λ its wanted payload at. (let here : IsInPhase cont (Asks its wanted payload) = subst (IsInPhase cont) at is.phase in
        ap (telling.ended_in cont) here.0 ∙ sym (ap ended_in at));
    waits = λ params at. (let here : IsInPhase cont (Waits params) = subst (IsInPhase cont) at is.phase in
        ap (telling.ended_in cont) here.phase ∙ sym (ap ended_in at));
    told = λ result params wakes at. ended_told result params true wakes at ∙ sym (ap ended_in at);
    tells = λ result params wakes at. ended_told result params false wakes at;
  }) comes
    where
      ended_told : (result : CallResult) (params : CopiedParams) (told : Bool) (wakes : Option ℕ)
          → call.phase ≡ Ends result params told wakes → telling.ended_in cont cont.phase ≡ Some (own.ended result params)
      ended_told result params told wakes at =
          let here : IsInPhase cont (Ends result params told wakes) = subst (IsInPhase cont) at is.phase in
          ap (telling.ended_in cont) here.phase
          ∙ ap (λ (r : CallResult). Some (own.ended r (kept_params cont.params))) here.result
          ∙ ap (λ (ps : CopiedParams). Some (own.ended result ps)) here.params

  pub told_so : (why : Option ContStop) → IsCarriedOut cont why call steps → (progress : Progress)
      → progress_of tables call steps ≡ Some progress → ToldAs progress
  told_so (Some why) out progress comes = ran_told why out progress comes
  told_so None is progress comes = rested_told is.0 is.1 progress comes

-- ---- what its slot is left with

abbrev pub CodeSlot : Type 0
CodeSlot = Slot (Box (Cont (List ℕ)))

-- a call that waits in it is the kernel's
record WaitsThere (held : ThreadSlot) (cont : Cont (List ℕ)) : Type 0 where
  pub owner : ℕ
  pub left : PendingCall
  pub suspended : held ≡ model.Suspended owner left
  pub is : IsCall cont left

waits_there : (there : Option CodeSlot) (beside : Option Cancellation) (held : ThreadSlot) (cont : Cont (List ℕ))
    → IsSlotAt there beside (Some held) → left_at there ≡ Some cont → WaitsThere held cont
waits_there None None held cont is left = absurd is
waits_there None (Some beside) held cont is left = absurd is
waits_there (Some slot) None held cont is left = absurd is
waits_there (Some Free) (Some beside) held cont is left = absurd cc
waits_there (Some (Active cpu)) (Some beside) held cont is left = absurd cc
waits_there (Some (Suspended client kept)) (Some beside) model.Free cont is left = absurd is
waits_there (Some (Suspended client kept)) (Some beside) (model.Active worker call) cont is left = absurd is
waits_there (Some (Suspended client kept)) (Some beside) (model.Suspended owner call) cont is left =
    let same : kept.value ≡ cont = cc in
    record { owner = owner; left = call; suspended = refl; is = subst (λ (c : Cont (List ℕ)). IsCall c call) same is.2 }

-- where none does, the kernel's slot is free, if no processor works on its call
free_there : (there : Option CodeSlot) (beside : Option Cancellation) (held : ThreadSlot) → IsSlotAt there beside (Some held)
    → left_at there ≡ None → ((cpu : ℕ) (call : PendingCall) → held ≡ model.Active cpu call → ⊥) → held ≡ model.Free
free_there None None held is left idle = absurd is
free_there None (Some beside) held is left idle = absurd is
free_there (Some slot) None held is left idle = absurd is
free_there (Some Free) (Some beside) model.Free is left idle = refl
free_there (Some Free) (Some beside) (model.Active worker call) is left idle = absurd is
free_there (Some Free) (Some beside) (model.Suspended owner call) is left idle = absurd is
free_there (Some (Active cpu)) (Some beside) model.Free is left idle = absurd is
free_there (Some (Active cpu)) (Some beside) (model.Active worker call) is left idle = absurd (idle worker call refl)
free_there (Some (Active cpu)) (Some beside) (model.Suspended owner call) is left idle = absurd is
free_there (Some (Suspended client kept)) (Some beside) held is left idle = absurd cc

-- nobody works on what was left
nobody_works : (call : PendingCall) (leaving : Leaving) (cpu : ℕ) (other : PendingCall)
    → slot_left call leaving ≡ model.Active cpu other → ⊥
nobody_works call Interrupted cpu other e = cc
nobody_works call WantsBuffer cpu other e = cc
nobody_works call (Requests place request) cpu other e = cc
nobody_works call (FreesBuffer buffer) cpu other e = cc
nobody_works call (Finishes result params) cpu other e = cc

-- it waits for its own client
same_client : (call : PendingCall) (leaving : Leaving) (owner : ℕ) (left : PendingCall)
    → slot_left call leaving ≡ model.Suspended owner left → slot_left call leaving ≡ model.Suspended call.client left
same_client call Interrupted owner left e = let same : call ≡ left = cc in ap (λ (c : PendingCall). model.Suspended call.client c) same
same_client call WantsBuffer owner left e = let same : call ≡ left = cc in ap (λ (c : PendingCall). model.Suspended call.client c) same
same_client call (Requests place request) owner left e =
    let same : call ≡ left = cc in ap (λ (c : PendingCall). model.Suspended call.client c) same
same_client call (FreesBuffer buffer) owner left e =
    let same : record call { buffer = None } ≡ left = cc in ap (λ (c : PendingCall). model.Suspended call.client c) same
same_client call (Finishes result params) owner left e = absurd cc

-- by what is seen of the code's slot
module _ (there : Option CodeSlot) (beside : Option Cancellation) (slot : ℕ) (call : PendingCall)
    (is : IsSlotAt there beside (Some (slot_left call (leaving_of slot call)))) where
  pub is_left : (cont : Cont (List ℕ)) → left_at there ≡ Some cont → IsLeft slot call cont
  is_left cont left =
      let kept = waits_there there beside (slot_left call (leaving_of slot call)) cont is left in
      record {
        left = kept.left;
        in_slot = same_client call (leaving_of slot call) kept.owner kept.left kept.suspended;
        is = kept.is;
      }

  pub is_free : left_at there ≡ None → slot_left call (leaving_of slot call) ≡ model.Free
  is_free left = free_there there beside (slot_left call (leaving_of slot call)) is left
      (λ cpu other. nobody_works call (leaving_of slot call) cpu other)

-- a slot that was left free is that of a call which has ended
asks_stays : (call : PendingCall) (place : Option RequestPlace) (request : Request)
    → slot_left call (option_map_or (λ there. Requests there request) place WantsBuffer) ≡ model.Free → ⊥
asks_stays call None request e = cc
asks_stays call (Some there) request e = cc

pub must_end : (slot : ℕ) (call : PendingCall) (at : CallPhase) → slot_left call (leaving_in slot call at) ≡ model.Free
    → ended_in at ≡ None → ⊥
must_end slot call (Runs its) free none = cc
must_end slot call (Asks its wanted payload) free none =
    asks_stays call (place_of call (record { wanted = wanted; payload = payload })) _ free
must_end slot call (Waits params) free none = asks_stays call (place_of call (plain_request (rpc.Sleep slot))) _ free
must_end slot call (Ends result params told wakes) free none = cc
