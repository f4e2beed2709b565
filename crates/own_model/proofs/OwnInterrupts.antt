-- A call that is interrupted ran, and its job is further ahead of the machine's.
use Rattle.std.proofs.Common.{◌≡◌, ℕ, ◌+◌, ◌-◌, ◌≤◌, Bool, true, false, Option, Some, None, refl, ap, subst, sym}
use Rattle.std.proofs.Common.{◌∙◌, arith}
use Rattle.ta_params.specs.declared.call_result.CallResult.{CallResult}
use Rattle.ta_params.specs.declared.copied_params.CopiedParams.{CopiedParams}
use Rattle.std.specs.Option.{option_map_or, option_and_then}
use Rattle.job_model.specs.Job.{Job, of_tee}
use Rattle.job_model.specs.Steps.{Grant, JobStop, Left, Stopped, after, grant_of}
use Rattle.job_model.specs.Steps as steps
use Rattle.job_model.proofs.JobSteps.{after-sum, granted-IsGrant}
use Rattle.rpc_msgs.specs.declared.request_place.RequestPlace.{RequestPlace}
use Rattle.rpc_msgs.specs.declared.rpc_buffer.RpcBuffer.{RpcBuffer}
use Rattle.kernel_model.specs.Exit.{after_grant, after_stop, further}
use Rattle.kernel_model.specs.Exit.{progress_in, shows_result, tables_after_end}
use Rattle.kernel_model.specs.Exit.{tables_after_panic, tables_unrun, woken_by}
use Rattle.kernel_model.specs.Kernel.{Asks, CallPhase, Ends, PendingCall}
use Rattle.kernel_model.specs.Kernel.{Progress, Runs, Tables, Waits}
use Rattle.kernel_model.specs.Leaving.{FreesBuffer, Finishes, Interrupted, Leaving, Request, Requests, WantsBuffer}
use Rattle.kernel_model.specs.Leaving.{leaving_in, leaving_of, place_of, plain_request}
use Rattle.rpc_msgs.specs.declared.rpc.Rpc.TheVariants as rpc
use Rattle.job_model.specs.Point.{no_params}
use Rattle.kernel_model.specs.Codes.{target_dead}
use Rattle.kernel_model.proofs.Parts.{option_map_some}
use Rattle.own_model.specs.Tied.{IsFurther, PhasesAlike}

-- ---- which calls are interrupted

pub asks_not : (o : Option RequestPlace) (request : Request)
    → option_map_or (λ (place : RequestPlace). Requests place request) o WantsBuffer ≡ Interrupted → ⊥
asks_not None request e = cc
asks_not (Some place) request e = cc

frees_not : (o : Option RpcBuffer) (other : Leaving) → (other ≡ Interrupted → ⊥)
    → option_map_or FreesBuffer o other ≡ Interrupted → ⊥
frees_not None other apart e = apart e
frees_not (Some buffer) other apart e = cc

pub ends_not : (slot : ℕ) (call : PendingCall) (result : CallResult) (params : CopiedParams) (told : Bool)
    (wakes : Option ℕ)
    → leaving_in slot call (Ends result params told wakes) ≡ Interrupted → ⊥
ends_not slot call result params told (Some woken) e = asks_not (place_of call (plain_request (rpc.Wake woken))) _ e
ends_not slot call result params told None e = frees_not call.buffer (Finishes result params) (λ no. cc) e

shows_not : (slot : ℕ) (tables : Tables) (call : PendingCall) (result : CallResult) (params : CopiedParams)
    → leaving_of slot (shows_result tables call result params).call ≡ Interrupted → ⊥
shows_not slot tables call result params e =
    ends_not slot (shows_result tables call result params).call result params true (woken_by tables call call.kind) e

-- a call that runs, whose grant left its job
pub record IsLeft (tables : Tables) (call : PendingCall) (granted : ℕ) (phase : CallPhase)
    (progress : Progress) : Type 0 where
  pub job : Job
  pub left_job : Job
  pub runs : phase ≡ Runs job
  pub grant : grant_of granted job ≡ Some (Left left_job)
  pub is : progress ≡ record { call = record (further call granted) { phase = Runs left_job }; tables = tables }

stop_not : (slot : ℕ) (tables : Tables) (call : PendingCall) (why : JobStop)
    → leaving_of slot (after_stop tables call why).call ≡ Interrupted → ⊥
stop_not slot tables call (steps.Ends end) e =
    shows_not slot (tables_after_end tables call end) call end.result end.params e
stop_not slot tables call (steps.Panics code) e =
    shows_not slot (tables_after_panic tables call) call (of_tee target_dead) no_params e
stop_not slot tables call (steps.Asks wanted payload job) e =
    asks_not (place_of call (record { wanted = wanted; payload = payload })) (record { wanted = wanted; payload = payload }) e

grant_left : (slot : ℕ) (tables : Tables) (call : PendingCall) (granted : ℕ) (job : Job) (grant : Grant)
    → grant_of granted job ≡ Some grant
    → leaving_of slot (after_grant tables call granted grant).call ≡ Interrupted
    → IsLeft tables call granted (Runs job) (after_grant tables call granted grant)
grant_left slot tables call granted job (Left left_job) is e =
    record { job = job; left_job = left_job; runs = refl; grant = is; is = refl }
grant_left slot tables call granted job (Stopped used why) is e =
    absurd (stop_not slot tables (further call used) why e)

same_progress : (found progress : Progress) → Some found ≡ Some progress → found ≡ progress
same_progress found progress e = cc

pub is_left : (slot : ℕ) (tables : Tables) (call : PendingCall) (granted : ℕ) (phase : CallPhase) (progress : Progress)
    → call.phase ≡ phase
    → progress_in tables call granted phase ≡ Some progress → leaving_of slot progress.call ≡ Interrupted
    → IsLeft tables call granted phase progress
is_left slot tables call granted (Runs job) progress in_it e interrupted =
    let found = option_map_some (after_grant tables call granted) (grant_of granted job) progress e in
    let interrupts : leaving_of slot (after_grant tables call granted found.0).call ≡ Interrupted =
    ap (λ (p : Progress). leaving_of slot p.call) found.2 ∙ interrupted in
    subst (IsLeft tables call granted (Runs job)) found.2
    (grant_left slot tables call granted job found.0 found.1 interrupts)
is_left slot tables call granted (Asks job wanted payload) progress in_it e interrupted =
    absurd (asks_not (place_of call (record { wanted = wanted; payload = payload })) (record { wanted = wanted; payload = payload })
    (ap (λ p. leaving_in slot call p) (sym in_it)
    ∙ ap (λ (p : Progress). leaving_of slot p.call) (same_progress (record { call = call; tables = tables }) progress e)
    ∙ interrupted))
is_left slot tables call granted (Waits params) progress in_it e interrupted =
    absurd (asks_not (place_of call (plain_request (rpc.Sleep slot))) (plain_request (rpc.Sleep slot))
    (ap (λ p. leaving_in slot call p) (sym in_it)
    ∙ ap (λ (p : Progress). leaving_of slot p.call) (same_progress (record { call = call; tables = tables }) progress e)
    ∙ interrupted))
is_left slot tables call granted (Ends result params true wakes) progress in_it e interrupted =
    absurd (ends_not slot call result params true wakes
    (ap (λ p. leaving_in slot call p) (sym in_it)
    ∙ ap (λ (p : Progress). leaving_of slot p.call) (same_progress (record { call = call; tables = tables }) progress e)
    ∙ interrupted))
is_left slot tables call granted (Ends result params false wakes) progress in_it e interrupted =
    absurd (shows_not slot (tables_unrun tables call) call result params
    (ap (λ (p : Progress). leaving_of slot p.call)
    (same_progress (shows_result (tables_unrun tables call) call result params) progress e) ∙ interrupted))

-- ---- the job, further ahead

sums : (now then granted : ℕ) → then ≤ now → (now - then) + granted ≡ (now + granted) - then
sums now then granted le = omega arith

longer : (now then granted : ℕ) → then ≤ now → then ≤ now + granted
longer now then granted le = omega arith

further_on : (now then granted : ℕ) (job left_job from : Job) → IsFurther now then job from
    → grant_of granted job ≡ Some (Left left_job)
    → IsFurther (now + granted) then left_job from
further_on now then granted job left_job from ahead grant =
    let on = granted-IsGrant job granted (Left left_job) grant in
    record {
      more = longer now then granted ahead.more;
      after = ap (λ n. after n from) (sym (sums now then granted ahead.more))
          ∙ after-sum from (now - then) granted
          ∙ ap (λ (o : Option Job). option_and_then (after granted) o) ahead.after
          ∙ on.0;
    }

pub phases_on : (kept : Option ℕ) (now then granted : ℕ) (job left_job : Job) (own : CallPhase)
    → PhasesAlike kept now then (Runs job) own
    → grant_of granted job ≡ Some (Left left_job) → PhasesAlike kept (now + granted) then (Runs left_job) own
phases_on kept now then granted job left_job (Runs from) alike grant =
    further_on now then granted job left_job from alike grant
phases_on kept now then granted job left_job (Asks from wanted payload) alike grant = absurd alike
phases_on kept now then granted job left_job (Waits params) alike grant = absurd alike
phases_on kept now then granted job left_job (Ends result params told wakes) alike grant = absurd alike
