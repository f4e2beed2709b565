-- What so many steps make of a job, and its stop. This project's own.
use Rattle.std.specs.Prelude.{◌≡◌, ℕ, zero, suc, ◌+◌, ◌≤◌, ◌==◌, Bool, true, false, if◌then◌else◌, List, [], ◌∷◌, ◌++◌}
use Rattle.std.specs.Prelude.{Option, Some, None}
use Rattle.std.specs.Option.{option_map, option_or, option_and_then}
use Rattle.base.specs.NumberMap.{NumberMap}
use Rattle.ta_isa.specs.declared.image.Image.{Image}
use Rattle.ta_params.specs.declared.call_result.CallResult.{CallResult}
use Rattle.ta_params.specs.declared.copied_params.CopiedParams.{CopiedParams}
use Rattle.native_tas.specs.Relation.{answer_of}
use Rattle.rpc_msgs.specs.Answer.{RpcAnswer}
use Rattle.rpc_msgs.specs.declared.rpc.Rpc.{Rpc}
use Rattle.ta_step.specs.Addresses.{store}
use Rattle.ta_step.specs.Outcome.{Outcome, asking}
use Rattle.ta_step.specs.Outcome as outcome
use Rattle.ta_step.specs.Requests.{span_of}
use Rattle.ta_step.specs.State.{State, is_cancelled}
use Rattle.ta_step.specs.Step.{step}
use Rattle.ta_step.specs.SystemCalls.{answered}
use Rattle.ta_step.specs.declared.stop.Request.{Request}
use Rattle.ta_step.specs.declared.stop.Stop.{Stop as MachineStop}
use Rattle.ta_step.specs.declared.stop.Stop.TheVariants as stop
use Rattle.tee_storage.specs.declared.handle.Handle.{Handle}
use Rattle.job_model.specs.declared.entry_point.EntryPoint.{EntryPoint}
use Rattle.job_model.specs.declared.entry_point.EntryPoint.TheVariants.{Create, Open, Invoke, Close, Destroy}
use Rattle.job_model.specs.Asking.{PendingRequest, Asking, Needs, Gives, Bad, Ask, ask, range_of}
use Rattle.job_model.specs.Job.{Body, Machine, Native, Nothing, Job, of_application, image_job_at}

-- what an ended job leaves
pub record End : Type 0 where
  pub result : CallResult
  pub context : ℕ
  pub memory : List ℕ
  pub objects : NumberMap Handle
  pub params : CopiedParams
  -- the instance is at its end: its create failed, or its destroy has run
  pub is_last : Bool

-- why a job stops
pub data JobStop : Type 0 where
  -- it has ended
  Ends : End → JobStop
  -- an entry point panicked
  Panics : (code : ℕ) → JobStop
  -- it asks the normal world for this, with these bytes, and leaves this job
  Asks : (wanted : Rpc) (payload : List ℕ) (left : Job) → JobStop

-- what one step comes to: the job goes on, or it stops
pub data Advance : Type 0 where
  Goes : Job → Advance
  Stops : JobStop → Advance

-- ---- the return of an entry point, with r0 and r1

-- the job after it: a create that fails, and each open and invoke, give the result; an open gives the context
-- too; a close and a destroy leave both as they are. Open and invoke give the parameters back
abbrev pub job_after_return : Job → EntryPoint → CopiedParams → ℕ → ℕ → Job
job_after_return job Create params r0 r1 = if r0 == 0 then job else record job { result = of_application r0 }
job_after_return job Open params r0 r1 = record job { result = of_application r0; context = r1; params = params }
job_after_return job (Invoke func) params r0 r1 = record job { result = of_application r0; params = params }
job_after_return job Close params r0 r1 = job
job_after_return job Destroy params r0 r1 = job

-- the entry points that still come after it: none where create fails, and none where open succeeds
abbrev pub still_to_come : EntryPoint → ℕ → List EntryPoint → List EntryPoint
still_to_come Create r0 points = if r0 == 0 then points else []
still_to_come Open r0 points = if r0 == 0 then [] else points
still_to_come (Invoke func) r0 points = points
still_to_come Close r0 points = points
still_to_come Destroy r0 points = points

-- a job that ends with this entry point leaves its instance at its end
abbrev pub ends_instance : EntryPoint → Bool
ends_instance Create = true
ends_instance Open = false
ends_instance (Invoke func) = false
ends_instance Close = false
ends_instance Destroy = true

-- what an ended job leaves, with this memory
abbrev pub end_of : Job → List ℕ → Bool → End
end_of job memory is_last =
    record {
      result = job.result;
      context = job.context;
      memory = memory;
      objects = job.objects;
      params = job.params;
      is_last = is_last;
    }

-- on to the first of the entry points that come, with memory and flag as they are; to the end where none does
abbrev pub on_to_next : Job → Image → EntryPoint → State → List EntryPoint → Advance
on_to_next job image point machine [] = Stops (Ends (end_of job machine.memory (ends_instance point)))
on_to_next job image point machine (next ∷ behind) =
    Goes (image_job_at image machine.memory machine.cancelled job next behind)

-- ---- requests

-- the job with this machine, these open objects, and this request on its way
abbrev pub with_machine : Job → Image → EntryPoint → State → NumberMap Handle → Option PendingRequest → Job
with_machine job image point machine objects asked =
    record job { body = Machine image point machine; objects = objects; asked = asked }

-- on from what a request comes to, with memory and open objects as they then are
abbrev pub on_from : Job → Image → EntryPoint → State → PendingRequest → NumberMap Handle → Asking → Advance
on_from job image point machine asked objects (Needs wanted payload) =
    Stops (Asks wanted payload (with_machine job image point machine objects (Some asked)))
on_from job image point machine asked objects (Gives r0 r1 r2) =
    Goes (with_machine job image point (answered asked.request r0 r1 r2 machine) objects None)
on_from job image point machine asked objects (Bad code) = Stops (Panics code)

-- the machine with other bytes where its request names some
abbrev pub with_bytes : State → Request → List ℕ → State
with_bytes machine request bytes = let span = span_of request in store machine span.0 bytes

-- on with a machine that has asked, by the answers so far
abbrev pub advance_on_answers : Job → Image → EntryPoint → State → PendingRequest → Option Advance
advance_on_answers job image point machine asked =
    let on = λ (came : Ask).
    on_from job image point (with_bytes machine asked.request came.range) asked came.objects came.next in
    option_map on (ask job.owner (is_cancelled machine) asked)

-- a request as the machine makes it
abbrev pub new_request : Job → State → Request → PendingRequest
new_request job machine request =
    record { request = request; range = range_of request machine; objects = job.objects; answers = [] }

-- the job when what it asked for is answered so
abbrev pub advance_on_answer_in : Job → RpcAnswer → Body → Option PendingRequest → Option Advance
advance_on_answer_in job answer (Machine image point machine) (Some asked) =
    advance_on_answers job image point machine (record asked { answers = asked.answers ++ answer ∷ [] })
advance_on_answer_in job answer (Machine image point machine) None = None
advance_on_answer_in job answer (Native relation func) asked = None
advance_on_answer_in job answer Nothing asked = None

abbrev pub advance_on_answer : RpcAnswer → Job → Option Advance
advance_on_answer answer job = advance_on_answer_in job answer job.body job.asked

-- ---- steps

-- what an outcome of the machine is for its job: a request that needs nothing of the normal world is answered at once
abbrev pub advance_by : Job → Image → EntryPoint → State → Outcome → Option Advance
advance_by job image point machine (outcome.Goes next) = Some (Goes (record job { body = Machine image point next }))
advance_by job image point machine (outcome.Returns r0 r1) =
    Some (on_to_next (job_after_return job point machine.params r0 r1) image point machine
    (still_to_come point r0 job.points))
advance_by job image point machine (outcome.Panics code) = Some (Stops (Panics code))
advance_by job image point machine (outcome.Asks request) =
    advance_on_answers job image point (asking request machine) (new_request job machine request)

-- the answer of a native application to an invoke, in one step
abbrev pub native_end : Job → ℕ × CopiedParams → JobStop
native_end job answer = Ends (end_of (record job { result = of_application answer.0; params = answer.1 }) [] false)

-- what the next step of what runs comes to; nothing has none
abbrev pub advance_of : Job → Body → Option Advance
advance_of job (Machine image point machine) =
    option_and_then (advance_by job image point machine) (step image.code machine)
advance_of job (Native relation func) = Some (Stops (native_end job (answer_of relation func job.params)))
advance_of job Nothing = None

-- what the next step comes to
abbrev pub advance : Job → Option Advance
advance job = advance_of job job.body

-- on from an advance, where the job goes on
abbrev pub where_it_goes : (Job → Option Job) → Advance → Option Job
where_it_goes rest (Goes job) = rest job
where_it_goes rest (Stops why) = None

-- the job after so many steps, where none of them stops it
abbrev pub after : ℕ → Job → Option Job
after zero job = Some job
after (suc n) job = option_and_then (where_it_goes (after n)) (advance job)

-- a destroy is among the entry points to come
abbrev pub has_destroy : List EntryPoint → Bool
has_destroy [] = false
has_destroy (point ∷ points) = true

-- a job with nothing to run has ended after no steps, a destroy with it where one was to come
abbrev pub stop_at_once : Job → Body → Option JobStop
stop_at_once job (Machine image point machine) = None
stop_at_once job (Native relation func) = None
stop_at_once job Nothing = Some (Ends (end_of job [] (has_destroy job.points)))

-- the stop of so many more steps after this one
abbrev pub stop_behind : (Job → Option JobStop) → ℕ → Advance → Option JobStop
stop_behind rest n (Goes job) = rest job
stop_behind rest zero (Stops why) = Some why
stop_behind rest (suc n) (Stops why) = None

-- why the step of this number stops the job, where it does: 1 is the first step
abbrev pub stop_at : ℕ → Job → Option JobStop
stop_at zero job = stop_at_once job job.body
stop_at (suc n) job = option_and_then (stop_behind (stop_at n) n) (advance job)

-- the job is this one after so many steps
abbrev pub After : Job → ℕ → Job → Type 0
After job n left = after n job ≡ Some left

-- the job stops so at this step
abbrev pub Stop : Job → ℕ → JobStop → Type 0
Stop job n why = stop_at n job ≡ Some why

-- ---- a grant of steps

-- what a grant comes to: the job that all of its steps leave, or the step that stopped it, and why
pub data Grant : Type 0 where
  Left : Job → Grant
  Stopped : ℕ → JobStop → Grant

-- the same with one step before it
abbrev pub one_later : Grant → Grant
one_later (Left job) = Left job
one_later (Stopped n why) = Stopped (suc n) why

-- what a grant comes to behind its first step
abbrev pub grant_behind : (Job → Option Grant) → Advance → Option Grant
grant_behind rest (Goes job) = option_map one_later (rest job)
grant_behind rest (Stops why) = Some (Stopped 1 why)

-- what so many steps make of a job that has something to run
abbrev pub run_for : ℕ → Job → Option Grant
run_for zero job = Some (Left job)
run_for (suc n) job = option_and_then (grant_behind (run_for n)) (advance job)

-- what a grant of so many steps makes of a job
abbrev pub grant_of : ℕ → Job → Option Grant
grant_of n job = option_or (option_map (Stopped 0) (stop_at_once job job.body)) (run_for n job)

-- a grant is what After and Stop say
abbrev pub IsGrant : Job → ℕ → Grant → Type 0
IsGrant job n (Left left) = After job n left × ((m : ℕ) → m ≤ n → stop_at m job ≡ None)
IsGrant job n (Stopped m why) = (m ≤ n) × Stop job m why

-- ---- a run of the machine

-- the job after a run of its machine, or why it has stopped by the end of that
abbrev pub after_run : Job → Image → EntryPoint → State → MachineStop → Option Advance
after_run job image point machine (stop.Ended r0 r1) =
    Some (on_to_next (job_after_return job point machine.params r0 r1) image point machine
    (still_to_come point r0 job.points))
after_run job image point machine (stop.Panicked code) = Some (Stops (Panics code))
after_run job image point machine (stop.Asks request) =
    advance_on_answers job image point machine (new_request job machine request)
after_run job image point machine stop.Interrupted = Some (Goes (record job { body = Machine image point machine }))

-- the same grant with so many steps before it
abbrev pub later : ℕ → Grant → Grant
later used (Left job) = Left job
later used (Stopped n why) = Stopped (used + n) why

-- a grant of which so many steps are used and so many are left
abbrev pub grant_after : ℕ → ℕ → Advance → Option Grant
grant_after used left (Goes job) = option_map (later used) (run_for left job)
grant_after used left (Stops why) = Some (Stopped used why)
