-- A job that has asked for something takes each answer. This project's own.
use Rattle.std.specs.Prelude.{ℕ, Bool, List, Option, Some, None}
use Rattle.rpc_msgs.specs.Answer.{RpcAnswer}
use Rattle.rpc_msgs.specs.declared.rpc.Rpc.{Rpc}
use Rattle.job_model.specs.Owner.{Owner}
use Rattle.job_model.specs.Asking.{PendingRequest, Asking, Needs, Gives, Bad, Ask, ask}
use Rattle.job_model.specs.Job.{Body, Machine, Native, Nothing, Job, with_cancel_seen}
use Rattle.job_model.specs.Steps.{Ends, Panics, Asks, Advance, Goes, Stops, Stop, advance_on_answer}

-- a request to the normal world comes next
abbrev pub IsNeeded : Asking → Type 0
IsNeeded (Needs wanted payload) = Unit {0}
IsNeeded (Gives r0 r1 r2) = ⊥
IsNeeded (Bad code) = ⊥

-- what was asked for comes to one, whether the call is cancelled or not
abbrev pub IsNeededBy : Option Ask → Type 0
IsNeededBy None = ⊥
IsNeededBy (Some came) = IsNeeded came.next

abbrev pub IsUnanswered : Owner → Option PendingRequest → Type 0
IsUnanswered owner None = ⊥
IsUnanswered owner (Some asked) = (cancelled : Bool) → IsNeededBy (ask owner cancelled asked)

-- a machine runs
abbrev pub HasMachine : Body → Type 0
HasMachine (Machine image point machine) = Unit {0}
HasMachine (Native relation func) = ⊥
HasMachine Nothing = ⊥

-- the job waits for the answer to a request
pub record WaitsForAnswer (job : Job) : Type 0 where
  pub machine : HasMachine job.body
  pub asked : IsUnanswered job.owner job.asked

-- the job goes on, or asks for something else
abbrev pub IsTaken : Option Advance → Type 0
IsTaken None = ⊥
IsTaken (Some (Goes job)) = Unit {0}
IsTaken (Some (Stops (Ends end))) = ⊥
IsTaken (Some (Stops (Panics code))) = ⊥
IsTaken (Some (Stops (Asks wanted payload left))) = WaitsForAnswer left

-- a job that stops with a request waits for its answer, also once it has seen that its call was cancelled, and takes
-- each answer
pub record AnswersAreTaken : Type 0 where
  pub stops : (job left : Job) (n : ℕ) (wanted : Rpc) (payload : List ℕ) → Stop job n (Asks wanted payload left) →
      WaitsForAnswer left
  pub sees : (job : Job) → WaitsForAnswer job → WaitsForAnswer (with_cancel_seen job)
  pub takes : (job : Job) (answer : RpcAnswer) → WaitsForAnswer job → IsTaken (advance_on_answer answer job)
