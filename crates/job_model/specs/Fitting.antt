-- What a job asks for fits a message. This project's own.
use Rattle.std.specs.Prelude.{◌≡◌, ℕ, List, length, Option, Some, None}
use Rattle.rpc_msgs.specs.Answer.{RpcAnswer}
use Rattle.rpc_msgs.specs.Request.{IsPayloadOf, IsRequest}
use Rattle.rpc_msgs.specs.declared.rpc.Rpc.{Rpc}
use Rattle.ta_step.specs.Requests.{span_of}
use Rattle.job_model.specs.Asking.{PendingRequest}
use Rattle.job_model.specs.Job.{Job}
use Rattle.job_model.specs.Steps.{Asks, Stop, Stops, advance_on_answer}

-- the request on its way, if there is one, has as many bytes of memory as it names
abbrev pub HasRange : Option PendingRequest → Type 0
HasRange None = Unit {0}
HasRange (Some asked) = length asked.range ≡ (span_of asked.request).1

-- a job that is left so has asked for this, which a message has room for, with its payload
pub record AsksFittingly (wanted : Rpc) (payload : List ℕ) (left : Job) : Type 0 where
  pub request : IsRequest wanted
  pub with_payload : IsPayloadOf wanted payload
  pub range : HasRange left.asked

-- what a job asks for fits, at its stop and behind each answer
pub record RequestsFit : Type 0 where
  pub stops : (job left : Job) (n : ℕ) (wanted : Rpc) (payload : List ℕ) → Stop job n (Asks wanted payload left) →
      AsksFittingly wanted payload left
  pub answers : (job left : Job) (answer : RpcAnswer) (wanted : Rpc) (payload : List ℕ) → HasRange job.asked →
      advance_on_answer answer job ≡ Some (Stops (Asks wanted payload left)) → AsksFittingly wanted payload left
