-- A job whose call has seen that it was cancelled. This project's own.
use Rattle.std.specs.Prelude.{◌≡◌, ℕ, List, Some}
use Rattle.rpc_msgs.specs.Answer.{RpcAnswer}
use Rattle.rpc_msgs.specs.declared.rpc.Rpc.{Rpc}
use Rattle.job_model.specs.Job.{Job, with_cancel_seen}
use Rattle.job_model.specs.Steps.{Asks, Goes, Stops, Stop, After, advance_on_answer}

-- the job has seen it: seeing it again changes nothing
abbrev pub HasSeenCancel : Job → Type 0
HasSeenCancel job = with_cancel_seen job ≡ job

-- a job that has seen it has seen it after steps, behind a request and behind an answer too
pub record CancelStaysSeen : Type 0 where
  pub steps : (job left : Job) (n : ℕ) → HasSeenCancel job → After job n left → HasSeenCancel left
  pub asks : (job left : Job) (n : ℕ) (wanted : Rpc) (payload : List ℕ) → HasSeenCancel job →
      Stop job n (Asks wanted payload left) → HasSeenCancel left
  pub goes : (job next : Job) (answer : RpcAnswer) → HasSeenCancel job →
      advance_on_answer answer job ≡ Some (Goes next) → HasSeenCancel next
  pub asks_on : (job left : Job) (answer : RpcAnswer) (wanted : Rpc) (payload : List ℕ) → HasSeenCancel job →
      advance_on_answer answer job ≡ Some (Stops (Asks wanted payload left)) → HasSeenCancel left
  pub again : (job : Job) → HasSeenCancel (with_cancel_seen job)
