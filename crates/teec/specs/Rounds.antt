-- Which SMC a call makes next, by the answers that came so far.
use Rattle.std.specs.Prelude.{ℕ, suc, ◌==◌, false, if◌then◌else◌, List, [], ◌∷◌, Option, Some, None}
use Rattle.std.specs.Option.{option_map_or}
use Rattle.smc_abi.specs.declared.regs.Regs.{Regs}
use Rattle.teec.specs.declared.answer.RpcReturn.{RpcReturn}
use Rattle.teec.specs.declared.answer.Said.{Said}
use Rattle.teec.specs.declared.answer.Said.TheVariants.{Finished, NoThread, Returned, Unknown}
use Rattle.teec.specs.declared.fault.TeecFault.{TeecFault}
use Rattle.teec.specs.declared.fault.TeecFault.TheVariants.{Retried, Rounds, Strange}
use Rattle.teec.specs.declared.limits.Limits.{Limits}
use Rattle.teec.specs.Answers.{call_with_arg, return_from_rpc, said}
use Rattle.teec.specs.Places.{argument_at, cancel_at}

-- how far a call has come
pub data Stage : Type 0 where
  -- it is to be made, and was answered so often that no thread is free
  Calls : ℕ → Stage
  -- it is to be cancelled, and then this RPC return is answered, with which it has had so many
  Cancels : ℕ → RpcReturn → Stage
  -- this RPC return is to be answered, with which it has had so many
  Resumes : ℕ → RpcReturn → Stage
  -- it was answered OK
  Ended : Stage
  Failed : TeecFault → Stage

-- the SMC that is to be made
abbrev pub regs_at : Stage → Option Regs
regs_at (Calls refused) = Some (call_with_arg argument_at)
regs_at (Cancels returns rpc) = Some (call_with_arg cancel_at)
regs_at (Resumes returns rpc) = Some (return_from_rpc rpc)
regs_at Ended = None
regs_at (Failed fault) = None

-- no thread was free
abbrev pub after_refusal : Limits → ℕ → Stage
after_refusal limits refused = if suc refused == limits.retries then Failed (Retried limits.retries) else Calls (suc refused)

-- an RPC return is to be answered, with which it has had so many
abbrev pub before_answer : Limits → ℕ → RpcReturn → Stage
before_answer limits returns rpc =
    if option_map_or (λ after. after == returns) limits.cancel_after false then Cancels returns rpc else Resumes returns rpc

-- an RPC return came, after so many
abbrev pub after_return : Limits → ℕ → RpcReturn → Stage
after_return limits returns rpc =
    if returns == limits.rounds then Failed (Rounds limits.rounds) else before_answer limits (suc returns) rpc

-- after an answer, by what it says
abbrev pub after_call : Limits → ℕ → Regs → Said → Stage
after_call limits refused answer Finished = Ended
after_call limits refused answer NoThread = after_refusal limits refused
after_call limits refused answer (Returned rpc) = after_return limits 0 rpc
after_call limits refused answer Unknown = Failed (Strange answer)

-- the cancellation's answer is looked at for strange ones alone, and an RPC return to it isn't answered
abbrev pub after_cancel : ℕ → RpcReturn → Regs → Said → Stage
after_cancel returns rpc answer Finished = Resumes returns rpc
after_cancel returns rpc answer NoThread = Resumes returns rpc
after_cancel returns rpc answer (Returned other) = Resumes returns rpc
after_cancel returns rpc answer Unknown = Failed (Strange answer)

abbrev pub after_resume : Limits → ℕ → Regs → Said → Stage
after_resume limits returns answer Finished = Ended
after_resume limits returns answer NoThread = Failed (Strange answer)
after_resume limits returns answer (Returned rpc) = after_return limits returns rpc
after_resume limits returns answer Unknown = Failed (Strange answer)

abbrev pub after_answer : Limits → Stage → Regs → Stage
after_answer limits (Calls refused) answer = after_call limits refused answer (said answer)
after_answer limits (Cancels returns rpc) answer = after_cancel returns rpc answer (said answer)
after_answer limits (Resumes returns rpc) answer = after_resume limits returns answer (said answer)
after_answer limits Ended answer = Ended
after_answer limits (Failed fault) answer = Failed fault

-- after these answers, from a stage on
abbrev pub stage_from : Limits → Stage → List Regs → Stage
stage_from limits stage [] = stage
stage_from limits stage (answer ∷ answers) = stage_from limits (after_answer limits stage answer) answers

-- after these answers to a call's SMCs
abbrev pub stage_after : Limits → List Regs → Stage
stage_after limits answers = stage_from limits (Calls 0) answers
