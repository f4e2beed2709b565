-- The definitions on small inputs, worked out by hand.
use Rattle.std.specs.Prelude.{◌≡◌, ℕ, true, false, [], ◌∷◌, Option, Some, None}
use Rattle.smc_abi.specs.declared.regs.Regs.{Regs}
use Rattle.smc_port.specs.Smc.{Smc}
use Rattle.teec.specs.declared.answer.RpcKind.TheVariants.{Interrupt}
use Rattle.teec.specs.declared.answer.RpcReturn.{RpcReturn}
use Rattle.teec.specs.Answers.{call_with_arg, return_from_rpc}
use Rattle.teec.specs.declared.fault.TeecFault.TheVariants.{Retried, Rounds, Strange}
use Rattle.teec.specs.declared.limits.Limits.{Limits}
use Rattle.teec.specs.Bounds.{most_smcs}
use Rattle.teec.specs.CallExamples.{answer_of}
use Rattle.teec.specs.Causes.{is_strange, refusals_in, returns_in}
use Rattle.teec.specs.Rounds.{Calls, Cancels, Ended, Failed, Resumes, stage_after}

-- ---- answers

abbrev pub ok : Regs
ok = answer_of 0 0 0 0

abbrev pub no_thread : Regs
no_thread = answer_of 1 0 0 0

abbrev pub interrupt : Regs
interrupt = answer_of 0xffff0004 0 0 2

abbrev pub bad_address : Regs
bad_address = answer_of 4 0 0 0

abbrev pub interrupted : RpcReturn
interrupted = record { kind = Interrupt; thread = 2 }

-- three tries, and two RPC returns
abbrev pub limits : Option ℕ → Limits
limits cancel_after = record { retries = 3; rounds = 2; cancel_after = cancel_after }

abbrev pub smc : Regs → Regs → Smc
smc regs answer = record { regs = regs; reads = []; answer = answer; writes = [] }

abbrev pub call : Regs → Smc
call answer = smc (call_with_arg 0x40000000) answer

abbrev pub cancel : Regs → Smc
cancel answer = smc (call_with_arg 0x40001000) answer

abbrev pub resume : Regs → Smc
resume answer = smc (return_from_rpc interrupted) answer

pub record Examples : Type 0 where
  -- no thread, three times
  pub twice_refused : stage_after (limits None) (no_thread ∷ no_thread ∷ []) ≡ Calls 2
  pub retried : stage_after (limits None) (no_thread ∷ no_thread ∷ no_thread ∷ []) ≡ Failed (Retried 3)
  pub counts_refusals : refusals_in (call no_thread ∷ call interrupt ∷ cancel no_thread ∷ []) ≡ 1
  -- RPC returns
  pub ends_after_two : stage_after (limits None) (interrupt ∷ interrupt ∷ ok ∷ []) ≡ Ended
  pub third_return : stage_after (limits None) (interrupt ∷ interrupt ∷ interrupt ∷ []) ≡ Failed (Rounds 2)
  pub counts_returns : returns_in (call interrupt ∷ cancel interrupt ∷ resume interrupt ∷ []) ≡ 2
  -- cancelled before the answer to the second return, and not before that to the third, which isn't answered
  pub not_yet : stage_after (limits (Some 2)) (interrupt ∷ []) ≡ Resumes 1 interrupted
  pub now : stage_after (limits (Some 2)) (interrupt ∷ interrupt ∷ []) ≡ Cancels 2 interrupted
  pub answered_meanwhile : stage_after (limits (Some 2)) (interrupt ∷ interrupt ∷ interrupt ∷ []) ≡ Resumes 2 interrupted
  pub no_cancel_at_the_bound : stage_after (limits (Some 3)) (interrupt ∷ interrupt ∷ interrupt ∷ []) ≡ Failed (Rounds 2)
  pub never_at_none : stage_after (limits (Some 0)) (interrupt ∷ []) ≡ Resumes 1 interrupted
  -- three tries, the cancellation, and the answers to two returns
  pub five_at_most : most_smcs (limits None) ≡ 5
  pub six_at_most : most_smcs (limits (Some 1)) ≡ 6
  pub makes_a_sixth : stage_after (limits (Some 1)) (no_thread ∷ no_thread ∷ interrupt ∷ ok ∷ interrupt ∷ []) ≡ Resumes 2 interrupted
  -- strange answers
  pub strange : stage_after (limits None) (bad_address ∷ []) ≡ Failed (Strange bad_address)
  pub strange_to_a_cancel : stage_after (limits (Some 1)) (interrupt ∷ bad_address ∷ []) ≡ Failed (Strange bad_address)
  pub no_thread_to_a_resume : stage_after (limits None) (interrupt ∷ no_thread ∷ []) ≡ Failed (Strange no_thread)
  pub no_thread_to_a_cancel : stage_after (limits (Some 1)) (interrupt ∷ no_thread ∷ []) ≡ Resumes 1 interrupted
  pub is_strange_to_a_resume : is_strange (resume no_thread) ≡ true
  pub is_not_to_a_call : is_strange (cancel no_thread) ≡ false
