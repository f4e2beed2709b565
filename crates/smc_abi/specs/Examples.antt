-- The definitions on small inputs.
use Rattle.std.specs.Prelude.{◌≡◌, ℕ, List, [], ◌∷◌}
use Rattle.smc_abi.specs.Answer.{registers_of}
use Rattle.smc_abi.specs.Call.{call_of}
use Rattle.smc_abi.specs.FastAnswer.{fast_answer_of}
use Rattle.smc_abi.specs.declared.answer.TheConstants.{OK, ETHREAD_LIMIT, ERESUME, EBADADDR, EBADCMD, ENOTAVAIL, UNKNOWN_FUNCTION}
use Rattle.smc_abi.specs.declared.answer.Answer.TheVariants.{Words, Alloc, Free, Cmd, Interrupt}
use Rattle.smc_abi.specs.declared.call.Call.TheVariants.{Fast, WithArg, WithRpcArg, WithRegdArg, Resume, Unknown}
use Rattle.smc_abi.specs.declared.call.FastCall.TheVariants.{CallsUid, Capabilities, ShmConfig, ThreadCount}

-- registers with b in a1, and their own numbers elsewhere
abbrev pub numbered : ℕ → List ℕ
numbered b = 0 ∷ b ∷ 2 ∷ 3 ∷ 4 ∷ 5 ∷ 6 ∷ 7 ∷ []

-- each an equation that computes
pub record Examples : Type 0 where
  -- the codes of answers
  pub ok : OK ≡ 0
  pub thread_limit : ETHREAD_LIMIT ≡ 1
  pub bad_resume : ERESUME ≡ 3
  pub bad_address : EBADADDR ≡ 4
  pub bad_command : EBADCMD ≡ 5
  pub not_available : ENOTAVAIL ≡ 7
  pub unknown_function : UNKNOWN_FUNCTION ≡ 0xffffffff
  -- calls and answers
  pub uid_id : call_of 0xbf00ff01 ≡ Fast CallsUid
  pub thread_count_id : call_of 0xb200000f ≡ Fast ThreadCount
  pub with_arg_id : call_of 0x32000004 ≡ WithArg
  pub with_rpc_arg_id : call_of 0x32000012 ≡ WithRpcArg
  pub with_registered_arg_id : call_of 0x32000013 ≡ WithRegdArg
  pub between_ids : call_of 0x32000011 ≡ Unknown
  pub resume_id : call_of 0x32000003 ≡ Resume
  pub unknown_id : call_of 0x32000063 ≡ Unknown
  pub words : registers_of (Words 10 11 12 13) (numbered 1) ≡ 10 ∷ 11 ∷ 12 ∷ 13 ∷ 4 ∷ 5 ∷ 6 ∷ 7 ∷ []
  pub alloc : registers_of (Alloc 4096 1) (numbered 1) ≡ 0xffff0000 ∷ 4096 ∷ 0 ∷ 1 ∷ 4 ∷ 5 ∷ 6 ∷ 7 ∷ []
  pub free : registers_of (Free 0x100000002 1) (numbered 1) ≡ 0xffff0002 ∷ 1 ∷ 2 ∷ 1 ∷ 4 ∷ 5 ∷ 6 ∷ 7 ∷ []
  pub interrupt : registers_of (Interrupt 3) (numbered 1) ≡ 0xffff0004 ∷ 0 ∷ 0 ∷ 3 ∷ 4 ∷ 5 ∷ 6 ∷ 7 ∷ []
  pub cmd : registers_of (Cmd 0x300000004 0) (numbered 1) ≡ 0xffff0005 ∷ 3 ∷ 4 ∷ 0 ∷ 4 ∷ 5 ∷ 6 ∷ 7 ∷ []
  pub uid : fast_answer_of CallsUid (numbered 0) 2 ≡ Words 0x384fb3e0 0xe7f811e3 0xaf630002 0xa5d5c51b
  pub one_processor : fast_answer_of Capabilities (numbered 1) 2 ≡ Words 0 0x54 0 4
  pub bad_capability : fast_answer_of Capabilities (numbered 3) 2 ≡ Words 7 0x54 0 0
  pub no_reserved_memory : fast_answer_of ShmConfig (numbered 0) 2 ≡ Words 7 0 0 0
  pub threads : fast_answer_of ThreadCount (numbered 0) 2 ≡ Words 0 2 0 0
