-- Why a call of a client ended as it did, by the SMCs that it made.
use Rattle.std.specs.Prelude.{◌≡◌, ◌⊎◌, ◌↔◌, OnOk, IsErrOf, Result, ℕ, suc, ◌==◌, ◌&&◌, ◌||◌, Bool, true, false, not, List, [], ◌∷◌, ◌++◌, filter, length, map}
use Rattle.smc_abi.specs.declared.regs.Regs.{Regs}
use Rattle.smc_port.specs.Smc.{Smc}
use Rattle.teec.specs.declared.answer.Said.{Said}
use Rattle.teec.specs.declared.answer.Said.TheVariants.{Finished, NoThread, Returned}
use Rattle.teec.specs.declared.fault.TeecFault.{TeecFault}
use Rattle.teec.specs.declared.fault.TeecFault.TheVariants.{Memory, Retried, Rounds, Spent, Strange}
use Rattle.teec.specs.Answers.{register, said}
use Rattle.teec.specs.Places.{cancel_at}
use Rattle.teec.specs.declared.limits.Limits.{Limits}
use Rattle.teec.specs.Rounds.{Stage, stage_after}
use Rattle.teec.specs.Runs.{AwaitsReply, HasNext, NextSmc}

-- ---- SMCs by what they are

-- CALL_WITH_ARG, and that of a cancellation
abbrev pub is_call : Smc → Bool
is_call smc = register smc.regs 0 == 0x32000004

abbrev pub is_cancel : Smc → Bool
is_cancel smc = is_call smc && (register smc.regs 2 == cancel_at)

-- those that a call makes for its argument
abbrev pub for_argument : List Smc → List Smc
for_argument smcs = filter (λ smc. not (is_cancel smc)) smcs

-- ---- SMCs by what was answered

abbrev pub says_finished : Said → Bool
says_finished Finished = true
says_finished _ = false

abbrev pub says_no_thread : Said → Bool
says_no_thread NoThread = true
says_no_thread _ = false

abbrev pub says_return : Said → Bool
says_return (Returned rpc) = true
says_return _ = false

-- neither OK nor an RPC return, nor ETHREAD_LIMIT to a CALL_WITH_ARG
abbrev pub is_strange : Smc → Bool
is_strange smc =
    not (says_finished (said smc.answer) || says_return (said smc.answer) || (says_no_thread (said smc.answer) && is_call smc))

-- how many of a call's RPC returns came, and how often no thread was free for it
abbrev pub returns_in : List Smc → ℕ
returns_in smcs = length (filter (λ smc. says_return (said smc.answer)) (for_argument smcs))

abbrev pub refusals_in : List Smc → ℕ
refusals_in smcs = length (filter (λ smc. says_no_thread (said smc.answer) && is_call smc) (for_argument smcs))

-- the last of some SMCs
pub record EndsIn (smcs : List Smc) (last : Smc) : Type 0 where
  pub before : List Smc
  pub all : smcs ≡ before ++ last ∷ []

-- ---- causes

-- just as many answers ETHREAD_LIMIT as the client bears
pub record IsRetried (limits : Limits) (smcs : List Smc) (number : ℕ) : Type 0 where
  pub bound : number ≡ limits.retries
  pub refused : refusals_in smcs ≡ number

-- as many RPC returns as the client answers, and one more
pub record IsOutOfRounds (limits : Limits) (smcs : List Smc) (number : ℕ) : Type 0 where
  pub bound : number ≡ limits.rounds
  pub returns : returns_in smcs ≡ suc number

-- the last answer is strange
pub record IsStrange (smcs : List Smc) (answer : Regs) : Type 0 where
  pub smc : Smc
  pub last : EndsIn smcs smc
  pub answered : smc.answer ≡ answer
  pub strange : is_strange smc ≡ true

-- the last SMC was made for the argument, and answered OK
pub record IsFinished (smcs : List Smc) : Type 0 where
  pub smc : Smc
  pub last : EndsIn smcs smc
  pub argument : is_cancel smc ≡ false
  pub finished : says_finished (said smc.answer) ≡ true

-- the answers of some SMCs, and how far a call has come by them
abbrev pub answers_of : List Smc → List Regs
answers_of smcs = map (λ smc. smc.answer) smcs

abbrev pub stage_of : Limits → List Smc → Stage
stage_of limits smcs = stage_after limits (answers_of smcs)

-- the port had no room for the next SMC
abbrev pub IsSpent : Limits → List Smc → (Regs → Bool) → Type 0
IsSpent limits smcs has_room = NextSmc (stage_of limits smcs) has_room false

-- memory was wanting: to the port, which was to make the next SMC, or to the supplicant, which was to answer a request
abbrev pub IsShort : Limits → List Smc → Type 0
IsShort limits smcs = HasNext (stage_of limits smcs) ⊎ AwaitsReply (stage_of limits smcs)

-- how a call ended has its cause, and each cause its end
pub record HasItsCause {A : Type 0} (limits : Limits) (smcs : List Smc) (has_room : Regs → Bool) (result : Result A TeecFault) : Type 0 where
  pub finished : OnOk result (IsFinished smcs)
  pub retried : (number : ℕ) → IsErrOf result (Retried number) ↔ IsRetried limits smcs number
  pub rounds : (number : ℕ) → IsErrOf result (Rounds number) ↔ IsOutOfRounds limits smcs number
  pub strange : (answer : Regs) → IsErrOf result (Strange answer) ↔ IsStrange smcs answer
  pub spent : IsErrOf result Spent → IsSpent limits smcs has_room
  pub memory : IsErrOf result Memory → IsShort limits smcs
  -- no room, unless the supplicant wanted memory before the port was asked, or the port before it knew
  pub no_room : IsSpent limits smcs has_room → IsErrOf result Spent ⊎ IsErrOf result Memory
