-- The stage after an answer, by what the answer says.
use Rattle.std.proofs.Common.{◌≡◌, ℕ, suc, ◌<◌, cond, eqb, true, false, Some, None, Ok, Err, refl, ap, arith}
use Rattle.std.proofs.lemmas.Bool.Decides.{nat_tests}
use Rattle.smc_abi.specs.declared.regs.Regs.{Regs}
use Rattle.teec.specs.declared.answer.RpcReturn.{RpcReturn}
use Rattle.teec.specs.declared.answer.Said.{Said}
use Rattle.teec.specs.declared.answer.Said.TheVariants.{Finished, NoThread, Returned, Unknown}
use Rattle.teec.specs.declared.fault.TeecFault.{TeecFault}
use Rattle.teec.specs.declared.fault.TeecFault.TheVariants.{Retried, Rounds, Strange}
use Rattle.teec.specs.declared.limits.Limits.{Limits}
use Rattle.teec.specs.Returns.{return_said}
use Rattle.teec.specs.Rounds.{Calls, Ended, Failed, after_call, after_refusal, after_resume, after_return, before_answer}

-- ---- what an answer to a call that is under way gives

pub ended : (limits : Limits) (returns : ℕ) (answer : Regs) (says : Said) → return_said answer says ≡ Ok None
    → after_resume limits returns answer says ≡ Ended
ended limits returns answer Finished same = refl
ended limits returns answer NoThread same = absurd cc
ended limits returns answer (Returned rpc) same = absurd cc
ended limits returns answer Unknown same = absurd cc

pub returned : (limits : Limits) (returns : ℕ) (answer : Regs) (says : Said) (rpc : RpcReturn) → return_said answer says ≡ Ok (Some rpc)
    → after_resume limits returns answer says ≡ after_return limits returns rpc
returned limits returns answer Finished rpc same = absurd cc
returned limits returns answer NoThread rpc same = absurd cc
returned limits returns answer (Returned other) rpc same =
    let is : other ≡ rpc = cc in
    ap (λ (rpc : RpcReturn). after_return limits returns rpc) is
returned limits returns answer Unknown rpc same = absurd cc

pub strange : (answer : Regs) (says : Said) (fault : TeecFault) → return_said answer says ≡ Err fault → fault ≡ Strange answer
strange answer Finished fault same = absurd cc
strange answer NoThread fault same = cc
strange answer (Returned rpc) fault same = absurd cc
strange answer Unknown fault same = cc

pub failed : (limits : Limits) (returns : ℕ) (answer : Regs) (says : Said) (fault : TeecFault) → return_said answer says ≡ Err fault
    → after_resume limits returns answer says ≡ Failed (Strange answer)
failed limits returns answer Finished fault same = absurd cc
failed limits returns answer NoThread fault same = refl
failed limits returns answer (Returned rpc) fault same = absurd cc
failed limits returns answer Unknown fault same = refl

-- the first answer that isn't ETHREAD_LIMIT is as one to a resume
pub first_taken : (limits : Limits) (refused : ℕ) (answer : Regs) (says : Said) → ¬ (says ≡ NoThread)
    → after_call limits refused answer says ≡ after_resume limits 0 answer says
first_taken limits refused answer Finished other = refl
first_taken limits refused answer NoThread other = absurd (other refl)
first_taken limits refused answer (Returned rpc) other = refl
first_taken limits refused answer Unknown other = refl

-- ---- bounds

pub below_bound : (limits : Limits) (returns : ℕ) (rpc : RpcReturn) → returns < limits.rounds
    → after_return limits returns rpc ≡ before_answer limits (suc returns) rpc
below_bound limits returns rpc less =
    let other : eqb returns limits.rounds ≡ false = grind (arith, nat_tests) in
    ap (λ b. cond b (Failed (Rounds limits.rounds)) (before_answer limits (suc returns) rpc)) other

pub at_bound : (limits : Limits) (returns : ℕ) (rpc : RpcReturn) → returns ≡ limits.rounds
    → after_return limits returns rpc ≡ Failed (Rounds limits.rounds)
at_bound limits returns rpc same =
    let all : eqb returns limits.rounds ≡ true = grind (arith, nat_tests) in
    ap (λ b. cond b (Failed (Rounds limits.rounds)) (before_answer limits (suc returns) rpc)) all

pub tries_left : (limits : Limits) (refused : ℕ) → suc refused < limits.retries → after_refusal limits refused ≡ Calls (suc refused)
tries_left limits refused less =
    let other : eqb (suc refused) limits.retries ≡ false = grind (arith, nat_tests) in
    ap (λ b. cond b (Failed (Retried limits.retries)) (Calls (suc refused))) other
