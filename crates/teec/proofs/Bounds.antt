-- How many SMCs a call makes at most, by the stage that it has come to.
use Rattle.std.proofs.Common.{◌≡◌, ℕ, suc, ◌+◌, ◌<◌, ◌≤◌, cond, eqb, ◌==◌, Bool, true, false, List, [], ◌∷◌, length, Option, Some, None, Result, Ok, Err, refl, sym, ap, ◌∙◌, subst, arith}
use Rattle.std.specs.Option.{option_map_or}
use Rattle.std.proofs.lemmas.Bool.Decides.{nat_tests}
use Rattle.smc_abi.specs.declared.regs.Regs.{Regs}
use Rattle.smc_port.specs.Smc.{Smc}
use Rattle.teec.specs.declared.answer.RpcReturn.{RpcReturn}
use Rattle.teec.specs.declared.answer.Said.{Said}
use Rattle.teec.specs.declared.answer.Said.TheVariants.{Finished, NoThread, Returned, Unknown}
use Rattle.teec.specs.Answers.{said}
use Rattle.teec.specs.declared.fault.TeecFault.{TeecFault}
use Rattle.teec.specs.declared.fault.TeecFault.TheVariants.{Retried, Rounds}
use Rattle.teec.specs.declared.limits.Limits.{Limits}
use Rattle.teec.specs.Bounds.{most_cancels, most_smcs}
use Rattle.teec.specs.Calls.{Call}
use Rattle.teec.specs.Client.{HasRun, made_since}
use Rattle.teec.specs.Rounds.{Calls, Cancels, Ended, Failed, Resumes, Stage, after_answer, after_call, after_cancel, after_resume, after_return, before_answer, regs_at}
use Rattle.teec.specs.Runs.{Runs, Scene}
use Rattle.teec.proofs.Faults.{since}

-- ---- CANCELs

-- so many were made before the answer to the RPC return of this number
abbrev CancelledBy : Option ℕ → ℕ → ℕ → Type 0
CancelledBy None returns cancels = cancels ≡ 0
CancelledBy (Some after) returns cancels = (cancels ≤ 1) × (returns < after → cancels ≡ 0)

none_at_first : (cancel_after : Option ℕ) → CancelledBy cancel_after 0 0
none_at_first None = refl
none_at_first (Some after) = (omega arith, λ less. refl)

one_where_due : (cancel_after : Option ℕ) (returns : ℕ) → cancel_after ≡ Some returns → CancelledBy cancel_after returns 1
one_where_due cancel_after returns due =
    subst (λ (after : Option ℕ). CancelledBy after returns 1) (sym due) (omega arith, λ less. absurd (omega (arith, less)))

none_more : (cancel_after : Option ℕ) (returns cancels : ℕ) → CancelledBy cancel_after returns cancels → CancelledBy cancel_after (suc returns) cancels
none_more None returns cancels is = is
none_more (Some after) returns cancels (few, none) = (few, λ less. none (omega (arith, less)))

none_before_due : (cancel_after : Option ℕ) (returns cancels : ℕ) → cancel_after ≡ Some (suc returns) → CancelledBy cancel_after returns cancels → cancels ≡ 0
none_before_due None returns cancels due is = is
none_before_due (Some after) returns cancels due (few, none) =
    let same : after ≡ suc returns = cc in
    none (omega (arith, same))

one_at_most : (cancel_after : Option ℕ) (returns cancels : ℕ) → CancelledBy cancel_after returns cancels → cancels ≤ most_cancels cancel_after
one_at_most None returns cancels is = omega (arith, is)
one_at_most (Some after) returns cancels (few, none) = few

due_so : (cancel_after : Option ℕ) (returns : ℕ) → option_map_or (λ after. after == returns) cancel_after false ≡ true → cancel_after ≡ Some returns
due_so None returns is = absurd cc
due_so (Some after) returns is =
    let same : after ≡ returns = grind (arith, nat_tests) in
    ap (λ (after : ℕ). Some after) same

-- ---- how many SMCs were made, by the stage

-- those before the CANCEL that comes before the answer to the RPC return of this number
record IsDue (limits : Limits) (returns made : ℕ) : Type 0 where
  pub few : made < limits.retries + returns
  pub bound : returns ≤ limits.rounds
  pub due : limits.cancel_after ≡ Some returns

-- those before the answer to the RPC return of this number
record IsUnderWay (limits : Limits) (returns made : ℕ) : Type 0 where
  pub cancels : ℕ
  pub few : made < limits.retries + returns + cancels
  pub bound : returns ≤ limits.rounds
  pub cancelled : CancelledBy limits.cancel_after returns cancels

abbrev IsWithin : Limits → Stage → ℕ → Type 0
IsWithin limits (Calls refused) made = (made ≡ refused) × (refused < limits.retries)
IsWithin limits (Cancels returns rpc) made = IsDue limits returns made
IsWithin limits (Resumes returns rpc) made = IsUnderWay limits returns made
IsWithin limits Ended made = made ≤ most_smcs limits
IsWithin limits (Failed fault) made = made ≤ most_smcs limits

-- one more is within the bound
one_left : (limits : Limits) (returns made : ℕ) → IsUnderWay limits returns made → suc made ≤ most_smcs limits
one_left limits returns made here =
    let once : here.cancels ≤ most_cancels limits.cancel_after = one_at_most limits.cancel_after returns here.cancels here.cancelled in
    omega (arith, here.few, here.bound, once)

all_within : (limits : Limits) (stage : Stage) (made : ℕ) → IsWithin limits stage made → made ≤ most_smcs limits
all_within limits (Calls refused) made (same, less) = omega (arith, same, less)
all_within limits (Cancels returns rpc) made here = omega (arith, here.few, here.bound)
all_within limits (Resumes returns rpc) made here = omega (arith, one_left limits returns made here)
all_within limits Ended made here = here
all_within limits (Failed fault) made here = here

-- ---- one SMC more

-- it was answered by an RPC return, after so many
answered_on : (limits : Limits) (returns made : ℕ) (rpc : RpcReturn) (due : Bool)
    → option_map_or (λ after. after == suc returns) limits.cancel_after false ≡ due → suc returns ≤ limits.rounds → IsUnderWay limits returns made
    → IsWithin limits (cond due (Cancels (suc returns) rpc) (Resumes (suc returns) rpc)) (suc made)
answered_on limits returns made rpc true is bound here =
    let due = due_so limits.cancel_after (suc returns) is in
    let none = none_before_due limits.cancel_after returns here.cancels due here.cancelled in
    record { few = omega (arith, here.few, none); bound = bound; due = due }
answered_on limits returns made rpc false is bound here =
    record {
      cancels = here.cancels;
      few = omega (arith, here.few);
      bound = bound;
      cancelled = none_more limits.cancel_after returns here.cancels here.cancelled;
    }

below_bound : (returns bound : ℕ) → eqb returns bound ≡ false → returns ≤ bound → suc returns ≤ bound
below_bound returns bound is less = grind (arith, nat_tests)

returned_on : (limits : Limits) (returns made : ℕ) (rpc : RpcReturn) (all : Bool) → eqb returns limits.rounds ≡ all → IsUnderWay limits returns made
    → IsWithin limits (after_return limits returns rpc) (suc made)
returned_on limits returns made rpc true is here =
    subst (λ (all : Bool). IsWithin limits (cond all (Failed (Rounds limits.rounds)) (before_answer limits (suc returns) rpc)) (suc made)) (sym is)
    (one_left limits returns made here)
returned_on limits returns made rpc false is here =
    let more : suc returns ≤ limits.rounds = below_bound returns limits.rounds is here.bound in
    subst (λ (all : Bool). IsWithin limits (cond all (Failed (Rounds limits.rounds)) (before_answer limits (suc returns) rpc)) (suc made)) (sym is)
    (answered_on limits returns made rpc (option_map_or (λ after. after == suc returns) limits.cancel_after false) refl more here)

refused_on : (limits : Limits) (refused made : ℕ) (all : Bool) → eqb (suc refused) limits.retries ≡ all → made ≡ refused → refused < limits.retries
    → IsWithin limits (cond all (Failed (Retried limits.retries)) (Calls (suc refused))) (suc made)
refused_on limits refused made true is same less = omega (arith, same, less)
refused_on limits refused made false is same less =
    let more : suc refused < limits.retries = grind (arith, nat_tests) in
    (ap (λ (n : ℕ). suc n) same, more)

call_on : (limits : Limits) (refused made : ℕ) (answer : Regs) (says : Said) → made ≡ refused → refused < limits.retries
    → IsWithin limits (after_call limits refused answer says) (suc made)
call_on limits refused made answer Finished same less = omega (arith, same, less)
call_on limits refused made answer NoThread same less = refused_on limits refused made (eqb (suc refused) limits.retries) refl same less
call_on limits refused made answer (Returned rpc) same less =
    returned_on limits 0 made rpc (eqb 0 limits.rounds) refl
    (record { cancels = 0; few = omega (arith, same, less); bound = omega arith; cancelled = none_at_first limits.cancel_after })
call_on limits refused made answer Unknown same less = omega (arith, same, less)

cancelled_on : (limits : Limits) (returns made : ℕ) → IsDue limits returns made → IsUnderWay limits returns (suc made)
cancelled_on limits returns made here =
    record { cancels = 1; few = omega (arith, here.few); bound = here.bound; cancelled = one_where_due limits.cancel_after returns here.due }

cancel_on : (limits : Limits) (returns made : ℕ) (rpc : RpcReturn) (answer : Regs) (says : Said) → IsDue limits returns made
    → IsWithin limits (after_cancel returns rpc answer says) (suc made)
cancel_on limits returns made rpc answer Finished here = cancelled_on limits returns made here
cancel_on limits returns made rpc answer NoThread here = cancelled_on limits returns made here
cancel_on limits returns made rpc answer (Returned other) here = cancelled_on limits returns made here
cancel_on limits returns made rpc answer Unknown here = omega (arith, here.few, here.bound)

resume_on : (limits : Limits) (returns made : ℕ) (answer : Regs) (says : Said) → IsUnderWay limits returns made
    → IsWithin limits (after_resume limits returns answer says) (suc made)
resume_on limits returns made answer Finished here = one_left limits returns made here
resume_on limits returns made answer NoThread here = one_left limits returns made here
resume_on limits returns made answer (Returned rpc) here = returned_on limits returns made rpc (eqb returns limits.rounds) refl here
resume_on limits returns made answer Unknown here = one_left limits returns made here

one_more : (limits : Limits) (stage : Stage) (regs answer : Regs) (made : ℕ) → regs_at stage ≡ Some regs → IsWithin limits stage made
    → IsWithin limits (after_answer limits stage answer) (suc made)
one_more limits (Calls refused) regs answer made next (same, less) = call_on limits refused made answer (said answer) same less
one_more limits (Cancels returns rpc) regs answer made next here = cancel_on limits returns made rpc answer (said answer) here
one_more limits (Resumes returns rpc) regs answer made next here = resume_on limits returns made answer (said answer) here
one_more limits Ended regs answer made next here = absurd cc
one_more limits (Failed fault) regs answer made next here = absurd cc

-- ---- a run

run_within : (limits : Limits) (call : Call) (stage : Stage) (old : Scene) (made : ℕ) (smcs : List Smc) (last : Stage) (new : Scene)
    → Runs limits call stage old smcs last new → IsWithin limits stage made → IsWithin limits last (made + length smcs)
run_within limits call stage old made [] last new (same, stays) here =
    let none : made ≡ made + 0 = omega arith in
    subst (λ (n : ℕ). IsWithin limits last n) none (subst (λ (stage : Stage). IsWithin limits stage made) (sym same) here)
run_within limits call stage old made (smc ∷ smcs) last new (between, turn, runs) here =
    let more : suc made + length smcs ≡ made + length (smc ∷ smcs) = omega arith in
    subst (λ (n : ℕ). IsWithin limits last n) more
    (run_within limits call (after_answer limits stage smc.answer) between (suc made) smcs last new runs (one_more limits stage smc.regs smc.answer made turn.regs here))

call_within : (limits : Limits) (call : Call) (old : Scene) (smcs : List Smc) (last : Stage) (new : Scene)
    → 1 ≤ limits.retries → Runs limits call (Calls 0) old smcs last new → length smcs ≤ most_smcs limits
call_within limits call old smcs last new one runs =
    let all : 0 + length smcs ≤ most_smcs limits = all_within limits last (0 + length smcs) (run_within limits call (Calls 0) old 0 smcs last new runs (refl, one)) in
    omega (arith, all)

-- ---- a call, as contracts see it

pub makes_few : {A : Type 0} (limits : Limits) (call : Call) (old : Scene) (old_made : List Smc) (result : Result A TeecFault) (new : Scene) (new_made : List Smc) (has_room : Regs → Bool)
    → 1 ≤ limits.retries → HasRun limits call old old_made result new new_made has_room
    → length (made_since old_made new_made) ≤ most_smcs limits
makes_few limits call old old_made (Ok value) new new_made has_room one went =
    subst (λ (smcs : List Smc). length smcs ≤ most_smcs limits) (since old_made went.smcs new_made went.made)
    (call_within limits call old went.smcs Ended new one went.runs)
makes_few limits call old old_made (Err fault) new new_made has_room one stopped =
    let last = stopped.last in
    let smcs = stopped.went.smcs in
    subst (λ (smcs : List Smc). length smcs ≤ most_smcs limits) (since old_made smcs new_made (sym stopped.all_made ∙ stopped.went.made))
    (call_within limits call old smcs last.stage last.scene one stopped.went.runs)
