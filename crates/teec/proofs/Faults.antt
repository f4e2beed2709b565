-- Each fault has its cause, and each cause its fault.
use Rattle.std.proofs.Common.{◌≡◌, ℕ, ◌≤◌, ◌⊎◌, inl, inr, Bool, true, false, List, ◌++◌, length, drop, Some, None, Result, Ok, Err, IsErrOf, refl, sym, ap, ◌∙◌, subst, arith}
use Rattle.std.proofs.Math.Seq.{drop-append_seam}
use Rattle.smc_abi.specs.declared.regs.Regs.{Regs}
use Rattle.smc_port.specs.Smc.{Smc}
use Rattle.teec.specs.declared.fault.TeecFault.{TeecFault}
use Rattle.teec.specs.declared.fault.TeecFault.TheVariants.{Memory, Retried, Rounds, Spent, Strange}
use Rattle.teec.specs.declared.limits.Limits.{Limits}
use Rattle.teec.specs.declared.answer.RpcKind.TheVariants.{Cmd}
use Rattle.teec.specs.Calls.{Call}
use Rattle.teec.specs.Places.{message_cookie}
use Rattle.teec.specs.Causes.{EndsIn, HasItsCause, is_strange, IsOutOfRounds, IsRetried, IsStrange, stage_of}
use Rattle.teec.specs.Client.{HasRun, made_since}
use Rattle.teec.specs.Rounds.{Calls, Cancels, Ended, Failed, Resumes, Stage, regs_at}
use Rattle.teec.specs.Runs.{AwaitsReply, HasNext, IsStop, NextSmc, Scene}
use Rattle.teec.proofs.Counting.{IsAt, counted, ends_in, stage_of_run}

-- ---- causes, by the stage

retried_at : (limits : Limits) (smcs : List Smc) (stage : Stage) (number : ℕ) → IsAt limits stage smcs → IsRetried limits smcs number
    → stage ≡ Failed (Retried number)
retried_at limits smcs (Calls refused) number here cause = absurd (omega (arith, here.refusals, here.few, cause.bound, cause.refused))
retried_at limits smcs (Cancels returns rpc) number here cause = absurd (omega (arith, here.few, cause.bound, cause.refused))
retried_at limits smcs (Resumes returns rpc) number here cause = absurd (omega (arith, here.few, cause.bound, cause.refused))
retried_at limits smcs Ended number here cause = absurd (omega (arith, here.few, cause.bound, cause.refused))
retried_at limits smcs (Failed (Retried other)) number here cause = ap (λ (n : ℕ). Failed (Retried n)) (here.cause.bound ∙ sym cause.bound)
retried_at limits smcs (Failed (Rounds other)) number here cause = absurd (omega (arith, here.few, cause.bound, cause.refused))
retried_at limits smcs (Failed (Strange answer)) number here cause = absurd (omega (arith, here.few, cause.bound, cause.refused))
retried_at limits smcs (Failed Spent) number here cause = absurd here
retried_at limits smcs (Failed Memory) number here cause = absurd here

rounds_at : (limits : Limits) (smcs : List Smc) (stage : Stage) (number : ℕ) → IsAt limits stage smcs → IsOutOfRounds limits smcs number
    → stage ≡ Failed (Rounds number)
rounds_at limits smcs (Calls refused) number here cause = absurd (omega (arith, here.returns, cause.bound, cause.returns))
rounds_at limits smcs (Cancels returns rpc) number here cause = absurd (omega (arith, here.bound, here.counted, cause.bound, cause.returns))
rounds_at limits smcs (Resumes returns rpc) number here cause = absurd (omega (arith, here.bound, here.counted, cause.bound, cause.returns))
rounds_at limits smcs Ended number here cause = absurd (omega (arith, here.bound, cause.bound, cause.returns))
rounds_at limits smcs (Failed (Retried other)) number here cause = absurd (omega (arith, here.bound, cause.bound, cause.returns))
rounds_at limits smcs (Failed (Rounds other)) number here cause = ap (λ (n : ℕ). Failed (Rounds n)) (here.cause.bound ∙ sym cause.bound)
rounds_at limits smcs (Failed (Strange answer)) number here cause = absurd (omega (arith, here.bound, cause.bound, cause.returns))
rounds_at limits smcs (Failed Spent) number here cause = absurd here
rounds_at limits smcs (Failed Memory) number here cause = absurd here

not_both : (b : Bool) → b ≡ true → b ≡ false → ⊥
not_both b holds fails = cc

same_end : (smcs : List Smc) (one other : Regs) → IsStrange smcs one → IsStrange smcs other → one ≡ other
same_end smcs one other first second =
    let ends = subst (λ (list : List Smc). EndsIn list second.smc) first.last.all second.last in
    let same : second.smc ≡ first.smc = ends_in first.last.before first.smc second.smc ends in
    sym first.answered ∙ ap (λ (smc : Smc). smc.answer) (sym same) ∙ second.answered

strange_at : (limits : Limits) (smcs : List Smc) (stage : Stage) (answer : Regs) → IsAt limits stage smcs → IsStrange smcs answer
    → stage ≡ Failed (Strange answer)
strange_at limits smcs (Calls refused) answer here cause = absurd (not_both (is_strange cause.smc) cause.strange (here.plain cause.smc cause.last))
strange_at limits smcs (Cancels returns rpc) answer here cause = absurd (not_both (is_strange cause.smc) cause.strange (here.plain cause.smc cause.last))
strange_at limits smcs (Resumes returns rpc) answer here cause = absurd (not_both (is_strange cause.smc) cause.strange (here.plain cause.smc cause.last))
strange_at limits smcs Ended answer here cause = absurd (not_both (is_strange cause.smc) cause.strange (here.plain cause.smc cause.last))
strange_at limits smcs (Failed (Retried number)) answer here cause = absurd (not_both (is_strange cause.smc) cause.strange (here.plain cause.smc cause.last))
strange_at limits smcs (Failed (Rounds number)) answer here cause = absurd (not_both (is_strange cause.smc) cause.strange (here.plain cause.smc cause.last))
strange_at limits smcs (Failed (Strange other)) answer here cause = ap (λ (answer : Regs). Failed (Strange answer)) (same_end smcs other answer here.cause cause)
strange_at limits smcs (Failed Spent) answer here cause = absurd here
strange_at limits smcs (Failed Memory) answer here cause = absurd here

-- at a stage with a fault, what it says is its cause
at_failed : (limits : Limits) (smcs : List Smc) (stage : Stage) (fault : TeecFault) → IsAt limits stage smcs → stage ≡ Failed fault → IsAt limits (Failed fault) smcs
at_failed limits smcs stage fault here same = subst (λ (stage : Stage). IsAt limits stage smcs) same here

-- ---- the end of a call

no_next : (stage : Stage) (has_room : Regs → Bool) (room : Bool) → regs_at stage ≡ None → NextSmc stage has_room room → ⊥
no_next stage has_room room none smc =
    let some : regs_at stage ≡ Some smc.regs = smc.next in
    cc

none_next : (stage : Stage) → regs_at stage ≡ None → HasNext stage → ⊥
none_next stage none next =
    let some : regs_at stage ≡ Some next.0 = next.1 in
    cc

-- a call that went to its end
ended_so : {A : Type 0} (limits : Limits) (smcs : List Smc) (has_room : Regs → Bool) (value : A) → IsAt limits Ended smcs → Ended ≡ stage_of limits smcs
    → HasItsCause {A = A} limits smcs has_room (Ok value)
ended_so limits smcs has_room value here is =
    record {
      finished = here.finished;
      retried = λ number. (λ wrong. absurd cc, λ cause. let wrong : Ended ≡ Failed (Retried number) = retried_at limits smcs Ended number here cause in absurd cc);
      rounds = λ number. (λ wrong. absurd cc, λ cause. let wrong : Ended ≡ Failed (Rounds number) = rounds_at limits smcs Ended number here cause in absurd cc);
      strange = λ answer. (λ wrong. absurd cc, λ cause. let wrong : Ended ≡ Failed (Strange answer) = strange_at limits smcs Ended answer here cause in absurd cc);
      spent = λ wrong. absurd cc;
      memory = λ wrong. absurd cc;
      no_room = λ spent. absurd (no_next Ended has_room false refl (subst (λ (stage : Stage). NextSmc stage has_room false) (sym is) spent));
    }

-- a call that stopped at a stage with a fault
not_awaited : (stage : Stage) (fault : TeecFault) → stage ≡ Failed fault → AwaitsReply stage → ⊥
not_awaited stage fault failed (returns, thread, awaits) =
    let both : Failed fault ≡ Resumes returns (record { kind = Cmd message_cookie; thread = thread }) = sym failed ∙ awaits in
    cc

own_fault : (one other : TeecFault) → Failed one ≡ Failed other → one ≡ other
own_fault one other same = cc

stops_with : (stage : Stage) (has_room : Regs → Bool) (stop fault : TeecFault) → IsStop stage has_room stop → stage ≡ Failed fault → stop ≡ fault
stops_with stage has_room (Retried number) fault stops failed = own_fault (Retried number) fault (sym stops ∙ failed)
stops_with stage has_room (Rounds number) fault stops failed = own_fault (Rounds number) fault (sym stops ∙ failed)
stops_with stage has_room (Strange answer) fault stops failed = own_fault (Strange answer) fault (sym stops ∙ failed)
stops_with stage has_room Spent fault stops failed = absurd (no_next stage has_room false (ap regs_at failed) stops)
stops_with stage has_room Memory fault (inl next) failed = absurd (none_next stage (ap regs_at failed) next)
stops_with stage has_room Memory fault (inr awaits) failed = absurd (not_awaited stage fault failed awaits)

-- where there was no room
no_room_so : (stage : Stage) (has_room : Regs → Bool) (stop : TeecFault) → IsStop stage has_room stop → NextSmc stage has_room false
    → (stop ≡ Spent) ⊎ (stop ≡ Memory)
no_room_so stage has_room (Retried number) stops spent = absurd (no_next stage has_room false (ap regs_at stops) spent)
no_room_so stage has_room (Rounds number) stops spent = absurd (no_next stage has_room false (ap regs_at stops) spent)
no_room_so stage has_room (Strange answer) stops spent = absurd (no_next stage has_room false (ap regs_at stops) spent)
no_room_so stage has_room Spent stops spent = inl refl
no_room_so stage has_room Memory stops spent = inr refl

abbrev error_in : {A : Type 0} → TeecFault → Result A TeecFault
error_in fault = Err fault

as_error : {A : Type 0} (one other : TeecFault) → (one ≡ other) → error_in {A = A} one ≡ error_in {A = A} other
as_error one other same = ap (λ (fault : TeecFault). Err fault) same

error_of : {A : Type 0} (one other : TeecFault) → error_in {A = A} one ≡ error_in {A = A} other → one ≡ other
error_of one other same = cc

no_room_error : {A : Type 0} (fault : TeecFault) → (fault ≡ Spent) ⊎ (fault ≡ Memory) → IsErrOf (error_in {A = A} fault) Spent ⊎ IsErrOf (error_in {A = A} fault) Memory
no_room_error fault (inl same) = inl (as_error fault Spent same)
no_room_error fault (inr same) = inr (as_error fault Memory same)

stopped_so : {A : Type 0} (limits : Limits) (smcs : List Smc) (has_room : Regs → Bool) (stage : Stage) (fault : TeecFault)
    → IsAt limits stage smcs → stage ≡ stage_of limits smcs → IsStop stage has_room fault
    → HasItsCause {A = A} limits smcs has_room (Err fault)
stopped_so {A = A} limits smcs has_room stage fault here is stops =
    record {
      finished = tt;
      retried = λ number. (
        λ wrong. (at_failed limits smcs stage (Retried number) here (subst (λ (fault : TeecFault). IsStop stage has_room fault) (error_of fault (Retried number) wrong) stops)).cause,
        λ cause. as_error fault (Retried number) (stops_with stage has_room fault (Retried number) stops (retried_at limits smcs stage number here cause)),
      );
      rounds = λ number. (
        λ wrong. (at_failed limits smcs stage (Rounds number) here (subst (λ (fault : TeecFault). IsStop stage has_room fault) (error_of fault (Rounds number) wrong) stops)).cause,
        λ cause. as_error fault (Rounds number) (stops_with stage has_room fault (Rounds number) stops (rounds_at limits smcs stage number here cause)),
      );
      strange = λ answer. (
        λ wrong. (at_failed limits smcs stage (Strange answer) here (subst (λ (fault : TeecFault). IsStop stage has_room fault) (error_of fault (Strange answer) wrong) stops)).cause,
        λ cause. as_error fault (Strange answer) (stops_with stage has_room fault (Strange answer) stops (strange_at limits smcs stage answer here cause)),
      );
      spent = λ wrong. subst (λ (stage : Stage). NextSmc stage has_room false) is (subst (λ (fault : TeecFault). IsStop stage has_room fault) (error_of fault Spent wrong) stops);
      memory = λ wrong. subst (λ (stage : Stage). IsStop stage has_room Memory) is (subst (λ (fault : TeecFault). IsStop stage has_room fault) (error_of fault Memory wrong) stops);
      no_room = λ spent. no_room_error fault (no_room_so stage has_room fault stops (subst (λ (stage : Stage). NextSmc stage has_room false) (sym is) spent));
    }

-- ---- a call, as contracts see it

pub since : (old smcs new : List Smc) → new ≡ old ++ smcs → smcs ≡ made_since old new
since old smcs new same = sym (ap (λ (list : List Smc). drop (length old) list) same ∙ drop-append_seam old smcs)

pub has_its_cause : {A : Type 0} (limits : Limits) (call : Call) (old : Scene) (old_made : List Smc) (result : Result A TeecFault) (new : Scene) (new_made : List Smc) (has_room : Regs → Bool)
    → 1 ≤ limits.retries → HasRun limits call old old_made result new new_made has_room
    → HasItsCause limits (made_since old_made new_made) has_room result
has_its_cause {A = A} limits call old old_made (Ok value) new new_made has_room one went =
    let smcs = went.smcs in
    subst (λ (smcs : List Smc). HasItsCause {A = A} limits smcs has_room (Ok value)) (since old_made smcs new_made went.made)
    (ended_so limits smcs has_room value (counted limits call old smcs Ended new one went.runs) (stage_of_run limits call (Calls 0) old smcs Ended new went.runs))
has_its_cause {A = A} limits call old old_made (Err fault) new new_made has_room one stopped =
    let last = stopped.last in
    let smcs = stopped.went.smcs in
    subst (λ (smcs : List Smc). HasItsCause {A = A} limits smcs has_room (Err fault)) (since old_made smcs new_made (sym stopped.all_made ∙ stopped.went.made))
    (stopped_so limits smcs has_room last.stage fault (counted limits call old smcs last.stage last.scene one stopped.went.runs)
    (stage_of_run limits call (Calls 0) old smcs last.stage last.scene stopped.went.runs) stopped.stop)
