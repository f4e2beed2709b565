-- Runs put together: a run behind another, one SMC, and where a call stops.
use Rattle.std.proofs.Common.{◌≡◌, ℕ, ◌+◌, ◌<◌, suc, Bool, List, [], ◌∷◌, ◌++◌, Option, Some, None, Result, Ok, Err, IfErr, refl, sym, ap, ap₂, ◌∙◌, subst, append_assoc, append-nil, add-one}
use Rattle.std.specs.Result.{IsErrAnd}
use Rattle.smc_abi.specs.declared.regs.Regs.{Regs}
use Rattle.smc_port.specs.Smc.{Makes, Smc}
use Rattle.supplicant.specs.Supplicant.{Storage}
use Rattle.teec.specs.declared.answer.RpcReturn.{RpcReturn}
use Rattle.teec.specs.declared.fault.TeecFault.{TeecFault}
use Rattle.teec.specs.declared.limits.Limits.{Limits}
use Rattle.teec.specs.Answers.{call_with_arg, said}
use Rattle.msg_args.specs.declared.arg.MsgArg.{MsgArg}
use Rattle.ns_ram.specs.Writes.{lane_after}
use Rattle.teec.specs.declared.answer.Said.{Said}
use Rattle.teec.specs.declared.answer.Said.TheVariants.{Finished, NoThread, Returned, Unknown}
use Rattle.teec.specs.Arguments.{cancel_argument}
use Rattle.teec.specs.Places.{cancel_at}
use Rattle.teec.specs.declared.fault.TeecFault.TheVariants.{Memory, Rounds, Spent, Strange}
use Rattle.teec.specs.Returns.{return_in}
use Rattle.teec.specs.Calls.{Call, argument_write, cancel_writes}
use Rattle.teec.specs.Rounds.{Cancels, Ended, Resumes, Stage, after_answer, after_cancel, after_resume, after_return, before_answer, regs_at}
use Rattle.teec.specs.Runs.{IsStop, Moment, Prepares, Runs, Scene, Stopped, Went, moment, scene_of, with_writes}
use Rattle.teec.proofs.Stages.{at_bound, below_bound, ended, failed, returned, strange}

-- ---- one behind another

pub runs_then : (limits : Limits) (call : Call) (stage : Stage) (old : Scene) (smcs : List Smc) (middle : Stage) (between : Scene) (others : List Smc) (last : Stage) (new : Scene)
    → Runs limits call stage old smcs middle between → Runs limits call middle between others last new
    → Runs limits call stage old (smcs ++ others) last new
runs_then limits call stage old [] middle between others last new (same, stays) rest =
    subst (λ here. Runs limits call here old others last new) same (subst (λ scene. Runs limits call middle scene others last new) stays rest)
runs_then limits call stage old (smc ∷ smcs) middle between others last new (next, turn, runs) rest =
    (next, turn, runs_then limits call (after_answer limits stage smc.answer) next smcs middle between others last new runs rest)

pub went_none : (limits : Limits) (call : Call) (now : Moment) → Went limits call now now
went_none limits call now = record { smcs = []; made = sym (append-nil now.made); runs = (refl, refl) }

pub went_then : (limits : Limits) (call : Call) (old middle new : Moment) → Went limits call old middle → Went limits call middle new
    → Went limits call old new
went_then limits call old middle new first second =
    record {
      smcs = first.smcs ++ second.smcs;
      made = second.made ∙ ap (λ made. made ++ second.smcs) first.made ∙ append_assoc old.made first.smcs second.smcs;
      runs = runs_then limits call old.stage old.scene first.smcs middle.stage middle.scene second.smcs new.stage new.scene first.runs second.runs;
    }

pub stopped_then : (limits : Limits) (call : Call) (old middle : Moment) (now : Scene) (made : List Smc) (has_room : Regs → Bool) (fault : TeecFault)
    → Went limits call old middle → Stopped limits call middle now made has_room fault → Stopped limits call old now made has_room fault
stopped_then limits call old middle now made has_room fault went stopped =
    record {
      last = stopped.last;
      went = went_then limits call old middle stopped.last went stopped.went;
      all_made = stopped.all_made;
      stop = stopped.stop;
      prepared = stopped.prepared;
    }

-- ---- one SMC, and a stop before it

pub went_one : (limits : Limits) (call : Call) (stage : Stage) (old asked : Scene) (made : List Smc) (regs answer : Regs) (ram : List ℕ) (new_made : List Smc) (storage : Storage)
    → Prepares call stage old asked → regs_at stage ≡ Some regs → Makes asked.ram made regs answer ram new_made → storage ≡ asked.storage
    → Went limits call (moment old.ram made old.storage stage) (moment ram new_made storage (after_answer limits stage answer))
went_one limits call stage old asked made regs answer ram new_made storage prepared next makes stays =
    record {
      smcs = makes.smc ∷ [];
      made = makes.last;
      runs = (
        scene_of ram storage,
        record { asked = asked; prepared = prepared; regs = next ∙ ap (λ (regs : Regs). Some regs) (sym makes.with); changed = makes.changes; storage = stays },
        (ap (λ (answer : Regs). after_answer limits stage answer) (sym makes.answered), refl),
      );
    }

pub stopped_at : (limits : Limits) (call : Call) (last : Moment) (now : Scene) (made : List Smc) (has_room : Regs → Bool) (fault : TeecFault)
    → last.made ≡ made → IsStop last.stage has_room fault → (fault ≡ Spent → Prepares call last.stage last.scene now)
    → Stopped limits call last now made has_room fault
stopped_at limits call last now made has_room fault same stop prepared =
    record { last = last; went = went_none limits call last; all_made = same; stop = stop; prepared = prepared }

-- ---- an RPC return answered

pub return_answered : (limits : Limits) (call : Call) (returns number : ℕ) (rpc : RpcReturn) (answer : Regs) (old between new : Scene) (old_made between_made new_made : List Smc)
    → returns < limits.rounds → number ≡ returns + 1
    → Went limits call (moment old.ram old_made old.storage (before_answer limits number rpc)) (moment between.ram between_made between.storage (Resumes number rpc))
    → Went limits call (moment between.ram between_made between.storage (Resumes number rpc)) (moment new.ram new_made new.storage (after_resume limits number answer (said answer)))
    → Went limits call (moment old.ram old_made old.storage (after_return limits returns rpc)) (moment new.ram new_made new.storage (after_resume limits (suc returns) answer (said answer)))
return_answered limits call returns number rpc answer old between new old_made between_made new_made less is first second =
    let counted : number ≡ suc returns = is ∙ add-one returns in
    let whole = went_then limits call (moment old.ram old_made old.storage (before_answer limits number rpc)) (moment between.ram between_made between.storage (Resumes number rpc))
    (moment new.ram new_made new.storage (after_resume limits number answer (said answer))) first second in
    let from = subst (λ (n : ℕ). Went limits call (moment old.ram old_made old.storage (before_answer limits n rpc)) (moment new.ram new_made new.storage (after_resume limits n answer (said answer)))) counted whole in
    subst (λ (stage : Stage). Went limits call (moment old.ram old_made old.storage stage) (moment new.ram new_made new.storage (after_resume limits (suc returns) answer (said answer)))) (sym (below_bound limits returns rpc less)) from

pub return_stopped : (limits : Limits) (call : Call) (returns number : ℕ) (rpc : RpcReturn) (old : Scene) (old_made : List Smc) (now : Scene) (made : List Smc) (has_room : Regs → Bool) (fault : TeecFault)
    → returns < limits.rounds → number ≡ returns + 1
    → Stopped limits call (moment old.ram old_made old.storage (before_answer limits number rpc)) now made has_room fault
    → Stopped limits call (moment old.ram old_made old.storage (after_return limits returns rpc)) now made has_room fault
return_stopped limits call returns number rpc old old_made now made has_room fault less is stopped =
    let counted : number ≡ suc returns = is ∙ add-one returns in
    let from = subst (λ (n : ℕ). Stopped limits call (moment old.ram old_made old.storage (before_answer limits n rpc)) now made has_room fault) counted stopped in
    subst (λ (stage : Stage). Stopped limits call (moment old.ram old_made old.storage stage) now made has_room fault) (sym (below_bound limits returns rpc less)) from

-- ---- what an answer to a call that is under way comes to

pub returned_strange : (limits : Limits) (call : Call) (old : Moment) (now : Scene) (made : List Smc) (returns : ℕ) (answer : Regs) (has_room : Regs → Bool) (fault : TeecFault)
    → return_in answer ≡ Err fault → Went limits call old (moment now.ram made now.storage (after_resume limits returns answer (said answer)))
    → Stopped limits call old now made has_room fault
returned_strange limits call old now made returns answer has_room fault is went =
    record {
      last = moment now.ram made now.storage (after_resume limits returns answer (said answer));
      went = went;
      all_made = refl;
      stop = subst (λ (fault : TeecFault). IsStop (after_resume limits returns answer (said answer)) has_room fault) (sym (strange answer (said answer) fault is))
          (failed limits returns answer (said answer) fault is);
      prepared = λ spent. let wrong = sym (strange answer (said answer) fault is) ∙ spent in absurd cc;
    }

pub returned_end : (limits : Limits) (call : Call) (old : Moment) (now : Scene) (made : List Smc) (returns : ℕ) (answer : Regs)
    → return_in answer ≡ Ok None → Went limits call old (moment now.ram made now.storage (after_resume limits returns answer (said answer)))
    → Went limits call old (moment now.ram made now.storage Ended)
returned_end limits call old now made returns answer is went =
    subst (λ (stage : Stage). Went limits call old (moment now.ram made now.storage stage)) (ended limits returns answer (said answer) is) went

pub returned_next : (limits : Limits) (call : Call) (old : Moment) (now : Scene) (made : List Smc) (returns : ℕ) (answer : Regs) (rpc : RpcReturn)
    → return_in answer ≡ Ok (Some rpc) → Went limits call old (moment now.ram made now.storage (after_resume limits returns answer (said answer)))
    → Went limits call old (moment now.ram made now.storage (after_return limits returns rpc))
returned_next limits call old now made returns answer rpc is went =
    subst (λ (stage : Stage). Went limits call old (moment now.ram made now.storage stage)) (returned limits returns answer (said answer) rpc is) went

pub returned_bound : (limits : Limits) (call : Call) (old : Moment) (now : Scene) (made : List Smc) (returns : ℕ) (answer : Regs) (rpc : RpcReturn) (has_room : Regs → Bool)
    → return_in answer ≡ Ok (Some rpc) → returns ≡ limits.rounds → Went limits call old (moment now.ram made now.storage (after_resume limits returns answer (said answer)))
    → Stopped limits call old now made has_room (Rounds limits.rounds)
returned_bound limits call old now made returns answer rpc has_room is all went =
    record {
      last = moment now.ram made now.storage (after_return limits returns rpc);
      went = returned_next limits call old now made returns answer rpc is went;
      all_made = refl;
      stop = at_bound limits returns rpc all;
      prepared = λ wrong. absurd cc;
    }

-- ---- a cancellation

pub cancel_prepared : (call : Call) (session : ℕ) (old asked : Scene) (arg : MsgArg) → call.session ≡ session → arg ≡ cancel_argument session
    → asked.ram ≡ lane_after old.ram (argument_write cancel_at arg ∷ []) → asked.storage ≡ old.storage → asked ≡ with_writes old (cancel_writes call.session)
cancel_prepared call session old asked arg same is_arg written stored =
    let ram = written ∙ ap (λ (arg : MsgArg). lane_after old.ram (argument_write cancel_at arg ∷ [])) (is_arg ∙ ap (λ (session : ℕ). cancel_argument session) (sym same)) in
    ap₂ (λ (ram : List ℕ) (storage : Storage). scene_of ram storage) ram stored

pub cancel_went : (limits : Limits) (call : Call) (returns : ℕ) (rpc : RpcReturn) (session : ℕ) (old asked new : Scene) (made asked_made new_made : List Smc) (arg : MsgArg) (regs answer : Regs)
    → call.session ≡ session → arg ≡ cancel_argument session → asked.ram ≡ lane_after old.ram (argument_write cancel_at arg ∷ []) → asked.storage ≡ old.storage
    → regs ≡ call_with_arg cancel_at → Makes asked.ram asked_made regs answer new.ram new_made → asked_made ≡ made → new.storage ≡ asked.storage
    → Went limits call (moment old.ram made old.storage (Cancels returns rpc)) (moment new.ram new_made new.storage (after_cancel returns rpc answer (said answer)))
cancel_went limits call returns rpc session old asked new made asked_made new_made arg regs answer same is_arg written stored is_regs makes unmade kept =
    went_one limits call (Cancels returns rpc) old asked made regs answer new.ram new_made new.storage (cancel_prepared call session old asked arg same is_arg written stored)
    (ap (λ (regs : Regs). Some regs) (sym is_regs)) (subst (λ (made : List Smc). Makes asked.ram made regs answer new.ram new_made) unmade makes) kept

pub cancelled_on : (returns : ℕ) (rpc : RpcReturn) (answer : Regs) (says : Said) → ¬ (says ≡ Unknown) → after_cancel returns rpc answer says ≡ Resumes returns rpc
cancelled_on returns rpc answer Finished other = refl
cancelled_on returns rpc answer NoThread other = refl
cancelled_on returns rpc answer (Returned next) other = refl
cancelled_on returns rpc answer Unknown other = absurd (other refl)

pub cancel_strange : (limits : Limits) (call : Call) (old : Moment) (now : Scene) (made : List Smc) (returns : ℕ) (rpc : RpcReturn) (answer : Regs) (has_room : Regs → Bool)
    → said answer ≡ Unknown → Went limits call old (moment now.ram made now.storage (after_cancel returns rpc answer (said answer)))
    → Stopped limits call old now made has_room (Strange answer)
cancel_strange limits call old now made returns rpc answer has_room is went =
    record {
      last = moment now.ram made now.storage (after_cancel returns rpc answer (said answer));
      went = went;
      all_made = refl;
      stop = ap (λ (says : Said). after_cancel returns rpc answer says) is;
      prepared = λ wrong. absurd cc;
    }

pub cancel_over : (limits : Limits) (call : Call) (old : Moment) (now : Scene) (made : List Smc) (returns : ℕ) (rpc : RpcReturn) (answer : Regs)
    → ¬ (said answer ≡ Unknown) → Went limits call old (moment now.ram made now.storage (after_cancel returns rpc answer (said answer)))
    → Went limits call old (moment now.ram made now.storage (Resumes returns rpc))
cancel_over limits call old now made returns rpc answer other went =
    subst (λ (stage : Stage). Went limits call old (moment now.ram made now.storage stage)) (cancelled_on returns rpc answer (said answer) other) went

-- ---- facts of a fault

-- it is passed on by a `?`
pub passed_on : {T E : Type 0} (r : Result T E) (e : E) (P : E → Type 0) → IsErrAnd r (λ y. y ≡ e) → P e → IfErr r P
passed_on (Ok value) e P is holds = tt
passed_on (Err y) e P is holds = subst P (sym is) holds

abbrev pub returned_so : Option RpcReturn → Result (Option RpcReturn) TeecFault
returned_so rpc = Ok rpc

pub if_err_three : {T E : Type 0} (r : Result T E) (P Q R S : E → Type 0) → ((e : E) → P e → Q e → R e → S e) → IfErr r P → IfErr r Q → IfErr r R → IfErr r S
if_err_three (Ok value) P Q R S gives first second third = tt
if_err_three (Err e) P Q R S gives first second third = gives e first second third

-- want of memory isn't want of room
pub not_spent : {A : Type 0} (fault : TeecFault) → fault ≡ Memory → fault ≡ Spent → A
not_spent fault is spent = let wrong = sym is ∙ spent in absurd cc
