-- A call that is made as often as no thread is free.
use Rattle.std.proofs.Common.{◌≡◌, ℕ, zero, suc, ◌+◌, ◌<◌, Bool, List, Some, refl, sym, ap, ◌∙◌, subst, add-one}
use Rattle.smc_abi.specs.declared.regs.Regs.{Regs}
use Rattle.smc_port.specs.Smc.{Makes, Smc}
use Rattle.teec.specs.declared.answer.Said.{Said}
use Rattle.teec.specs.declared.answer.Said.TheVariants.{NoThread}
use Rattle.teec.specs.declared.fault.TeecFault.{TeecFault}
use Rattle.teec.specs.declared.limits.Limits.{Limits}
use Rattle.teec.specs.Answers.{call_with_arg, said}
use Rattle.teec.specs.Calls.{Call}
use Rattle.teec.specs.Places.{argument_at}
use Rattle.teec.specs.Rounds.{Calls, Stage, after_call, after_refusal, after_resume, regs_at}
use Rattle.teec.specs.Runs.{IsStop, Prepares, Scene, Stopped, Went, moment}
use Rattle.teec.proofs.Going.{stopped_at, stopped_then, went_one, went_then}
use Rattle.teec.proofs.Stages.{first_taken, tries_left}

-- a call that stands written in this scene: how it was made so often and no thread was free, and what stands now
abbrev pub HasTried : Limits → Call → Scene → Scene → List Smc → ℕ → Scene → List Smc → Type 0
HasTried limits call old start start_made zero now made = (now ≡ start) × (made ≡ start_made)
HasTried limits call old start start_made (suc refused) now made =
    Went limits call (moment old.ram start_made old.storage (Calls 0)) (moment now.ram made now.storage (after_refusal limits refused))

-- the next SMC
pub tried_once : (limits : Limits) (call : Call) (old start : Scene) (start_made : List Smc) (refused : ℕ) (now new : Scene) (now_made new_made : List Smc) (answer : Regs)
    → Prepares call (Calls 0) old start → refused < limits.retries → HasTried limits call old start start_made refused now now_made
    → Makes now.ram now_made (call_with_arg argument_at) answer new.ram new_made → new.storage ≡ now.storage
    → Went limits call (moment old.ram start_made old.storage (Calls 0)) (moment new.ram new_made new.storage (after_call limits refused answer (said answer)))
tried_once limits call old start start_made zero now new now_made new_made answer prepared less (same, stays) makes kept =
    let from_start = subst (λ (scene : Scene). Makes scene.ram now_made (call_with_arg argument_at) answer new.ram new_made) same makes in
    let with_made = subst (λ (made : List Smc). Makes start.ram made (call_with_arg argument_at) answer new.ram new_made) stays from_start in
    went_one limits call (Calls 0) old start start_made (call_with_arg argument_at) answer new.ram new_made new.storage prepared refl with_made
    (kept ∙ ap (λ (scene : Scene). scene.storage) same)
tried_once limits call old start start_made (suc refused) now new now_made new_made answer prepared less tried makes kept =
    let before = subst (λ (stage : Stage). Went limits call (moment old.ram start_made old.storage (Calls 0)) (moment now.ram now_made now.storage stage)) (tries_left limits refused less) tried in
    went_then limits call (moment old.ram start_made old.storage (Calls 0)) (moment now.ram now_made now.storage (Calls (suc refused)))
    (moment new.ram new_made new.storage (after_call limits (suc refused) answer (said answer)))
    before
    (went_one limits call (Calls (suc refused)) now now now_made (call_with_arg argument_at) answer new.ram new_made new.storage refl refl makes kept)

-- no thread was free once more
pub tried_more : (limits : Limits) (call : Call) (old start : Scene) (start_made : List Smc) (refused : ℕ) (now new : Scene) (now_made new_made : List Smc) (answer : Regs)
    → Prepares call (Calls 0) old start → refused < limits.retries → HasTried limits call old start start_made refused now now_made
    → Makes now.ram now_made (call_with_arg argument_at) answer new.ram new_made → new.storage ≡ now.storage → said answer ≡ NoThread
    → HasTried limits call old start start_made (refused + 1) new new_made
tried_more limits call old start start_made refused now new now_made new_made answer prepared less tried makes kept says =
    let went = tried_once limits call old start start_made refused now new now_made new_made answer prepared less tried makes kept in
    let here = subst (λ (says : Said). Went limits call (moment old.ram start_made old.storage (Calls 0)) (moment new.ram new_made new.storage (after_call limits refused answer says))) says went in
    subst (λ (n : ℕ). HasTried limits call old start start_made n new new_made) (sym (add-one refused)) here

-- a thread was free
pub tried_taken : (limits : Limits) (call : Call) (old start : Scene) (start_made : List Smc) (refused : ℕ) (now new : Scene) (now_made new_made : List Smc) (answer : Regs)
    → Prepares call (Calls 0) old start → refused < limits.retries → HasTried limits call old start start_made refused now now_made
    → Makes now.ram now_made (call_with_arg argument_at) answer new.ram new_made → new.storage ≡ now.storage → ¬ (said answer ≡ NoThread)
    → Went limits call (moment old.ram start_made old.storage (Calls 0)) (moment new.ram new_made new.storage (after_resume limits 0 answer (said answer)))
tried_taken limits call old start start_made refused now new now_made new_made answer prepared less tried makes kept other =
    let went = tried_once limits call old start start_made refused now new now_made new_made answer prepared less tried makes kept in
    subst (λ (stage : Stage). Went limits call (moment old.ram start_made old.storage (Calls 0)) (moment new.ram new_made new.storage stage))
    (first_taken limits refused answer (said answer) other) went

-- the port refused the next SMC
pub tried_stopped : (limits : Limits) (call : Call) (old start : Scene) (start_made : List Smc) (refused : ℕ) (now : Scene) (now_made : List Smc) (new : Scene) (new_made : List Smc) (has_room : Regs → Bool) (fault : TeecFault)
    → Prepares call (Calls 0) old start → refused < limits.retries → HasTried limits call old start start_made refused now now_made → new ≡ now → new_made ≡ now_made
    → ((stage : Stage) → regs_at stage ≡ Some (call_with_arg argument_at) → IsStop stage has_room fault)
    → Stopped limits call (moment old.ram start_made old.storage (Calls 0)) new new_made has_room fault
tried_stopped limits call old start start_made zero now now_made new new_made has_room fault prepared less (same, stays) unchanged unmade stops =
    stopped_at limits call (moment old.ram start_made old.storage (Calls 0)) new new_made has_room fault (sym (unmade ∙ stays)) (stops (Calls 0) refl)
    (λ spent. unchanged ∙ same ∙ prepared)
tried_stopped limits call old start start_made (suc refused) now now_made new new_made has_room fault prepared less tried unchanged unmade stops =
    let before = subst (λ (stage : Stage). Went limits call (moment old.ram start_made old.storage (Calls 0)) (moment now.ram now_made now.storage stage)) (tries_left limits refused less) tried in
    stopped_then limits call (moment old.ram start_made old.storage (Calls 0)) (moment now.ram now_made now.storage (Calls (suc refused))) new new_made has_room fault before
    (stopped_at limits call (moment now.ram now_made now.storage (Calls (suc refused))) new new_made has_room fault (sym unmade) (stops (Calls (suc refused)) refl)
    (λ spent. unchanged))
