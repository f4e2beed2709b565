-- When an entry answers ETHREAD_LIMIT and ERESUME, and what a resume comes to.
use Rattle.std.proofs.Common.{◌≡◌, ℕ, List, Option, Some, refl, ap, subst, sym, ◌∙◌}
use Rattle.std.specs.Option.{option_map, option_map_or}
use Rattle.ns_ram.specs.declared.read.Read.{Read}
use Rattle.ns_ram.specs.Reader.{Reader, done, reading, ◌>>=◌}
use Rattle.smc_abi.specs.Call.{call_of}
use Rattle.smc_abi.specs.declared.answer.Answer.{Answer}
use Rattle.smc_abi.specs.declared.call.Call.{Call}
use Rattle.smc_abi.specs.declared.call.Call.TheVariants.{Resume}
use Rattle.kernel_model.specs.Application.{Booted}
use Rattle.kernel_model.specs.Argument.{reg, thread_in}
use Rattle.kernel_model.specs.Codes.{eresume, ethread_limit}
use Rattle.kernel_model.specs.Decision.{Decision, Answers, Takes, works_on}
use Rattle.kernel_model.specs.Entry.{after_decision, after_entry, decision_of}
use Rattle.kernel_model.specs.History.{ResumesCall}
use Rattle.kernel_model.specs.Kernel.{Kernel, PendingCall, Progress, Visit}
use Rattle.kernel_model.specs.Laws.{FindsNoSlot, FindsNoCall, FixedExactly, LimitExactly, ResumesExactly}
use Rattle.kernel_model.specs.Resume.{call_resumed_by, resume_call, takes_call}
use Rattle.kernel_model.proofs.Told.{Told, decision_told}
use Rattle.kernel_model.proofs.FixedAnswer.{decided_fixed, decides_all, fixed_decided}
use Rattle.kernel_model.proofs.Parts.{Found, option_map_some, reading-mapped}

-- what is decided
pub tells : (boot : Booted) (kernel next : Kernel) (visit : Visit) (reads : List Read)
    → after_entry boot kernel visit reads ≡ Some next → Found (after_decision kernel visit) (Told kernel visit.regs) next
tells boot kernel next visit reads e =
    decides_all (Told kernel visit.regs) boot kernel next visit reads (decision_told boot kernel visit.regs) e

-- ---- the limit of threads

limit_told : (kernel : Kernel) (regs : List ℕ) (decision : Decision) → Told kernel regs decision → decision ≡ Answers ethread_limit → FindsNoSlot kernel regs
limit_told kernel regs decision told is =
    let here = subst (λ (d : Decision). Told kernel regs d) is told in here.0.0 refl

told_limit : (kernel : Kernel) (regs : List ℕ) (decision : Decision) → Told kernel regs decision → FindsNoSlot kernel regs → decision ≡ Answers ethread_limit
told_limit kernel regs (Answers answer) told none = ap (λ (a : Answer). Answers a) (told.1.0 none)
told_limit kernel regs (Takes slot taken) told none = absurd (told.0 none)

pub limit_exactly : LimitExactly
limit_exactly boot kernel next visit reads outside e =
    let found = tells boot kernel next visit reads e in (
      λ fixed. limit_told kernel visit.regs found.value found.holds (decided_fixed kernel next visit ethread_limit found.value found.gives fixed),
      λ none. fixed_decided kernel next visit ethread_limit found.value outside found.gives (told_limit kernel visit.regs found.value found.holds none),
    )

-- ---- resumes

resume_told : (kernel : Kernel) (regs : List ℕ) (decision : Decision) → Told kernel regs decision → decision ≡ Answers eresume → FindsNoCall kernel regs
resume_told kernel regs decision told is =
    let here = subst (λ (d : Decision). Told kernel regs d) is told in here.0.1 refl

pub told_resume : (kernel : Kernel) (regs : List ℕ) (decision : Decision) → Told kernel regs decision → FindsNoCall kernel regs → decision ≡ Answers eresume
told_resume kernel regs (Answers answer) told none = ap (λ (a : Answer). Answers a) (told.1.1 none)
told_resume kernel regs (Takes slot taken) told none = absurd (told.1 none)

refuses_exactly : FixedExactly eresume FindsNoCall
refuses_exactly boot kernel next visit reads outside e =
    let found = tells boot kernel next visit reads e in (
      λ fixed. resume_told kernel visit.regs found.value found.holds (decided_fixed kernel next visit eresume found.value found.gives fixed),
      λ none. fixed_decided kernel next visit eresume found.value outside found.gives (told_resume kernel visit.regs found.value found.holds none),
    )

-- what is decided of a resume of a call
abbrev resumed_decision : Visit → Progress → Decision
resumed_decision visit progress = Takes (thread_in visit.regs) (works_on progress)

decision_resumed : (boot : Booted) (kernel : Kernel) (visit : Visit) (call : PendingCall)
    → call_of (reg visit.regs 0) ≡ Resume → call_resumed_by kernel.slots visit.regs ≡ Some call
    → decision_of boot kernel visit.regs (call_of (reg visit.regs 0)) ≡ takes_call boot kernel.tables visit.regs call
decision_resumed boot kernel visit call is some =
    ap (λ (c : Call). decision_of boot kernel visit.regs c) is
    ∙ ap (λ (found : Option PendingCall). option_map_or (takes_call boot kernel.tables visit.regs) found (done (Answers eresume))) some

entry_resumed : (boot : Booted) (kernel : Kernel) (visit : Visit) (reads : List Read) (call : PendingCall)
    → call_of (reg visit.regs 0) ≡ Resume → call_resumed_by kernel.slots visit.regs ≡ Some call
    → after_entry boot kernel visit reads
    ≡ option_map (after_decision kernel visit)
    (option_map (resumed_decision visit) (reading (resume_call boot kernel.tables visit.regs call) reads))
entry_resumed boot kernel visit reads call is some =
    let resumed = resume_call boot kernel.tables visit.regs call in
    ap (λ (decision : Reader Decision). reading (decision >>= (λ d. done (after_decision kernel visit d))) reads) (decision_resumed boot kernel visit call is some)
    ∙ reading-mapped (takes_call boot kernel.tables visit.regs call) (after_decision kernel visit) reads
    ∙ ap (λ (d : Option Decision). option_map (after_decision kernel visit) d) (reading-mapped resumed (resumed_decision visit) reads)

pub resumes_call : (boot : Booted) (kernel next : Kernel) (visit : Visit) (reads : List Read) (call : PendingCall) →
    call_of (reg visit.regs 0) ≡ Resume → call_resumed_by kernel.slots visit.regs ≡ Some call →
    after_entry boot kernel visit reads ≡ Some next → ResumesCall boot kernel visit reads call next
resumes_call boot kernel next visit reads call is some e =
    let made = reading (resume_call boot kernel.tables visit.regs call) reads in
    let decided = option_map_some (after_decision kernel visit) (option_map (resumed_decision visit) made) next
    (sym (entry_resumed boot kernel visit reads call is some) ∙ e) in
    let came = option_map_some (resumed_decision visit) made decided.0 decided.1 in
    record {
      progress = came.0;
      comes_to = came.1;
      next_is = sym decided.2 ∙ ap (λ (d : Decision). after_decision kernel visit d) (sym came.2);
    }

pub resumes_exactly : ResumesExactly
resumes_exactly = record { resumes = resumes_call; refuses = refuses_exactly }
