-- The kinds of events: of each that can follow, what its processor comes in for, or goes out of.
use Rattle.std.proofs.Common.{◌≡◌, ℕ, List, Option, Some, None, refl, ap, sym, ◌∙◌}
use Rattle.std.specs.Prelude.{slice_get}
use Rattle.std.specs.Option.{option_and_then, option_map_or}
use Rattle.event_journal.specs.declared.event.Event.TheVariants.{Entry, Exit}
use Rattle.ns_ram.specs.declared.read.Read.{Read}
use Rattle.ns_ram.specs.Reader.{done}
use Rattle.smc_abi.specs.Call.{call_of}
use Rattle.smc_abi.specs.declared.answer.Answer.{Answer}
use Rattle.smc_abi.specs.declared.call.Call.{Call}
use Rattle.smc_abi.specs.declared.call.Call.TheVariants.{Fast, Resume, Unknown, WithArg, WithRegdArg, WithRpcArg}
use Rattle.smc_abi.specs.declared.regs.Regs.{Regs}
use Rattle.kernel_model.specs.Application.{Booted}
use Rattle.kernel_model.specs.Argument.{IsNew, is_new, reg, thread_in}
use Rattle.kernel_model.specs.Codes.{eresume}
use Rattle.kernel_model.specs.Decision.{Answers, Decision, Taken, Takes, works_on}
use Rattle.kernel_model.specs.Entry.{after_decision, decision_of}
use Rattle.kernel_model.specs.Exit.{Exited, exit_of, goes_out_from, progress_in_slot}
use Rattle.kernel_model.specs.History.{after_event}
use Rattle.kernel_model.specs.Kernel.{Active, Fixed, Free, InSlot, Inside, Kernel, Outside, PendingCall, Processor}
use Rattle.kernel_model.specs.Kernel.{Progress, Visit, cancelled_slots, lowest_free}
use Rattle.kernel_model.specs.NewCall.{new_call}
use Rattle.kernel_model.specs.Resume.{call_resumed_by, resume_call, takes_call}
use Rattle.kernel_model.proofs.FixedAnswer.{decides_all, inside_for, processors_after}
use Rattle.kernel_model.proofs.Parts.{AllOf, AllOf-mapped, AllOf-onward, option_map_some, set_found}
use Rattle.own_model.proofs.FixedAnswers.{entered, left}
use Rattle.own_model.proofs.NewEntries.{TakesFree, call_decides}
use Rattle.own_model.proofs.OtherResumes.{visitor_there}
use Rattle.own_model.proofs.OwnTaken.{free_marked}

-- ---- entries

-- it has a fixed answer, is a new call in a slot, or resumes the call of one
pub data EntryKind (kernel next : Kernel) (cpu steps : ℕ) (regs : Regs) : Type 0 where
  HasAnswer : (answer : Answer) → slice_get next.processors cpu ≡ Some (Inside regs.a steps (Fixed answer))
      → EntryKind kernel next cpu steps regs
  IsNewCall : (slot : ℕ) (now : PendingCall) → IsNew regs.a →
      slice_get next.processors cpu ≡ Some (Inside regs.a steps (InSlot slot))
      → slice_get next.slots slot ≡ Some (Active cpu now) →
      EntryKind kernel next cpu steps regs
  IsResume : (call : PendingCall) → call_of (reg regs.a 0) ≡ Resume → call_resumed_by kernel.slots regs.a ≡ Some call →
      slice_get next.processors cpu ≡ Some (Inside regs.a steps (InSlot (thread_in regs.a)))
      → EntryKind kernel next cpu steps regs

-- why a slot is taken
data WhyTaken (kernel : Kernel) (regs : List ℕ) (slot : ℕ) : Type 0 where
  ForNew : IsNew regs → slice_get kernel.slots slot ≡ Some Free → WhyTaken kernel regs slot
  ForResumed : (call : PendingCall) → call_of (reg regs 0) ≡ Resume → call_resumed_by kernel.slots regs ≡ Some call
      → slot ≡ thread_in regs →
      WhyTaken kernel regs slot

abbrev IsTakenFor : Kernel → List ℕ → Decision → Type 0
IsTakenFor kernel regs (Answers answer) = Unit {0}
IsTakenFor kernel regs (Takes slot taken) = WhyTaken kernel regs slot

abbrev Anything : ℕ → Taken → Type 0
Anything slot taken = Unit {0}

for_new : (kernel : Kernel) (regs : List ℕ) → IsNew regs → (decision : Decision)
    → TakesFree Anything kernel decision
    → IsTakenFor kernel regs decision
for_new kernel regs is (Answers answer) takes = tt
for_new kernel regs is (Takes slot taken) takes = ForNew is takes.0

resumes_for : (boot : Booted) (kernel : Kernel) (regs : List ℕ) (found : Option PendingCall)
    → call_of (reg regs 0) ≡ Resume
    → call_resumed_by kernel.slots regs ≡ found
    → AllOf (IsTakenFor kernel regs) (option_map_or (takes_call boot kernel.tables regs) found (done (Answers eresume)))
resumes_for boot kernel regs None is none = tt
resumes_for boot kernel regs (Some call) is some =
    AllOf-mapped (resume_call boot kernel.tables regs call) (λ progress. Takes (thread_in regs) (works_on progress))
    (IsTakenFor kernel regs)
    (λ progress. ForResumed call is some refl)

-- each of the three new calls
new_for : (boot : Booted) (kernel : Kernel) (regs : List ℕ) → IsNew regs → AllOf (IsTakenFor kernel regs) (new_call boot kernel regs)
new_for boot kernel regs is =
    AllOf-onward (new_call boot kernel regs) (TakesFree Anything kernel) (IsTakenFor kernel regs)
    (for_new kernel regs is)
    (call_decides Anything boot kernel regs (lowest_free kernel.slots) refl (λ slot free at bytes. record {
      settled = λ code. tt;
      settled_open = λ of login code. tt;
      opened = λ wanted of copies named. tt;
      dead = λ named there dead. tt;
      faulty = λ named there alive. tt;
      invoked = λ named copies there alive. tt;
      closed = λ named there. tt;
      cancelled = λ named there. tt;
      registered = λ buffers. tt;
    }))

decision_for : (boot : Booted) (kernel : Kernel) (regs : List ℕ) (call : Call) → call_of (reg regs 0) ≡ call
    → AllOf (IsTakenFor kernel regs) (decision_of boot kernel regs call)
decision_for boot kernel regs (Fast call) is = tt
decision_for boot kernel regs Unknown is = tt
decision_for boot kernel regs Resume is = resumes_for boot kernel regs (call_resumed_by kernel.slots regs) is refl
decision_for boot kernel regs WithArg is = new_for boot kernel regs (ap is_new is)
decision_for boot kernel regs WithRpcArg is = new_for boot kernel regs (ap is_new is)
decision_for boot kernel regs WithRegdArg is = new_for boot kernel regs (ap is_new is)

entry_by : (kernel next : Kernel) (cpu steps : ℕ) (regs : Regs) (decision : Decision)
    → IsTakenFor kernel regs.a decision
    → after_decision kernel (record { cpu = cpu; regs = regs.a; steps = steps }) decision ≡ next
    → slice_get next.processors cpu ≡ Some (inside_for (record { cpu = cpu; regs = regs.a; steps = steps }) decision)
    → EntryKind kernel next cpu steps regs
entry_by kernel next cpu steps regs (Answers answer) why gives inside = HasAnswer answer inside
entry_by kernel next cpu steps regs (Takes slot taken) (ForNew is free) gives inside =
    IsNewCall slot taken.call is inside
    (ap (λ (k : Kernel). slice_get k.slots slot) (sym gives)
    ∙ set_found (cancelled_slots kernel.slots taken.cancels) slot (Active cpu taken.call) Free
    (free_marked kernel.slots taken.cancels slot free))
entry_by kernel next cpu steps regs (Takes slot taken) (ForResumed call is some same) gives inside =
    IsResume call is some (inside ∙ ap (λ n. Some (Inside regs.a steps (InSlot n))) same)

pub entry_kind : (boot : Booted) (kernel next : Kernel) (cpu steps : ℕ) (regs : Regs) (reads : List Read)
    → after_event boot kernel (Entry cpu regs steps reads) ≡ Some next → EntryKind kernel next cpu steps regs
entry_kind boot kernel next cpu steps regs reads e =
    let visit : Visit = record { cpu = cpu; regs = regs.a; steps = steps } in
    let there = visitor_there boot kernel next cpu steps regs reads e in
    let found = decides_all (IsTakenFor kernel regs.a) boot kernel next visit reads
    (decision_for boot kernel regs.a (call_of (reg regs.a 0)) refl) (entered boot kernel next cpu steps regs reads e) in
    entry_by kernel next cpu steps regs found.value found.holds found.gives
    (ap (λ (k : Kernel). slice_get k.processors cpu) (sym found.gives)
    ∙ ap (λ (ps : List Processor). slice_get ps cpu) (processors_after kernel visit found.value)
    ∙ set_found kernel.processors cpu (inside_for visit found.value) there.0 there.1)

-- ---- exits

-- with a fixed answer, or from what a call has come to
pub data ExitKind (kernel : Kernel) (cpu : ℕ) : Type 0 where
  WithAnswer : (came : List ℕ) (steps : ℕ) (answer : Answer)
      → slice_get kernel.processors cpu ≡ Some (Inside came steps (Fixed answer)) → ExitKind kernel cpu
  FromCall : (came : List ℕ) (steps slot : ℕ) (progress : Progress)
      → slice_get kernel.processors cpu ≡ Some (Inside came steps (InSlot slot)) →
      progress_in_slot kernel steps slot ≡ Some progress → ExitKind kernel cpu

exit_by : (kernel : Kernel) (cpu : ℕ) (processor : Option Processor) (exited : Exited)
    → slice_get kernel.processors cpu ≡ processor
    → option_and_then (exit_of kernel cpu) processor ≡ Some exited → ExitKind kernel cpu
exit_by kernel cpu None exited there e = absurd cc
exit_by kernel cpu (Some Outside) exited there e = absurd cc
exit_by kernel cpu (Some (Inside came steps (Fixed answer))) exited there e = WithAnswer came steps answer there
exit_by kernel cpu (Some (Inside came steps (InSlot slot))) exited there e =
    let found = option_map_some (goes_out_from kernel (record { cpu = cpu; regs = came; steps = steps }) slot)
    (progress_in_slot kernel steps slot) exited e in
    FromCall came steps slot found.0 there found.1

pub exit_kind : (boot : Booted) (kernel next : Kernel) (cpu : ℕ) (regs : Regs)
    → after_event boot kernel (Exit cpu regs) ≡ Some next → ExitKind kernel cpu
exit_kind boot kernel next cpu regs e =
    let out = left boot kernel next cpu regs e in
    exit_by kernel cpu (slice_get kernel.processors cpu) out.0 refl out.1
