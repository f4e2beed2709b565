-- What holds of all kernels and of all histories.
use Rattle.std.specs.Prelude.{◌≡◌, ◌↔◌, ℕ, List, [], ◌∷◌, ◌++◌, length, Some, None, slice_get}
use Rattle.std.specs.List.{AllByRecursion}
use Rattle.std.specs.Option.{option_map}
use Rattle.event_journal.specs.declared.event.Event.{Event}
use Rattle.event_journal.specs.declared.event.Event.TheVariants as event
use Rattle.ns_ram.specs.declared.read.Read.{Read}
use Rattle.smc_abi.specs.Call.{call_of}
use Rattle.smc_abi.specs.declared.call.Call.TheVariants.{Resume}
use Rattle.smc_abi.specs.declared.answer.Answer.{Answer}
use Rattle.smc_abi.specs.declared.regs.Regs.{Regs}
use Rattle.kernel_model.specs.Application.{Booted}
use Rattle.kernel_model.specs.Argument.{IsNew, reg}
use Rattle.kernel_model.specs.Codes.{eresume, ethread_limit}
use Rattle.kernel_model.specs.Entry.{after_entry}
use Rattle.kernel_model.specs.Exit.{exit, goes_out}
use Rattle.kernel_model.specs.History.{IsLegal, Resumes, ResumesCall, exit_after, kernel_after}
use Rattle.kernel_model.specs.Kernel.{Fixed, InSlot, Inside, Kernel, Outside, PendingCall, Visit, lowest_free}
use Rattle.kernel_model.specs.Kernel.{with_visitor, without_visitor}
use Rattle.kernel_model.specs.Resume.{call_resumed_by}

-- the visitor's processor is outside
abbrev pub IsOutside : Kernel → Visit → Type 0
IsOutside kernel visit = slice_get kernel.processors visit.cpu ≡ Some Outside

-- it is inside for an answer that was fixed as it came in
abbrev pub IsFixed : Kernel → Visit → Answer → Type 0
IsFixed kernel visit answer =
    slice_get kernel.processors visit.cpu ≡ Some (Inside visit.regs visit.steps (Fixed answer))

-- a fixed answer changes nothing but its processor's part, which is outside again after it
pub record FixedAnswers : Type 0 where
  -- at the entry it is inside
  pub entry : (boot : Booted) (kernel next : Kernel) (visit : Visit) (reads : List Read) (answer : Answer) →
      after_entry boot kernel visit reads ≡ Some next → IsFixed next visit answer →
      next ≡ with_visitor kernel visit (Fixed answer)
  -- at the exit it is outside, nothing is written, and the registers are the answer's
  pub exit : (kernel : Kernel) (visit : Visit) (answer : Answer) →
      IsFixed kernel visit answer → exit kernel visit.cpu ≡ Some (goes_out kernel visit answer [])
  -- and where the exit follows on the entry, the kernel is as it was
  pub in_a_row : (boot : Booted) (kernel next : Kernel) (visit : Visit) (reads : List Read) (answer : Answer) →
      IsOutside kernel visit → after_entry boot kernel visit reads ≡ Some next → IsFixed next visit answer →
      without_visitor next visit ≡ kernel

-- ---- answers that come exactly where a call finds no slot, or no call

-- a new call, while no slot is free
abbrev pub FindsNoSlot : Kernel → List ℕ → Type 0
FindsNoSlot kernel regs = IsNew regs × (lowest_free kernel.slots ≡ None)

-- a resume, while no call is suspended in its slot for its client
abbrev pub FindsNoCall : Kernel → List ℕ → Type 0
FindsNoCall kernel regs = (call_of (reg regs 0) ≡ Resume) × (call_resumed_by kernel.slots regs ≡ None)

-- an answer is fixed at an entry exactly where its call finds so
abbrev pub FixedExactly : Answer → (Kernel → List ℕ → Type 0) → Type 0
FixedExactly answer Finds = (boot : Booted) (kernel next : Kernel) (visit : Visit) (reads : List Read) →
    IsOutside kernel visit → after_entry boot kernel visit reads ≡ Some next →
    (IsFixed next visit answer ↔ Finds kernel visit.regs)

-- ETHREAD_LIMIT comes exactly where a new call finds no slot free
abbrev pub LimitExactly : Type 0
LimitExactly = FixedExactly ethread_limit FindsNoSlot

-- a resume continues the call that is suspended in its slot for its client, and is answered ERESUME exactly where there
-- is none
pub record ResumesExactly : Type 0 where
  pub resumes : (boot : Booted) (kernel next : Kernel) (visit : Visit) (reads : List Read) (call : PendingCall) →
      call_of (reg visit.regs 0) ≡ Resume → call_resumed_by kernel.slots visit.regs ≡ Some call →
      after_entry boot kernel visit reads ≡ Some next → ResumesCall boot kernel visit reads call next
  pub refuses : FixedExactly eresume FindsNoCall

-- the event is of another processor
abbrev pub IsOfOther : ℕ → Event → Type 0
IsOfOther cpu (event.Entry came regs steps reads) = came ≡ cpu → ⊥
IsOfOther cpu (event.Exit went regs) = went ≡ cpu → ⊥

-- a processor's entry after these events, and its next event, its exit, with those of others between
abbrev pub visited : List Event → ℕ → Regs → ℕ → List Read → List Event → Regs → List Event
visited before cpu regs steps reads between told =
    before ++ ((event.Entry cpu regs steps reads ∷ between) ++ event.Exit cpu told ∷ [])

-- in a legal history a processor goes out with this a0 exactly where its call found so as it came in
abbrev pub ToldExactly : ℕ → (Kernel → List ℕ → Type 0) → Type 0
ToldExactly a0 Finds =
    (boot : Booted) (before between : List Event) (cpu steps : ℕ) (regs told : Regs) (reads : List Read)
    (kernel : Kernel) → kernel_after boot before ≡ Some kernel → AllByRecursion (IsOfOther cpu) between →
    IsLegal boot (visited before cpu regs steps reads between told) →
    ((reg told.a 0 ≡ a0) ↔ Finds kernel regs.a)

-- ETHREAD_LIMIT is 1, and ERESUME is 3
pub record AnswersExactly : Type 0 where
  pub limit : ToldExactly 1 FindsNoSlot
  pub resume : ToldExactly 3 FindsNoCall

-- ---- resumes

-- in a legal history a resume that gets into a slot is one of the call that the last exit from it left suspended
abbrev pub ResumesContinue : Type 0
ResumesContinue =
    (boot : Booted) (before : List Event) (cpu steps slot : ℕ) (regs : Regs) (reads : List Read) (next : Kernel) →
    (let history = before ++ event.Entry cpu regs steps reads ∷ [] in
    kernel_after boot history ≡ Some next → call_of (reg regs.a 0) ≡ Resume →
    slice_get next.processors cpu ≡ Some (Inside regs.a steps (InSlot slot)) →
    (call : PendingCall) × Resumes boot history (length before) slot call)

-- ---- exits

-- the registers of each exit of a legal history are what the events before it give
abbrev pub ExitsFollow : Type 0
ExitsFollow = (boot : Booted) (before behind : List Event) (cpu : ℕ) (regs : Regs) →
    IsLegal boot (before ++ event.Exit cpu regs ∷ behind) →
    option_map (λ exited. exited.regs) (exit_after boot before cpu) ≡ Some regs.a
