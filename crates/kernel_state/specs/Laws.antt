-- What the contracts of an entry and an exit say, over all cores.
use Rattle.std.specs.Prelude.{◌≡◌, ◌≢◌, ◌↔◌, ◌≤◌, ℕ, List, ◌++◌, length, Option, Some, None, slice_get}
use Rattle.std.specs.List.{AllByRecursion}
use Rattle.event_journal.specs.Journal.{copied_bytes}
use Rattle.event_journal.specs.declared.event.Event.{Event}
use Rattle.kernel_model.specs.Argument.{client_in, reg, thread_in}
use Rattle.kernel_model.specs.Codes.{eresume, ethread_limit}
use Rattle.kernel_model.specs.Application.{Booted}
use Rattle.kernel_model.specs.Entry.{after_entry}
use Rattle.kernel_model.specs.Exit.{exit}
use Rattle.kernel_model.specs.History.{IsLater, IsLegal, Resumes, ResumesCall}
use Rattle.kernel_model.specs.Kernel.{Fixed, InSlot, Inside, Kernel, PendingCall, Suspended, Visit, lowest_free, with_visitor, without_visitor}
use Rattle.kernel_model.specs.Laws.{FindsNoCall, FindsNoSlot, IsFixed, IsOfOther}
use Rattle.kernel_model.specs.Resume.{call_resumed_by}
use Rattle.kernel_model.specs.Turns.{ReadsRam}
use Rattle.smc_abi.specs.Answer.{registers_of}
use Rattle.smc_abi.specs.Call.{call_of}
use Rattle.smc_abi.specs.declared.answer.Answer.{Answer}
use Rattle.smc_abi.specs.declared.call.Call.TheVariants.{Resume}
use Rattle.smc_abi.specs.declared.regs.Regs.{Regs}
use Rattle.kernel_state.specs.Entering.{CanEnter, Coming, HasEntered, HasWork, HasWorkAfter, IsAsBefore, visit_of}
use Rattle.kernel_state.specs.Leaving.{CanLeave, CanLeaveAfter, HasLeft}
use Rattle.kernel_state.specs.Meaning.{booted_of, events_of, free_slots_in, kernel_of, terms_of}
use Rattle.kernel_state.specs.Reads.{ReadsAgree}
use Rattle.kernel_state.specs.Work.{IsRanOf}
use Rattle.kernel_state.specs.declared.carried.Carried.TheVariants.{Nothing}
use Rattle.kernel_state.specs.declared.kernel_core.Core.{Core}
use Rattle.kernel_state.specs.declared.work.Ran.{Ran}
use Rattle.kernel_state.specs.declared.work.Work.{Work}

-- an entry into a core, with the kernels before and after it
pub record CoreEntry : Type 0 where
  pub old : Core
  pub new : Core
  pub coming : Coming
  pub lane : List ℕ
  pub work : Work
  pub has_entered : HasEntered old new coming lane work
  pub kernel : Kernel
  pub next : Kernel
  pub before : kernel_of old ≡ Some kernel
  pub after : kernel_of new ≡ Some next

-- an exit from one
pub record CoreExit : Type 0 where
  pub old : Core
  pub new : Core
  pub ran : Ran
  pub lane : List ℕ
  pub now : List ℕ
  pub told : Regs
  pub has_left : HasLeft old new ran lane now told
  pub kernel : Kernel
  pub next : Kernel
  pub before : kernel_of old ≡ Some kernel
  pub after : kernel_of new ≡ Some next

-- the registers of an entry
abbrev pub regs_of : CoreEntry → List ℕ
regs_of entry = entry.coming.regs.a

-- ---- legal histories

-- the events of each core are a legal history, and what was added to them is what the kernel's entry and exit make
pub record JournalsStayLegal : Type 0 where
  pub legal : (core : Core) → IsLegal (booted_of core) (events_of core)
  -- its entries have together read as many bytes as its terms allow, or fewer. Each read has some, all of them in RAM, and those of
  -- one entry agree
  pub few : (core : Core) → copied_bytes (events_of core) ≤ (terms_of core).most
  pub agree : (core : Core) → AllByRecursion ReadsAgree (events_of core)
  pub in_ram : (core : Core) → AllByRecursion ReadsRam (events_of core)
  -- the processor could come in, and the kernel is the one after its entry
  pub could_enter : (entry : CoreEntry) → CanEnter entry.old entry.coming
  pub entered : (entry : CoreEntry) →
      after_entry (booted_of entry.old) entry.kernel (visit_of entry.coming) entry.has_entered.reads ≡ Some entry.next
  -- the kernel is the one after its exit
  pub exits : (left : CoreExit) → exit left.kernel left.ran.cpu ≡ Some left.has_left.exited
  pub left : (left : CoreExit) → left.next ≡ left.has_left.exited.kernel

-- ---- the events of other processors

-- between these cores only processors other than this one have come in and gone out
pub record ChangedByOthers (old new : Core) (cpu : ℕ) : Type 0 where
  pub boot : booted_of new ≡ booted_of old
  pub terms : terms_of new ≡ terms_of old
  pub between : List Event
  pub others : AllByRecursion (IsOfOther cpu) between
  pub events : events_of new ≡ events_of old ++ between

-- what other processors do leaves a processor's work its own
pub record WorkStays : Type 0 where
  pub entered : (entry : CoreEntry) (cpu : ℕ) → entry.coming.cpu ≢ cpu → ChangedByOthers entry.old entry.new cpu
  pub left : (left : CoreExit) (cpu : ℕ) → left.ran.cpu ≢ cpu → ChangedByOthers left.old left.new cpu
  -- one after the other
  pub in_turn : (old mid new : Core) (cpu : ℕ) → ChangedByOthers old mid cpu → ChangedByOthers mid new cpu →
      ChangedByOthers old new cpu
  -- before its granted steps, and behind them
  pub work : (old new : Core) (work : Work) → ChangedByOthers old new work.cpu → HasWork old work → HasWork new work
  pub ran : (old new : Core) (ran : Ran) → ChangedByOthers old new ran.cpu → CanLeave old ran → CanLeave new ran

-- a legal history, which goes on behind this beginning with the events of processors other than this one
pub record GoesOnByOthers (boot : Booted) (before history : List Event) (cpu : ℕ) : Type 0 where
  pub legal : IsLegal boot history
  pub between : List Event
  pub others : AllByRecursion (IsOfOther cpu) between
  pub is : history ≡ before ++ between

-- the same of histories: the work of a beginning is that of the whole
pub record WorkStaysOnward : Type 0 where
  pub work : (boot : Booted) (before history : List Event) (work : Work) → GoesOnByOthers boot before history work.cpu →
      HasWorkAfter boot before work → HasWorkAfter boot history work
  pub ran : (boot : Booted) (before history : List Event) (ran : Ran) → GoesOnByOthers boot before history ran.cpu →
      CanLeaveAfter boot before ran → CanLeaveAfter boot history ran
  -- with its granted steps done it can leave
  pub has_run : (boot : Booted) (history : List Event) (work : Work) (ran : Ran) → HasWorkAfter boot history work →
      IsRanOf work ran → CanLeaveAfter boot history ran

-- the work of an entry, with its granted steps done, can leave, whatever others have done meanwhile
pub record WorkCanLeave : Type 0 where
  pub at_once : (entry : CoreEntry) (ran : Ran) → IsRanOf entry.work ran → CanLeave entry.new ran
  pub later : (entry : CoreEntry) (later : Core) (ran : Ran) → ChangedByOthers entry.new later entry.coming.cpu →
      IsRanOf entry.work ran → CanLeave later ran

-- ---- answers that were fixed

-- the answer is fixed at the entry
abbrev pub FixesAnswer : CoreEntry → Answer → Type 0
FixesAnswer entry answer = IsFixed entry.next (visit_of entry.coming) answer

-- the visitor has gone out with this answer, and nothing else has changed
pub record HasGoneWith (left : CoreExit) (visit : Visit) (answer : Answer) : Type 0 where
  pub kernel : left.next ≡ without_visitor left.kernel visit
  pub told : left.told.a ≡ registers_of answer visit.regs
  pub lane : left.now ≡ left.lane

-- a fixed answer changes its processor's part alone, both at the entry and at the exit
pub record FixedAnswersPass : Type 0 where
  pub entry : (entry : CoreEntry) (answer : Answer) → FixesAnswer entry answer →
      entry.next ≡ with_visitor entry.kernel (visit_of entry.coming) (Fixed answer)
  pub nothing : (entry : CoreEntry) (answer : Answer) → FixesAnswer entry answer → entry.work.call ≡ Nothing
  -- the processor goes out with what was fixed as it came in
  pub exit : (entry : CoreEntry) (left : CoreExit) (answer : Answer) → FixesAnswer entry answer →
      left.ran.cpu ≡ entry.coming.cpu → ChangedByOthers entry.new left.old entry.coming.cpu →
      HasGoneWith left (visit_of entry.coming) answer
  -- and where that comes next, the kernel is as it was before the entry
  pub in_a_row : (entry : CoreEntry) (left : CoreExit) (answer : Answer) → FixesAnswer entry answer →
      left.ran.cpu ≡ entry.coming.cpu → IsAsBefore entry.new left.old → left.next ≡ entry.kernel

-- ETHREAD_LIMIT is fixed exactly where a new call finds no slot free, and ERESUME exactly where a resume finds no call
pub record AnswersComeExactly : Type 0 where
  pub limit : (entry : CoreEntry) → FixesAnswer entry ethread_limit ↔ FindsNoSlot entry.kernel (regs_of entry)
  pub resume : (entry : CoreEntry) → FixesAnswer entry eresume ↔ FindsNoCall entry.kernel (regs_of entry)
  -- and no slot is free where the number of those that are is 0
  pub no_slot : (kernel : Kernel) → (lowest_free kernel.slots ≡ None) ↔ (free_slots_in kernel ≡ 0)

-- ---- resumes

-- the entry continues this call
pub record ContinuesCall (entry : CoreEntry) (call : PendingCall) : Type 0 where
  -- it is suspended in the slot that the registers name, for the client that they name
  pub suspended : slice_get entry.kernel.slots (thread_in (regs_of entry)) ≡ Some (Suspended (client_in (regs_of entry)) call)
  -- the processor came in for that slot, which works on what the resume makes of the call
  pub inside : slice_get entry.next.processors entry.coming.cpu
      ≡ Some (Inside (regs_of entry) entry.coming.steps (InSlot (thread_in (regs_of entry))))
  pub resumes : ResumesCall (booted_of entry.old) entry.kernel (visit_of entry.coming) entry.has_entered.reads call entry.next
  -- the call is what the last exit from the slot left there, but that it may have been cancelled since
  pub left : PendingCall
  pub later : IsLater left call
  pub continues : Resumes (booted_of entry.old) (events_of entry.new) (length (events_of entry.old)) (thread_in (regs_of entry)) left

-- what a resume comes to, by the call that it finds: it continues that, or is answered ERESUME, and then nothing of the
-- kernel changes but its processor's part
abbrev pub ComesBackTo : CoreEntry → Option PendingCall → Type 0
ComesBackTo entry None = entry.next ≡ with_visitor entry.kernel (visit_of entry.coming) (Fixed eresume)
ComesBackTo entry (Some call) = ContinuesCall entry call

-- a return from RPC continues the call that is suspended in its slot for its client, or is answered ERESUME
abbrev pub ReturnsContinue : Type 0
ReturnsContinue = (entry : CoreEntry) → call_of (reg (regs_of entry) 0) ≡ Resume →
    ComesBackTo entry (call_resumed_by entry.kernel.slots (regs_of entry))
