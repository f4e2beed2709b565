-- What an entry decides, as the kernel's definitions see it, and what it has found for that.
use Rattle.std.specs.Prelude.{◌≡◌, ℕ, List, Option, None, Some}
use Rattle.std.specs.Option.{option_map_or}
use Rattle.kernel_model.specs.Application.{Booted}
use Rattle.kernel_model.specs.Argument.{reg, thread_in}
use Rattle.kernel_model.specs.Codes.{eresume}
use Rattle.kernel_model.specs.Decision as model
use Rattle.kernel_model.specs.Decision.{Decision, works_on}
use Rattle.kernel_model.specs.Entry.{decision_of}
use Rattle.kernel_model.specs.Kernel.{Kernel, PendingCall}
use Rattle.kernel_model.specs.Resume.{call_resumed_by}
use Rattle.kernel_state.specs.Setup.{booted_of_setup}
use Rattle.kernel_state.specs.StandsFor.{StandsFor}
use Rattle.kernel_state.specs.Tables.{tables_of}
use Rattle.kernel_state.specs.declared.parts.Parts.{Parts}
use Rattle.new_calls.specs.Applying.{CanApply}
use Rattle.new_calls.specs.Commands.{CanPin}
use Rattle.new_calls.specs.Deciding.{call_with, taken_of}
use Rattle.new_calls.specs.declared.entered.Entered.{Entered}
use Rattle.new_calls.specs.declared.plan.Plan.{Plan}
use Rattle.ns_ram.specs.Reader.{Reader, done, over_lane}
use Rattle.ns_ram.specs.declared.read.Read.{Read}
use Rattle.resumed_calls.specs.Deciding as resumed
use Rattle.resumed_calls.specs.Deciding.{IsAppIn}
use Rattle.resumed_calls.specs.declared.deciding.Decided.{Decided}
use Rattle.smc_abi.specs.Call.{call_of}
use Rattle.smc_abi.specs.declared.answer.Answer.{Answer}
use Rattle.thread_slots.specs.Slots.{lowest_free}
use Rattle.kernel_entry.specs.Resuming.{IsSuspended, goes_on_as}
use Rattle.kernel_entry.specs.declared.deciding.EntryDecision.{EntryDecision}
use Rattle.kernel_entry.specs.declared.deciding.EntryDecision.TheVariants as decision

-- ---- the kernel's decision

-- the slot works on what its call comes to
abbrev pub goes_on_in : Parts → List ℕ → Decided → PendingCall → Decision
goes_on_in parts regs decided call = model.Takes (thread_in regs) (works_on (goes_on_as parts regs decided call))

-- what was decided
abbrev pub decision_as : Parts → Kernel → List ℕ → EntryDecision → Decision
decision_as parts kernel regs (decision.Answers answer) = model.Answers answer
decision_as parts kernel regs (decision.Begins call) = model.Takes call.value.entered.slot
    (taken_of (call_with (booted_of_setup parts.setup) (tables_of parts.tables) call.value.entered) call.value.plan)
decision_as parts kernel regs (decision.GoesOn decided) =
    option_map_or (goes_on_in parts regs decided) (call_resumed_by kernel.slots regs) (model.Answers eresume)

-- what was decided of a resume: a call goes on, or there is none
abbrev pub resumes_as : Option Decided → EntryDecision
resumes_as None = decision.Answers eresume
resumes_as (Some decided) = decision.GoesOn decided

-- each kernel of this boot gives a call with these registers this answer, and reads nothing for it
abbrev pub HasFixedAnswer : Booted → List ℕ → Answer → Type 0
HasFixedAnswer boot regs answer =
    (kernel : Kernel) → decision_of boot kernel regs (call_of (reg regs 0)) ≡ done (model.Answers answer)

-- by what is read of the lane this reader comes to what was decided
abbrev pub ComesTo : Parts → Kernel → List ℕ → Reader Decision → List ℕ → List Read → List Read → EntryDecision →
    Type 0
ComesTo parts kernel regs reader lane before after decided =
    over_lane reader lane before ≡ Some (decision_as parts kernel regs decided, after)

-- the kernel decides so of a call with these registers
abbrev pub IsDecided : Parts → Kernel → List ℕ → List ℕ → List Read → List Read → EntryDecision → Type 0
IsDecided parts kernel regs lane before after decided =
    let reader : Reader Decision = decision_of (booted_of_setup parts.setup) kernel regs (call_of (reg regs 0)) in
    ComesTo parts kernel regs reader lane before after decided

-- the kernel's call that goes on is given just this, by what is read of the lane
abbrev pub IsGiven : Parts → List ℕ → List ℕ → List Read → List Read → EntryDecision → Type 0
IsGiven parts regs lane before after (decision.Answers answer) = Unit {0}
IsGiven parts regs lane before after (decision.Begins call) = Unit {0}
IsGiven parts regs lane before after (decision.GoesOn decided) =
    (kernel : Kernel) → StandsFor parts kernel → resumed.IsDecided kernel.slots regs lane before (Some decided) after

-- ---- what was found

-- a new call can take the slot for this plan: it is the lowest free one
pub record CanBegin (parts : Parts) (entered : Entered) (plan : Plan) : Type 0 where
  pub lowest : lowest_free parts.slots ≡ Some entered.slot
  pub pins : CanPin (tables_of parts.tables) entered
  pub applies : CanApply (call_with (booted_of_setup parts.setup) (tables_of parts.tables) entered) plan

-- a call is suspended that can be resumed with this, and its application is the one that was found
pub record CanContinue (parts : Parts) (regs : List ℕ) (decided : Decided) : Type 0 where
  pub suspended : IsSuspended parts.slots regs
  pub slot : decided.slot ≡ thread_in regs
  pub app : IsAppIn (booted_of_setup parts.setup) parts.slots regs (Some decided)

-- what was found for what was decided
abbrev pub HasFound : Parts → List ℕ → EntryDecision → Type 0
HasFound parts regs (decision.Answers answer) = Unit {0}
HasFound parts regs (decision.Begins call) = CanBegin parts call.value.entered call.value.plan
HasFound parts regs (decision.GoesOn decided) = CanContinue parts regs decided
