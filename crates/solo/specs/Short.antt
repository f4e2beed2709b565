-- Parameters whose buffers have at most so many bytes each.
use Rattle.std.specs.Prelude.{◌≡◌, ℕ, ◌≤◌, Some}
use Rattle.std.specs.List.{AllByRecursion}
use Rattle.base.specs.NumberMap.{get}
use Rattle.job_model.specs.Job.{Body, Job, Machine, Native, Nothing}
use Rattle.kernel_model.specs.Kernel.{CallPhase, Runs, Asks, Waits, Ends}
use Rattle.own_model.specs.Solo.{OwnCall, Solo}
use Rattle.own_model.specs.declared.own_event.OwnEvent.{OwnEvent}
use Rattle.own_model.specs.declared.own_event.OwnEvent.TheVariants.{Open, Invoke, Close, Cancel, Seen, Back, Out, Limited}
use Rattle.own_model.specs.declared.own_event.OwnInput.{OwnInput}
use Rattle.own_model.specs.declared.own_event.OwnInput.TheVariants.{Copied, Faulty, Unread}
use Rattle.ta_params.specs.declared.copied_params.CopiedParams.{CopiedParams}
use Rattle.ta_step.specs.Shape.{shapes}

abbrev pub IsShort : ℕ → ℕ × ℕ → Type 0
IsShort longest shape = shape.1 ≤ longest

abbrev pub AreShort : ℕ → CopiedParams → Type 0
AreShort longest params = AllByRecursion (IsShort longest) (shapes params)

-- ---- in a call

-- those that an entry point has
abbrev pub IsShortBody : ℕ → Body → Type 0
IsShortBody longest (Machine image point machine) = AreShort longest machine.params
IsShortBody longest (Native relation func) = Unit {0}
IsShortBody longest Nothing = Unit {0}

pub record IsShortJob (longest : ℕ) (job : Job) : Type 0 where
  pub params : AreShort longest job.params
  pub body : IsShortBody longest job.body

abbrev pub IsShortPhase : ℕ → CallPhase → Type 0
IsShortPhase longest (Runs job) = IsShortJob longest job
IsShortPhase longest (Asks job wanted payload) = IsShortJob longest job
IsShortPhase longest (Waits params) = AreShort longest params
IsShortPhase longest (Ends result params told wakes) = AreShort longest params

-- each call of the machine has such
abbrev pub IsShortSolo : ℕ → Solo → Type 0
IsShortSolo longest solo = (number : ℕ) (call : OwnCall) → get solo.calls number ≡ Some call → IsShortPhase longest call.phase

-- ---- in an event

abbrev pub IsShortInput : ℕ → OwnInput → Type 0
IsShortInput longest (Copied params) = AreShort longest params
IsShortInput longest Faulty = Unit {0}
IsShortInput longest Unread = Unit {0}

-- the event brings such
abbrev pub IsShortEvent : ℕ → OwnEvent → Type 0
IsShortEvent longest (Open params login area) = AreShort longest params
IsShortEvent longest (Invoke func input area) = IsShortInput longest input
IsShortEvent longest (Close area) = Unit {0}
IsShortEvent longest Cancel = Unit {0}
IsShortEvent longest (Seen call steps) = Unit {0}
IsShortEvent longest (Back call input) = Unit {0}
IsShortEvent longest (Out call) = Unit {0}
IsShortEvent longest Limited = Unit {0}
