-- What holds of every kernel that a legal history comes to: its calls, and the processors that work on them. This
-- project's own.
use Rattle.std.specs.Prelude.{◌≡◌, ℕ, ◌+◌, ◌*◌, ◌≤◌, false, List, length, Option, Some, None, slice_get}
use Rattle.std.specs.List.{AllByRecursion}
use Rattle.std.specs.Option.{option_and_then}
use Rattle.event_journal.specs.declared.event.Event.{Event}
use Rattle.kernel_model.specs.Application.{Booted, IsBooted}
use Rattle.kernel_model.specs.History.{IsLater, after_events, kernel_after}
use Rattle.kernel_model.specs.Kernel.{PendingCall, ThreadSlot, Free, Active, Suspended, InSlot, Processor, Inside}
use Rattle.kernel_model.specs.Kernel.{Kernel}
use Rattle.kernel_model.specs.Laws.{IsOfOther}

-- ---- calls

-- the call in a slot, without its mark, which other calls may set
abbrev pub unmarked : PendingCall → PendingCall
unmarked call = record call { marked = false }

abbrev pub unmarked_in : ThreadSlot → Option PendingCall
unmarked_in Free = None
unmarked_in (Active cpu call) = Some (unmarked call)
unmarked_in (Suspended client call) = Some (unmarked call)

abbrev pub unmarked_at : List ThreadSlot → ℕ → Option PendingCall
unmarked_at slots slot = option_and_then unmarked_in (slice_get slots slot)

-- the call of each slot, by the slot's number
abbrev pub Calls : Type 0
Calls = ℕ → Option PendingCall

-- ---- processors and slots

-- this processor works on the call of the slot
abbrev pub IsWorkedOn : List ThreadSlot → ℕ → ℕ → Type 0
IsWorkedOn slots slot cpu = (call : PendingCall) × (slice_get slots slot ≡ Some (Active cpu call))

-- the processor is inside for the slot
pub record WorksOn (processors : List Processor) (cpu slot : ℕ) : Type 0 where
  pub regs : List ℕ
  pub steps : ℕ
  pub inside : slice_get processors cpu ≡ Some (Inside regs steps (InSlot slot))

-- processors and slots fit together
pub record AreAtWork (kernel : Kernel) : Type 0 where
  -- a processor that is inside for a slot works on its call
  pub work : (cpu slot steps : ℕ) (regs : List ℕ) →
      slice_get kernel.processors cpu ≡ Some (Inside regs steps (InSlot slot)) → IsWorkedOn kernel.slots slot cpu
  -- and the processor that works on a call is inside for its slot
  pub worked : (cpu slot : ℕ) (call : PendingCall) →
      slice_get kernel.slots slot ≡ Some (Active cpu call) → WorksOn kernel.processors cpu slot
  -- a call is suspended for its own client
  pub clients : (slot client : ℕ) (call : PendingCall) →
      slice_get kernel.slots slot ≡ Some (Suspended client call) → client ≡ call.client

-- as many slots and processors as at the boot
pub record AreAsMany (boot : Booted) (kernel : Kernel) : Type 0 where
  pub slots : length kernel.slots ≡ boot.threads
  pub processors : length kernel.processors ≡ boot.cpus

-- ---- steps

-- after so many events a call has done at most a million steps for each; one that a processor works on has the steps of
-- its last entry still before it
abbrev pub HasStepsAfter : ℕ → ThreadSlot → Type 0
HasStepsAfter events Free = Unit {0}
HasStepsAfter events (Active cpu call) = call.steps + 1000000 ≤ 1000000 * events
HasStepsAfter events (Suspended client call) = call.steps ≤ 1000000 * events

pub record AreGranted (events : ℕ) (kernel : Kernel) : Type 0 where
  pub calls : (slot : ℕ) (held : ThreadSlot) → slice_get kernel.slots slot ≡ Some held → HasStepsAfter events held
  pub grants : (cpu slot steps : ℕ) (regs : List ℕ) →
      slice_get kernel.processors cpu ≡ Some (Inside regs steps (InSlot slot)) → steps ≤ 1000000

-- ---- laws

-- it holds of each kernel that a legal history comes to
abbrev pub Always : (Booted → Kernel → Type 0) → Type 0
Always Holds = (boot : Booted) (history : List Event) (kernel : Kernel) → IsBooted boot →
    kernel_after boot history ≡ Some kernel → Holds boot kernel

-- a processor is inside for a slot as it was, and works on the call as it was, but that it may have been cancelled
pub record StaysInside (kernel : Kernel) (cpu slot steps : ℕ) (regs : List ℕ) (call : PendingCall) : Type 0 where
  pub inside : slice_get kernel.processors cpu ≡ Some (Inside regs steps (InSlot slot))
  pub now : PendingCall
  pub active : slice_get kernel.slots slot ≡ Some (Active cpu now)
  pub later : IsLater call now

-- the events of other processors leave a processor's part and its call as they are, but for the call's mark
abbrev pub OthersStayAway : Type 0
OthersStayAway =
    (boot : Booted) (before between : List Event) (kernel last : Kernel) (cpu slot steps : ℕ) (regs : List ℕ)
    (call : PendingCall) → kernel_after boot before ≡ Some kernel → AllByRecursion (IsOfOther cpu) between →
    after_events boot kernel between ≡ Some last →
    slice_get kernel.processors cpu ≡ Some (Inside regs steps (InSlot slot)) →
    slice_get kernel.slots slot ≡ Some (Active cpu call) → StaysInside last cpu slot steps regs call

-- a call has done at most a million steps for each event
abbrev pub StepsAreGranted : Type 0
StepsAreGranted = (boot : Booted) (history : List Event) (kernel : Kernel) → kernel_after boot history ≡ Some kernel →
    AreGranted (length history) kernel
