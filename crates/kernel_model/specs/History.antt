-- Which histories are legal: each event follows from the kernel that those before it give. And what a resume
-- continues. This project's own.
use Rattle.std.specs.Prelude.{◌≡◌, ℕ, ◌+◌, nat_le, Bool, true, false, ◌==◌, ◌&&◌, if◌then◌else◌, List, [], ◌∷◌, take}
use Rattle.std.specs.Prelude.{Option, Some, None, IsSome, slice_get, bytes_eq}
use Rattle.std.specs.Option.{option_and_then, option_map_or}
use Rattle.event_journal.specs.declared.event.Event.{Event}
use Rattle.event_journal.specs.declared.event.Event.TheVariants.{Entry, Exit}
use Rattle.ns_ram.specs.declared.read.Read.{Read}
use Rattle.kernel_model.specs.Application.{Booted, IsBooted}
use Rattle.kernel_model.specs.Argument.{client_in, thread_in}
use Rattle.kernel_model.specs.Entry.{after_decision, after_entry}
use Rattle.kernel_model.specs.Decision.{Takes, works_on}
use Rattle.kernel_model.specs.Exit.{Exited, exit}
use Rattle.kernel_model.specs.Kernel.{PendingCall, Progress, ThreadSlot, Suspended, Errand, Fixed, InSlot, Processor}
use Rattle.kernel_model.specs.Kernel.{Outside, Inside, Kernel, Visit, first_kernel}
use Rattle.kernel_model.specs.Resume.{after_resume}

-- ---- legal histories

-- the processor can come in
abbrev pub is_outside : Processor → Bool
is_outside Outside = true
is_outside (Inside regs steps errand) = false

-- so many steps can be granted at an entry
abbrev pub can_be_granted : ℕ → Bool
can_be_granted steps = nat_le 1 steps && nat_le steps 1000000

-- the kernel after the entry of a processor that was in this state
abbrev pub entry_from : Booted → Kernel → Visit → List Read → Processor → Option Kernel
entry_from boot kernel visit reads processor =
    if is_outside processor && can_be_granted visit.steps then after_entry boot kernel visit reads else None

-- the kernel after an exit that went out with these registers
abbrev pub exit_to : List ℕ → Exited → Option Kernel
exit_to regs exited = if bytes_eq exited.regs regs then Some exited.kernel else None

-- the kernel after an event, where it is one that can follow: a processor that is outside comes in, or one that is
-- inside goes out with what its exit gives
abbrev pub after_event : Booted → Kernel → Event → Option Kernel
after_event boot kernel (Entry cpu regs steps reads) =
    let visit : Visit = record { cpu = cpu; regs = regs.a; steps = steps } in
    option_and_then (entry_from boot kernel visit reads) (slice_get kernel.processors cpu)
after_event boot kernel (Exit cpu regs) = option_and_then (exit_to regs.a) (exit kernel cpu)

-- the kernel after these events, where each can follow on those before it
abbrev pub after_events : Booted → Kernel → List Event → Option Kernel
after_events boot kernel [] = Some kernel
after_events boot kernel (event ∷ events) =
    option_and_then (λ next. after_events boot next events) (after_event boot kernel event)

-- the kernel after a history, from the boot on
abbrev pub kernel_after : Booted → List Event → Option Kernel
kernel_after boot history = after_events boot (first_kernel boot) history

-- the boot is one, and each event follows on those before it
pub record IsLegal (boot : Booted) (history : List Event) : Type 0 where
  pub boots : IsBooted boot
  pub follows : IsSome (kernel_after boot history)

-- what the exit of a processor is after these events
abbrev pub exit_after : Booted → List Event → ℕ → Option Exited
exit_after boot history cpu = option_and_then (λ kernel. exit kernel cpu) (kernel_after boot history)

-- ---- resumes

-- the slot for whose call a processor came in
abbrev pub slot_of_errand : Errand → Option ℕ
slot_of_errand (Fixed answer) = None
slot_of_errand (InSlot slot) = Some slot

-- the slot whose call a processor works on
abbrev pub slot_of_processor : Processor → Option ℕ
slot_of_processor Outside = None
slot_of_processor (Inside regs steps errand) = slot_of_errand errand

-- the event goes out from the call of this slot
abbrev pub goes_out_of : Kernel → ℕ → Event → Bool
goes_out_of kernel slot (Entry cpu regs steps reads) = false
goes_out_of kernel slot (Exit cpu regs) =
    option_map_or (λ from. from == slot) (option_and_then slot_of_processor (slice_get kernel.processors cpu)) false

-- what the last exit from the slot among these events left in it; `left` is what one before them left
abbrev pub left_by_exits : Booted → Kernel → ℕ → Option ThreadSlot → List Event → Option ThreadSlot
left_by_exits boot kernel slot left [] = left
left_by_exits boot kernel slot left (event ∷ events) =
    let now = λ (next : Kernel). if goes_out_of kernel slot event then slice_get next.slots slot else left in
    option_and_then (λ next. left_by_exits boot next slot (now next) events) (after_event boot kernel event)

-- what the last exit from a slot before this place of a history left in it
abbrev pub left_before : Booted → List Event → ℕ → ℕ → Option ThreadSlot
left_before boot history at slot = left_by_exits boot (first_kernel boot) slot None (take at history)

-- what the slot holds after so many events
abbrev pub held_after : Booted → List Event → ℕ → ℕ → Option ThreadSlot
held_after boot history count slot =
    option_and_then (λ kernel. slice_get kernel.slots slot) (kernel_after boot (take count history))

-- the event is the entry of this visit, with these reads
abbrev pub IsEntryOf : Visit → List Read → Option Event → Type 0
IsEntryOf visit reads None = ⊥
IsEntryOf visit reads (Some (Entry cpu regs steps came)) =
    (visit ≡ record { cpu = cpu; regs = regs.a; steps = steps }) × (reads ≡ came)
IsEntryOf visit reads (Some (Exit cpu regs)) = ⊥

-- the one call is the other, but that it may have been cancelled since
pub record IsLater (call now : PendingCall) : Type 0 where
  pub same : now ≡ record call { marked = now.marked }
  pub stays : call.marked ≡ true → now.marked ≡ true

-- an entry with these reads makes this kernel of the one before: its processor works, in the slot that its registers
-- name, on what its resume makes of this call
pub record ResumesCall (boot : Booted) (kernel : Kernel) (visit : Visit) (reads : List Read) (call : PendingCall)
    (next : Kernel) : Type 0 where
  pub progress : Progress
  pub comes_to : after_resume boot kernel.tables visit.regs call reads ≡ Some progress
  pub next_is : next ≡ after_decision kernel visit (Takes (thread_in visit.regs) (works_on progress))

-- the event at this place is a resume of the call that the last exit from its slot before it left suspended, by that
-- call's client
pub record Resumes (boot : Booted) (history : List Event) (at slot : ℕ) (call : PendingCall) : Type 0 where
  pub visit : Visit
  pub reads : List Read
  pub comes_in : IsEntryOf visit reads (slice_get history at)
  pub of_slot : thread_in visit.regs ≡ slot
  pub by_client : client_in visit.regs ≡ call.client
  pub left : left_before boot history at slot ≡ Some (Suspended call.client call)
  -- the kernels before and after it, and the call by then
  pub kernel : Kernel
  pub next : Kernel
  pub before : kernel_after boot (take at history) ≡ Some kernel
  pub after : kernel_after boot (take (at + 1) history) ≡ Some next
  pub now : PendingCall
  pub later : IsLater call now
  pub resumes : ResumesCall boot kernel visit reads now next
