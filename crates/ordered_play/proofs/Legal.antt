-- The events of a legal history: each has its processor, and follows on the kernel after those before it.
use Rattle.std.proofs.Common.{◌≡◌, ℕ, ◌+◌, ◌<◌, ◌≤◌, List, [], ◌∷◌, ◌++◌, Option, Some, sym, ◌∙◌, ap, arith}
use Rattle.std.specs.Prelude.{IsSome, slice_get}
use Rattle.std.specs.Option.{option_and_then}
use Rattle.std.proofs.lemmas.List.Sums.{sum_by-append}
use Rattle.std.proofs.lemmas.Option.{option_and_then_some, slice_get_within}
use Rattle.event_journal.specs.Event.{copied_by}
use Rattle.event_journal.specs.Journal.{copied_bytes}
use Rattle.event_journal.specs.declared.event.Event.{Event}
use Rattle.event_journal.specs.declared.event.Event.TheVariants.{Entry, Exit}
use Rattle.kernel_model.proofs.Parts.{some_of}
use Rattle.kernel_model.proofs.Past.{after_events-append}
use Rattle.kernel_model.proofs.SoundSteps.{as_many}
use Rattle.kernel_model.specs.Application.{Booted, IsBooted}
use Rattle.kernel_model.specs.Exit.{exit, exit_of}
use Rattle.kernel_model.specs.History.{after_event, after_events, exit_to, kernel_after}
use Rattle.kernel_model.specs.Kernel.{Kernel, Processor, first_kernel}
use Rattle.own_model.proofs.OtherResumes.{visitor_there}
use Rattle.kernel_model.specs.Turns.{cpu_of}

-- an event's processor is there
processor_there : (boot : Booted) (kernel next : Kernel) (event : Event) → after_event boot kernel event ≡ Some next
    → (processor : Processor) × (slice_get kernel.processors (cpu_of event) ≡ Some processor)
processor_there boot kernel next (Entry cpu regs steps reads) e = visitor_there boot kernel next cpu steps regs reads e
processor_there boot kernel next (Exit cpu regs) e =
    option_and_then_some (exit_to regs.a) (exit kernel cpu) next e
    (λ exited goes onward.
    option_and_then_some (exit_of kernel cpu) (slice_get kernel.processors cpu) exited goes
    (λ processor there was. (processor, there)))

-- so its number is below the count of the boot
pub processor_below : (boot : Booted) (before : List Event) (kernel next : Kernel) (event : Event) → IsBooted boot
    → kernel_after boot before ≡ Some kernel → after_event boot kernel event ≡ Some next
    → cpu_of event < boot.cpus
processor_below boot before kernel next event boots comes came =
    let there = processor_there boot kernel next event came in
    let within = slice_get_within kernel.processors (cpu_of event) there.0 there.1 in
    let many = (as_many boot before kernel boots comes).processors in
    omega (arith, within, many)

-- the next event follows on the kernel after those before it
pub follows : (boot : Booted) (before behind : List Event) (event : Event) (kernel : Kernel)
    → kernel_after boot before ≡ Some kernel → IsSome (kernel_after boot (before ++ event ∷ behind))
    → (next : Kernel) × (after_event boot kernel event ≡ Some next)
follows boot before behind event kernel there legal =
    let end = some_of (kernel_after boot (before ++ event ∷ behind)) legal in
    let onward = ap (λ (o : Option Kernel). option_and_then (λ k. after_events boot k (event ∷ behind)) o) (sym there)
    ∙ sym (after_events-append boot (first_kernel boot) before (event ∷ behind)) ∙ end.1 in
    option_and_then_some (λ next. after_events boot next behind) (after_event boot kernel event) end.0 onward
    (λ (next : Kernel) came rest. (next, came))

pub one_event_more : (boot : Booted) (before : List Event) (event : Event) (kernel next : Kernel)
    → kernel_after boot before ≡ Some kernel → after_event boot kernel event ≡ Some next
    → kernel_after boot (before ++ event ∷ []) ≡ Some next
one_event_more boot before event kernel next there came =
    after_events-append boot (first_kernel boot) before (event ∷ [])
    ∙ ap (λ (o : Option Kernel). option_and_then (λ k. after_events boot k (event ∷ [])) o) there
    ∙ ap (λ (o : Option Kernel). option_and_then (λ k. Some k) o) came

-- it reads few enough bytes
pub few_with : (before behind : List Event) (event : Event) (most : ℕ) → copied_bytes (before ++ event ∷ behind) ≤ most
    → copied_bytes before + copied_by event ≤ most
few_with before behind event most few =
    let sum = sum_by-append copied_by before (event ∷ behind) in
    let first = sum_by-append copied_by (event ∷ []) behind in
    omega (arith, sum, first, few)
