-- The registers of an exit follow from the events before it.
use Rattle.std.proofs.Common.{◌≡◌, ℕ, List, [], ◌∷◌, ◌++◌, Option, Some, None, Bool, true, false, refl, ap, subst}
use Rattle.std.specs.Prelude.{IsSome, bytes_eq, if◌then◌else◌}
use Rattle.std.specs.Option.{option_and_then, option_map}
use Rattle.std.proofs.lemmas.Slice.Eq.{bytes_eq-Decides}
use Rattle.event_journal.specs.declared.event.Event.{Event}
use Rattle.event_journal.specs.declared.event.Event.TheVariants as event
use Rattle.kernel_model.specs.Application.{Booted}
use Rattle.kernel_model.specs.Exit.{Exited, exit}
use Rattle.kernel_model.specs.History.{after_event, after_events, exit_to}
use Rattle.kernel_model.specs.Kernel.{Kernel, first_kernel}
use Rattle.kernel_model.specs.Laws.{ExitsFollow}

onward : (boot : Booted) (more : List Event) (o : Option Kernel) (events : List Event)
    → ((kernel : Kernel) → after_events boot kernel (events ++ more) ≡ option_and_then (λ k. after_events boot k more) (after_events boot kernel events))
    → option_and_then (λ k. after_events boot k (events ++ more)) o
    ≡ option_and_then (λ k. after_events boot k more) (option_and_then (λ k. after_events boot k events) o)
onward boot more None events adds = refl
onward boot more (Some kernel) events adds = adds kernel

pub after_events-append : (boot : Booted) (kernel : Kernel) (events more : List Event)
    → after_events boot kernel (events ++ more) ≡ option_and_then (λ k. after_events boot k more) (after_events boot kernel events)
after_events-append boot kernel [] more = refl
after_events-append boot kernel (first ∷ events) more =
    onward boot more (after_event boot kernel first) events (λ next. after_events-append boot next events more)

exited_by : (regs : List ℕ) (exited : Exited) (f : Kernel → Option Kernel) (same : Bool) → bytes_eq exited.regs regs ≡ same
    → IsSome (option_and_then f (if same then Some exited.kernel else None)) → exited.regs ≡ regs
exited_by regs exited f true e some = (bytes_eq-Decides exited.regs regs).0 e
exited_by regs exited f false e some = absurd cc

registers_told : (regs : List ℕ) (f : Kernel → Option Kernel) (o : Option Exited)
    → IsSome (option_and_then f (option_and_then (exit_to regs) o)) → option_map (λ exited. exited.regs) o ≡ Some regs
registers_told regs f None some = absurd cc
registers_told regs f (Some exited) some = ap Some (exited_by regs exited f (bytes_eq exited.regs regs) refl some)

told_after : (boot : Booted) (behind : List Event) (cpu : ℕ) (regs : List ℕ) (o : Option Kernel)
    → IsSome (option_and_then (λ k. option_and_then (λ next. after_events boot next behind) (option_and_then (exit_to regs) (exit k cpu))) o)
    → option_map (λ exited. exited.regs) (option_and_then (λ k. exit k cpu) o) ≡ Some regs
told_after boot behind cpu regs None some = absurd cc
told_after boot behind cpu regs (Some kernel) some = registers_told regs (λ next. after_events boot next behind) (exit kernel cpu) some

pub exits_follow : ExitsFollow
exits_follow boot before behind cpu regs legal =
    let cut = after_events-append boot (first_kernel boot) before (event.Exit cpu regs ∷ behind) in
    told_after boot behind cpu regs.a (after_events boot (first_kernel boot) before) (subst IsSome cut legal.follows)
