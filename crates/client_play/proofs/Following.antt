-- SMCs whose events follow on a history were served by the core, one after the other.
use Rattle.std.proofs.Common.{◌≡◌, List, [], ◌∷◌, ◌++◌, Option, Some, sym, ap, ◌∙◌, append_assoc, append-nil}
use Rattle.std.specs.Prelude.{bytes_eq}
use Rattle.std.specs.List.{flat_map}
use Rattle.std.specs.Option.{option_and_then, option_map_or}
use Rattle.std.proofs.lemmas.Option.{cond_some, option_and_then_some}
use Rattle.std.proofs.lemmas.Slice.Eq.{bytes_eq-Decides}
use Rattle.event_journal.specs.declared.event.Event.{Event}
use Rattle.event_journal.specs.declared.event.Event.TheVariants.{Entry, Exit}
use Rattle.kernel_model.specs.Application.{Booted}
use Rattle.kernel_model.specs.Exit.{Exited, exit}
use Rattle.kernel_model.specs.History.{after_event, after_events, exit_to, kernel_after}
use Rattle.kernel_model.specs.Kernel.{Kernel, first_kernel}
use Rattle.kernel_model.proofs.Past.{after_events-append}
use Rattle.smc_port.specs.Smc.{Smc}
use Rattle.client_play.specs.Served.{IsServed, SmcsAreServed, events_of, exit_writes}
use Rattle.client_play.specs.Standing.{steps_granted}

same_kernel : (one other : Kernel) → Some one ≡ Some other → one ≡ other
same_kernel one other e = cc

-- events more, from the kernel of those before
on_from : (boot : Booted) (history events : List Event) (kernel : Kernel) → kernel_after boot history ≡ Some kernel
    → kernel_after boot (history ++ events) ≡ after_events boot kernel events
on_from boot history events kernel there =
    after_events-append boot (first_kernel boot) history events
    ∙ ap (λ (o : Option Kernel). option_and_then (λ k. after_events boot k events) o) there

-- the first SMC behind a history, with the kernel that it leaves
record Step (boot : Booted) (history : List Event) (kernel : Kernel) (smc : Smc) : Type 0 where
  next : Kernel
  served : IsServed boot kernel smc next
  comes : kernel_after boot (history ++ events_of smc) ≡ Some next

step : (boot : Booted) (history rest : List Event) (smc : Smc) (kernel last : Kernel) → kernel_after boot history ≡ Some kernel
    → kernel_after boot (history ++ Entry 0 smc.regs steps_granted smc.reads ∷ Exit 0 smc.answer ∷ rest) ≡ Some last
    → smc.writes ≡ exit_writes boot (history ++ Entry 0 smc.regs steps_granted smc.reads ∷ []) → Step boot history kernel smc
step boot history rest smc kernel last there comes writes =
    let came : Event = Entry 0 smc.regs steps_granted smc.reads in
    let out : Event = Exit 0 smc.answer in
    let onward : after_events boot kernel (came ∷ out ∷ rest) ≡ Some last =
    sym (on_from boot history (came ∷ out ∷ rest) kernel there) ∙ comes in
    option_and_then_some (λ k. after_events boot k (out ∷ rest)) (after_event boot kernel came) last onward
    (λ (inside : Kernel) entered later.
    option_and_then_some (λ k. after_events boot k rest) (after_event boot inside out) last later
    (λ (next : Kernel) left others.
    option_and_then_some (exit_to smc.answer.a) (exit inside 0) next left
    (λ (exited : Exited) exits to.
    let told = cond_some (bytes_eq exited.regs smc.answer.a) exited.kernel next to in
    let here : kernel_after boot (history ++ came ∷ []) ≡ Some inside =
    on_from boot history (came ∷ []) kernel there ∙ ap (λ (o : Option Kernel). option_and_then (λ k. Some k) o) entered in
    let wrote : exit_writes boot (history ++ came ∷ []) ≡ exited.writes =
    ap (λ (o : Option Kernel). option_map_or (λ (e : Exited). e.writes) (option_and_then (λ k. exit k 0) o) []) here
    ∙ ap (λ (o : Option Exited). option_map_or (λ (e : Exited). e.writes) o []) exits in
    record {
      next = next;
      served = record {
        inside = inside;
        enters = entered;
        exited = exited;
        exits = exits;
        answered = sym ((bytes_eq-Decides exited.regs smc.answer.a).0 told.0);
        written = writes ∙ wrote;
        next_is = sym told.1;
      };
      comes = on_from boot history (came ∷ out ∷ []) kernel there
          ∙ ap (λ (o : Option Kernel). option_and_then (λ k. after_events boot k (out ∷ [])) o) entered
          ∙ ap (λ (o : Option Kernel). option_and_then (λ k. Some k) o) left;
    })))

pub smcs_are_served : SmcsAreServed
smcs_are_served boot history kernel last [] there comes writes =
    same_kernel last kernel (sym comes ∙ ap (λ (events : List Event). kernel_after boot events) (append-nil history) ∙ there)
smcs_are_served boot history kernel last (smc ∷ smcs) there comes writes =
    let first = step boot history (flat_map events_of smcs) smc kernel last there comes writes.0 in
    let others = ap (λ (events : List Event). kernel_after boot events) (append_assoc history (events_of smc) (flat_map events_of smcs)) ∙ comes in
    (first.next, first.served, smcs_are_served boot (history ++ events_of smc) first.next last smcs first.comes others writes.1)
