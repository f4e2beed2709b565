-- A processor stands as the last of its own events leaves it.
use Rattle.std.proofs.Common.{◌≡◌, ℕ, ◌<◌, Bool, true, false, List, [], ◌∷◌, Option, Some, None, refl, ap, sym, subst, ◌∙◌}
use Rattle.std.proofs.Common.{arith}
use Rattle.std.specs.Prelude.{◌==◌, ◌&&◌, if◌then◌else◌, bytes_eq, replicate, slice_get, slice_set}
use Rattle.std.specs.List.{last_or}
use Rattle.std.specs.Option.{option_and_then}
use Rattle.std.proofs.lemmas.Option.{option_and_then_some, slice_get-get_or}
use Rattle.std.proofs.lemmas.List.{get_or-replicate, length-replicate}
use Rattle.std.proofs.lemmas.Bool.Decides.{nat_tests}
use Rattle.event_journal.specs.declared.event.Event.{Event}
use Rattle.event_journal.specs.declared.event.Event.TheVariants.{Entry, Exit}
use Rattle.kernel_model.specs.Application.{Booted}
use Rattle.kernel_model.specs.Entry.{after_entry}
use Rattle.kernel_model.specs.Exit.{Exited, exit, exit_of, goes_out, goes_out_from, progress_in_slot}
use Rattle.kernel_model.specs.History.{after_event, after_events, can_be_granted, entry_from, exit_to, is_outside}
use Rattle.kernel_model.specs.Kernel.{Fixed, InSlot, Inside, Kernel, Outside, Processor, Visit, first_kernel}
use Rattle.kernel_model.specs.Turns.{IsLeftBy, StandByTheirEvents, StandsBy, cpu_of, events_by}
use Rattle.kernel_model.proofs.FixedAnswer.{decides, errand_of, processors_after}
use Rattle.kernel_model.proofs.Parts.{option_map_some, set_found, set_other}
use Rattle.ns_ram.specs.declared.read.Read.{Read}

-- ---- one event

-- the event leaves its processor so, and the others as they are
pub record LeavesIts (kernel next : Kernel) (event : Event) : Type 0 where
  pub processor : Processor
  pub left : IsLeftBy (Some event) processor
  pub set : next.processors ≡ slice_set kernel.processors (cpu_of event) processor

where_so : {A : Type 0} (test : Bool) (found : Option A) (value : A) → (if test then found else None) ≡ Some value
    → found ≡ Some value
where_so true found value e = e
where_so false found value e = absurd cc

-- an entry that follows is decided
pub entry_followed : (boot : Booted) (kernel next : Kernel) (visit : Visit) (reads : List Read) (processor : Processor)
    → entry_from boot kernel visit reads processor ≡ Some next → after_entry boot kernel visit reads ≡ Some next
entry_followed boot kernel next visit reads processor e =
    where_so (is_outside processor && can_be_granted visit.steps) (after_entry boot kernel visit reads) next e

pub entry_sets : (boot : Booted) (kernel next : Kernel) (visit : Visit) (reads : List Read)
    → after_entry boot kernel visit reads ≡ Some next
    → (errand : _) × (next.processors ≡ slice_set kernel.processors visit.cpu (Inside visit.regs visit.steps errand))
entry_sets boot kernel next visit reads e =
    let found = decides boot kernel next visit reads e in (
      errand_of found.value,
      ap (λ (k : Kernel). k.processors) (sym found.gives) ∙ processors_after kernel visit found.value,
    )

exit_of_sets : (kernel : Kernel) (cpu : ℕ) (processor : Option Processor) (exited : Exited)
    → option_and_then (exit_of kernel cpu) processor ≡ Some exited
    → exited.kernel.processors ≡ slice_set kernel.processors cpu Outside
exit_of_sets kernel cpu None exited e = absurd cc
exit_of_sets kernel cpu (Some Outside) exited e = absurd cc
exit_of_sets kernel cpu (Some (Inside regs count (Fixed answer))) exited e =
    let made : Exited = goes_out kernel (record { cpu = cpu; regs = regs; steps = count }) answer [] in
    let same : made ≡ exited = cc in
    ap (λ (x : Exited). x.kernel.processors) (sym same)
exit_of_sets kernel cpu (Some (Inside regs count (InSlot slot))) exited e =
    let visit : Visit = record { cpu = cpu; regs = regs; steps = count } in
    let came = option_map_some (goes_out_from kernel visit slot) (progress_in_slot kernel count slot) exited e in
    ap (λ (x : Exited). x.kernel.processors) (sym came.2)

pub exit_sets : (kernel : Kernel) (cpu : ℕ) (exited : Exited) → exit kernel cpu ≡ Some exited
    → exited.kernel.processors ≡ slice_set kernel.processors cpu Outside
exit_sets kernel cpu exited e = exit_of_sets kernel cpu (slice_get kernel.processors cpu) exited e

exit_told : (kernel next : Kernel) (cpu : ℕ) (exited : Exited) (same : Bool) → exit kernel cpu ≡ Some exited
    → (if same then Some exited.kernel else None) ≡ Some next
    → next.processors ≡ slice_set kernel.processors cpu Outside
exit_told kernel next cpu exited true is e =
    let same : exited.kernel ≡ next = cc in
    ap (λ (k : Kernel). k.processors) (sym same) ∙ exit_sets kernel cpu exited is
exit_told kernel next cpu exited false is e = absurd cc

pub event_leaves : (boot : Booted) (kernel next : Kernel) (event : Event) → after_event boot kernel event ≡ Some next
    → LeavesIts kernel next event
event_leaves boot kernel next (Entry cpu regs steps reads) e =
    let visit : Visit = record { cpu = cpu; regs = regs.a; steps = steps } in
    option_and_then_some (entry_from boot kernel visit reads) (slice_get kernel.processors cpu) next e
    (λ (processor : Processor) there onward.
    let sets = entry_sets boot kernel next visit reads (entry_followed boot kernel next visit reads processor onward) in
    record { processor = Inside regs.a steps sets.0; left = (sets.0, refl); set = sets.1 })
event_leaves boot kernel next (Exit cpu regs) e =
    option_and_then_some (exit_to regs.a) (exit kernel cpu) next e
    (λ (exited : Exited) there onward. record {
      processor = Outside;
      left = refl;
      set = exit_told kernel next cpu exited (bytes_eq exited.regs regs.a) there onward;
    })

-- ---- histories

module _ (boot : Booted) (cpu : ℕ) where
  -- behind one event what the others leave goes on from there
  behind : (kernel next last : Kernel) (event : Event) (events : List Event) (before : Option Event) (its : Bool)
      → (cpu_of event == cpu) ≡ its → after_event boot kernel event ≡ Some next → StandsBy kernel cpu before
      → ((now : Option Event) → StandsBy next cpu now → StandsBy last cpu (last_or now (events_by cpu events)))
      → StandsBy last cpu
      (last_or before (if its then event ∷ events_by cpu events else events_by cpu events))
  behind kernel next last event events before true its there stands onward =
      let same : cpu_of event ≡ cpu = grind (arith, nat_tests) in
      let leaves = event_leaves boot kernel next event there in
      onward (Some event) (record {
        processor = leaves.processor;
        there =
            ap (λ (all : List Processor). slice_get all cpu) leaves.set
            ∙ ap (λ (n : ℕ). slice_get (slice_set kernel.processors n leaves.processor) cpu) same
            ∙ set_found kernel.processors cpu leaves.processor stands.processor stands.there;
        left = leaves.left;
      })
  behind kernel next last event events before false its there stands onward =
      let apart : cpu_of event ≡ cpu → ⊥ = λ same. absurd (grind (arith, nat_tests)) in
      let leaves = event_leaves boot kernel next event there in
      onward before (record {
        processor = stands.processor;
        there =
            ap (λ (all : List Processor). slice_get all cpu) leaves.set
            ∙ set_other kernel.processors (cpu_of event) cpu leaves.processor apart
            ∙ stands.there;
        left = stands.left;
      })

  pub stands_behind : (kernel last : Kernel) (before : Option Event) (events : List Event)
      → after_events boot kernel events ≡ Some last → StandsBy kernel cpu before
      → StandsBy last cpu (last_or before (events_by cpu events))
  stands_behind kernel last before [] e stands =
      let same : kernel ≡ last = cc in
      subst (λ (k : Kernel). StandsBy k cpu before) same stands
  stands_behind kernel last before (event ∷ events) e stands =
      option_and_then_some (λ next. after_events boot next events) (after_event boot kernel event) last e
      (λ (next : Kernel) there onward.
      behind kernel next last event events before (cpu_of event == cpu) refl there stands
      (λ (now : Option Event) so. stands_behind next last now events onward so))

  stands_first : cpu < boot.cpus → StandsBy (first_kernel boot) cpu None
  stands_first below =
      let all = replicate boot.cpus Outside in
      record {
        processor = Outside;
        there =
            slice_get-get_or all cpu Outside
            (subst (λ (n : ℕ). cpu < n) (sym (length-replicate boot.cpus Outside)) below)
            ∙ ap (λ (p : Processor). Some p) (get_or-replicate boot.cpus cpu Outside Outside below);
        left = refl;
      }

pub stand_by_their_events : StandByTheirEvents
stand_by_their_events boot history kernel cpu below e =
    stands_behind boot cpu (first_kernel boot) kernel None history e (stands_first boot cpu below)
