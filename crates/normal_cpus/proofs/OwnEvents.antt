-- A processor's own events in a history, and where it stands by them.
use Rattle.std.proofs.Common.{◌≡◌, ℕ, ◌<◌, Bool, true, false, List, [], ◌∷◌, ◌++◌, Option, Some, None, refl, ap, sym, ◌∙◌, arith}
use Rattle.std.proofs.lemmas.Bool.Decides.{nat_tests}
use Rattle.std.specs.Prelude.{◌==◌, cond, slice_get, if◌then◌else◌}
use Rattle.std.specs.List.{AllByRecursion, last_or}
use Rattle.std.specs.Option.{option_map_or}
use Rattle.core_lock.specs.Counts.{made_by}
use Rattle.event_journal.specs.declared.event.Event.{Event}
use Rattle.event_journal.specs.declared.event.Event.TheVariants.{Entry, Exit}
use Rattle.kernel_model.specs.Application.{Booted}
use Rattle.kernel_model.specs.History.{kernel_after}
use Rattle.kernel_model.specs.Kernel.{Kernel, Outside}
use Rattle.kernel_model.specs.Laws.{IsOfOther}
use Rattle.kernel_model.specs.Turns.{StandsBy, cpu_of, events_by, last_by}
use Rattle.kernel_model.proofs.StandingBy.{stand_by_their_events}
use Rattle.normal_cpus.specs.Sharing.{end_inside, is_entry}

-- ---- what the lock counts as made are the processor's events

made_are_own_on : (mine : Bool) (event : Event) (made own : List Event) → made ≡ own →
    (if mine then event ∷ made else made) ≡ cond mine (event ∷ own) own
made_are_own_on true event made own same = ap (λ (events : List Event). event ∷ events) same
made_are_own_on false event made own same = same

made_are_own : (cpu : ℕ) (history : List Event) → made_by cpu_of cpu history ≡ events_by cpu history
made_are_own cpu [] = refl
made_are_own cpu (event ∷ history) =
    made_are_own_on (cpu_of event == cpu) event (made_by cpu_of cpu history) (events_by cpu history) (made_are_own cpu history)

-- ---- one whose last event isn't an entry is outside

outside_by : (kernel : Kernel) (cpu : ℕ) (last : Option Event) → StandsBy kernel cpu last → option_map_or is_entry last false ≡ false →
    slice_get kernel.processors cpu ≡ Some Outside
outside_by kernel cpu None stands no_entry = stands.there ∙ ap Some stands.left
outside_by kernel cpu (Some (Entry came regs steps reads)) stands no_entry = absurd cc
outside_by kernel cpu (Some (Exit went regs)) stands no_entry = stands.there ∙ ap Some stands.left

pub outside_by_its_events : (boot : Booted) (history : List Event) (kernel : Kernel) (cpu : ℕ) → cpu < boot.cpus →
    kernel_after boot history ≡ Some kernel → end_inside (made_by cpu_of cpu history) ≡ false →
    slice_get kernel.processors cpu ≡ Some Outside
outside_by_its_events boot history kernel cpu below comes_to outside =
    outside_by kernel cpu (last_by cpu history) (stand_by_their_events boot history kernel cpu below comes_to)
    (ap end_inside (sym (made_are_own cpu history)) ∙ outside)

-- ---- the last event

last_of_append : (o : Option Event) (before : List Event) (event : Event) → last_or o (before ++ event ∷ []) ≡ Some event
last_of_append o [] event = refl
last_of_append o (first ∷ before) event = last_of_append (Some first) before event

pub ends_by : (before after : List Event) (event : Event) → after ≡ before ++ event ∷ [] → end_inside after ≡ is_entry event
ends_by before after event is =
    ap end_inside is ∙ ap (λ (last : Option Event). option_map_or is_entry last false) (last_of_append None before event)

-- ---- where a history has no more of a processor's events than its beginning, those behind that are of others

other_of : (cpu : ℕ) (event : Event) → (cpu_of event ≡ cpu → ⊥) → IsOfOther cpu event
other_of cpu (Entry came regs steps reads) apart = apart
other_of cpu (Exit went regs) apart = apart

made_append_on : (event : Event) (mine : Bool) (all made more : List Event) → all ≡ made ++ more →
    (if mine then event ∷ all else all) ≡ (if mine then event ∷ made else made) ++ more
made_append_on event true all made more is = ap (λ (events : List Event). event ∷ events) is
made_append_on event false all made more is = is

made_append : (cpu : ℕ) (before behind : List Event) →
    made_by cpu_of cpu (before ++ behind) ≡ made_by cpu_of cpu before ++ made_by cpu_of cpu behind
made_append cpu [] behind = refl
made_append cpu (event ∷ before) behind =
    made_append_on event (cpu_of event == cpu) (made_by cpu_of cpu (before ++ behind)) (made_by cpu_of cpu before) (made_by cpu_of cpu behind)
    (made_append cpu before behind)

none_more : (made more : List Event) → made ++ more ≡ made → more ≡ []
none_more [] more is = is
none_more (event ∷ made) more is = none_more made more cc

are_others_on : (cpu : ℕ) (event : Event) (made events : List Event) (mine : Bool) → (cpu_of event == cpu) ≡ mine →
    (if mine then event ∷ made else made) ≡ [] → (made ≡ [] → AllByRecursion (IsOfOther cpu) events) →
    AllByRecursion (IsOfOther cpu) (event ∷ events)
are_others_on cpu event made events true is none rest = absurd cc
are_others_on cpu event made events false is none rest =
    (other_of cpu event (λ same. absurd (grind (arith, nat_tests))), rest none)

are_others : (cpu : ℕ) (events : List Event) → made_by cpu_of cpu events ≡ [] → AllByRecursion (IsOfOther cpu) events
are_others cpu [] none = tt
are_others cpu (event ∷ events) none =
    are_others_on cpu event (made_by cpu_of cpu events) events (cpu_of event == cpu) refl none (are_others cpu events)

pub others_behind : (cpu : ℕ) (before behind : List Event) → made_by cpu_of cpu (before ++ behind) ≡ made_by cpu_of cpu before →
    AllByRecursion (IsOfOther cpu) behind
others_behind cpu before behind same =
    are_others cpu behind
    (none_more (made_by cpu_of cpu before) (made_by cpu_of cpu behind) (sym (made_append cpu before behind) ∙ same))
