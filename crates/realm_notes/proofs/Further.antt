-- What is noted of a realm by one event more.
use Rattle.std.proofs.Common.{◌≡◌, List, [], ◌∷◌, ◌++◌, Option, Some, ap, sym, ◌∙◌}
use Rattle.std.specs.Option.{option_and_then, option_map_or}
use Rattle.std.proofs.lemmas.Option.{option_and_then_some}
use Rattle.event_journal.specs.declared.event.Event.{Event}
use Rattle.kernel_model.proofs.Past.{after_events-append}
use Rattle.kernel_model.proofs.Suspended.{only_one}
use Rattle.kernel_model.specs.Application.{Booted}
use Rattle.kernel_model.specs.History.{after_event, after_events, kernel_after}
use Rattle.kernel_model.specs.Kernel.{Kernel, first_kernel}
use Rattle.kernel_state.specs.Meaning.{booted_of, events_of, kernel_of}
use Rattle.kernel_state.specs.declared.kernel_core.Core.{Core}
use Rattle.realm_model.specs.Reading.{Notes, event_noted, no_notes, noted, noted_from}
use Rattle.realm_model.specs.Realm.{Realm}

-- the kernel before it goes on to the one behind it
pub goes_on : (old new : Core) (event : Event) → booted_of new ≡ booted_of old → events_of new ≡ events_of old ++ event ∷ []
    → (kernel next : Kernel) → kernel_of old ≡ Some kernel → kernel_of new ≡ Some next → after_event (booted_of old) kernel event ≡ Some next
goes_on old new event boot done kernel next at then =
    only_one (after_event (booted_of old) kernel event) next
    (sym (after_events-append (booted_of old) (first_kernel (booted_of old)) (events_of old) (event ∷ [])
    ∙ ap (λ (o : Option Kernel). option_and_then (λ k. after_events (booted_of old) k (event ∷ [])) o) at)
    ∙ sym (ap (λ (b : Booted). kernel_after b (events_of new)) boot ∙ ap (kernel_after (booted_of old)) done) ∙ then)

-- what is noted by events behind others
pub noted-append : (boot : Booted) (of : Realm) (kernel last : Kernel) (notes : Notes) (events more : List Event)
    → after_events boot kernel events ≡ Some last
    → noted_from boot of kernel notes (events ++ more) ≡ noted_from boot of last (noted_from boot of kernel notes events) more
noted-append boot of kernel last notes [] more at =
    let same : kernel ≡ last = cc in ap (λ (k : Kernel). noted_from boot of k notes more) same
noted-append boot of kernel last notes (first ∷ events) more at =
    option_and_then_some (λ (n : Kernel). after_events boot n events) (after_event boot kernel first) last at
    (λ (mid : Kernel) is onward.
    ap (λ (o : Option Kernel). option_map_or (λ (n : Kernel). noted_from boot of n (event_noted boot of kernel n notes first)
    (events ++ more)) o notes) is
    ∙ noted-append boot of mid last (event_noted boot of kernel mid notes first) events more onward
    ∙ ap (λ (n : Notes). noted_from boot of last n more)
    (sym (ap (λ (o : Option Kernel). option_map_or (λ (n : Kernel).
    noted_from boot of n (event_noted boot of kernel n notes first) events) o notes) is)))

noted_more : (boot : Booted) (of : Realm) (history : List Event) (kernel next : Kernel) (event : Event)
    → kernel_after boot history ≡ Some kernel → after_event boot kernel event ≡ Some next
    → noted boot (history ++ event ∷ []) of ≡ event_noted boot of kernel next (noted boot history of) event
noted_more boot of history kernel next event at gives =
    noted-append boot of (first_kernel boot) kernel no_notes history (event ∷ []) at
    ∙ ap (λ (o : Option Kernel). option_map_or (λ (n : Kernel). event_noted boot of kernel n (noted boot history of) event) o
    (noted boot history of)) gives

-- the same of a core that has done one event more
pub noted_on_core : (old new : Core) (event : Event) → booted_of new ≡ booted_of old → events_of new ≡ events_of old ++ event ∷ []
    → (of : Realm) (kernel next : Kernel) → kernel_of old ≡ Some kernel → kernel_of new ≡ Some next
    → noted (booted_of new) (events_of new) of ≡ event_noted (booted_of old) of kernel next (noted (booted_of old) (events_of old) of) event
noted_on_core old new event boot done of kernel next at then =
    ap (λ (b : Booted). noted b (events_of new) of) boot ∙ ap (λ (h : List Event). noted (booted_of old) h of) done
    ∙ noted_more (booted_of old) of (events_of old) kernel next event at (goes_on old new event boot done kernel next at then)
