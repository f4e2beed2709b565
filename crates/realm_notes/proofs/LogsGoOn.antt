-- What stands in the log of a realm stays there, whatever comes behind.
use Rattle.std.proofs.Common.{◌≡◌, List, [], ◌∷◌, ◌++◌, Option, Some, ap, sym, ◌∙◌}
use Rattle.std.proofs.lemmas.List.{append_assoc, append-nil}
use Rattle.std.proofs.lemmas.Option.{option_and_then_some}
use Rattle.std.specs.Option.{option_map_or}
use Rattle.event_journal.specs.declared.event.Event.{Event}
use Rattle.kernel_model.specs.Application.{Booted}
use Rattle.kernel_model.specs.History.{after_event, after_events, kernel_after}
use Rattle.kernel_model.specs.Kernel.{Kernel, first_kernel}
use Rattle.realm_model.specs.Reading.{Logged, Notes, event_noted, no_notes, noted, noted_from}
use Rattle.realm_model.specs.Realm.{Realm}
use Rattle.realm_notes.proofs.Further.{noted-append}
use Rattle.realm_notes.proofs.LogsGrow.{event_adds}

-- one log is another, and more behind it
abbrev pub IsLonger : List Logged → List Logged → Type 0
IsLonger log longer = (more : List Logged) × (longer ≡ log ++ more)

grows_by : (boot : Booted) (of : Realm) (kernel next : Kernel) (notes : Notes) (event : Event)
    → IsLonger notes.log (event_noted boot of kernel next notes event).log
grows_by boot of kernel next notes event =
    let adds = event_adds notes boot of kernel next event in
    (adds.more, ap (λ (n : Notes). n.log) (adds.so notes.log))

grows_on : (boot : Booted) (of : Realm) (kernel last : Kernel) (notes : Notes) (events : List Event)
    → after_events boot kernel events ≡ Some last → IsLonger notes.log (noted_from boot of kernel notes events).log
grows_on boot of kernel last notes [] e = ([], sym (append-nil notes.log))
grows_on boot of kernel last notes (event ∷ events) e =
    option_and_then_some (λ (next : Kernel). after_events boot next events) (after_event boot kernel event) last e
    (λ (next : Kernel) comes onward.
    let first = grows_by boot of kernel next notes event in
    let rest = grows_on boot of next last (event_noted boot of kernel next notes event) events onward in (
      first.0 ++ rest.0,
      ap (λ (o : Option Kernel). (option_map_or (λ (n : Kernel).
          noted_from boot of n (event_noted boot of kernel n notes event) events) o notes).log) comes ∙ rest.1
          ∙ ap (λ (log : List Logged). log ++ rest.0) first.1 ∙ append_assoc notes.log first.0 rest.0,
    ))

pub logs_go_on : (boot : Booted) (of : Realm) (before behind : List Event) (kernel last : Kernel)
    → kernel_after boot before ≡ Some kernel → after_events boot kernel behind ≡ Some last
    → IsLonger (noted boot before of).log (noted boot (before ++ behind) of).log
logs_go_on boot of before behind kernel last there onward =
    let rest = grows_on boot of kernel last (noted boot before of) behind onward in (
      rest.0,
      ap (λ (n : Notes). n.log) (noted-append boot of (first_kernel boot) kernel no_notes before behind there) ∙ rest.1,
    )
