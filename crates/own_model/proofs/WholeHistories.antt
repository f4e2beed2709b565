-- A whole history, event by event: the kernels that it goes through, what is noted of a session, and that its UUID stays.
use Rattle.std.proofs.Common.{◌≡◌, ℕ, suc, ◌+◌, ◌*◌, ◌<◌, ◌≤◌, List, [], ◌∷◌, ◌++◌, length, Option}
use Rattle.std.proofs.Common.{Some, refl, ap, subst, sym, ◌∙◌, arith}
use Rattle.std.specs.Option.{option_and_then, option_map_or}
use Rattle.std.proofs.lemmas.List.{length-append}
use Rattle.std.proofs.lemmas.Option.{option_and_then_some}
use Rattle.event_journal.specs.declared.event.Event.{Event}
use Rattle.kernel_model.specs.Application.{Booted}
use Rattle.kernel_model.specs.History.{after_event, after_events, kernel_after}
use Rattle.kernel_model.specs.Kernel.{Kernel, first_kernel}
use Rattle.kernel_model.proofs.Past.{after_events-append}
use Rattle.kernel_model.proofs.SoundNumbers.{numbers_rise}
use Rattle.own_model.proofs.UuidKept.{uuid_stays}
use Rattle.own_model.specs.Isolation.{steps_in}
use Rattle.own_model.specs.Own.{Notes, event_noted, noted_from}

-- ---- what holds of the kernels

-- the kernel after one event more
pub one_more : (boot : Booted) (past : List Event) (kernel next : Kernel) (happened : Event)
    → kernel_after boot past ≡ Some kernel
    → after_event boot kernel happened ≡ Some next → kernel_after boot (past ++ happened ∷ []) ≡ Some next
one_more boot past kernel next happened there e =
    after_events-append boot (first_kernel boot) past (happened ∷ [])
    ∙ ap (λ (o : Option Kernel). option_and_then (λ (k : Kernel). after_events boot k (happened ∷ [])) o) there
    ∙ ap (λ (o : Option Kernel). option_and_then (λ (k : Kernel). Some k) o) e

-- where the history goes on from: the kernel after what has been, and the bound of steps for what is still to come
pub record IsAt (boot : Booted) (most : ℕ) (past : List Event) (kernel : Kernel) (events : List Event) : Type 0 where
  pub last : Kernel
  pub there : kernel_after boot past ≡ Some kernel
  pub onward : after_events boot kernel events ≡ Some last
  pub bound : 1000000 * (length past + length events) ≤ most

-- after its first event
pub record IsOn (boot : Booted) (most : ℕ) (past : List Event) (kernel : Kernel) (happened : Event)
    (events : List Event) : Type 0 where
  pub next : Kernel
  pub comes : after_event boot kernel happened ≡ Some next
  pub at : IsAt boot most (past ++ happened ∷ []) next events

pub on_from : (boot : Booted) (most : ℕ) (past : List Event) (kernel : Kernel) (happened : Event) (events : List Event)
    → IsAt boot most past kernel (happened ∷ events) → IsOn boot most past kernel happened events
on_from boot most past kernel happened events at =
    option_and_then_some (λ (next : Kernel). after_events boot next events)
    (after_event boot kernel happened) at.last at.onward
    (λ next comes onward. record {
      next = next;
      comes = comes;
      at = record {
        last = at.last;
        there = one_more boot past kernel next happened at.there comes;
        onward = onward;
        bound = subst (λ n. 1000000 * n ≤ most) (sym (ap (λ n. n + length events) (length-append past (happened ∷ []))
            ∙ moved (length past) (length events))) at.bound;
      };
    })
  where
    moved : (a b : ℕ) → (a + 1) + b ≡ a + suc b
    moved a b = omega arith

pub bound_now : (a b most : ℕ) → 1000000 * (a + b) ≤ most → 1000000 * a ≤ most
bound_now a b most le = omega arith

-- ---- a session that is tied

-- what is noted of it goes on behind its first event
pub goes_from : (boot : Booted) (session : ℕ) (kernel next : Kernel) (notes : Notes) (happened : Event)
    (events : List Event) → after_event boot kernel happened ≡ Some next
    → noted_from boot session kernel notes (happened ∷ events)
    ≡ noted_from boot session next (event_noted session kernel next notes happened) events
goes_from boot session kernel next notes happened events e =
    ap (λ (o : Option Kernel). option_map_or (λ (k : Kernel). noted_from boot session k
    (event_noted session kernel k notes happened) events) o notes) e

-- ---- a session whose application shares an instance, or that has none

-- the UUID that was noted stays, once the session has its number
pub uuid_on : (boot : Booted) (session most : ℕ) (past : List Event) (kernel : Kernel) (notes : Notes) (events : List Event)
    → session < kernel.tables.next_session → IsAt boot most past kernel events
    → (noted_from boot session kernel notes events).uuid ≡ notes.uuid
uuid_on boot session most past kernel notes [] given at = refl
uuid_on boot session most past kernel notes (happened ∷ events) given at =
    let on = on_from boot most past kernel happened events at in
    let later : session < on.next.tables.next_session =
    no_lower session kernel.tables.next_session on.next.tables.next_session given
    (numbers_rise boot past kernel on.next happened at.there on.comes).session in
    ap (λ (n : Notes). n.uuid) (goes_from boot session kernel on.next notes happened events on.comes)
    ∙ uuid_on boot session most (past ++ happened ∷ []) on.next (event_noted session kernel on.next notes happened)
    events later on.at
    ∙ uuid_stays boot session kernel on.next happened notes given on.comes
  where
    no_lower : (a n m : ℕ) → a < n → n ≤ m → a < m
    no_lower a n m lt le = omega arith

-- ---- the laws

-- a whole history, from the boot on
pub from_first : (boot : Booted) (history : List Event) (last : Kernel) → kernel_after boot history ≡ Some last
    → IsAt boot (steps_in history) [] (first_kernel boot) history
from_first boot history last e =
    record { last = last; there = refl; onward = e; bound = none_before (length history) }
  where
    none_before : (n : ℕ) → 1000000 * (0 + n) ≤ 1000000 * n
    none_before n = omega arith
