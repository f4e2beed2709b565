-- Of a session whose application's sessions share no instance each call in a slot has a number of the session's own: after each
-- history the machine of its realm is tied to the kernel.
use Rattle.std.proofs.Common.{◌≡◌, ℕ, ◌<◌, false, List, Some, ap, subst, sym, ◌∙◌, refl}
use Rattle.std.specs.Prelude.{IsSome}
use Rattle.base.specs.NumberMap.{get}
use Rattle.event_journal.specs.declared.event.Event.{Event}
use Rattle.kernel_model.specs.Application.{Application, Booted, IsBooted}
use Rattle.kernel_model.specs.History.{kernel_after}
use Rattle.kernel_model.specs.Instances.{is_single}
use Rattle.kernel_model.specs.Kernel.{Kernel, PendingCall}
use Rattle.own_model.specs.Own.{Notes, noted, own_app}
use Rattle.own_model.specs.Tied.{call_at}
use Rattle.realm_model.proofs.OneAnswered.{IsThere, one_there}
use Rattle.realm_model.proofs.Sessions.{sessions_are_realms}

session_there : (boot : Booted) (history : List Event) (kernel : Kernel) (session : ℕ) (app : Application) → IsBooted boot
    → kernel_after boot history ≡ Some kernel → own_app boot history session ≡ Some app → is_single app ≡ false
    → IsThere boot history session kernel
session_there boot history kernel session app boots there of_app alone =
    one_there boot history session app kernel (record {
      legal = record { boots = boots; follows = subst (IsSome {T = Kernel}) (sym there) refl };
      of_app = of_app;
      shares_none = alone;
    }) there

-- a call of the session has a number
pub call_numbered : (boot : Booted) (history : List Event) (kernel : Kernel) (session slot : ℕ) (app : Application) (call : PendingCall)
    → IsBooted boot → kernel_after boot history ≡ Some kernel → own_app boot history session ≡ Some app → is_single app ≡ false
    → call_at kernel.slots slot ≡ Some call → call.session ≡ session
    → (number : ℕ) × (get (noted boot history session).numbering.in_slots slot ≡ Some number)
call_numbered boot history kernel session slot app call boots there of_app alone held is =
    let its = (session_there boot history kernel session app boots there of_app alone).numbered slot call held is in (
      its.0,
      ap (λ (n : Notes). get n.numbering.in_slots slot) (sessions_are_realms.noted_so boot history session) ∙ its.1,
    )

-- the session was given its number
pub session_given : (boot : Booted) (history : List Event) (kernel : Kernel) (session : ℕ) (app : Application) → IsBooted boot
    → kernel_after boot history ≡ Some kernel → own_app boot history session ≡ Some app → is_single app ≡ false
    → session < kernel.tables.next_session
session_given boot history kernel session app boots there of_app alone =
    (session_there boot history kernel session app boots there of_app alone).given
