-- The numbers of sessions and instances, in every kernel that a legal history comes to. This project's own.
use Rattle.std.specs.Prelude.{◌≡◌, ℕ, ◌<◌, ◌≤◌, Bool, true, false, List, Some, All}
use Rattle.event_journal.specs.declared.event.Event.{Event}
use Rattle.job_model.specs.declared.call_kind.CallKind.{CallKind}
use Rattle.job_model.specs.declared.call_kind.CallKind.TheVariants as kind
use Rattle.session_table.specs.declared.session.Session.{Session}
use Rattle.session_table.specs.declared.waiters.Waiter.{Waiter}
use Rattle.kernel_model.specs.Application.{Booted}
use Rattle.kernel_model.specs.History.{after_event, kernel_after}
use Rattle.kernel_model.specs.Kernel.{PendingCall, Instance, Kernel, Tables}
use Rattle.kernel_model.specs.Sound.{Calls}

-- a call on an instance: it wasn't settled at its entry
abbrev pub is_on_instance : CallKind → Bool
is_on_instance kind.Open = true
is_on_instance (kind.Invoke func) = true
is_on_instance kind.Close = true
is_on_instance kind.Settled = false

-- a number that was given
abbrev pub IsGiven : ℕ → ℕ → Type 0
IsGiven next number = (0 < number) × (number < next)

-- those of a call: 0 only where it has no session, or no instance
pub record AreGivenTo (tables : Tables) (call : PendingCall) : Type 0 where
  pub session : call.session < tables.next_session
  pub instance : call.instance < tables.next_instance
  pub some : is_on_instance call.kind ≡ true → (0 < call.session) × (0 < call.instance)

-- those of a session that is kept
abbrev pub IsNumberedSession : Tables → ℕ × Session → Type 0
IsNumberedSession tables kept =
    IsGiven tables.next_session kept.0 × IsGiven tables.next_instance kept.1.instance

-- the numbers of sessions and instances
pub record AreNumbered (calls : Calls) (tables : Tables) : Type 0 where
  -- they begin at 1, sessions need 32 bits, and there were no more instances than sessions
  pub from_one : 1 ≤ tables.next_instance
  pub few : tables.next_session ≤ 4294967296
  pub fewer : tables.next_instance ≤ tables.next_session
  -- each that is kept was given, and so was the instance of each session, each call and each that waits
  pub sessions : All (IsNumberedSession tables) tables.sessions
  pub instances : All (λ (kept : ℕ × Instance). IsGiven tables.next_instance kept.0) tables.instances
  pub given : (slot : ℕ) (call : PendingCall) → calls slot ≡ Some call → AreGivenTo tables call
  pub waiters : All (λ (waiter : Waiter). IsGiven tables.next_instance waiter.instance) tables.waiters

-- no event lowers the next numbers
pub record AreNoLower (before after : Tables) : Type 0 where
  pub session : before.next_session ≤ after.next_session
  pub instance : before.next_instance ≤ after.next_instance

abbrev pub NumbersRise : Type 0
NumbersRise =
    (boot : Booted) (history : List Event) (kernel next : Kernel) (happened : Event) →
    kernel_after boot history ≡ Some kernel → after_event boot kernel happened ≡ Some next →
    AreNoLower kernel.tables next.tables
