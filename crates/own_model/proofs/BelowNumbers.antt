-- A session before its open: nobody has its number yet, nor that of its instance.
use Rattle.std.proofs.Common.{◌≡◌, ℕ, ◌<◌, ◌≤◌, List, Option, Some, ap, ◌∙◌, arith}
use Rattle.std.specs.Prelude.{All, slice_get}
use Rattle.std.specs.Option.{option_and_then}
use Rattle.std.proofs.lemmas.List.Elements.{All-weaker}
use Rattle.std.proofs.lemmas.Option.{option_and_then_some}
use Rattle.session_table.specs.declared.session.Session.{Session}
use Rattle.session_table.specs.declared.waiters.Waiter.{Waiter}
use Rattle.kernel_model.specs.Kernel.{Active, Free, Instance, Kernel, PendingCall, Suspended, Tables, ThreadSlot}
use Rattle.kernel_model.specs.Sound as sound
use Rattle.kernel_model.specs.SoundNumbers.{AreNumbered, IsGiven, IsNumberedSession}
use Rattle.own_model.specs.Tied.{call_at, call_in}
use Rattle.kernel_model.specs.Located.{with_argument_pinned}

-- a session and its instance, and a call and its, have numbers that were given before
abbrev pub IsBelow : Tables → ℕ → ℕ → Type 0
IsBelow tables session instance = (session < tables.next_session) × (instance < tables.next_instance)

-- all numbers that anybody has lie below the next ones
pub record AreBelow (slots : List ThreadSlot) (tables : Tables) : Type 0 where
  pub session_from_one : 1 ≤ tables.next_session
  pub instance_from_one : 1 ≤ tables.next_instance
  pub sessions : All (λ (kept : ℕ × Session). IsBelow tables kept.0 kept.1.instance) tables.sessions
  pub instances : All (λ (kept : ℕ × Instance). kept.0 < tables.next_instance) tables.instances
  pub waiters : All (λ (waiter : Waiter). waiter.instance < tables.next_instance) tables.waiters
  pub calls : (slot : ℕ) (call : PendingCall) → call_at slots slot ≡ Some call
      → IsBelow tables call.session call.instance

-- a call in a slot, without its mark
unmarked_in : (held : ThreadSlot) (call : PendingCall) → call_in held ≡ Some call
    → sound.unmarked_in held ≡ Some (sound.unmarked call)
unmarked_in Free call e = absurd cc
unmarked_in (Active cpu other) call e = let same : other ≡ call = cc in
    ap (λ (c : PendingCall). Some (sound.unmarked c)) same
unmarked_in (Suspended client other) call e = let same : other ≡ call = cc in
    ap (λ (c : PendingCall). Some (sound.unmarked c)) same

pub unmarked_there : (slots : List ThreadSlot) (slot : ℕ) (call : PendingCall) → call_at slots slot ≡ Some call
    → sound.unmarked_at slots slot ≡ Some (sound.unmarked call)
unmarked_there slots slot call found =
    option_and_then_some call_in (slice_get slots slot) call found
    (λ held is in_it. ap (λ (o : Option ThreadSlot). option_and_then sound.unmarked_in o) is ∙ unmarked_in held call in_it)

-- the numbers that were given lie below the next ones
pub below_numbers : (kernel : Kernel) → AreNumbered (sound.unmarked_at kernel.slots) kernel.tables
    → AreBelow kernel.slots kernel.tables
below_numbers kernel numbers = record {
  session_from_one = at_least kernel.tables.next_instance kernel.tables.next_session numbers.from_one numbers.fewer;
  instance_from_one = numbers.from_one;
  sessions = All-weaker (IsNumberedSession kernel.tables)
      (λ (kept : ℕ × Session). IsBelow kernel.tables kept.0 kept.1.instance)
      (λ kept given. (given.0.1, given.1.1)) kernel.tables.sessions numbers.sessions;
  instances = All-weaker (λ (kept : ℕ × Instance). IsGiven kernel.tables.next_instance kept.0)
      (λ (kept : ℕ × Instance). kept.0 < kernel.tables.next_instance)
      (λ kept given. given.1) kernel.tables.instances numbers.instances;
  waiters = All-weaker (λ (waiter : Waiter). IsGiven kernel.tables.next_instance waiter.instance)
      (λ (waiter : Waiter). waiter.instance < kernel.tables.next_instance)
      (λ waiter given. given.1) kernel.tables.waiters numbers.waiters;
  calls = λ slot call found.
      let given = numbers.given slot (sound.unmarked call) (unmarked_there kernel.slots slot call found) in
      (given.session, given.instance);
}
  where
    at_least : (a b : ℕ) → 1 ≤ a → a ≤ b → 1 ≤ b
    at_least a b one le = omega arith

-- ---- a pin

pub below_pinned : (slots : List ThreadSlot) (tables : Tables) (named : Option ℕ) (slot : ℕ) → AreBelow slots tables
    → AreBelow slots (with_argument_pinned named tables slot)
below_pinned slots tables named slot below = record {
  session_from_one = below.session_from_one;
  instance_from_one = below.instance_from_one;
  sessions = below.sessions;
  instances = below.instances;
  waiters = below.waiters;
  calls = below.calls;
}
