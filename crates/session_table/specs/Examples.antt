-- The definitions on small inputs.
use Rattle.std.specs.Prelude.{◌≡◌, ℕ, true, false, List, [], ◌∷◌, Some, None, count_by, replicate}
use Rattle.base.specs.NumberMap.{NumberMap}
use Rattle.ta_params.specs.declared.login.Login.{Login}
use Rattle.session_table.specs.declared.session.Session.{Session}
use Rattle.session_table.specs.Session.{reserved_for, opened_with, is_of, is_opened_of}
use Rattle.session_table.specs.declared.waiters.TheConstants.{MAX_WAITERS}
use Rattle.session_table.specs.declared.waiters.Waiter.{Waiter}
use Rattle.session_table.specs.Waiters.{first_of, instance_with, waits, without}
use Rattle.session_table.specs.Sessions.{has_room}

abbrev pub public : Login
public = record { client = replicate 16 0; kind = 0 }

-- session 1 of client 7 is opened with context 20, and session 3 of client 8 is being opened
abbrev pub two : NumberMap Session
two = (1, opened_with (reserved_for 7 public 5) 20) ∷ (3, reserved_for 8 public 5) ∷ []

-- one call waits for instance 5 in slot 2, and then two for instance 6 in slots 0 and 1
abbrev pub waiter : ℕ → ℕ → ℕ → Waiter
waiter instance octet slot = record { instance = instance; uuid = replicate 16 octet; slot = slot }

abbrev pub three : List Waiter
three = waiter 5 1 2 ∷ waiter 6 2 0 ∷ waiter 6 2 1 ∷ []

pub record Examples : Type 0 where
  pub users : count_by (λ entry. is_of 5 entry.1) two ≡ 2
  pub opened : count_by (λ entry. is_opened_of 5 entry.1) two ≡ 1
  pub of_another : count_by (λ entry. is_of 6 entry.1) two ≡ 0
  pub room : has_room (record { kept = two; next = 4 }) ≡ true
  pub last_number : has_room (record { kept = two; next = 4294967295 }) ≡ true
  pub no_number : has_room (record { kept = two; next = 4294967296 }) ≡ false
  pub full : has_room (record { kept = replicate 64 (1, reserved_for 7 public 5); next = 70 }) ≡ false
  pub most_waiters : MAX_WAITERS ≡ 16
  pub waits_in_zero : waits three 0 ≡ true
  pub waits_not_in_three : waits three 3 ≡ false
  pub first_of_six : first_of three 6 ≡ Some 0
  pub first_of_none : first_of three 7 ≡ None
  pub instance_of_first : instance_with three (replicate 16 2) ≡ Some 6
  pub instance_of_none : instance_with three (replicate 16 3) ≡ None
  pub left : without three 0 ≡ waiter 5 1 2 ∷ waiter 6 2 1 ∷ []
