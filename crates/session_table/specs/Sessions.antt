-- The sessions as a map from their numbers, and the number that the next one gets.
use Rattle.std.specs.Prelude.{◌≡◌, ℕ, ◌<◌, ◌≤◌, ◌^◌, Bool, false, ◌&&◌, nat_lt, length, All, IsSomeAnd}
use Rattle.std.specs.Option.{option_map_or}
use Rattle.base.specs.NumberMap.{NumberMap, IsRising, get, insert}
use Rattle.session_table.specs.declared.session.Session.{Session}
use Rattle.session_table.specs.Session.{opened_with}

pub record SessionTable : Type 0 where
  pub kept : NumberMap Session
  pub next : ℕ

-- another session can be added: fewer than 64 are kept, and number 4294967295 was not given
abbrev pub has_room : SessionTable → Bool
has_room table = nat_lt (length table.kept) 64 && nat_lt table.next (2 ^ 32)

-- the session of this number is kept, and not opened
abbrev pub IsBeingOpened : SessionTable → ℕ → Type 0
IsBeingOpened table number = IsSomeAnd (get table.kept number) (λ session. session.opened ≡ false)

-- the sessions after the one of this number is opened with a context
abbrev pub settled : NumberMap Session → ℕ → ℕ → NumberMap Session
settled kept number context =
    option_map_or (λ session. insert kept number (opened_with session context)) (get kept number) kept

-- each number was given, from 1 on
pub record AreGiven (kept : NumberMap Session) (next : ℕ) : Type 0 where
  pub from_one : All (λ entry. 0 < entry.0) kept
  pub given : All (λ entry. entry.0 < next) kept

-- the numbers rise, each was given, from 1 on, and at most 64 sessions are kept
pub record IsNumbered (table : SessionTable) : Type 0 where
  pub rising : IsRising table.kept
  pub numbers : AreGiven table.kept table.next
  pub few : length table.kept ≤ 64
