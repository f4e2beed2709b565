-- What bytes are a file name.
use Rattle.std.specs.Prelude.{ℕ, ◌≤◌, List, length}
use Rattle.std.specs.Str.{IsAscii}

pub record IsFileName (bytes : List ℕ) : Type 0 where
  pub few : length bytes ≤ 161
  pub ascii : IsAscii bytes
