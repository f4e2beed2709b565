-- The session of a name, among those that were opened.
use Rattle.std.proofs.Common.{◌≡◌, ℕ, List, drop, map}
use Rattle.client_play.specs.Calls.{session_of}
use Rattle.client_runner.specs.declared.sessions.Named.{Named}

-- a name that was opened, with its session
abbrev pub entry_of : Named → List ℕ × ℕ
entry_of named = (named.name, named.session)

-- the names before a place aren't this one
abbrev pub LooksOn : List Named → List ℕ → ℕ → Type 0
LooksOn named name at = session_of (map entry_of (drop at named)) name ≡ session_of (map entry_of named) name
