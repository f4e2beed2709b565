-- What one session is, before and after it is opened.
use Rattle.std.specs.Prelude.{ℕ, Bool, true, false, ◌==◌, ◌&&◌}
use Rattle.ta_params.specs.declared.login.Login.{Login}
use Rattle.session_table.specs.declared.session.Session.{Session}

-- a session that is being opened
abbrev pub reserved_for : ℕ → Login → ℕ → Session
reserved_for client login instance =
    record { client = client; login = login; instance = instance; context = 0; opened = false }

-- the session, opened with a context
abbrev pub opened_with : Session → ℕ → Session
opened_with session context = record session { context = context; opened = true }

-- the session is one with the instance
abbrev pub is_of : ℕ → Session → Bool
is_of instance session = session.instance == instance

-- the session is one with the instance, and opened
abbrev pub is_opened_of : ℕ → Session → Bool
is_opened_of instance session = is_of instance session && session.opened
