-- How many instances are kept, in every kernel that a legal history comes to. This project's own.
use Rattle.std.specs.Prelude.{◌≡◌, ℕ, ◌+◌, ◌≤◌, ◌<◌, length, Some, None}
use Rattle.base.specs.NumberMap.{get}
use Rattle.session_table.specs.declared.session.Session.{Session}
use Rattle.kernel_model.specs.Kernel.{Tables}

-- at most one for each session, and one that each of sixteen applications keeps alive
pub record AreFew (tables : Tables) : Type 0 where
  pub most : length tables.instances ≤ length tables.sessions + 16
  -- and one less where the instance of a session is gone
  pub room : (number : ℕ) (session : Session) → get tables.sessions number ≡ Some session →
      get tables.instances session.instance ≡ None → length tables.instances < length tables.sessions + 16
