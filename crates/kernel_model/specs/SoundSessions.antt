-- Sessions with their instances, in every kernel that a legal history comes to. This project's own.
use Rattle.std.specs.Prelude.{◌≡◌, ℕ, true, Some, IsSome}
use Rattle.base.specs.NumberMap.{get}
use Rattle.session_table.specs.declared.session.Session.{Session}
use Rattle.kernel_model.specs.Kernel.{Tables}

-- a session whose open has ended with success has its instance, dead or not
abbrev pub HaveTheirInstances : Tables → Type 0
HaveTheirInstances tables = (number : ℕ) (session : Session) → get tables.sessions number ≡ Some session →
    session.opened ≡ true → IsSome (get tables.instances session.instance)
