-- The status that a program ends with.
use Rattle.std.specs.Prelude.{ℕ, Result, Ok, Err}
use Rattle.std.specs.declared.alloc.AllocError.{AllocError}

-- where it came to a status, that; and want of memory is 6
abbrev pub status_of : Result ℕ AllocError → ℕ
status_of (Ok status) = status
status_of (Err error) = 6
