-- Where a client keeps what it shares with a core (own).
use Rattle.std.specs.Prelude.{ℕ, ◌+◌, ◌*◌}

-- the argument of a call, and that of its cancellation
abbrev pub argument_at : ℕ
argument_at = 0x40000000

abbrev pub cancel_at : ℕ
cancel_at = 0x40001000

-- the buffer in which a core asks for something, and the cookie by which the core names it
abbrev pub message_at : ℕ
message_at = 0x40010000

abbrev pub message_cookie : ℕ
message_cookie = 1

-- the memory of an operation's parameter of this number, counted from 0
abbrev pub memory_at : ℕ → ℕ
memory_at number = 0x40100000 + 65536 * number

-- the number by which each call can be cancelled
abbrev pub cancel_id : ℕ
cancel_id = 1
