-- Bytes that stand from a place on in a list, and others written over them.
use Rattle.std.specs.Prelude.{ℕ, ◌+◌, Bool, nat_le, if◌then◌else◌, List, ◌++◌, length, take, drop}

-- so many bytes from a place on are all there
abbrev pub has_bytes : List ℕ → ℕ → ℕ → Bool
has_bytes bytes place count = nat_le (place + count) (length bytes)

-- the bytes with others written over them from a place on
abbrev pub overwritten : List ℕ → ℕ → List ℕ → List ℕ
overwritten bytes place new = take place bytes ++ new ++ drop (place + length new) bytes

-- the same where they are all there, and else the bytes as they are
abbrev pub written : List ℕ → ℕ → List ℕ → List ℕ
written bytes place new = if has_bytes bytes place (length new) then overwritten bytes place new else bytes
