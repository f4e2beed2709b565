-- What becomes of a buffer whose bytes were lent to be written over.
use Rattle.std.specs.Prelude.{ℕ, List, ◌++◌, length, take, drop}

-- the bytes that were written, as many as there were: all of them, since a slice keeps its length
abbrev pub written_over : List ℕ → List ℕ → List ℕ
written_over old bytes = take (length old) (bytes ++ drop (length bytes) old)
