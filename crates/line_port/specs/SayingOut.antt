-- What `say` does to a writer.
use Rattle.std.specs.Prelude.{ℕ, List, take, Option}
use Rattle.std.specs.Io.KnownBytes.{Appends}
use Rattle.line_port.specs.declared.port.Said.{Said}
use Rattle.line_port.specs.declared.port.Said.TheVariants.{Done, Failed, Memory}

-- of a writer that tells what it holds: the bytes stand at the end of it, or after a fault a part from their front
abbrev pub WritesOut : Said → Option (List ℕ) → Option (List ℕ) → List ℕ → Type 0
WritesOut Done old new bytes = Appends old new bytes
WritesOut Failed old new bytes = (n : ℕ) × Appends old new (take n bytes)
WritesOut Memory old new bytes = ⊥
