-- What contracts see of a sink over a writer, and what `put` does to the writer.
use Rattle.std.specs.Prelude.{ℕ, List, take, Option}
use Rattle.std.specs.Io.KnownBytes.{Appends}
use Rattle.ports.specs.declared.sink.Put.{Put}
use Rattle.ports.specs.declared.sink.Put.TheVariants.{Done, Failed, Memory}
use Rattle.ports.specs.Port.{risen}

-- the writer, and how many calls have failed
pub record Writing (W : Type 0) : Type 0 where
  pub writer : W
  pub faults : ℕ

-- of a writer that tells what it holds: the bytes stand at the end of it, or after a fault a part from their front
abbrev pub WritesFrom : Put → Option (List ℕ) → Option (List ℕ) → List ℕ → Type 0
WritesFrom Done old new bytes = Appends old new bytes
WritesFrom Failed old new bytes = (n : ℕ) × Appends old new (take n bytes)
WritesFrom Memory old new bytes = ⊥

-- the count of faults after a call of `put` that came to this
abbrev pub faults_after_put : Put → ℕ → ℕ
faults_after_put Done faults = faults
faults_after_put Failed faults = risen faults
faults_after_put Memory faults = faults
