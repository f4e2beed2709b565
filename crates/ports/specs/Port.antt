-- What a call of a port does to what it has left or holds, and to its count of faults.
use Rattle.std.specs.Prelude.{◌≡◌, ℕ, ◌+◌, ◌<◌, ◌⊎◌, min, List, ◌++◌, Option, Some, None}
use Rattle.ports.specs.declared.source.Taken.{Taken}
use Rattle.ports.specs.declared.source.Taken.TheVariants.{Bytes, End, Failed}

-- at which a count of faults stays
abbrev pub MOST_FAULTS : ℕ
MOST_FAULTS = 18446744073709551615

-- the count rose, or stands at its end
abbrev pub Rose : ℕ → ℕ → Type 0
Rose old new = (old < new) ⊎ (new ≡ MOST_FAULTS)

-- a count of calls or faults after one more
abbrev pub risen : ℕ → ℕ
risen n = min (n + 1) MOST_FAULTS

-- a fact for the number of bytes that were taken
abbrev pub IfBytes : Taken → (ℕ → Type 0) → Type 0
IfBytes (Bytes n) P = P n
IfBytes End P = Unit {0}
IfBytes Failed P = Unit {0}

-- of a source that tells what it has left: the bytes stood at the front of it, and are gone
abbrev pub Moves : Option (List ℕ) → Option (List ℕ) → List ℕ → Type 0
Moves (Some old) (Some new) bytes = old ≡ bytes ++ new
Moves None None bytes = Unit {0}
Moves (Some old) None bytes = ⊥
Moves None (Some new) bytes = ⊥

-- of a sink that tells what it holds: the bytes stand at the end of it now
abbrev pub Appends : Option (List ℕ) → Option (List ℕ) → List ℕ → Type 0
Appends (Some old) (Some new) bytes = new ≡ old ++ bytes
Appends None None bytes = Unit {0}
Appends (Some old) None bytes = ⊥
Appends None (Some new) bytes = ⊥
