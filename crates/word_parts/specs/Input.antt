-- What is known of an input that was read.
use Rattle.std.specs.Prelude.{◌≡◌, ℕ, ◌^◌, ◌<◌, ◌≤◌, ◌⊎◌, List, [], ◌++◌, Option, length, IfSome}
use Rattle.ports.specs.Port.{Moves}
use Rattle.ports.specs.declared.source.Taken.{Taken}
use Rattle.ports.specs.declared.source.Taken.TheVariants.{Bytes, End, Failed}
use Rattle.word_parts.specs.declared.status.Status.{Status}
use Rattle.word_parts.specs.declared.status.Status.TheVariants.{ReadFault, Memory, TooLong}

-- nothing is left, where the source tells it
abbrev pub IsAtEnd : Option (List ℕ) → Type 0
IsAtEnd left = IfSome left (λ rest. rest ≡ [])

-- the input was read to its end: these bytes are all that the source had, at most as many as an input may have
pub record IsReadWhole (bytes : List ℕ) (old left : Option (List ℕ)) : Type 0 where
  pub short : length bytes ≤ 2 ^ 24
  pub moved : Moves old left bytes
  pub ended : IsAtEnd left

-- at most so many bytes were taken from the front of what was left
abbrev pub TakesAtMost : ℕ → Option (List ℕ) → Option (List ℕ) → Type 0
TakesAtMost most old new = (bytes : List ℕ) × (length bytes ≤ most) × Moves old new bytes

-- the bytes taken, from 1 to the most asked for, stand at the end of those read so far; or none were
abbrev pub TakesSome : Option (List ℕ) → Option (List ℕ) → List ℕ → List ℕ → ℕ → Taken → Type 0
TakesSome old new before after most (Bytes count) =
    (bytes : List ℕ) × (0 < length bytes) × (length bytes ≤ most) × Moves old new bytes × (after ≡ before ++ bytes)
TakesSome old new before after most End = (after ≡ before) × (new ≡ old) × (0 < most → IsAtEnd old)
TakesSome old new before after most Failed = (after ≡ before) × (new ≡ old)

-- an input of more bytes than one may have
abbrev pub IsTooLong : List ℕ → Type 0
IsTooLong input = 2 ^ 24 < length input

-- with these statuses a word may end where this input isn't read whole
abbrev pub IsUnreadAs : Status → List ℕ → Type 0
IsUnreadAs status input = (status ≡ ReadFault) ⊎ (status ≡ Memory) ⊎ ((status ≡ TooLong) × IsTooLong input)
