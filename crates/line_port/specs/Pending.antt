-- What a reader of lines has left.
use Rattle.std.specs.Prelude.{ℕ, List, Option}
use Rattle.std.specs.Io.KnownBytes.{prepend_known}

-- the reader, what was read of it but not heard, and how many reads have failed
pub record Lines (R : Type 0) : Type 0 where
  pub reader : R
  pub pending : List ℕ
  pub faults : ℕ

-- of a reader that tells what it has left, given by `remaining`: what is pending, and then that
abbrev pub left : {R : Type 0} → (R → Option (List ℕ)) → Lines R → Option (List ℕ)
left remaining lines = prepend_known lines.pending (remaining lines.reader)
