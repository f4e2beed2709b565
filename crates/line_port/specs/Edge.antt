-- What contracts see of a port over a reader and a writer.
use Rattle.std.specs.Prelude.{ℕ, List, Option, None}
use Rattle.std.specs.Io.KnownBytes.{prepend_known}
use Rattle.line_port.specs.declared.faults.Faults.{Faults}
use Rattle.line_port.specs.declared.finish.Finish.{Finish}
use Rattle.line_port.specs.Told.{Told}

-- the reader, what was read of it but not heard, the writer, how many reads and how many writes have failed, and how the port has
-- come to its end, where it has
pub record Edge (R W : Type 0) : Type 0 where
  pub reader : R
  pub pending : List ℕ
  pub writer : W
  pub faults : Faults
  pub finish : Option Finish

-- of a reader that tells what it has left, given by `remaining`: what is pending, and then that
abbrev pub left_at : {R W : Type 0} → (R → Option (List ℕ)) → Edge R W → Option (List ℕ)
left_at remaining edge = prepend_known edge.pending (remaining edge.reader)

-- what it tells, by what its reader has left and its writer holds where they tell it, given by `remaining` and `contents`; it keeps no
-- history
abbrev pub told_at : {R W : Type 0} → (R → Option (List ℕ)) → (W → Option (List ℕ)) → Edge R W → Told
told_at remaining contents edge =
    record { history = None; left = left_at remaining edge; held = contents edge.writer }
