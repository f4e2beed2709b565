-- What one processor has come to in a play: its acts to come, its RAM, and its lines. This project's own.
use Rattle.std.specs.Prelude.{ℕ, List, [], ◌∷◌, ◌++◌, Option, None, replicate}
use Rattle.ns_ram.specs.Lane.{bytes_at}
use Rattle.ns_ram.specs.Writes.{Write, lane_after}
use Rattle.trace_text.specs.declared.item.Item.{Item}
use Rattle.ordered_play.specs.Act.{Act, Comes, Leaves, Writes, Shows, acts_for}

-- a line that a processor prints
pub data PlacedLine : Type 0 where
  -- it has gone out with these registers; its entry and its exit stand at these places of the history
  Told : (regs : List ℕ) (entry_at exit_at : ℕ) → PlacedLine
  -- these bytes stand at this address of its RAM
  Shown : (addr : ℕ) (bytes : List ℕ) → PlacedLine

-- an entry that was refused: how many bytes all entries before it had read, and how many it would have read
pub record Refusal : Type 0 where
  pub copied : ℕ
  pub more : ℕ

-- what a processor has come to
pub record Seat : Type 0 where
  -- what it is still to do, from its next entry or exit on
  pub acts : List Act
  -- the RAM that it sees
  pub lane : List ℕ
  -- the registers of its last answer; zeros before any
  pub answer : List ℕ
  -- the place of its last entry in the history
  pub entry_at : ℕ
  -- what it has printed
  pub lines : List PlacedLine
  -- where its entry was refused, behind which it does nothing more
  pub refused : Option Refusal

-- bytes are written to its RAM, in this order
abbrev pub with_writes : List Write → Seat → Seat
with_writes writes seat = record seat { lane = lane_after seat.lane writes }

-- a line is printed
abbrev pub with_line : PlacedLine → Seat → Seat
with_line line seat = record seat { lines = seat.lines ++ line ∷ [] }

-- before its next entry or exit, RAM is written and shown as these acts say; the others are still to come
abbrev pub ready_for : List Act → Seat → Seat
ready_for [] seat = record seat { acts = [] }
ready_for (Comes steps regs ∷ acts) seat = record seat { acts = Comes steps regs ∷ acts }
ready_for (Leaves ∷ acts) seat = record seat { acts = Leaves ∷ acts }
ready_for (Writes addr bytes ∷ acts) seat =
    ready_for acts (with_writes (record { addr = addr; bytes = bytes } ∷ []) seat)
ready_for (Shows addr len ∷ acts) seat = ready_for acts (with_line (Shown addr (bytes_at seat.lane addr len)) seat)

-- a processor with this RAM, which has done nothing
abbrev pub fresh_seat : List ℕ → Seat
fresh_seat lane = record { acts = []; lane = lane; answer = replicate 8 0; entry_at = 0; lines = []; refused = None }

-- the same, ready for the first entry of its items
abbrev pub first_seat : List ℕ → List Item → ℕ → Seat
first_seat lane items cpu = ready_for (acts_for cpu items) (fresh_seat lane)
