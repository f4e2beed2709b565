-- A processor's part of a history: what its own acts make of its RAM and its lines, where its events in the history are
-- theirs. Nothing else of the history enters but what its exits come to. This project's own.
use Rattle.std.specs.Prelude.{◌≡◌, ℕ, ◌+◌, ◌==◌, List, [], ◌∷◌, ◌++◌, Option, Some, None, if◌then◌else◌, map, take, drop}
use Rattle.event_journal.specs.declared.event.Event.{Event}
use Rattle.event_journal.specs.declared.event.Event.TheVariants.{Entry, Exit}
use Rattle.kernel_model.specs.Application.{Booted}
use Rattle.kernel_model.specs.Exit.{Exited}
use Rattle.kernel_model.specs.History.{exit_after}
use Rattle.kernel_model.specs.Turns.{cpu_of}
use Rattle.ns_ram.specs.Lane.{bytes_at}
use Rattle.ns_ram.specs.Reads.{HoldsReads}
use Rattle.ns_ram.specs.declared.read.Read.{Read}
use Rattle.play_model.specs.Play.{number_in}
use Rattle.trace_text.specs.declared.item.Item.{Item}
use Rattle.trace_text.specs.declared.item.Reg.{Reg}
use Rattle.ordered_play.specs.Act.{Act, Comes, Leaves, Writes, Shows, acts_for}
use Rattle.ordered_play.specs.Seat.{Seat, Told, Shown, fresh_seat, with_line, with_writes}

-- ---- a processor's events

-- the first event of a processor among these, which stand from this place on, and its place
abbrev pub first_of : ℕ → ℕ → List Event → Option (ℕ × Event)
first_of cpu at [] = None
first_of cpu at (event ∷ events) =
    if cpu_of event == cpu then Some (at, event) else first_of cpu (at + 1) events

-- the first from this place of a history on
abbrev pub next_event : List Event → ℕ → ℕ → Option (ℕ × Event)
next_event history cpu from = first_of cpu from (drop from history)

-- ---- one act

-- where a processor stands in a history: its events before `used` are those of the acts that it has done
pub record Standing : Type 0 where
  pub used : ℕ
  pub seat : Seat

-- a processor's share of a history
pub record Share : Type 0 where
  pub boot : Booted
  pub cpu : ℕ
  pub history : List Event

-- its next event is the entry with these registers and steps, and what it read are bytes of its RAM
pub record ComesIn (of : Share) (steps : ℕ) (regs : List Reg) (old new : Standing) : Type 0 where
  pub at : ℕ
  pub reads : List Read
  pub next : next_event of.history of.cpu old.used
      ≡ Some (at, Entry of.cpu (record { a = map (number_in old.seat.answer) regs }) steps reads)
  pub holds : HoldsReads old.seat.lane reads
  pub stands : new ≡ record { used = at + 1; seat = record old.seat { entry_at = at } }

-- its next event is an exit, with the registers and the writes of the kernel's exit there
pub record GoesOut (of : Share) (old new : Standing) : Type 0 where
  pub at : ℕ
  pub exited : Exited
  pub next : next_event of.history of.cpu old.used ≡ Some (at, Exit of.cpu (record { a = exited.regs }))
  pub exits : exit_after of.boot (take at of.history) of.cpu ≡ Some exited
  pub stands : new ≡ record {
    used = at + 1;
    seat = with_line (Told exited.regs old.seat.entry_at at)
        (with_writes exited.writes (record old.seat { answer = exited.regs }));
  }

-- the act makes this of where it stood
abbrev pub IsActOf : Share → Act → Standing → Standing → Type 0
IsActOf of (Comes steps regs) old new = ComesIn of steps regs old new
IsActOf of Leaves old new = GoesOut of old new
IsActOf of (Writes addr bytes) old new =
    new ≡ record old { seat = with_writes (record { addr = addr; bytes = bytes } ∷ []) old.seat }
IsActOf of (Shows addr len) old new =
    new ≡ record old { seat = with_line (Shown addr (bytes_at old.seat.lane addr len)) old.seat }

-- these acts do, one after the other
abbrev pub AreActsOf : Share → List Act → Standing → Standing → Type 0
AreActsOf of [] old new = new ≡ old
AreActsOf of (act ∷ acts) old new = (mid : Standing) × IsActOf of act old mid × AreActsOf of acts mid new

-- ---- a part

-- no event of the processor is left
abbrev pub IsSpent : Share → Standing → Type 0
IsSpent of standing = next_event of.history of.cpu standing.used ≡ None

-- the next act is an entry or an exit, or there is none
abbrev pub StopsAtEvent : List Act → Type 0
StopsAtEvent [] = Unit {0}
StopsAtEvent (Comes steps regs ∷ acts) = Unit {0}
StopsAtEvent (Leaves ∷ acts) = Unit {0}
StopsAtEvent (Writes addr bytes ∷ acts) = ⊥
StopsAtEvent (Shows addr len ∷ acts) = ⊥

-- what a processor's part is of: its share of a history, by these items and over this RAM
pub record Role : Type 0 where
  pub share : Share
  pub items : List Item
  pub lane : List ℕ

-- before its first act, with this RAM
abbrev pub first_standing : List ℕ → Standing
first_standing lane = record { used = 0; seat = fresh_seat lane }

-- the acts of its items, up to those that no event of the history is left for, are the processor's part of the history:
-- over its RAM they use up its events, and make this of it
pub record IsPart (of : Role) (end : Standing) : Type 0 where
  pub done : List Act
  pub left : List Act
  pub cut : acts_for of.share.cpu of.items ≡ done ++ left
  pub acts : AreActsOf of.share done (first_standing of.lane) end
  pub spent : IsSpent of.share end
  pub stops : StopsAtEvent left
