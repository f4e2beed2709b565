-- What a processor's RAM and lines are before its next entry or exit.
use Rattle.std.proofs.Common.{◌≡◌, List, [], ◌∷◌, refl}
use Rattle.ns_ram.specs.Lane.{bytes_at}
use Rattle.ordered_play.specs.Act.{Act, Comes, Leaves, Writes, Shows}
use Rattle.ordered_play.specs.Merge.{seat_left}
use Rattle.ordered_play.specs.Part.{StopsAtEvent}
use Rattle.ordered_play.specs.Seat.{Seat, Shown, ready_for, with_line, with_writes}

-- what was to come before doesn't count
pub ready_anew : (acts to_come : List Act) (seat : Seat)
    → ready_for acts (seat_left seat to_come) ≡ ready_for acts seat
ready_anew [] to_come seat = refl
ready_anew (Comes steps regs ∷ acts) to_come seat = refl
ready_anew (Leaves ∷ acts) to_come seat = refl
ready_anew (Writes addr bytes ∷ acts) to_come seat =
    ready_anew acts to_come (with_writes (record { addr = addr; bytes = bytes } ∷ []) seat)
ready_anew (Shows addr len ∷ acts) to_come seat =
    ready_anew acts to_come (with_line (Shown addr (bytes_at seat.lane addr len)) seat)

-- where an entry or an exit is next, nothing is written or shown before it
pub ready_stops : (acts : List Act) (seat : Seat) → StopsAtEvent acts → ready_for acts seat ≡ seat_left seat acts
ready_stops [] seat stops = refl
ready_stops (Comes steps regs ∷ acts) seat stops = refl
ready_stops (Leaves ∷ acts) seat stops = refl
ready_stops (Writes addr bytes ∷ acts) seat stops = absurd stops
ready_stops (Shows addr len ∷ acts) seat stops = absurd stops
