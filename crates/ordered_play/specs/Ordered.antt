-- The play of a trace in an order of processors: each takes its own items in their order, and the order says whose next
-- entry or exit comes. This project's own.
use Rattle.std.specs.Prelude.{ℕ, ◌+◌, ◌^◌, nat_lt, List, [], ◌∷◌, ◌++◌, length, map, slice_get, slice_set}
use Rattle.std.specs.Prelude.{Option, Some, None, if◌then◌else◌}
use Rattle.std.specs.List.{range_with_len}
use Rattle.std.specs.Option.{option_and_then, option_map}
use Rattle.base.specs.Zeros.{zeros}
use Rattle.event_journal.specs.Journal.{copied_bytes}
use Rattle.event_journal.specs.declared.event.Event.{Event}
use Rattle.event_journal.specs.declared.event.Event.TheVariants.{Exit}
use Rattle.kernel_model.specs.Application.{Booted, Native, booted}
use Rattle.kernel_model.specs.Entry.{entry}
use Rattle.kernel_model.specs.Exit.{Exited, exit}
use Rattle.kernel_model.specs.History.{after_event}
use Rattle.kernel_model.specs.Kernel.{Kernel, Visit, first_kernel}
use Rattle.ns_ram.specs.Reader.{over_lane}
use Rattle.ns_ram.specs.Reads.{total_bytes}
use Rattle.ns_ram.specs.declared.read.Read.{Read}
use Rattle.play_model.specs.Play.{entry_event, filled, number_in}
use Rattle.ta_isa.specs.declared.boot.Boot.{Boot}
use Rattle.trace_text.specs.declared.item.Reg.{Reg}
use Rattle.trace_text.specs.declared.trace.Trace.{Trace}
use Rattle.ordered_play.specs.Act.{Act, Comes, Leaves, Writes, Shows}
use Rattle.ordered_play.specs.Seat.{Refusal, Seat, Told, first_seat, ready_for, with_line, with_writes}

-- what a play in an order has come to
pub record OrderedPlay : Type 0 where
  pub kernel : Kernel
  -- all entries and exits so far
  pub history : List Event
  -- the processors, by their number
  pub seats : List Seat

-- the kernel of the boot, and for each processor this RAM with the fills
abbrev pub first_ordered : List ℕ → Booted → Trace → OrderedPlay
first_ordered ram boot trace = record {
  kernel = first_kernel boot;
  history = [];
  seats = map (first_seat (filled ram trace.fills) trace.items) (range_with_len 0 boot.cpus);
}

-- a processor has come to this
abbrev pub with_seat : ℕ → Seat → OrderedPlay → OrderedPlay
with_seat cpu seat play = record play { seats = slice_set play.seats cpu seat }

-- an event comes, where it can follow on those before it, and its processor has then come to this
abbrev pub with_event : Booted → ℕ → Seat → Event → OrderedPlay → Option OrderedPlay
with_event boot cpu seat event play =
    let then_play = λ (next : Kernel).
    with_seat cpu seat (record play { kernel = next; history = play.history ++ event ∷ [] }) in
    option_map then_play (after_event boot play.kernel event)

-- ---- an entry

-- a processor comes in with registers that may name those of its last answer
abbrev pub visit_with : ℕ → Seat → ℕ → List Reg → Visit
visit_with cpu seat steps regs = record { cpu = cpu; regs = map (number_in seat.answer) regs; steps = steps }

-- the processor whose entry is refused: it does nothing more
abbrev pub refused_seat : Seat → Refusal → Seat
refused_seat seat refusal = record seat { acts = []; refused = Some refusal }

-- an entry with these reads, and these acts behind it: where all entries would then have read more than 2^28 bytes, it is
-- refused, and the other processors go on
abbrev pub enters_with : Booted → OrderedPlay → Seat → List Act → Visit → List Read → Option OrderedPlay
enters_with boot play seat acts visit reads =
    let copied = copied_bytes play.history in
    let more = total_bytes reads in
    if nat_lt (2 ^ 28) (copied + more)
    then Some (with_seat visit.cpu (refused_seat seat (record { copied = copied; more = more })) play)
    else with_event boot visit.cpu (ready_for acts (record seat { entry_at = length play.history }))
    (entry_event visit reads) play

-- what an entry at this kernel reads of its processor's RAM
abbrev pub reads_of : Booted → Kernel → Seat → Visit → Option (List Read)
reads_of boot kernel seat visit = option_map (λ end. end.1) (over_lane (entry boot kernel visit) seat.lane [])

-- an entry
abbrev pub enters : Booted → OrderedPlay → Seat → List Act → Visit → Option OrderedPlay
enters boot play seat acts visit =
    option_and_then (enters_with boot play seat acts visit) (reads_of boot play.kernel seat visit)

-- ---- an exit

-- an exit at this place that comes to this: its writes, its line, its answer, and what follows up to the next entry or exit
abbrev pub gone_seat : Seat → List Act → ℕ → Exited → Seat
gone_seat seat acts at exited =
    ready_for acts (with_line (Told exited.regs seat.entry_at at)
    (with_writes exited.writes (record seat { answer = exited.regs })))

abbrev pub leaves_with : Booted → OrderedPlay → ℕ → Seat → List Act → Exited → Option OrderedPlay
leaves_with boot play cpu seat acts exited =
    with_event boot cpu (gone_seat seat acts (length play.history) exited)
    (Exit cpu (record { a = exited.regs })) play

-- ---- in an order

-- the play after a processor's next entry or exit, where it has one to come
abbrev pub after_act : Booted → OrderedPlay → ℕ → Seat → List Act → Option OrderedPlay
after_act boot play cpu seat [] = None
after_act boot play cpu seat (Comes steps regs ∷ acts) =
    enters boot play seat acts (visit_with cpu seat steps regs)
after_act boot play cpu seat (Leaves ∷ acts) =
    option_and_then (leaves_with boot play cpu seat acts) (exit play.kernel cpu)
after_act boot play cpu seat (Writes addr bytes ∷ acts) = None
after_act boot play cpu seat (Shows addr len ∷ acts) = None

abbrev pub after_turn : Booted → ℕ → OrderedPlay → Option OrderedPlay
after_turn boot cpu play =
    option_and_then (λ (seat : Seat). after_act boot play cpu seat seat.acts) (slice_get play.seats cpu)

-- the play after the entries and exits of these processors, in this order
abbrev pub after_turns : Booted → List ℕ → OrderedPlay → Option OrderedPlay
after_turns boot [] play = Some play
after_turns boot (cpu ∷ order) play = option_and_then (after_turns boot order) (after_turn boot cpu play)

-- the play of a trace that has this boot, beside built-in applications, where each processor's RAM is this at first
abbrev pub played_in_over : List ℕ → List Native → Boot → Trace → List ℕ → Option OrderedPlay
played_in_over ram natives boot trace order =
    let on = booted boot natives in after_turns on order (first_ordered ram on trace)

-- the same over RAM of zeros
abbrev pub played_in : List Native → Boot → Trace → List ℕ → Option OrderedPlay
played_in natives boot trace order = played_in_over (zeros 0x400000) natives boot trace order
