-- The play of a trace: what its items make of the kernel, of each processor's RAM and of the history, one after the
-- other, and what they print. This project's own.
use Rattle.std.specs.Prelude.{ℕ, ◌+◌, ◌^◌, ◌==◌, nat_lt, List, [], ◌∷◌, ◌++◌, map, replicate, slice_index}
use Rattle.std.specs.Prelude.{slice_index_or, slice_set, Option, Some, None, if◌then◌else◌}
use Rattle.std.specs.Option.{option_and_then, option_map, option_map_or}
use Rattle.base.specs.Zeros.{zeros}
use Rattle.event_journal.specs.Journal.{copied_bytes}
use Rattle.event_journal.specs.declared.event.Event.{Event}
use Rattle.event_journal.specs.declared.event.Event.TheVariants.{Entry, Exit}
use Rattle.kernel_model.specs.Application.{Booted, Native, booted}
use Rattle.kernel_model.specs.Entry.{entry}
use Rattle.kernel_model.specs.Exit.{Exited, exit}
use Rattle.kernel_model.specs.History.{after_event}
use Rattle.kernel_model.specs.Kernel.{Kernel, Visit, first_kernel}
use Rattle.ns_ram.specs.Lane.{bytes_at}
use Rattle.ns_ram.specs.Reader.{over_lane}
use Rattle.ns_ram.specs.Reads.{total_bytes}
use Rattle.ns_ram.specs.Writes.{Write, lane_after}
use Rattle.ns_ram.specs.declared.read.Read.{Read}
use Rattle.ta_isa.specs.declared.boot.Boot.{Boot}
use Rattle.trace_text.specs.declared.item.Item.{Item}
use Rattle.trace_text.specs.declared.item.Item.TheVariants as item
use Rattle.trace_text.specs.declared.item.Reg.{Reg}
use Rattle.trace_text.specs.declared.item.Reg.TheVariants.{Num, Last}
use Rattle.trace_text.specs.declared.trace.Fill.{Fill}
use Rattle.trace_text.specs.declared.trace.Trace.{Trace}
use Rattle.play_model.specs.Line.{Line, Ret, Mem}

-- what a play has come to
pub record Play : Type 0 where
  pub kernel : Kernel
  -- all entries and exits so far
  pub history : List Event
  -- the RAM that each processor sees, by the processor's number
  pub lanes : List (List ℕ)
  -- what was printed
  pub lines : List Line
  -- where an entry was refused, which ends the play: how many bytes it would have read
  pub refused : Option ℕ
  -- the most bytes that all entries may read of RAM
  pub most_bytes : ℕ

-- ---- the beginning

-- RAM with the bytes of the fills, each over those before it
abbrev pub filled : List ℕ → List Fill → List ℕ
filled ram fills = lane_after ram (map (λ (fill : Fill). record { addr = fill.addr; bytes = fill.bytes }) fills)

-- the kernel of the boot, and this RAM with the fills for each processor, where all entries may read so many bytes
abbrev pub first_play_within : ℕ → List ℕ → Booted → List Fill → Play
first_play_within most_bytes ram boot fills = record {
  kernel = first_kernel boot;
  history = [];
  lanes = replicate boot.cpus (filled ram fills);
  lines = [];
  refused = None;
  most_bytes = most_bytes;
}

-- those of a trace may read 2^28
abbrev pub first_play : List ℕ → Booted → List Fill → Play
first_play ram boot fills = first_play_within (2 ^ 28) ram boot fills

-- ---- what an item can change

-- an event comes, where it can follow on those before it
abbrev pub with_event : Booted → Event → Play → Option Play
with_event boot event play =
    let then_play = λ (next : Kernel). record play { kernel = next; history = play.history ++ event ∷ [] } in
    option_map then_play (after_event boot play.kernel event)

-- the RAM that a processor sees
abbrev pub lane_of : Play → ℕ → List ℕ
lane_of play cpu = slice_index_or play.lanes cpu []

-- bytes are written to a processor's RAM, in this order
abbrev pub with_writes : ℕ → List Write → Play → Play
with_writes cpu writes play = record play { lanes = slice_set play.lanes cpu (lane_after (lane_of play cpu) writes) }

-- a line is printed
abbrev pub with_line : Line → Play → Play
with_line line play = record play { lines = play.lines ++ line ∷ [] }

-- ---- an entry

-- the registers that a processor last went out with among these events; or else these
abbrev pub told_last : ℕ → List ℕ → List Event → List ℕ
told_last cpu regs [] = regs
told_last cpu regs (Entry came given steps reads ∷ events) = told_last cpu regs events
told_last cpu regs (Exit went told ∷ events) = told_last cpu (if went == cpu then told.a else regs) events

-- the registers of a processor's last answer; zeros before any
abbrev pub last_answer : List Event → ℕ → List ℕ
last_answer history cpu = told_last cpu (replicate 8 0) history

-- what a register holds, a number or a register of this answer
abbrev pub number_in : List ℕ → Reg → ℕ
number_in answer (Num number) = number
number_in answer (Last register) = slice_index answer register

-- a processor that comes in with these registers
abbrev pub visit_of : List Event → ℕ → ℕ → List Reg → Visit
visit_of history cpu steps regs =
    record { cpu = cpu; regs = map (number_in (last_answer history cpu)) regs; steps = steps }

-- the event of its entry, with these reads
abbrev pub entry_event : Visit → List Read → Event
entry_event visit reads = Entry visit.cpu (record { a = visit.regs }) visit.steps reads

-- what its entry reads of its RAM
abbrev pub reads_of : Booted → Play → Visit → Option (List Read)
reads_of boot play visit =
    option_map (λ end. end.1) (over_lane (entry boot play.kernel visit) (lane_of play visit.cpu) [])

-- an entry with these reads: where all entries would then have read more bytes than they may, it is refused
abbrev pub enters_with : Booted → Play → Visit → List Read → Option Play
enters_with boot play visit reads =
    if nat_lt play.most_bytes (copied_bytes play.history + total_bytes reads)
    then Some (record play { refused = Some (total_bytes reads) })
    else with_event boot (entry_event visit reads) play

-- an entry
abbrev pub enters : Booted → Play → Visit → Option Play
enters boot play visit = option_and_then (enters_with boot play visit) (reads_of boot play visit)

-- ---- an exit

-- an exit that comes to this: its event, then what it writes, then its line
abbrev pub leaves_with : Booted → Play → ℕ → Exited → Option Play
leaves_with boot play cpu exited =
    let tells = λ (next : Play). with_line (Ret cpu exited.regs) (with_writes cpu exited.writes next) in
    option_map tells (with_event boot (Exit cpu (record { a = exited.regs })) play)

-- an exit
abbrev pub leaves : Booted → ℕ → Play → Option Play
leaves boot cpu play = option_and_then (leaves_with boot play cpu) (exit play.kernel cpu)

-- ---- items

-- what follows, unless an entry was refused
abbrev pub unless_refused : (Play → Option Play) → Play → Option Play
unless_refused onward play = option_map_or (λ more. Some play) play.refused (onward play)

-- the play after an item, where that can come
abbrev pub after_item : Booted → Item → Play → Option Play
after_item boot (item.Smc cpu steps regs) play =
    option_and_then (unless_refused (leaves boot cpu)) (enters boot play (visit_of play.history cpu steps regs))
after_item boot (item.Enter cpu steps regs) play = enters boot play (visit_of play.history cpu steps regs)
after_item boot (item.Leave cpu) play = leaves boot cpu play
after_item boot (item.Write cpu addr bytes) play =
    Some (with_writes cpu (record { addr = addr; bytes = bytes } ∷ []) play)
after_item boot (item.Show cpu addr len) play =
    Some (with_line (Mem cpu addr (bytes_at (lane_of play cpu) addr len)) play)

-- the play after items in their order, where each can come
abbrev pub after_items : Booted → List Item → Play → Option Play
after_items boot [] play = Some play
after_items boot (first ∷ items) play =
    option_and_then (λ next. after_items boot items next) (unless_refused (after_item boot first) play)

-- ---- traces

-- the play of a trace that has this boot, beside built-in applications, where each processor's RAM is this at first, and
-- all entries may read so many bytes
abbrev pub played_within : ℕ → List ℕ → List Native → Boot → Trace → Option Play
played_within most_bytes ram natives boot trace =
    let on = booted boot natives in
    after_items on trace.items (first_play_within most_bytes ram on trace.fills)

-- the same where they may read 2^28, as those of a trace may
abbrev pub played_over : List ℕ → List Native → Boot → Trace → Option Play
played_over ram natives boot trace = played_within (2 ^ 28) ram natives boot trace

-- the same over RAM of zeros
abbrev pub played : List Native → Boot → Trace → Option Play
played natives boot trace = played_over (zeros 0x400000) natives boot trace
