-- The play of a trace with signals: the play of a trace, in which a desk of signals answers above the core. What it changes
-- is changed at the exits, where later items find it; the history keeps the kernel's own answers. This project's own.
use Rattle.std.specs.Prelude.{ℕ, ◌^◌, List, [], ◌∷◌, ◌++◌, map, replicate, slice_index_or, slice_set, Option, Some}
use Rattle.std.specs.Option.{option_and_then, option_map, option_map_or}
use Rattle.base.specs.Zeros.{zeros}
use Rattle.event_journal.specs.declared.event.Event.TheVariants.{Exit}
use Rattle.kernel_model.specs.Application.{Booted, Native, booted}
use Rattle.kernel_model.specs.Argument.{reg}
use Rattle.kernel_model.specs.Exit.{Exited, exit}
use Rattle.kernel_model.specs.Kernel.{Visit}
use Rattle.native_tas.specs.declared.driver_relation.DriverRelation.{DriverRelation}
use Rattle.notif.specs.Desk.{DeskState}
use Rattle.notif.specs.History.{DeskCall, Signal, desk_after}
use Rattle.notify_text.specs.Steps.{Signals, Step, Takes, steps_of}
use Rattle.notify_text.specs.declared.notify_trace.NotifyTrace.{NotifyTrace}
use Rattle.play_model.specs.Line.{Ret}
use Rattle.play_model.specs.Play.{Play, enters, first_play_within, number_in, with_event, with_line, with_writes}
use Rattle.play_model.specs.Play as trace_play
use Rattle.ta_isa.specs.declared.boot.Boot.{Boot}
use Rattle.trace_text.specs.declared.item.Item.{Item}
use Rattle.trace_text.specs.declared.item.Item.TheVariants as item
use Rattle.trace_text.specs.declared.item.Reg.{Reg}
use Rattle.notify_play.specs.Duty.{Duty, duty_of, last_entry}
use Rattle.notify_play.specs.Told.{told_regs, told_writes, with_duty}

-- the drivers that signals are for: of each its value, and what it answers
abbrev pub Drivers : Type 0
Drivers = List (ℕ × DriverRelation)

-- what a play with signals has come to
pub record NotifyPlay : Type 0 where
  -- the kernel with its history; RAM and lines as the desk changed them
  pub play : Play
  -- the registers that each processor last went out with, by the processor's number; zeros before any
  pub answers : List (List ℕ)
  -- the calls of the desk so far, the last one first
  pub calls : List DeskCall

-- the play as the kernel makes it, so far, and none has gone out; the desk is new
abbrev pub first_notify_play : Booted → Play → NotifyPlay
first_notify_play boot play = record { play = play; answers = replicate boot.cpus (replicate 8 0); calls = [] }

-- the desk by now
abbrev pub desk_of : Drivers → NotifyPlay → DeskState
desk_of drivers before = desk_after drivers before.calls

-- ---- an entry

-- a processor comes in with registers that may name those of the last answer that it was told
abbrev pub visit_with : NotifyPlay → ℕ → ℕ → List Reg → Visit
visit_with before cpu steps regs =
    record { cpu = cpu; regs = map (number_in (slice_index_or before.answers cpu [])) regs; steps = steps }

-- the kernel's play comes to this
abbrev pub with_play : NotifyPlay → Play → NotifyPlay
with_play before play = record before { play = play }

-- an entry is the kernel's
abbrev pub comes_in : Booted → ℕ → ℕ → List Reg → NotifyPlay → Option NotifyPlay
comes_in boot cpu steps regs before =
    option_map (with_play before) (enters boot before.play (visit_with before cpu steps regs))

-- ---- an exit

-- what the exit of a processor asks of the desk, where the kernel's exit comes to this
abbrev pub duty_at : NotifyPlay → ℕ → Exited → Duty
duty_at before cpu exited = duty_of (last_entry before.play.history cpu) (reg exited.regs 0)

-- the play, where the exit is an event with the kernel's answer; then what the kernel writes, what the desk writes, and the
-- line of what is told
abbrev pub tells : Drivers → NotifyPlay → ℕ → Exited → Duty → Play → NotifyPlay
tells drivers before cpu exited duty gone =
    let desk = desk_of drivers before in
    let regs = told_regs desk (last_entry before.play.history cpu).regs exited.regs duty in
    record {
      play = with_line (Ret cpu regs) (with_writes cpu (exited.writes ++ told_writes drivers desk duty) gone);
      answers = slice_set before.answers cpu regs;
      calls = with_duty duty before.calls;
    }

-- an exit that comes to this in the kernel
abbrev pub goes_out_with : Booted → Drivers → NotifyPlay → ℕ → Exited → Option NotifyPlay
goes_out_with boot drivers before cpu exited =
    option_map (tells drivers before cpu exited (duty_at before cpu exited))
    (with_event boot (Exit cpu (record { a = exited.regs })) before.play)

-- an exit
abbrev pub goes_out : Booted → Drivers → ℕ → NotifyPlay → Option NotifyPlay
goes_out boot drivers cpu before =
    option_and_then (goes_out_with boot drivers before cpu) (exit before.play.kernel cpu)

-- ---- steps

-- what follows, unless an entry was refused
abbrev pub unless_refused : (NotifyPlay → Option NotifyPlay) → NotifyPlay → Option NotifyPlay
unless_refused onward before = option_map_or (λ more. Some before) before.play.refused (onward before)

-- the play after an item that nobody goes in or out by: it is that of a trace
abbrev pub after_ram_item : Booted → Item → NotifyPlay → Option NotifyPlay
after_ram_item boot i before = option_map (with_play before) (trace_play.after_item boot i before.play)

-- the play after an item, where that can come
abbrev pub after_item : Booted → Drivers → Item → NotifyPlay → Option NotifyPlay
after_item boot drivers (item.Smc cpu steps regs) before =
    option_and_then (unless_refused (goes_out boot drivers cpu)) (comes_in boot cpu steps regs before)
after_item boot drivers (item.Enter cpu steps regs) before = comes_in boot cpu steps regs before
after_item boot drivers (item.Leave cpu) before = goes_out boot drivers cpu before
after_item boot drivers (item.Write cpu addr bytes) before = after_ram_item boot (item.Write cpu addr bytes) before
after_item boot drivers (item.Show cpu addr len) before = after_ram_item boot (item.Show cpu addr len) before

-- the play after a step: a signal is one of the desk's calls, and of nothing else
abbrev pub after_step : Booted → Drivers → Step → NotifyPlay → Option NotifyPlay
after_step boot drivers (Takes i) before = after_item boot drivers i before
after_step boot drivers (Signals value) before = Some (record before { calls = Signal value ∷ before.calls })

-- the play after steps in their order, where each can come
abbrev pub after_steps : Booted → Drivers → List Step → NotifyPlay → Option NotifyPlay
after_steps boot drivers [] before = Some before
after_steps boot drivers (first ∷ steps) before =
    option_and_then (λ next. after_steps boot drivers steps next)
    (unless_refused (after_step boot drivers first) before)

-- ---- traces

-- the play of a trace that has this boot, beside built-in applications and drivers, where each processor's RAM is this at
-- first, and all entries may read so many bytes
abbrev pub notify_played_within : ℕ → List ℕ → List Native → Drivers → Boot → NotifyTrace → Option NotifyPlay
notify_played_within most_bytes ram natives drivers boot told =
    let on = booted boot natives in
    after_steps on drivers (steps_of told) (first_notify_play on (first_play_within most_bytes ram on told.trace.fills))

-- the same where they may read 2^28, as those of a trace may
abbrev pub notify_played_over : List ℕ → List Native → Drivers → Boot → NotifyTrace → Option NotifyPlay
notify_played_over ram natives drivers boot told = notify_played_within (2 ^ 28) ram natives drivers boot told

-- the same over RAM of zeros
abbrev pub notify_played : List Native → Drivers → Boot → NotifyTrace → Option NotifyPlay
notify_played natives drivers boot told = notify_played_over (zeros 0x400000) natives drivers boot told
