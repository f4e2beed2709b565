-- Plays of written scripts with signals, and what they print; and what exits ask of a desk. RAM is shorter here: none of the
-- scripts looks behind its first bytes.
use Rattle.std.specs.Prelude.{◌≡◌, ℕ, List, [], ◌∷◌, ◌++◌, Option, Some, codes, map, replicate, true}
use Rattle.std.specs.List.{flat_map, fold}
use Rattle.std.specs.Option.{option_and_then, option_map}
use Rattle.event_journal.specs.declared.event.Event.{Event}
use Rattle.event_journal.specs.declared.event.Event.TheVariants.{Entry, Exit}
use Rattle.kernel_model.specs.Application.{Native}
use Rattle.kernel_model.specs.Worked.{answer, half, head}
use Rattle.native_tas.specs.declared.driver_relation.DriverRelation.TheVariants.{Echo, Fixed}
use Rattle.native_tas.specs.declared.relation.Relation.TheVariants.{Digest}
use Rattle.notif.specs.Desk.{DeskState}
use Rattle.notif.specs.History.{BottomHalf, DeskCall, Enable, Next, Signal, Stop}
use Rattle.notify_text.specs.Rules.{after_line, no_lines, notify_trace_in}
use Rattle.notify_text.specs.Steps.{Signals, Takes}
use Rattle.notify_text.specs.declared.notify_trace.NotifyTrace.{NotifyTrace}
use Rattle.ns_ram.specs.Examples.{read_of}
use Rattle.play_model.specs.Examples.{lines}
use Rattle.play_model.specs.Order.{Comes, Leaves}
use Rattle.play_model.specs.Play.{played_over}
use Rattle.play_model.specs.Text.{text_of_play}
use Rattle.smc_abi.specs.declared.regs.Regs.{Regs}
use Rattle.ta_isa.specs.declared.boot.Boot.{Boot}
use Rattle.trace_text.specs.Limits.{no_front, trace_in}
use Rattle.trace_text.specs.Rules as trace
use Rattle.trace_text.specs.declared.item.Item.TheVariants as item
use Rattle.trace_text.specs.declared.item.Reg.{Reg}
use Rattle.trace_text.specs.declared.item.Reg.TheVariants.{Num}
use Rattle.notify_play.specs.Asked.{asked, signalled}
use Rattle.notify_play.specs.Duty.{Duty, Enables, Nothing, Offers, RunsBottomHalf, Stops, TellsValue, duty_of, last_entry}
use Rattle.notify_play.specs.NotifyPlay.{Drivers, NotifyPlay, notify_played_over}
use Rattle.notify_play.specs.Order.{Lead, Moment, Moves, Signalled, at_first, told_then, turns_of}
use Rattle.notify_play.specs.Parts.{enabled_twice, enabled_twice_output, more_pending, more_pending_output}
use Rattle.notify_play.specs.Parts.{nothing_signalled, nothing_signalled_output, one_by_one, one_by_one_output}
use Rattle.notify_play.specs.Parts.{out_of_frames, out_of_frames_output, resumed, resumed_output}
use Rattle.notify_play.specs.Parts.{stopped_while_suspended, stopped_while_suspended_output}
use Rattle.notify_play.specs.Told.{told_regs, told_writes}
use Rattle.notify_play.specs.Text.{notify_text_of, notify_text_of_play}

-- ---- what is played

-- the digest application of UUID 3f0c7a11-52b8-4d6e-9a40-0e6b5d2c8f01
abbrev pub natives : List Native
natives =
    (0x3f ∷ 0x0c ∷ 0x7a ∷ 0x11 ∷ 0x52 ∷ 0xb8 ∷ 0x4d ∷ 0x6e ∷ 0x9a ∷ 0x40 ∷ 0x0e ∷ 0x6b ∷ 0x5d ∷ 0x2c ∷ 0x8f ∷ 0x01 ∷ [], Digest)
    ∷ []

-- a driver of value 1 that answers the number of its signals
abbrev pub echo : Drivers
echo = (1, Echo) ∷ []

-- the trace that these lines spell, beside a boot or without
abbrev pub spelled_by : List (List ℕ) → NotifyTrace
spelled_by text = notify_trace_in (fold after_line no_lines text)

-- its play over so many bytes of RAM
abbrev pub play_of : ℕ → List (List ℕ) → Option NotifyPlay
play_of bytes text =
    let told = spelled_by text in
    option_and_then (λ (on : Boot). notify_played_over (replicate bytes 0) natives echo on told) told.trace.boot

-- what that prints
abbrev pub prints : ℕ → List (List ℕ) → Option (List ℕ)
prints bytes text = option_map notify_text_of_play (play_of bytes text)

-- what the play of a trace without signals prints
abbrev pub prints_without : List (List ℕ) → Option (List ℕ)
prints_without text =
    let without = trace_in (fold trace.after_line no_front text) in
    option_map text_of_play
    (option_and_then (λ (on : Boot). played_over (replicate 64 0) natives on without) without.boot)

-- ---- scripts

abbrev pub boot_line : List ℕ
boot_line = codes "boot 1 1 1"

abbrev pub enable_line : List ℕ
enable_line = codes "smc 0 1 b2000010 0 0 0 0 0 0 0"

abbrev pub get_line : List ℕ
get_line = codes "smc 0 1 b2000011 0 0 0 0 0 0 0"

-- a command without parameters at 40000000, the call, and its result
abbrev pub bottom_half_lines : List (List ℕ)
bottom_half_lines =
    codes "write 0 40000000 0600000000000000000000000000000000000000000000000000000000000000"
    ∷ codes "smc 0 1000 32000004 0 40000000 0 0 0 0 0"
    ∷ codes "show 0 40000014 8"
    ∷ []

abbrev pub stop_lines : List (List ℕ)
stop_lines =
    codes "write 0 40000000 0700000000000000000000000000000000000000000000000000000000000000"
    ∷ codes "smc 0 1000 32000004 0 40000000 0 0 0 0 0"
    ∷ codes "show 0 40000014 8"
    ∷ []

-- signals of a value and of a driver, which are told, and counted by a bottom half
abbrev pub values_and_a_bottom_half : List (List ℕ)
values_and_a_bottom_half =
    (boot_line
    ∷ enable_line
    ∷ codes "signal 5"
    ∷ codes "signal 5"
    ∷ codes "signal 1"
    ∷ get_line
    ∷ get_line
    ∷ get_line
    ∷ [])
    ++ bottom_half_lines
    ++ bottom_half_lines

-- a desk that these values pend at
abbrev pub desk_with : List ℕ → DeskState
desk_with pending = record { enabled = true; pending = pending; counts = [] }

-- registers of a caller, who named this function
abbrev pub calls_for : ℕ → List ℕ
calls_for id = id ∷ 1 ∷ 2 ∷ 3 ∷ 4 ∷ 5 ∷ 6 ∷ 7 ∷ []

-- an entry for it, which read the head of a command at 40000000
abbrev pub came_for : ℕ → ℕ → Event
came_for id cmd =
    Entry 0 (record { a = calls_for id }) 1 (read_of 0x40000000 (head cmd 0 0 0) ∷ [])

-- what its exit asks of the desk, where the kernel says this in a0
abbrev pub asked_for : ℕ → ℕ → ℕ → Duty
asked_for id cmd a0 = duty_of (last_entry (came_for id cmd ∷ []) 0) a0

-- registers that name this function
abbrev pub registers_for : ℕ → List Reg
registers_for id = map (λ n. Num n) (calls_for id)

-- the kernel's answer to a function that it doesn't know
abbrev pub unknown_said : Regs
unknown_said = record { a = answer 0xffffffff }

-- behind the entry of a call for it, where the desk was called so
abbrev pub inside_for : ℕ → List DeskCall → Moment
inside_for id calls = record { history = came_for id 0 ∷ []; told = came_for id 0 ∷ []; calls = calls }

pub record Examples : Type 0 where
  -- what exits ask of the desk
  pub asks_for_value : asked_for 0xb2000011 0 0xffffffff ≡ TellsValue
  pub asks_to_enable : asked_for 0xb2000010 0 0xffffffff ≡ Enables
  pub asks_what_there_is : asked_for 0xb2000009 0 0 ≡ Offers
  pub asks_nothing : asked_for 0xb200000f 0 0 ≡ Nothing
  pub bottom_half_asked : asked_for 0x32000004 6 5 ≡ RunsBottomHalf 0x40000000
  pub stop_asked : asked_for 0x32000004 7 5 ≡ Stops 0x40000000
  -- another command that the kernel doesn't know, one that it refuses for another cause, and a return from RPC
  pub unknown : asked_for 0x32000004 8 5 ≡ Nothing
  pub no_slot : asked_for 0x32000004 6 1 ≡ Nothing
  pub no_new_call : asked_for 0x32000003 6 5 ≡ Nothing
  -- the entry is the processor's last one
  pub last_of_two : last_entry (came_for 1 6 ∷ came_for 2 7 ∷ Exit 0 (record { a = [] }) ∷ []) 0
      ≡ record { regs = calls_for 2; reads = read_of 0x40000000 (head 7 0 0 0) ∷ [] }
  -- what is told: a value alone, one with more behind it, none
  pub one_value : told_regs (desk_with (9 ∷ [])) (calls_for 0xb2000011) (answer 0xffffffff) TellsValue
      ≡ 0 ∷ 9 ∷ 1 ∷ 0 ∷ 4 ∷ 5 ∷ 6 ∷ 7 ∷ []
  pub more_values : told_regs (desk_with (9 ∷ 0 ∷ [])) (calls_for 0xb2000011) (answer 0xffffffff) TellsValue
      ≡ 0 ∷ 9 ∷ 3 ∷ 0 ∷ 4 ∷ 5 ∷ 6 ∷ 7 ∷ []
  pub no_value : told_regs (desk_with []) (calls_for 0xb2000011) (answer 0xffffffff) TellsValue
      ≡ 0 ∷ 0 ∷ 0 ∷ 0 ∷ 4 ∷ 5 ∷ 6 ∷ 7 ∷ []
  -- capabilities with their OK, and refused with ENOTAVAIL
  pub offered : told_regs (desk_with []) (calls_for 0xb2000009) (0 ∷ 0x54 ∷ 0 ∷ 4 ∷ replicate 4 0) Offers
      ≡ 0 ∷ 0x74 ∷ 0x3f ∷ 4 ∷ replicate 4 0
  pub not_available : told_regs (desk_with []) (calls_for 0xb2000009) (7 ∷ 0x54 ∷ 0 ∷ 0 ∷ replicate 4 0) Offers
      ≡ 7 ∷ 0x74 ∷ 0 ∷ 0 ∷ replicate 4 0
  -- what is told behind a signal: a value where the exit asks for one, and else the kernel's answer
  pub told_a_value : told_then echo (inside_for 0xb2000011 (Signal 5 ∷ Enable ∷ [])) 0 unknown_said
      ≡ record { a = 0 ∷ 5 ∷ 1 ∷ 0 ∷ 4 ∷ 5 ∷ 6 ∷ 7 ∷ [] }
  pub told_as_ever : told_then echo (inside_for 0xb200000f (Signal 5 ∷ Enable ∷ [])) 0 unknown_said ≡ unknown_said
  -- a step that enters and leaves, and one that signals
  pub three_turns : flat_map turns_of (Takes (item.Smc 0 9 []) ∷ Signals 5 ∷ [])
      ≡ Moves (Comes 0 9 []) ∷ Moves (Leaves 0) ∷ Signalled 5 ∷ []
  -- an entry, a signal and an exit lead from where the desk was enabled to where it was asked for a value
  pub signalled_between : Lead echo (record at_first { calls = Enable ∷ [] })
      (Moves (Comes 0 1 (registers_for 0xb2000011)) ∷ Signalled 5 ∷ Moves (Leaves 0) ∷ [])
      (came_for 0xb2000011 0 ∷ Exit 0 unknown_said ∷ [])
      (record {
        history = came_for 0xb2000011 0 ∷ Exit 0 unknown_said ∷ [];
        told = came_for 0xb2000011 0 ∷ Exit 0 (record { a = 0 ∷ 5 ∷ 1 ∷ 0 ∷ 4 ∷ 5 ∷ 6 ∷ 7 ∷ [] }) ∷ [];
        calls = Next ∷ Signal 5 ∷ Enable ∷ [];
      })
  -- a bottom half of a driver that answers 3
  pub result_written : told_writes ((1, Fixed 3) ∷ [])
      (record { enabled = true; pending = []; counts = record { value = 1; count = 2 } ∷ [] })
      (RunsBottomHalf 0x40000000)
      ≡ record { addr = 0x40000014; bytes = half 3 } ∷ record { addr = 0x40000018; bytes = half 3 } ∷ []
  -- values, a bottom half, and another one
  pub worked : prints 64 values_and_a_bottom_half ≡ lines (
      codes "ret 0 00000000 00000000 00000000 00000000 00000000 00000000 00000000 00000000"
      ∷ codes "ret 0 00000000 00000005 00000003 00000000 00000000 00000000 00000000 00000000"
      ∷ codes "ret 0 00000000 00000000 00000001 00000000 00000000 00000000 00000000 00000000"
      ∷ codes "ret 0 00000000 00000000 00000000 00000000 00000000 00000000 00000000 00000000"
      ∷ codes "ret 0 00000000 00000000 00000000 00000000 00000000 00000000 00000000 00000000"
      ∷ codes "mem 0 40000014 0100000003000000"
      ∷ codes "ret 0 00000000 00000000 00000000 00000000 00000000 00000000 00000000 00000000"
      ∷ codes "mem 0 40000014 0000000003000000"
      ∷ [])
  -- the same calls, where signals are nobody's
  pub without : prints_without (
      boot_line
      ∷ enable_line
      ∷ codes "write 0 40000000 0600000000000000000000000000000000000000000000000000000000000000"
      ∷ codes "smc 0 1000 32000004 0 40000000 0 0 0 0 0"
      ∷ [])
      ≡ lines (
      codes "ret 0 ffffffff 00000000 00000000 00000000 00000000 00000000 00000000 00000000"
      ∷ codes "ret 0 00000005 00000000 00000000 00000000 00000000 00000000 00000000 00000000"
      ∷ [])
  -- a signal between the entry and the exit of the call that asks for a value is told; and a later call finds the
  -- registers that were told
  pub told_at_exit : prints 64 (
      boot_line
      ∷ enable_line
      ∷ codes "enter 0 1 b2000011 0 0 0 0 0 0 0"
      ∷ codes "signal 9"
      ∷ codes "leave 0"
      ∷ codes "smc 0 1 99 0 0 0 =1 =2 0 0"
      ∷ [])
      ≡ lines (
      codes "ret 0 00000000 00000000 00000000 00000000 00000000 00000000 00000000 00000000"
      ∷ codes "ret 0 00000000 00000009 00000001 00000000 00000000 00000000 00000000 00000000"
      ∷ codes "ret 0 ffffffff 00000000 00000000 00000000 00000009 00000001 00000000 00000000"
      ∷ [])
  -- one between the entry and the exit of the call that enables isn't noted, since signals don't count yet
  pub before_enabling : prints 64 (
      boot_line
      ∷ codes "enter 0 1 b2000010 0 0 0 0 0 0 0"
      ∷ codes "signal 5"
      ∷ codes "leave 0"
      ∷ codes "signal 9"
      ∷ get_line
      ∷ [])
      ≡ lines (
      codes "ret 0 00000000 00000000 00000000 00000000 00000000 00000000 00000000 00000000"
      ∷ codes "ret 0 00000000 00000009 00000001 00000000 00000000 00000000 00000000 00000000"
      ∷ [])
  -- one between the entry and the exit of a bottom half is counted with one before
  pub during_bottom_half : prints 64 (
      boot_line
      ∷ enable_line
      ∷ codes "signal 1"
      ∷ codes "write 0 40000000 0600000000000000000000000000000000000000000000000000000000000000"
      ∷ codes "enter 0 1 32000004 0 40000000 0 0 0 0 0"
      ∷ codes "signal 1"
      ∷ codes "leave 0"
      ∷ codes "show 0 40000014 8"
      ∷ [])
      ≡ lines (
      codes "ret 0 00000000 00000000 00000000 00000000 00000000 00000000 00000000 00000000"
      ∷ codes "ret 0 00000000 00000000 00000000 00000000 00000000 00000000 00000000 00000000"
      ∷ codes "mem 0 40000014 0200000003000000"
      ∷ [])
  -- an exit belongs to its own processor's last entry, where another one came in between: processor 0 asks for a value,
  -- and processor 1 calls an unknown function
  pub of_two_processors : prints 64 (
      codes "boot 2 1 1"
      ∷ enable_line
      ∷ codes "signal 9"
      ∷ codes "enter 0 1 b2000011 0 0 0 0 0 0 0"
      ∷ codes "enter 1 1 99 0 0 0 0 0 0 0"
      ∷ codes "leave 0"
      ∷ get_line
      ∷ codes "leave 1"
      ∷ [])
      ≡ lines (
      codes "ret 0 00000000 00000000 00000000 00000000 00000000 00000000 00000000 00000000"
      ∷ codes "ret 0 00000000 00000009 00000001 00000000 00000000 00000000 00000000 00000000"
      ∷ codes "ret 0 00000000 00000000 00000000 00000000 00000000 00000000 00000000 00000000"
      ∷ codes "ret 1 ffffffff 00000000 00000000 00000000 00000000 00000000 00000000 00000000"
      ∷ [])
  -- a signal before enabling and one before a stop are gone; the calls of the desk, the last one first
  pub stopped : prints 64 (
      (boot_line ∷ codes "signal 9" ∷ enable_line ∷ codes "signal 1" ∷ []) ++ stop_lines ++ bottom_half_lines
      ++ get_line ∷ [])
      ≡ lines (
      codes "ret 0 00000000 00000000 00000000 00000000 00000000 00000000 00000000 00000000"
      ∷ codes "ret 0 00000000 00000000 00000000 00000000 00000000 00000000 00000000 00000000"
      ∷ codes "mem 0 40000014 0000000003000000"
      ∷ codes "ret 0 00000000 00000000 00000000 00000000 00000000 00000000 00000000 00000000"
      ∷ codes "mem 0 40000014 0000000003000000"
      ∷ codes "ret 0 00000000 00000000 00000000 00000000 00000000 00000000 00000000 00000000"
      ∷ [])
  pub calls_of_desk : option_map (λ (told : NotifyPlay). told.calls) (play_of 64 (
      (boot_line ∷ codes "signal 9" ∷ enable_line ∷ get_line ∷ []) ++ bottom_half_lines ++ stop_lines))
      ≡ Some (Stop ∷ BottomHalf ∷ Next ∷ Enable ∷ Signal 9 ∷ [])
  -- what asks for them: of two steps the later signal stands first; and exits ask, here to enable, and then for a bottom half
  pub signalled_last : signalled (Signals 5 ∷ Signals 9 ∷ []) ≡ 9 ∷ 5 ∷ []
  pub asked_last : asked [] (
      came_for 0xb2000010 0
      ∷ Exit 0 (record { a = answer 0xffffffff })
      ∷ came_for 0x32000004 6
      ∷ Exit 0 (record { a = answer 5 })
      ∷ [])
      ≡ BottomHalf ∷ Enable ∷ []
  -- the command is the one that the entry copied, and its result goes to the head that was read
  pub copied_at_entry : prints 64 (
      boot_line
      ∷ codes "write 0 40000008 0700000000000000000000000000000000000000000000000000000000000000"
      ∷ codes "enter 0 1 32000004 0 40000008 0 0 0 0 0"
      ∷ codes "write 0 40000008 08000000"
      ∷ codes "leave 0"
      ∷ codes "show 0 40000008 32"
      ∷ [])
      ≡ lines (
      codes "ret 0 00000000 00000000 00000000 00000000 00000000 00000000 00000000 00000000"
      ∷ codes "mem 0 40000008 0800000000000000000000000000000000000000000000000300000000000000"
      ∷ [])
  -- without a boot there is nothing to print
  pub no_boot : notify_text_of [] [] (notify_trace_in no_lines) ≡ Some []
  -- longer scripts
  pub of_one_processor : prints 192 one_by_one ≡ lines one_by_one_output
  pub of_a_resumed_call : prints 4248 resumed ≡ lines resumed_output
  pub of_more_pending : prints 0x30740 more_pending ≡ lines more_pending_output
  pub of_two_enables : prints 192 enabled_twice ≡ lines enabled_twice_output
  pub of_no_signal : prints 128 nothing_signalled ≡ lines nothing_signalled_output
  pub of_a_stop : prints 128 stopped_while_suspended ≡ lines stopped_while_suspended_output
  pub of_few_frames : prints 224 out_of_frames ≡ lines out_of_frames_output
