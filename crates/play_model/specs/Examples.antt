-- Plays of written scripts, and what they print. RAM is shorter here: none of the scripts looks behind its first bytes.
use Rattle.std.specs.Prelude.{◌≡◌, ℕ, List, [], ◌∷◌, ◌++◌, Option, Some, None, codes, map, replicate}
use Rattle.std.specs.List.{flat_map}
use Rattle.std.specs.Option.{option_map}
use Rattle.kernel_model.specs.Application.{booted}
use Rattle.kernel_model.specs.Worked.{add, app_with, boot_with, call_of, half, head, names, offer_of, param, resume_of}
use Rattle.kernel_model.specs.Worked.{wait}
use Rattle.ta_isa.specs.declared.boot.Boot.{Boot}
use Rattle.trace_text.specs.declared.item.Item.{Item}
use Rattle.trace_text.specs.declared.item.Item.TheVariants.{Smc, Enter, Leave, Write, Show}
use Rattle.trace_text.specs.declared.item.Reg.TheVariants.{Num, Last}
use Rattle.trace_text.specs.declared.trace.Fill.{Fill}
use Rattle.play_model.specs.Line.{mem_line, register_text, ret_line}
use Rattle.play_model.specs.Play.{Play, after_items, first_play, played_over, played_within}
use Rattle.play_model.specs.Text.{text_of, text_of_play}

-- ---- scripts

-- a core whose application is the adder: so many processors, threads and frames
abbrev pub adding : ℕ → ℕ → ℕ → Boot
adding cpus threads frames = boot_with cpus threads frames (app_with add ∷ [])

-- `smc`, `enter` and `write`, with numbers in all registers
abbrev pub smc : ℕ → ℕ → List ℕ → Item
smc cpu steps regs = Smc cpu steps (map (λ n. Num n) regs)

abbrev pub enter : ℕ → ℕ → List ℕ → Item
enter cpu steps regs = Enter cpu steps (map (λ n. Num n) regs)

abbrev pub write : ℕ → List ℕ → Item
write addr bytes = Write 0 addr bytes

-- a call of no client with its argument at 40000000
abbrev pub calls : ℕ → Item
calls cpu = smc cpu 1000 (call_of 0)

-- the argument of an open stands at 40000000
abbrev pub open_fill : List Fill
open_fill = record { addr = 0x40000000; bytes = head 0 0 0 2 ++ names } ∷ []

-- a core whose application asks to be suspended
abbrev pub waiting : ℕ → ℕ → ℕ → Boot
waiting cpus threads frames = boot_with cpus threads frames (app_with wait ∷ [])

-- an invoke of its function 250 is written for a processor
abbrev pub wait_written : ℕ → Item
wait_written cpu = Write cpu 0x40000000 (head 1 250 1 0)

-- and is called
abbrev pub waits : ℕ → Item
waits cpu = smc cpu 9 (call_of 0)

-- an invoke of the adder with 5 and 7 is written there
abbrev pub invoke_written : Item
invoke_written = write 0x40000000 (head 1 0 1 1 ++ param 3 5 7 0)

-- who are you, a fast call
abbrev pub uid : List ℕ
uid = 0xbf00ff01 ∷ replicate 7 0

-- an unknown call, whose last four registers are the first four of its processor's last answer
abbrev pub tells_back : ℕ → Item
tells_back cpu = Smc cpu 1 (Num 0x99 ∷ Num 0 ∷ Num 0 ∷ Num 0 ∷ Last 0 ∷ Last 1 ∷ Last 2 ∷ Last 3 ∷ [])

-- ---- what they print

-- the play of these fills and items, over so many bytes of RAM
abbrev pub play_of : ℕ → Boot → List Fill → List Item → Option Play
play_of bytes boot fills items =
    played_over (replicate bytes 0) [] boot (record { boot = Some boot; fills = fills; items = items })

-- what it prints, over 256 bytes or as many as a script needs
abbrev pub prints_over : ℕ → Boot → List Fill → List Item → Option (List ℕ)
prints_over bytes boot fills items = option_map text_of_play (play_of bytes boot fills items)

abbrev pub prints : Boot → List Fill → List Item → Option (List ℕ)
prints boot fills items = prints_over 256 boot fills items

-- these lines, each ended by a line feed
abbrev pub lines : List (List ℕ) → Option (List ℕ)
lines texts = Some (flat_map (λ text. text ++ 10 ∷ []) texts)

-- a play that has ended at a refused entry
abbrev pub ended : Play
ended = record (first_play (replicate 256 0) (booted (adding 1 1 1) []) []) { refused = Some 32 }

-- where the last of so many opens was refused, how many bytes it would have read: all entries may read so many
abbrev pub refused_open : ℕ → ℕ → Option (Option ℕ)
refused_open opens most_bytes =
    option_map (λ (play : Play). play.refused)
    (played_within most_bytes (replicate 256 0) [] (adding 1 1 2)
    (record { boot = Some (adding 1 1 2); fills = open_fill; items = replicate opens (calls 0) }))

pub record Examples : Type 0 where
  -- the parts of a line
  pub register : register_text 0xbf00ff01 ≡ codes " bf00ff01"
  pub small_register : register_text 20 ≡ codes " 00000014"
  pub ret : ret_line 3 (1 ∷ 2 ∷ []) ≡ codes "ret 3 00000001 00000002" ++ 10 ∷ []
  pub mem : mem_line 7 0x40000014 (0 ∷ 0x1f ∷ []) ≡ codes "mem 7 40000014 001f" ++ 10 ∷ []
  -- a text without a boot prints nothing
  pub nothing : text_of [] (record { boot = None; fills = []; items = [] }) ≡ Some []
  -- a fast call
  pub fast_call : prints (boot_with 1 1 1 []) [] (smc 0 1 uid ∷ [])
      ≡ lines (codes "ret 0 384fb3e0 e7f811e3 af630002 a5d5c51b 00000000 00000000 00000000 00000000" ∷ [])
  -- an open, an invoke, a close, and an invoke of the session that isn't there any more
  pub open_invoke_close : prints (adding 1 1 1) open_fill (
      calls 0
      ∷ Show 0 0x40000008 4
      ∷ Show 0 0x40000014 8
      ∷ invoke_written
      ∷ calls 0
      ∷ Show 0 0x40000028 16
      ∷ write 0x40000000 (half 2)
      ∷ calls 0
      ∷ Show 0 0x40000014 8
      ∷ write 0x40000000 (half 1)
      ∷ calls 0
      ∷ Show 0 0x40000014 8
      ∷ [])
      ≡ lines (
      codes "ret 0 00000000 00000000 00000000 00000000 00000000 00000000 00000000 00000000"
      ∷ codes "mem 0 40000008 01000000"
      ∷ codes "mem 0 40000014 0000000004000000"
      ∷ codes "ret 0 00000000 00000000 00000000 00000000 00000000 00000000 00000000 00000000"
      ∷ codes "mem 0 40000028 0c000000000000000000000000000000"
      ∷ codes "ret 0 00000000 00000000 00000000 00000000 00000000 00000000 00000000 00000000"
      ∷ codes "mem 0 40000014 0000000003000000"
      ∷ codes "ret 0 00000000 00000000 00000000 00000000 00000000 00000000 00000000 00000000"
      ∷ codes "mem 0 40000014 0600ffff03000000"
      ∷ [])
  -- a suspended call, which another client can't resume
  pub other_client : prints (adding 1 1 1) open_fill (
      smc 0 1000 (call_of 5)
      ∷ invoke_written
      ∷ smc 0 1 (call_of 5)
      ∷ smc 0 9 (resume_of 0 6)
      ∷ smc 0 9 (resume_of 0 5)
      ∷ Show 0 0x40000028 4
      ∷ [])
      ≡ lines (
      codes "ret 0 00000000 00000000 00000000 00000000 00000000 00000000 00000000 00000005"
      ∷ codes "ret 0 ffff0004 00000000 00000000 00000000 00000000 00000000 00000000 00000005"
      ∷ codes "ret 0 00000003 00000000 00000000 00000000 00000000 00000000 00000000 00000006"
      ∷ codes "ret 0 00000000 00000000 00000000 00000000 00000000 00000000 00000000 00000005"
      ∷ codes "mem 0 40000028 0c000000"
      ∷ [])
  -- what is written between an entry and its exit isn't read
  pub copied_once : prints (adding 1 1 1) open_fill (
      calls 0
      ∷ invoke_written
      ∷ enter 0 1000 (call_of 0)
      ∷ write 0x40000008 (half 9)
      ∷ Leave 0
      ∷ Show 0 0x40000028 4
      ∷ Show 0 0x40000008 4
      ∷ [])
      ≡ lines (
      codes "ret 0 00000000 00000000 00000000 00000000 00000000 00000000 00000000 00000000"
      ∷ codes "ret 0 00000000 00000000 00000000 00000000 00000000 00000000 00000000 00000000"
      ∷ codes "mem 0 40000028 0c000000"
      ∷ codes "mem 0 40000008 09000000"
      ∷ [])
  -- three processors on two threads, each with RAM of its own
  pub three_processors : prints (adding 3 2 8) open_fill (
      enter 0 1000 (call_of 0)
      ∷ enter 1 1000 (call_of 0)
      ∷ calls 2
      ∷ Leave 0
      ∷ calls 2
      ∷ Leave 1
      ∷ Show 0 0x40000008 4
      ∷ Show 1 0x40000008 4
      ∷ Show 2 0x40000008 4
      ∷ [])
      ≡ lines (
      codes "ret 2 00000001 00000000 00000000 00000000 00000000 00000000 00000000 00000000"
      ∷ codes "ret 0 00000000 00000000 00000000 00000000 00000000 00000000 00000000 00000000"
      ∷ codes "ret 2 00000000 00000000 00000000 00000000 00000000 00000000 00000000 00000000"
      ∷ codes "ret 1 00000000 00000000 00000000 00000000 00000000 00000000 00000000 00000000"
      ∷ codes "mem 0 40000008 01000000"
      ∷ codes "mem 1 40000008 02000000"
      ∷ codes "mem 2 40000008 03000000"
      ∷ [])
  -- a call that is suspended in a buffer of its caller
  pub suspended : prints_over 0x10040 (waiting 1 1 1) open_fill (
      calls 0
      ∷ wait_written 0
      ∷ waits 0
      ∷ smc 0 9 (offer_of 0 0x40010000 0x77)
      ∷ Show 0 0x40010000 4
      ∷ Show 0 0x40010028 8
      ∷ smc 0 9 (resume_of 0 0)
      ∷ smc 0 9 (resume_of 0 0)
      ∷ Show 0 0x40000014 8
      ∷ [])
      ≡ lines (
      codes "ret 0 00000000 00000000 00000000 00000000 00000000 00000000 00000000 00000000"
      ∷ codes "ret 0 ffff0000 00001000 00000000 00000000 00000000 00000000 00000000 00000000"
      ∷ codes "ret 0 ffff0005 00000000 00000077 00000000 00000000 00000077 00000000 00000000"
      ∷ codes "mem 0 40010000 05000000"
      ∷ codes "mem 0 40010028 fa00000000000000"
      ∷ codes "ret 0 ffff0002 00000000 00000077 00000000 00000000 00000000 00000000 00000000"
      ∷ codes "ret 0 00000000 00000000 00000000 00000000 00000000 00000000 00000000 00000000"
      ∷ codes "mem 0 40000014 0000000004000000"
      ∷ [])
  -- two processors, each with RAM of its own: the call of the second waits for the first, which wakes it
  pub woken : prints_over 0x20040 (waiting 2 2 1) open_fill (
      calls 0
      ∷ wait_written 0
      ∷ wait_written 1
      ∷ waits 0
      ∷ waits 1
      ∷ smc 1 9 (offer_of 1 0x40020000 0x88)
      ∷ Show 1 0x40020000 4
      ∷ Show 1 0x40020028 16
      ∷ smc 1 9 (resume_of 1 0)
      ∷ smc 0 9 (resume_of 0 0)
      ∷ smc 0 9 (offer_of 0 0x40010000 0x77)
      ∷ Show 0 0x40010000 4
      ∷ Show 0 0x40010028 16
      ∷ smc 1 9 (resume_of 1 0)
      ∷ Show 1 0x40020000 4
      ∷ smc 0 9 (resume_of 0 0)
      ∷ smc 0 9 (resume_of 0 0)
      ∷ Show 0 0x40000014 8
      ∷ smc 1 9 (resume_of 1 0)
      ∷ smc 1 9 (resume_of 1 0)
      ∷ Show 1 0x40000014 8
      ∷ [])
      ≡ lines (
      codes "ret 0 00000000 00000000 00000000 00000000 00000000 00000000 00000000 00000000"
      ∷ codes "ret 0 ffff0000 00001000 00000000 00000000 00000000 00000000 00000000 00000000"
      ∷ codes "ret 1 ffff0000 00001000 00000000 00000001 00000000 00000000 00000000 00000000"
      ∷ codes "ret 1 ffff0005 00000000 00000088 00000001 00000000 00000088 00000000 00000000"
      ∷ codes "mem 1 40020000 04000000"
      ∷ codes "mem 1 40020028 00000000000000000100000000000000"
      ∷ codes "ret 1 ffff0005 00000000 00000088 00000001 00000000 00000000 00000000 00000000"
      ∷ codes "ret 0 ffff0000 00001000 00000000 00000000 00000000 00000000 00000000 00000000"
      ∷ codes "ret 0 ffff0005 00000000 00000077 00000000 00000000 00000077 00000000 00000000"
      ∷ codes "mem 0 40010000 04000000"
      ∷ codes "mem 0 40010028 01000000000000000100000000000000"
      ∷ codes "ret 1 ffff0005 00000000 00000088 00000001 00000000 00000000 00000000 00000000"
      ∷ codes "mem 1 40020000 05000000"
      ∷ codes "ret 0 ffff0002 00000000 00000077 00000000 00000000 00000000 00000000 00000000"
      ∷ codes "ret 0 00000000 00000000 00000000 00000000 00000000 00000000 00000000 00000000"
      ∷ codes "mem 0 40000014 0c00ffff04000000"
      ∷ codes "ret 1 ffff0002 00000000 00000088 00000001 00000000 00000000 00000000 00000000"
      ∷ codes "ret 1 00000000 00000000 00000000 00000000 00000000 00000000 00000000 00000000"
      ∷ codes "mem 1 40000014 0000000004000000"
      ∷ [])
  -- registers of the last answer of the same processor, and of one that has had none
  pub last_answers : prints (boot_with 2 1 1 []) [] (smc 0 1 uid ∷ tells_back 1 ∷ tells_back 0 ∷ [])
      ≡ lines (
      codes "ret 0 384fb3e0 e7f811e3 af630002 a5d5c51b 00000000 00000000 00000000 00000000"
      ∷ codes "ret 1 ffffffff 00000000 00000000 00000000 00000000 00000000 00000000 00000000"
      ∷ codes "ret 0 ffffffff 00000000 00000000 00000000 384fb3e0 e7f811e3 af630002 a5d5c51b"
      ∷ [])
  -- nothing comes behind a refused entry
  pub ends : after_items (booted (adding 1 1 1) []) (smc 0 1 uid ∷ Show 0 0x40000000 1 ∷ []) ended ≡ Some ended
  -- an open reads 96 bytes, and two of them read 192: the last comes in where all entries may read as many
  pub open_within : refused_open 1 96 ≡ Some None
  pub open_above : refused_open 1 95 ≡ Some (Some 96)
  pub opens_within : refused_open 2 192 ≡ Some None
  pub opens_above : refused_open 2 191 ≡ Some (Some 96)
  -- a processor that is outside can't leave, and one that is inside can't enter
  pub none_outside : play_of 256 (adding 1 1 1) [] (Leave 0 ∷ []) ≡ None
  pub none_inside : play_of 256 (adding 1 1 1) [] (enter 0 1 uid ∷ smc 0 1 uid ∷ []) ≡ None
