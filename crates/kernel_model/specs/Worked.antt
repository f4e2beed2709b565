-- What the examples are written with: small boots, the bytes of arguments, and processors that come in and go out.
use Rattle.std.specs.Prelude.{ℕ, List, [], ◌∷◌, ◌++◌, Option, Some, replicate, take, slice_get}
use Rattle.std.specs.Int.{w32, w64, to_le_bytes}
use Rattle.std.specs.List.{flat_map}
use Rattle.std.specs.Option.{option_map, option_and_then}
use Rattle.event_journal.specs.declared.event.Event.{Event}
use Rattle.event_journal.specs.declared.event.Event.TheVariants.{Entry, Exit}
use Rattle.ns_ram.specs.declared.read.Read.{Read}
use Rattle.ns_ram.specs.Examples.{read_of}
use Rattle.ns_ram.specs.Reads.{listed}
use Rattle.ns_ram.specs.Writes.{Write}
use Rattle.native_tas.specs.declared.relation.Relation.TheVariants.{Fixed}
use Rattle.ta_isa.specs.declared.boot.App.{App}
use Rattle.ta_isa.specs.declared.boot.Boot.{Boot}
use Rattle.kernel_model.specs.Application.{Booted, booted}
use Rattle.ta_isa.specs.declared.image.Image.{Image}
use Rattle.ta_isa.specs.declared.image.Instr.{Instr}
use Rattle.ta_step.specs.Examples.{instr, sum_code, panic_code, mark_code}
use Rattle.kernel_model.specs.Exit.{Exited, exit}
use Rattle.kernel_model.specs.History.{after_event, entry_from}
use Rattle.kernel_model.specs.Kernel.{Kernel, Visit, first_kernel}

-- ---- applications

-- 11111111-2222-3333-4444-555555555555
abbrev pub uuid : List ℕ
uuid = replicate 4 0x11 ++ replicate 2 0x22 ++ replicate 2 0x33 ++ replicate 2 0x44 ++ replicate 6 0x55

-- of one page, with these flags, entry points and instructions
abbrev pub image_with : ℕ → List ℕ → List Instr → Image
image_with flags entries code = record { flags = flags; pages = 1; entries = entries; code = code }

-- all entry points but the invoke return at once
abbrev pub invoked_at_one : List ℕ
invoked_at_one = 0 ∷ 0 ∷ 1 ∷ 0 ∷ 0 ∷ []

-- answers the sum of two numbers in the value that they came in
abbrev pub add : Image
add = image_with 0 invoked_at_one sum_code

-- panics where the function isn't 0
abbrev pub panic : Image
panic = image_with 0 invoked_at_one panic_code

-- returns the word at address 0, and leaves 5 there
abbrev pub mark : Image
mark = image_with 0 invoked_at_one mark_code

-- stores 41 (hexadecimal) in the first buffer, and sets its size to the function
abbrev pub size : Image
size = image_with 0 invoked_at_one (
    instr 0x18 0 0 0 0
    ∷ instr 0x02 1 0 0 0
    ∷ instr 0x01 0 0 0 0
    ∷ instr 0x01 2 0 0 0x41
    ∷ instr 0x01 3 0 0 0x10000000
    ∷ instr 0x0f 0 3 2 0
    ∷ instr 0x18 0 0 0 6
    ∷ instr 0x18 0 0 0 0
    ∷ [])

-- returns what r0 has from the first instruction on, and a number from the second
abbrev pub returning : ℕ → List Instr
returning number = instr 0x18 0 0 0 0 ∷ instr 0x01 0 0 0 number ∷ instr 0x18 0 0 0 0 ∷ []

-- its create returns 7, its open does, its open panics, its open returns 0 whatever its parameters are
abbrev pub create_fails : Image
create_fails = image_with 0 (1 ∷ 0 ∷ 0 ∷ 0 ∷ 0 ∷ []) (returning 7)

abbrev pub open_fails : Image
open_fails = image_with 0 (0 ∷ 1 ∷ 0 ∷ 0 ∷ 0 ∷ []) (returning 7)

abbrev pub open_panics : Image
open_panics = image_with 0 (0 ∷ 3 ∷ 0 ∷ 0 ∷ 0 ∷ []) panic_code

abbrev pub open_succeeds : Image
open_succeeds = image_with 0 (0 ∷ 1 ∷ 0 ∷ 0 ∷ 0 ∷ []) (returning 0)

-- asks for the time, to be suspended for as many milliseconds as the function says, and the same where it may be
-- cancelled; and returns the result
abbrev pub time : Image
time = image_with 0 invoked_at_one (instr 0x18 0 0 0 0 ∷ instr 0x18 0 0 0 11 ∷ instr 0x18 0 0 0 0 ∷ [])

abbrev pub wait : Image
wait = image_with 0 invoked_at_one (instr 0x18 0 0 0 0 ∷ instr 0x18 0 0 0 12 ∷ instr 0x18 0 0 0 0 ∷ [])

abbrev pub wait_unmasked : Image
wait_unmasked = image_with 0 invoked_at_one (
    instr 0x18 0 0 0 0
    ∷ instr 0x02 3 0 0 0
    ∷ instr 0x18 0 0 0 10
    ∷ instr 0x02 0 3 0 0
    ∷ instr 0x18 0 0 0 12
    ∷ instr 0x18 0 0 0 0
    ∷ [])

-- makes the object of the id 41 (hexadecimal), and opens it and reads four bytes of it to 256; either returns the first
-- result that isn't SUCCESS
abbrev pub store : Image
store = image_with 0 invoked_at_one (
    instr 0x18 0 0 0 0
    ∷ instr 0x01 2 0 0 0x41
    ∷ instr 0x0f 0 3 2 0
    ∷ instr 0x01 0 0 0 0
    ∷ instr 0x01 1 0 0 1
    ∷ instr 0x18 0 0 0 13
    ∷ instr 0x18 0 0 0 0
    ∷ [])

abbrev pub load : Image
load = image_with 0 invoked_at_one (
    instr 0x18 0 0 0 0
    ∷ instr 0x01 2 0 0 0x41
    ∷ instr 0x0f 0 3 2 0
    ∷ instr 0x01 0 0 0 0
    ∷ instr 0x01 1 0 0 1
    ∷ instr 0x18 0 0 0 14
    ∷ instr 0x12 0 0 3 11
    ∷ instr 0x02 0 1 0 0
    ∷ instr 0x01 1 0 0 256
    ∷ instr 0x01 2 0 0 4
    ∷ instr 0x18 0 0 0 15
    ∷ instr 0x18 0 0 0 0
    ∷ [])

-- an image with instance flags
abbrev pub flagged : ℕ → Image → Image
flagged flags image = record image { flags = flags }

-- so many processors, threads and frames, and these applications, under a key of zeros
abbrev pub boot_with : ℕ → ℕ → ℕ → List App → Boot
boot_with cpus threads frames apps = record { cpus = cpus; threads = threads; frames = frames; apps = apps; key = replicate 32 0 }

-- an application of this image
abbrev pub app_with : Image → App
app_with image = record { uuid = uuid; image = image }

-- a core with that application
abbrev pub boot : ℕ → ℕ → ℕ → Image → Booted
boot cpus threads frames image = booted (boot_with cpus threads frames (app_with image ∷ [])) []

-- a core whose only application is built in, and answers each invoke so
abbrev pub boot_native : ℕ → ℕ → ℕ → ℕ → Booted
boot_native cpus threads frames result =
    booted (boot_with cpus threads frames []) ((uuid, Fixed result) ∷ [])

-- ---- arguments

abbrev pub half : ℕ → List ℕ
half number = to_le_bytes w32 number

abbrev pub word : ℕ → List ℕ
word number = to_le_bytes w64 number

-- a head without padding, with what was written there before as result and origin
abbrev pub used_head : ℕ → ℕ → ℕ → ℕ → ℕ → ℕ → ℕ → List ℕ
used_head cmd func session cancel_id ret origin count =
    flat_map half (cmd ∷ func ∷ session ∷ cancel_id ∷ 0 ∷ ret ∷ origin ∷ count ∷ [])

abbrev pub head : ℕ → ℕ → ℕ → ℕ → List ℕ
head cmd func session count = used_head cmd func session 0 0 0 count

abbrev pub param : ℕ → ℕ → ℕ → ℕ → List ℕ
param attr p q s = flat_map word (attr ∷ p ∷ q ∷ s ∷ [])

-- the reads of an argument at 40000000
abbrev pub argument : List ℕ → List ℕ → List Read
argument head_bytes params = read_of 0x40000000 head_bytes ∷ listed 0x40000020 params

-- the application, and a client that is nobody
abbrev pub names : List ℕ
names = param 0x101 0x3333222211111111 0x5555555555554444 0 ++ param 0x101 0 0 0

abbrev pub open_argument : List Read
open_argument = argument (head 0 0 0 2) names

-- an invoke of the adder with two numbers
abbrev pub adds : ℕ → ℕ → List Read
adds a b = argument (head 1 0 1 1) (param 3 a b 0)

-- an invoke of a function in a session, without parameters, and a close
abbrev pub invokes : ℕ → ℕ → List Read
invokes session func = argument (head 1 func session 0) []

abbrev pub closes : ℕ → List Read
closes session = argument (head 2 0 session 0) []

-- an invoke that can be cancelled by a number, and the cancel
abbrev pub invokes_by : ℕ → ℕ → ℕ → List Read
invokes_by session func cancel_id = argument (used_head 1 func session cancel_id 0 0 0) []

abbrev pub cancels : ℕ → ℕ → List Read
cancels session cancel_id = argument (used_head 3 0 session cancel_id 0 0 0) []

-- ---- processors

-- a processor comes in with registers, steps and reads, or goes out
pub data Move : Type 0 where
  Comes : (cpu : ℕ) (regs : List ℕ) (steps : ℕ) (reads : List Read) → Move
  Leaves : (cpu : ℕ) → Move

-- what it goes out with: its registers, and what is written
abbrev pub Return : Type 0
Return = List ℕ × List Write

-- a call of a client with its argument at 40000000
abbrev pub call_of : ℕ → List ℕ
call_of client = 0x32000004 ∷ 0 ∷ 0x40000000 ∷ 0 ∷ 0 ∷ 0 ∷ 0 ∷ client ∷ []

-- a resume of a thread by a client
abbrev pub resume_of : ℕ → ℕ → List ℕ
resume_of thread client = 0x32000003 ∷ 0 ∷ 0 ∷ thread ∷ 0 ∷ 0 ∷ 0 ∷ client ∷ []

-- the same with a buffer
abbrev pub offer_of : ℕ → ℕ → ℕ → List ℕ
offer_of thread addr cookie = 0x32000003 ∷ 0 ∷ addr ∷ thread ∷ 0 ∷ cookie ∷ 0 ∷ 0 ∷ []

-- in and out again
abbrev pub both : ℕ → ℕ → List ℕ → List Read → List Move
both cpu steps regs reads = Comes cpu regs steps reads ∷ Leaves cpu ∷ []

abbrev pub call : ℕ → ℕ → List Read → List Move
call cpu steps reads = both cpu steps (call_of 0) reads

abbrev pub resume : ℕ → ℕ → ℕ → List Move
resume cpu steps thread = both cpu steps (resume_of thread 0) []

abbrev pub offer : ℕ → ℕ → ℕ → ℕ → ℕ → List Move
offer cpu steps thread addr cookie = both cpu steps (offer_of thread addr cookie) []

abbrev pub opens : List Move
opens = call 0 1000 open_argument

-- the kernel and the returns after a move
abbrev pub gone_out : List Return → Exited → Kernel × List Return
gone_out returns exited = (exited.kernel, returns ++ (exited.regs, exited.writes) ∷ [])

abbrev pub moved : Booted → Kernel → List Return → Move → Option (Kernel × List Return)
moved on kernel returns (Comes cpu regs steps reads) =
    let visit : Visit = record { cpu = cpu; regs = regs; steps = steps } in
    let entered = option_and_then (entry_from on kernel visit reads) (slice_get kernel.processors cpu) in
    option_map (λ (next : Kernel). (next, returns)) entered
moved on kernel returns (Leaves cpu) = option_map (gone_out returns) (exit kernel cpu)

abbrev pub all_moved : Booted → Kernel → List Return → List Move → Option (Kernel × List Return)
all_moved on kernel returns [] = Some (kernel, returns)
all_moved on kernel returns (move ∷ moves) =
    option_and_then (λ step. all_moved on step.0 step.1 moves) (moved on kernel returns move)

-- what comes of moves from a kernel on
abbrev pub returns_from : Booted → Kernel → List Move → Option (List Return)
returns_from on kernel moves = option_map (λ step. step.1) (all_moved on kernel [] moves)

abbrev pub kernel_of : Booted → List Move → Option Kernel
kernel_of on moves = option_map (λ step. step.0) (all_moved on (first_kernel on) [] moves)

-- what comes of moves from the boot on
abbrev pub returns_of : Booted → List Move → Option (List Return)
returns_of on moves = returns_from on (first_kernel on) moves

-- what comes of moves after others
abbrev pub returns_after : Booted → List Move → List Move → Option (List Return)
returns_after on before moves = option_and_then (λ kernel. returns_from on kernel moves) (kernel_of on before)

-- the same moves as a history
abbrev pub event_of_exit : ℕ → Exited → Event
event_of_exit cpu exited = Exit cpu (record { a = exited.regs })

abbrev pub event_of : Kernel → Move → Option Event
event_of kernel (Comes cpu regs steps reads) = Some (Entry cpu (record { a = regs }) steps reads)
event_of kernel (Leaves cpu) = option_map (event_of_exit cpu) (exit kernel cpu)

abbrev pub history_from : Booted → Kernel → List Event → List Move → Option (List Event)
history_from on kernel history [] = Some history
history_from on kernel history (move ∷ moves) =
    let goes_on = λ (event : Event).
    option_and_then (λ next. history_from on next (history ++ event ∷ []) moves) (after_event on kernel event) in
    option_and_then goes_on (event_of kernel move)

abbrev pub history_of : Booted → List Move → Option (List Event)
history_of on moves = history_from on (first_kernel on) [] moves

-- ---- returns

-- a0, and zeros
abbrev pub answer : ℕ → List ℕ
answer a0 = a0 ∷ replicate 7 0

abbrev pub writes_at : ℕ → List ℕ → Write
writes_at addr bytes = record { addr = addr; bytes = bytes }

-- result and origin, in the argument at 40000000
abbrev pub result : ℕ → ℕ → List Write
result code origin = writes_at 0x40000014 (half code) ∷ writes_at 0x40000018 (half origin) ∷ []

-- OK, and before the result these writes
abbrev pub ok_with : List Write → ℕ → ℕ → Return
ok_with writes code origin = (answer 0, writes ++ result code origin)

abbrev pub ok : ℕ → ℕ → Return
ok code origin = ok_with [] code origin

-- an open that succeeded
abbrev pub opened : ℕ → Return
opened session = ok_with (writes_at 0x40000008 (half session) ∷ []) 0 4

-- the value of the first parameter
abbrev pub summed : ℕ → Return
summed sum = ok_with (writes_at 0x40000028 (word sum) ∷ writes_at 0x40000030 (word 0) ∷ []) 0 4

-- an interrupt of a thread
abbrev pub interrupt : ℕ → Return
interrupt thread = (0xffff0004 ∷ 0 ∷ 0 ∷ thread ∷ replicate 4 0, [])

-- a thread wants a buffer, or gives one back
abbrev pub wants_buffer : ℕ → Return
wants_buffer thread = (0xffff0000 ∷ 4096 ∷ 0 ∷ thread ∷ replicate 4 0, [])

abbrev pub gives_back : ℕ → ℕ → Return
gives_back thread cookie = (0xffff0002 ∷ 0 ∷ cookie ∷ thread ∷ replicate 4 0, [])

-- a thread has written a request of one value to its buffer, whose cookie the caller gave in a5 or not
abbrev pub requests : ℕ → ℕ → ℕ → ℕ → List ℕ → Return
requests thread addr cookie a5 bytes =
    (0xffff0005 ∷ 0 ∷ cookie ∷ thread ∷ 0 ∷ a5 ∷ 0 ∷ 0 ∷ [], writes_at addr bytes ∷ [])

-- such a request: its command, and what the value has; or none of it is told
abbrev pub tells : ℕ → ℕ → ℕ → List ℕ
tells cmd p q = used_head cmd 0 0 0 0xffff0000 0 1 ++ param 1 p q 0

abbrev pub asks_time : List ℕ
asks_time = used_head 3 0 0 0 0xffff0000 0 1 ++ param 2 0 0 0

-- the same to a caller that gave this in a5
abbrev pub with_a5 : ℕ → Return → Return
with_a5 a5 (regs, writes) = (take 5 regs ++ a5 ∷ replicate 2 0, writes)

-- an answer, and nothing is written
abbrev pub refused : ℕ → Return
refused a0 = (answer a0, [])

-- the same to a client
abbrev pub by_client : ℕ → Return → Return
by_client client (regs, writes) = (take 7 regs ++ client ∷ [], writes)

-- ---- buffers

-- a register and an unregister of a cookie
abbrev pub registers : ℕ → ℕ → ℕ → List ℕ
registers pointer bytes cookie = param 0x20a pointer bytes cookie

abbrev pub register_argument : ℕ → ℕ → ℕ → List Read
register_argument pointer bytes cookie = argument (head 4 0 0 1) (registers pointer bytes cookie)

abbrev pub unregister_argument : ℕ → List Read
unregister_argument cookie = argument (head 5 0 0 1) (param 5 0 0 cookie)

-- the page list at 40100000, with this page alone
abbrev pub list_of : ℕ → List Read
list_of page = read_of 0x40100000 (word page) ∷ []
