-- The trace that is made of a number. This project's own.
use Rattle.std.specs.Prelude.{ℕ, zero, suc, ◌+◌, ◌*◌, ◌/◌, ◌%◌, ◌^◌, List, [], ◌∷◌, ◌++◌, ◌==◌, if◌then◌else◌, Some, replicate}
use Rattle.ta_isa.specs.declared.boot.Boot.{Boot}
use Rattle.ta_isa.specs.declared.image.Image.{Image}
use Rattle.ta_isa.specs.declared.image.Instr.{Instr}
use Rattle.trace_text.specs.declared.item.Item.{Item}
use Rattle.trace_text.specs.declared.item.Item.TheVariants.{Smc, Write}
use Rattle.trace_text.specs.declared.item.Reg.{Reg}
use Rattle.trace_text.specs.declared.item.Reg.TheVariants.{Num}
use Rattle.trace_text.specs.declared.trace.Trace.{Trace}
use Rattle.workload.specs.Message.{head, param}

-- ---- the one application

abbrev pub instr : ℕ → ℕ → ℕ → ℕ → ℕ → Instr
instr op d a b imm = record { op = op; d = d; a = a; b = b; imm = imm }

-- its invoke, from instruction 1 on, sets parameter 0 to (a + b, 0); every other entry point returns
unfoldable pub add_image : Image
add_image = record {
  flags = 0;
  pages = 1;
  entries = 0 ∷ 0 ∷ 1 ∷ 0 ∷ 0 ∷ [];
  code =
      instr 0x18 0 0 0 0
      ∷ instr 0x01 0 0 0 0
      ∷ instr 0x18 0 0 0 3
      ∷ instr 0x03 1 0 1 0
      ∷ instr 0x01 0 0 0 0
      ∷ instr 0x18 0 0 0 4
      ∷ instr 0x18 0 0 0 0
      ∷ [];
}

-- 11111111-2222-3333-4444-555555555555
unfoldable pub add_uuid : List ℕ
add_uuid = replicate 4 0x11 ++ replicate 2 0x22 ++ replicate 2 0x33 ++ replicate 2 0x44 ++ replicate 6 0x55

unfoldable pub made_boot : Boot
made_boot = record { cpus = 4; threads = 4; frames = 256; apps = record { uuid = add_uuid; image = add_image } ∷ []; key = replicate 32 0 }

-- ---- calls

-- the argument that opens a session of that application, whose UUID is in its first parameter
unfoldable pub open_argument : List ℕ
open_argument =
    head (record { cmd = 0; func = 0; session = 0; cancel_id = 0; count = 2 })
    ++ param 0x101 0x3333_2222_1111_1111 0x5555_5555_5555_4444 0
    ++ param 0x101 0 0 0

-- the argument that calls a session with 5 and 7
unfoldable pub invoke_argument : ℕ → List ℕ
invoke_argument session = head (record { cmd = 1; func = 0; session = session; cancel_id = 0; count = 1 }) ++ param 3 5 7 0

-- registers of which but the first and these are 0
abbrev pub fast_registers : List Reg
fast_registers = Num 0xbf00_ff01 ∷ Num 0 ∷ Num 0 ∷ Num 0 ∷ Num 0 ∷ Num 0 ∷ Num 0 ∷ Num 0 ∷ []

-- the argument stands at 40000000
abbrev pub call_registers : List Reg
call_registers = Num 0x3200_0004 ∷ Num 0 ∷ Num 0x4000_0000 ∷ Num 0 ∷ Num 0 ∷ Num 0 ∷ Num 0 ∷ Num 0 ∷ []

abbrev pub resume_registers : ℕ → List Reg
resume_registers thread = Num 0x3200_0003 ∷ Num 0 ∷ Num 0 ∷ Num thread ∷ Num 0 ∷ Num 0 ∷ Num 0 ∷ Num 0 ∷ []

-- bytes written to a processor's lane, and then a call that has them as its argument
abbrev pub argument_call : ℕ → ℕ → List ℕ → List Item
argument_call cpu steps argument = Write cpu 0x4000_0000 argument ∷ Smc cpu steps call_registers ∷ []

-- ---- what a number chooses

abbrev pub cpu_of : ℕ → ℕ
cpu_of x = (x / 2 ^ 32) % 4

abbrev pub steps_of : ℕ → ℕ
steps_of x = 1 + (x / 2 ^ 40) % 8

abbrev pub kind_of : ℕ → ℕ
kind_of x = (x / 2 ^ 48) % 4

abbrev pub small_of : ℕ → ℕ
small_of x = (x / 2 ^ 56) % 64

-- the items of a number: a fast call, an open, a call of a session or a resume
unfoldable pub items_of : ℕ → List Item
items_of x =
    if kind_of x == 0 then Smc (cpu_of x) (steps_of x) fast_registers ∷ []
    else if kind_of x == 1 then argument_call (cpu_of x) (steps_of x) open_argument
    else if kind_of x == 2 then argument_call (cpu_of x) (steps_of x) (invoke_argument (small_of x + 1))
    else Smc (cpu_of x) (steps_of x) (resume_registers (small_of x % 4)) ∷ []

-- the number after a number
abbrev pub next : ℕ → ℕ
next x = (x * 6364136223846793005 + 1442695040888963407) % 2 ^ 64

-- the items of so many numbers after this one
abbrev pub made_items : ℕ → ℕ → List Item
made_items x zero = []
made_items x (suc count) = items_of (next x) ++ made_items (next x) count

-- the trace of a seed and a number of calls
abbrev pub made_trace : ℕ → ℕ → Trace
made_trace seed count = record { boot = Some made_boot; fills = []; items = made_items seed count }
