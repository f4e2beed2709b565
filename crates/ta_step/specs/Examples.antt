-- Examples of the definitions, worked out by hand.
use Rattle.std.specs.Prelude.{◌≡◌, ℕ, true, false, List, [], ◌∷◌, replicate, Option, Some, None}
use Rattle.std.specs.Option.{option_map}
use Rattle.ta_isa.specs.declared.image.Instr.{Instr}
use Rattle.ta_params.specs.declared.copied_params.Way.TheVariants.{In, Inout}
use Rattle.ta_params.specs.declared.copied_params.GpParam.{GpParam}
use Rattle.ta_params.specs.declared.copied_params.GpParam.TheVariants.{Empty, Value, Memref}
use Rattle.ta_params.specs.declared.copied_params.CopiedParams.{CopiedParams}
use Rattle.ta_params.specs.declared.login.Login.{Login}
use Rattle.ta_params.specs.declared.object_call.ObjectCall.TheVariants.{Create, Opened, Read, Write, Seek, Close, Delete}
use Rattle.ta_step.specs.declared.stop.Request.TheVariants.{Time, Suspend, Object}
use Rattle.ta_step.specs.declared.stop.Stop.{Stop}
use Rattle.ta_step.specs.declared.stop.Stop.TheVariants.{Ended, Panicked, Interrupted}
use Rattle.ta_step.specs.declared.stop.Stop.TheVariants as stop
use Rattle.ta_step.specs.State.{State, started}
use Rattle.ta_step.specs.Addresses.{load, load_word, store}
use Rattle.ta_step.specs.Outcome.{Outcome, Goes, Panics, Asks, goes_on, asking}
use Rattle.ta_step.specs.SystemCalls.{answered}
use Rattle.ta_step.specs.Shape.{shapes}
use Rattle.ta_step.specs.Step.{step}
use Rattle.ta_step.specs.Runs.{Ran, runs, runs_twice}

abbrev pub instr : ℕ → ℕ → ℕ → ℕ → ℕ → Instr
instr op d a b imm = record { op = op; d = d; a = a; b = b; imm = imm }

-- answers the sum of two numbers in the value that they came in
abbrev pub sum_code : List Instr
sum_code =
    instr 0x18 0 0 0 0
    ∷ instr 0x01 0 0 0 0
    ∷ instr 0x18 0 0 0 3
    ∷ instr 0x03 1 0 1 0
    ∷ instr 0x01 0 0 0 0
    ∷ instr 0x18 0 0 0 4
    ∷ instr 0x18 0 0 0 0
    ∷ []

-- panics with the function's number, if that is not 0
abbrev pub panic_code : List Instr
panic_code = instr 0x18 0 0 0 0 ∷ instr 0x12 0 0 3 3 ∷ instr 0x18 0 0 0 0 ∷ instr 0x18 0 0 0 1 ∷ []

-- returns the word at address 0, and leaves 5 there
abbrev pub mark_code : List Instr
mark_code =
    instr 0x18 0 0 0 0
    ∷ instr 0x01 4 0 0 5
    ∷ instr 0x0e 5 6 0 0
    ∷ instr 0x10 0 6 4 0
    ∷ instr 0x02 0 5 0 0
    ∷ instr 0x18 0 0 0 0
    ∷ []

abbrev pub params_of : GpParam → CopiedParams
params_of p = record { p0 = p; p1 = Empty; p2 = Empty; p3 = Empty }

abbrev pub somebody : Login
somebody = record { client = replicate 16 7; kind = 1 }

-- the machine of an invoke, with eight bytes of memory
abbrev pub invoked : ℕ → GpParam → State
invoked func p = started (0 ∷ 0 ∷ 1 ∷ 0 ∷ 0 ∷ []) 2 (func ∷ 0 ∷ 0 ∷ []) (1 ∷ 2 ∷ 0 ∷ 0 ∷ 9 ∷ 0 ∷ 0 ∷ 0 ∷ []) (params_of p) somebody

-- the stop and the steps used of a run
abbrev pub stop_of : Option Ran → Option (Stop × ℕ)
stop_of ran = option_map (λ r. (r.stop, r.steps)) ran

abbrev pub params_after : Option Ran → Option CopiedParams
params_after ran = option_map (λ r. r.state.params) ran

abbrev pub memory_after : Option Ran → Option (List ℕ)
memory_after ran = option_map (λ r. r.state.memory) ran

-- one instruction alone, in a machine with some registers
abbrev pub alone : Instr → List ℕ → Option Outcome
alone i first = step (i ∷ []) (started (0 ∷ []) 0 first [] (params_of Empty) somebody)

abbrev pub at_start : List ℕ → State
at_start first = started (0 ∷ []) 0 first [] (params_of Empty) somebody

abbrev pub with_byte : GpParam
with_byte = Memref Inout (1 ∷ 2 ∷ 3 ∷ 4 ∷ 5 ∷ []) 5

-- a machine with eight bytes of memory, five in the first buffer, and its first registers
abbrev pub with_registers : List ℕ → State
with_registers first = started (0 ∷ []) 0 first (1 ∷ 2 ∷ 0 ∷ 0 ∷ 9 ∷ 0 ∷ 0 ∷ 0 ∷ []) (params_of with_byte) somebody

-- the same, cancelled and told so
abbrev pub told : List ℕ → State
told first = record (with_registers first) { masked = false; cancelled = true }

-- a system call alone in a machine
abbrev pub calls : ℕ → State → Option Outcome
calls number s = step (instr 0x18 0 0 0 number ∷ []) s

abbrev pub call : ℕ → List ℕ → Option Outcome
call number first = calls number (with_registers first)

-- asks for the time, and returns what it is told
abbrev pub time_code : List Instr
time_code = instr 0x18 0 0 0 0 ∷ instr 0x18 0 0 0 11 ∷ instr 0x18 0 0 0 0 ∷ []

pub record Examples : Type 0 where
  pub sum : stop_of (runs sum_code 100 (invoked 0 (Value Inout 5 7))) ≡ Some (Ended 0 12, 6)
  pub sum_given : params_after (runs sum_code 100 (invoked 0 (Value Inout 5 7))) ≡ Some (params_of (Value Inout 12 0))
  pub sum_no_value : stop_of (runs sum_code 100 (invoked 0 Empty)) ≡ Some (Panicked 5, 2)
  pub sum_of_inputs : stop_of (runs sum_code 100 (invoked 0 (Value In 5 7))) ≡ Some (Panicked 5, 5)
  pub sum_cut : stop_of (runs sum_code 5 (invoked 0 (Value Inout 5 7))) ≡ Some (Interrupted, 5)
  pub sum_just : stop_of (runs sum_code 6 (invoked 0 (Value Inout 5 7))) ≡ Some (Ended 0 12, 6)
  pub sum_twice : runs_twice sum_code 4 2 (invoked 0 (Value Inout 5 7)) ≡ runs sum_code 6 (invoked 0 (Value Inout 5 7))
  pub no_steps : stop_of (runs sum_code 0 (invoked 0 Empty)) ≡ Some (Interrupted, 0)
  pub panic : stop_of (runs panic_code 100 (invoked 3 Empty)) ≡ Some (Panicked 3, 2)
  pub no_panic : stop_of (runs panic_code 100 (invoked 0 Empty)) ≡ Some (Ended 0 0, 2)
  pub mark : stop_of (runs mark_code 100 (invoked 0 Empty)) ≡ Some (Ended 0x201 0, 5)
  pub marked : memory_after (runs mark_code 100 (invoked 0 Empty)) ≡ Some (5 ∷ 0 ∷ 0 ∷ 0 ∷ 9 ∷ 0 ∷ 0 ∷ 0 ∷ [])
  pub past_the_code : step [] (at_start []) ≡ Some (Panics 2)
  pub no_row : alone (instr 0 0 0 0 0) [] ≡ None
  pub difference_wraps : alone (instr 0x04 2 0 1 0) (1 ∷ 2 ∷ 0 ∷ []) ≡ Some (goes_on (at_start (1 ∷ 2 ∷ 0xffffffff ∷ [])))
  pub shift_by_33 : alone (instr 0x0b 2 0 1 0) (3 ∷ 33 ∷ 0 ∷ []) ≡ Some (goes_on (at_start (3 ∷ 33 ∷ 6 ∷ [])))
  pub unsigned : alone (instr 0x13 0 0 1 7) (1 ∷ 0xffffffff ∷ 0 ∷ []) ≡ Some (Goes (record (at_start (1 ∷ 0xffffffff ∷ 0 ∷ [])) { place = 7 }))
  pub by_zero : alone (instr 0x06 2 0 1 0) (1 ∷ 0 ∷ 0 ∷ []) ≡ Some (Panics 3)
  pub no_address : alone (instr 0x0d 2 0 0 3) (5 ∷ 0 ∷ 0 ∷ []) ≡ Some (Panics 1)
  pub empty_stack : alone (instr 0x17 0 0 0 0) [] ≡ Some (Panics 4)
  pub memory_byte : load (invoked 0 with_byte) 4 ≡ Some 9
  pub past_memory : load (invoked 0 with_byte) 8 ≡ None
  pub buffer_byte : load (invoked 0 with_byte) 0x10000004 ≡ Some 5
  pub past_buffer : load (invoked 0 with_byte) 0x10000005 ≡ None
  pub no_buffer : load (invoked 0 with_byte) 0x20000000 ≡ None
  pub any_alignment : load_word (invoked 0 with_byte) 0x10000001 ≡ Some 0x05040302
  pub word_past_buffer : load_word (invoked 0 with_byte) 0x10000002 ≡ None
  pub in_memory : store (invoked 0 with_byte) 1 (8 ∷ []) ≡ record (invoked 0 with_byte) { memory = 1 ∷ 8 ∷ 0 ∷ 0 ∷ 9 ∷ 0 ∷ 0 ∷ 0 ∷ [] }
  pub in_buffer : store (invoked 0 with_byte) 0x10000001 (8 ∷ 7 ∷ []) ≡ invoked 0 (Memref Inout (1 ∷ 8 ∷ 7 ∷ 4 ∷ 5 ∷ []) 5)
  pub shape_of_params : shapes (params_of with_byte) ≡ (7, 5) ∷ (0, 0) ∷ (0, 0) ∷ (0, 0) ∷ []
  pub out_of_buffer : store (invoked 0 with_byte) 0x10000004 (8 ∷ 7 ∷ []) ≡ invoked 0 with_byte
  pub time : call 11 (1 ∷ 2 ∷ 3 ∷ []) ≡ Some (Asks Time)
  pub wait : call 12 (5 ∷ 2 ∷ 3 ∷ []) ≡ Some (Asks (Suspend 5))
  pub wait_masked : calls 12 (record (told (5 ∷ 2 ∷ 3 ∷ [])) { masked = true }) ≡ Some (Asks (Suspend 5))
  pub wait_cancelled : calls 12 (told (5 ∷ 2 ∷ 3 ∷ [])) ≡ Some (goes_on (told (0xffff0002 ∷ 2 ∷ 3 ∷ [])))
  pub create : call 13 (6 ∷ 2 ∷ 3 ∷ []) ≡ Some (Asks (Object (Create 6 2)))
  pub create_cut : call 13 (6 ∷ 3 ∷ 3 ∷ []) ≡ Some (Panics 1)
  pub opened : call 14 (0x10000000 ∷ 5 ∷ 3 ∷ []) ≡ Some (Asks (Object (Opened 0x10000000 5)))
  pub opened_cut : call 14 (0x10000001 ∷ 5 ∷ 3 ∷ []) ≡ Some (Panics 1)
  pub read : call 15 (7 ∷ 4 ∷ 4 ∷ []) ≡ Some (Asks (Object (Read 7 4 4)))
  pub read_cut : call 15 (7 ∷ 4 ∷ 5 ∷ []) ≡ Some (Panics 1)
  pub read_nothing : call 15 (7 ∷ 0x50000000 ∷ 0 ∷ []) ≡ Some (Asks (Object (Read 7 0x50000000 0)))
  pub write : call 16 (7 ∷ 0x10000002 ∷ 3 ∷ []) ≡ Some (Asks (Object (Write 7 0x10000002 3)))
  pub write_nowhere : call 16 (7 ∷ 0x20000000 ∷ 1 ∷ []) ≡ Some (Panics 1)
  pub write_too_much : call 16 (7 ∷ 0 ∷ 0xffffffff ∷ []) ≡ Some (Panics 1)
  pub seek : call 17 (7 ∷ 100 ∷ 3 ∷ []) ≡ Some (Asks (Object (Seek 7 100)))
  pub close : call 18 (7 ∷ 2 ∷ 3 ∷ []) ≡ Some (Asks (Object (Close 7)))
  pub delete : call 19 (7 ∷ 2 ∷ 3 ∷ []) ≡ Some (Asks (Object (Delete 7)))
  pub no_call : call 20 (7 ∷ 2 ∷ 3 ∷ []) ≡ None
  pub time_answered : answered Time 0 10 20 (asking Time (with_registers (1 ∷ 2 ∷ 3 ∷ []))) ≡ record (with_registers (0 ∷ 10 ∷ 20 ∷ [])) { place = 1 }
  pub wait_answered : answered (Suspend 5) 0 10 20 (asking (Suspend 5) (with_registers (5 ∷ 2 ∷ 3 ∷ []))) ≡ record (with_registers (0 ∷ 2 ∷ 3 ∷ [])) { place = 1 }
  pub read_answered : answered (Object (Read 7 4 4)) 0 10 20 (asking (Object (Read 7 4 4)) (with_registers (7 ∷ 4 ∷ 4 ∷ []))) ≡ record (with_registers (0 ∷ 10 ∷ 4 ∷ [])) { place = 1 }
  pub asks : stop_of (runs time_code 100 (invoked 0 Empty)) ≡ Some (stop.Asks Time, 1)
  pub asks_once : runs_twice time_code 1 1 (invoked 0 Empty) ≡ runs time_code 1 (invoked 0 Empty)
  pub behind_the_answer : stop_of (runs time_code 100 (answered Time 0 10 20 (asking Time (invoked 0 Empty)))) ≡ Some (Ended 0 10, 1)
