-- The instructions: what each does, from the instruction and the machine. Sums wrap at 2 ^ 32. They panic with 1 at
-- an address in no range, with 3 at a division by zero, and with 4 where the call stack is full or empty.
use Rattle.std.specs.Prelude.{ℕ, ◌+◌, ◌-◌, ◌*◌, ◌/◌, ◌%◌, ◌^◌, ◌==◌, Bool, not, nat_lt, nat_le, if◌then◌else◌, List, [], ◌∷◌, ◌++◌, length, take, Option, Some, None, option_and_then, find, slice_index}
use Rattle.std.specs.Int.{w32, to_le_bytes}
use Rattle.std.specs.Int.RustNames.{bit_and, bit_or, bit_xor}
use Rattle.ta_isa.specs.declared.image.Instr.{Instr}
use Rattle.ta_step.specs.State.{State, reg, put}
use Rattle.ta_step.specs.Addresses.{is_inside, load, load_word, store}
use Rattle.ta_step.specs.Outcome.{Outcome, goes_on, goes_to, Goes, Panics}
use Rattle.ta_step.specs.SystemCalls.{system_call_of}

-- a constant
abbrev pub constant : Instr → State → Outcome
constant i s = goes_on (put s i.d i.imm)

abbrev pub register_move : Instr → State → Outcome
register_move i s = goes_on (put s i.d (reg s i.a))

-- what is made of two registers
abbrev pub made : (ℕ → ℕ → ℕ) → Instr → State → Outcome
made f i s = goes_on (put s i.d (f (reg s i.a) (reg s i.b)))

-- on with a quotient or a remainder in a register, where the divisor is not 0
abbrev pub divided_by : State → ℕ → ℕ → ℕ → Outcome
divided_by s divisor number value = if divisor == 0 then Panics 3 else goes_on (put s number value)

abbrev pub divided : (ℕ → ℕ → ℕ) → Instr → State → Outcome
divided f i s = divided_by s (reg s i.b) i.d (f (reg s i.a) (reg s i.b))

-- the address that an instruction names
abbrev pub address : Instr → State → ℕ
address i s = (reg s i.a + i.imm) % 2 ^ 32

-- on with what was found at an address, in a register
abbrev pub loaded : State → ℕ → Option ℕ → Outcome
loaded s number None = Panics 1
loaded s number (Some value) = goes_on (put s number value)

-- on with bytes written to an address
abbrev pub stored : State → ℕ → List ℕ → Outcome
stored s addr bytes = if is_inside s addr (length bytes) then goes_on (store s addr bytes) else Panics 1

abbrev pub byte_load : Instr → State → Outcome
byte_load i s = loaded s i.d (load s (address i s))

abbrev pub word_load : Instr → State → Outcome
word_load i s = loaded s i.d (load_word s (address i s))

abbrev pub byte_store : Instr → State → Outcome
byte_store i s = stored s (address i s) (reg s i.b % 256 ∷ [])

abbrev pub word_store : Instr → State → Outcome
word_store i s = stored s (address i s) (to_le_bytes w32 (reg s i.b))

-- to the target, or on
abbrev pub branched : State → Bool → ℕ → Outcome
branched s taken target = if taken then goes_to s target else goes_on s

-- to the target where two registers compare so
abbrev pub branches : (ℕ → ℕ → Bool) → Instr → State → Outcome
branches test i s = branched s (test (reg s i.a) (reg s i.b)) i.imm

abbrev pub jump : Instr → State → Outcome
jump i s = goes_to s i.imm

-- to the target, with the next instruction as where to return to
abbrev pub called : State → ℕ → Outcome
called s target =
    if nat_lt (length s.stack) 64
    then Goes (record s { place = target; stack = s.stack ++ (s.place + 1) ∷ [] })
    else Panics 4

abbrev pub call : Instr → State → Outcome
call i s = called s i.imm

-- back to where the last call goes on
abbrev pub returned : State → Outcome
returned s =
    let last = length s.stack - 1 in
    if length s.stack == 0
    then Panics 4
    else Goes (record s { place = slice_index s.stack last; stack = take last s.stack })

abbrev pub ret : Instr → State → Outcome
ret i s = returned s

-- what an instruction does to a machine
abbrev pub Effect : Type 0
Effect = State → Outcome

abbrev pub always : (Instr → Effect) → Instr → Option Effect
always row i = Some (row i)

-- an operation's number, and what an instruction with it does
abbrev pub operations : List (ℕ × (Instr → Option Effect))
operations =
    (0x01, always constant)
    ∷ (0x02, always register_move)
    ∷ (0x03, always (made (λ a b. (a + b) % 2 ^ 32)))
    ∷ (0x04, always (made (λ a b. (a + (2 ^ 32 - b)) % 2 ^ 32)))
    ∷ (0x05, always (made (λ a b. (a * b) % 2 ^ 32)))
    ∷ (0x06, always (divided (λ a b. a / b)))
    ∷ (0x07, always (divided (λ a b. a % b)))
    ∷ (0x08, always (made bit_and))
    ∷ (0x09, always (made bit_or))
    ∷ (0x0a, always (made bit_xor))
    ∷ (0x0b, always (made (λ a b. (a * 2 ^ (b % 32)) % 2 ^ 32)))
    ∷ (0x0c, always (made (λ a b. a / 2 ^ (b % 32))))
    ∷ (0x0d, always byte_load)
    ∷ (0x0e, always word_load)
    ∷ (0x0f, always byte_store)
    ∷ (0x10, always word_store)
    ∷ (0x11, always (branches (λ a b. a == b)))
    ∷ (0x12, always (branches (λ a b. not (a == b))))
    ∷ (0x13, always (branches nat_lt))
    ∷ (0x14, always (branches (λ a b. nat_le b a)))
    ∷ (0x15, always jump)
    ∷ (0x16, always call)
    ∷ (0x17, always ret)
    ∷ (0x18, λ i. system_call_of i.imm)
    ∷ []

-- what an instruction does, if its operation has a row, and its system call where it is one
abbrev pub effect_of : Instr → Option Effect
effect_of i = option_and_then (λ e. e.1 i) (find (λ e. e.0 == i.op) operations)
