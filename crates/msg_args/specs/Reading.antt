-- What stands at each place of the bytes, and the first fault.
use Rattle.std.specs.Prelude.{ℕ, ◌+◌, ◌*◌, ◌/◌, ◌%◌, ◌^◌, ◌==◌, nat_lt, Bool, not, if◌then◌else◌, List, map, length, take, drop, Option, Some, None, unwrap_or, Result, Ok, Err, position}
use Rattle.std.specs.Option.{option_map}
use Rattle.std.specs.Int.{w32, w64, from_le_bytes, bit_at}
use Rattle.std.specs.Simd.{first_chunks}
use Rattle.arrayvec.specs.ArrayVec.{ArrayVec}
use Rattle.msg_args.specs.declared.kind.ParamKind.TheVariants.{Empty}
use Rattle.msg_args.specs.declared.head.MsgHead.{MsgHead}
use Rattle.msg_args.specs.declared.param.MsgParam.{MsgParam}
use Rattle.msg_args.specs.declared.arg.MsgArg.{MsgArg}
use Rattle.msg_args.specs.declared.arg.Misshapen.{Misshapen}
use Rattle.msg_args.specs.declared.arg.Misshapen.TheVariants.{Length, Count, Attr}
use Rattle.msg_args.specs.Attribute.{kind_of, is_attribute}

-- the number of four bytes at a place
abbrev pub u32_at : ℕ → List ℕ → ℕ
u32_at place bytes = from_le_bytes w32 (drop place bytes)

-- the number of eight bytes at a place
abbrev pub u64_at : ℕ → List ℕ → ℕ
u64_at place bytes = from_le_bytes w64 (drop place bytes)

-- the head in 32 bytes
abbrev pub head_at : List ℕ → MsgHead
head_at bytes = record { cmd = u32_at 0 bytes; func = u32_at 4 bytes; session = u32_at 8 bytes; cancel_id = u32_at 12 bytes; pad = u32_at 16 bytes; ret = u32_at 20 bytes; origin = u32_at 24 bytes; count = u32_at 28 bytes }

-- what a valid attribute and three numbers say
abbrev pub param_of : ℕ → ℕ → ℕ → ℕ → MsgParam
param_of a p q s = record { kind = unwrap_or (kind_of (a % 2 ^ 8)) Empty; meta = bit_at a 8 == 1; noncontig = bit_at a 9 == 1; cache = a / 2 ^ 16 % 2 ^ 3; p = p; q = q; s = s }

-- the parameter in 32 bytes
abbrev pub param_at : List ℕ → MsgParam
param_at bytes = param_of (u64_at 0 bytes) (u64_at 8 bytes) (u64_at 16 bytes) (u64_at 24 bytes)

-- whether the attribute in 32 bytes is valid
abbrev pub has_attribute : List ℕ → Bool
has_attribute bytes = is_attribute (u64_at 0 bytes)

-- a value, unless there is a fault
abbrev pub unless : {A : Type 0} → Option Misshapen → A → Result A Misshapen
unless None value = Ok value
unless (Some fault) value = Err fault

-- the first parameter whose attribute is not valid
abbrev pub bad_param : List (List ℕ) → Option Misshapen
bad_param spelled = option_map Attr (position (λ bytes. not (has_attribute bytes)) spelled)

-- the parameters in pieces of 32 bytes
abbrev pub params_of : List (List ℕ) → Result (ArrayVec MsgParam) Misshapen
params_of spelled = unless (bad_param spelled) (record { items = map param_at spelled })

-- the pieces of 32 bytes behind the head
abbrev pub pieces : List ℕ → List (List ℕ)
pieces bytes = first_chunks 32 (head_at (take 32 bytes)).count (drop 32 bytes)

-- the first fault, in the order of the tests
abbrev pub fault : List ℕ → Option Misshapen
fault bytes =
    let count = (head_at (take 32 bytes)).count in
    if nat_lt (length bytes) 32 then Some Length
    else (if nat_lt 6 count then Some (Count count)
    else (if length bytes == 32 + 32 * count then bad_param (pieces bytes)
    else Some Length))

-- the argument that the bytes spell, or the first fault
abbrev pub argument : List ℕ → Result MsgArg Misshapen
argument bytes = unless (fault bytes) (record { head = head_at (take 32 bytes); params = record { items = map param_at (pieces bytes) } })
