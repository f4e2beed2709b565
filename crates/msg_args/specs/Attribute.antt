-- The attribute of a parameter, by optee_msg.h: the kind in its low byte, META in bit 8, NONCONTIG in bit 9,
-- the cache field in bits 16 to 18, and 0 in the other bits.
use Rattle.std.specs.Prelude.{ℕ, ◌+◌, ◌*◌, ◌/◌, ◌%◌, ◌^◌, ◌≤◌, ◌==◌, Bool, true, false, ◌&&◌, ◌||◌, not, if◌then◌else◌, IsTrue, List, [], ◌∷◌, Option, find}
use Rattle.std.specs.Option.{option_map_or}
use Rattle.std.specs.Int.{bit_at}
use Rattle.msg_args.specs.declared.kind.ParamKind.{ParamKind}
use Rattle.msg_args.specs.declared.kind.ParamKind.TheVariants.{Empty, ValueIn, ValueOut, ValueInout, RmemIn, RmemOut, RmemInout, TmemIn, TmemOut, TmemInout}
use Rattle.msg_args.specs.declared.param.MsgParam.{MsgParam}

-- the number that stands for each kind
abbrev pub type_of : ParamKind → ℕ
type_of Empty = 0
type_of ValueIn = 1
type_of ValueOut = 2
type_of ValueInout = 3
type_of RmemIn = 5
type_of RmemOut = 6
type_of RmemInout = 7
type_of TmemIn = 9
type_of TmemOut = 10
type_of TmemInout = 11

-- all kinds
abbrev pub kinds : List ParamKind
kinds = Empty ∷ ValueIn ∷ ValueOut ∷ ValueInout ∷ RmemIn ∷ RmemOut ∷ RmemInout ∷ TmemIn ∷ TmemOut ∷ TmemInout ∷ []

-- the kind that a number stands for
abbrev pub kind_of : ℕ → Option ParamKind
kind_of n = find (λ k. type_of k == n) kinds

-- memory that the argument names by address
abbrev pub is_tmem : ParamKind → Bool
is_tmem TmemIn = true
is_tmem TmemOut = true
is_tmem TmemInout = true
is_tmem _ = false

-- what a flag is worth
abbrev pub flag : Bool → ℕ → ℕ
flag set worth = if set then worth else 0

-- the attribute of a parameter
abbrev pub attribute : MsgParam → ℕ
attribute m = type_of m.kind + flag m.meta (2 ^ 8) + flag m.noncontig (2 ^ 9) + m.cache * 2 ^ 16

-- a parameter that has an attribute: the cache field has three bits, and NONCONTIG stands only with a tmem
pub record IsAllowed (m : MsgParam) : Type 0 where
  pub cache : m.cache ≤ 7
  pub noncontig : IsTrue m.noncontig → IsTrue (is_tmem m.kind)

-- whether bits 10 to 15 and those from 19 on are 0
abbrev pub has_no_others : ℕ → Bool
has_no_others a = (a / 2 ^ 10 % 2 ^ 6 == 0) && (a / 2 ^ 19 == 0)

-- whether a number is a valid attribute: its low byte names a kind, its other bits are 0, and NONCONTIG stands only
-- with a tmem
abbrev pub is_attribute : ℕ → Bool
is_attribute a = option_map_or (λ kind. has_no_others a && (not (bit_at a 9 == 1) || is_tmem kind)) (kind_of (a % 2 ^ 8)) false
