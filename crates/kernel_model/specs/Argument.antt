-- What the registers and the message argument of a call say, by optee_smc.h and optee_msg.h.
use Rattle.std.specs.Prelude.{ℕ, ◌+◌, ◌*◌, ◌%◌, ◌^◌, nat_le, Bool, true, false, not, ◌&&◌, if◌then◌else◌, IsTrue, List, [], ◌∷◌}
use Rattle.std.specs.Prelude.{◌++◌, length, Option, Some, None, slice_index, map}
use Rattle.std.specs.Int.{w64, to_le_bytes}
use Rattle.std.specs.List.{list_all}
use Rattle.std.specs.Simd.{first_chunks}
use Rattle.msg_args.specs.Attribute.{is_tmem}
use Rattle.msg_args.specs.declared.kind.ParamKind.{ParamKind}
use Rattle.msg_args.specs.declared.kind.ParamKind.TheVariants.{ValueIn, RmemIn, RmemOut, RmemInout}
use Rattle.msg_args.specs.declared.param.MsgParam.{MsgParam}
use Rattle.msg_args.specs.Reading.{has_attribute, param_at}
use Rattle.smc_abi.specs.Call.{call_of}
use Rattle.smc_abi.specs.declared.call.Call.{Call}
use Rattle.smc_abi.specs.declared.call.Call.TheVariants.{Fast, WithArg, WithRpcArg, WithRegdArg, Resume, Unknown}
use Rattle.ta_params.specs.declared.login.Login.{Login}

-- ---- registers

-- a register by its number
abbrev pub reg : List ℕ → ℕ → ℕ
reg regs number = slice_index regs number

-- a number in two registers: the upper half in that of this number, the lower half in the next
abbrev pub pair_at : List ℕ → ℕ → ℕ
pair_at regs number = reg regs number * 2 ^ 32 + reg regs (number + 1)

-- the call is a new one
abbrev pub is_new : Call → Bool
is_new (Fast call) = false
is_new WithArg = true
is_new WithRpcArg = true
is_new WithRegdArg = true
is_new Resume = false
is_new Unknown = false

-- they bring a new call
abbrev pub IsNew : List ℕ → Type 0
IsNew regs = IsTrue (is_new (call_of (reg regs 0)))

-- the address of the argument, or the cookie that names it, in a1 and a2
abbrev pub argument_at : List ℕ → ℕ
argument_at regs = pair_at regs 1

-- and its offset behind that cookie's first byte
abbrev pub offset_at : List ℕ → ℕ
offset_at regs = reg regs 3

-- the thread that is to be resumed
abbrev pub thread_in : List ℕ → ℕ
thread_in regs = reg regs 3

-- who calls
abbrev pub client_in : List ℕ → ℕ
client_in regs = reg regs 7

-- ---- parameters

-- the kind of the parameters that name application and client
abbrev pub is_value_in : ParamKind → Bool
is_value_in ValueIn = true
is_value_in _ = false

-- memory that the argument names by its cookie
abbrev pub is_rmem : ParamKind → Bool
is_rmem RmemIn = true
is_rmem RmemOut = true
is_rmem RmemInout = true
is_rmem _ = false

-- a parameter of an open that names the application or the client
abbrev pub is_name : MsgParam → Bool
is_name param = param.meta && is_value_in param.kind

-- none of them is META
abbrev pub has_no_meta : List MsgParam → Bool
has_no_meta params = list_all (λ param. not param.meta) params

-- the 16 octets from p on
abbrev pub octets : MsgParam → List ℕ
octets param = to_le_bytes w64 param.p ++ to_le_bytes w64 param.q

-- the parameters in so many pieces of 32 bytes, where each has a valid attribute
abbrev pub params_in : ℕ → List ℕ → Option (List MsgParam)
params_in count bytes =
    let pieces = first_chunks 32 count bytes in
    if list_all has_attribute pieces then Some (map param_at pieces) else None

-- ---- what a command's parameters say, where they have its shape

-- an open names the application and the client, and has up to four more
pub record Opening : Type 0 where
  pub uuid : List ℕ
  pub login : Login
  pub params : List MsgParam

-- the login has the client's octets, and its kind in the low 32 bits of s
abbrev pub opening_with : MsgParam → MsgParam → List MsgParam → Opening
opening_with app client params =
    record { uuid = octets app; login = record { client = octets client; kind = client.s % 2 ^ 32 }; params = params }

-- what an open's parameters say: two names, and none of the others META
abbrev pub opening : List MsgParam → Option Opening
opening [] = None
opening (app ∷ []) = None
opening (app ∷ client ∷ params) =
    if is_name app && (is_name client && has_no_meta params) then Some (opening_with app client params) else None

-- an invoke has up to four
abbrev pub invocation : List MsgParam → Option (List MsgParam)
invocation params = if nat_le (length params) 4 && has_no_meta params then Some params else None

-- the only parameter, where it passes a test
abbrev pub only_one : (MsgParam → Bool) → List MsgParam → Option MsgParam
only_one test [] = None
only_one test (param ∷ []) = if test param then Some param else None
only_one test (param ∷ another ∷ more) = None

-- a register has a chain of page lists
abbrev pub registering : List MsgParam → Option MsgParam
registering params = only_one (λ param. is_tmem param.kind && param.noncontig) params

-- an unregister has registered memory
abbrev pub unregistering : List MsgParam → Option MsgParam
unregistering params = only_one (λ param. is_rmem param.kind) params
