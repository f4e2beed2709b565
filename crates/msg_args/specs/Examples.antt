-- The definitions, tried on arguments that are worked out by hand.
use Rattle.std.specs.Prelude.{◌≡◌, ℕ, Bool, true, false, List, [], ◌∷◌, ◌++◌, length, replicate, Some, None, Ok, Err}
use Rattle.msg_args.specs.declared.kind.ParamKind.{ParamKind}
use Rattle.msg_args.specs.declared.kind.ParamKind.TheVariants.{ValueIn, ValueInout, RmemOut, TmemIn, TmemInout}
use Rattle.msg_args.specs.declared.head.MsgHead.{MsgHead}
use Rattle.msg_args.specs.declared.param.MsgParam.{MsgParam}
use Rattle.msg_args.specs.declared.arg.MsgArg.{MsgArg}
use Rattle.msg_args.specs.declared.arg.Misshapen.{Misshapen}
use Rattle.msg_args.specs.declared.arg.Misshapen.TheVariants.{Length, Count, Attr}
use Rattle.msg_args.specs.declared.constants.TheConstants.{OPTEE_MSG_CMD_OPEN_SESSION, OPTEE_MSG_CMD_INVOKE_COMMAND, OPTEE_MSG_CMD_CLOSE_SESSION, OPTEE_MSG_CMD_CANCEL, OPTEE_MSG_CMD_REGISTER_SHM, OPTEE_MSG_CMD_UNREGISTER_SHM, OPTEE_MSG_CMD_DO_BOTTOM_HALF, OPTEE_MSG_CMD_STOP_ASYNC_NOTIF, OPTEE_MSG_ATTR_CACHE_PREDEFINED}
use Rattle.msg_args.specs.Attribute.{kind_of, attribute, is_attribute}
use Rattle.msg_args.specs.Layout.{argument_len, head_len, param_place, origin_at, p_at, params_at, q_at, ret_at, session_at}
use Rattle.msg_args.specs.Spelling.{spelling}
use Rattle.msg_args.specs.Reading.{argument, head_at, u32_at, u64_at}

-- a head without result, origin and padding
abbrev pub head : ℕ → ℕ → ℕ → ℕ → ℕ → MsgHead
head cmd func session cancel_id count = record { cmd = cmd; func = func; session = session; cancel_id = cancel_id; pad = 0; ret = 0; origin = 0; count = count }

-- a parameter without cache field
abbrev pub param : ParamKind → Bool → ℕ → ℕ → ℕ → MsgParam
param kind meta p q s = record { kind = kind; meta = meta; noncontig = false; cache = 0; p = p; q = q; s = s }

abbrev pub arg : MsgHead → List MsgParam → MsgArg
arg h ms = record { head = h; params = record { items = ms } }

-- opens a session of the application 11111111-2222-3333-4444-555555555555, for a client that is nobody
abbrev pub open_session : MsgArg
open_session = arg (head 0 0 0 0 2) (param ValueIn true 0x3333222211111111 0x5555555555554444 0 ∷ param ValueIn true 0 0 0 ∷ [])

abbrev pub open_session_bytes : List ℕ
open_session_bytes =
    replicate 28 0 ++ (2 ∷ 0 ∷ 0 ∷ 0 ∷ [])
    ++ (1 ∷ 1 ∷ 0 ∷ 0 ∷ 0 ∷ 0 ∷ 0 ∷ 0 ∷ 0x11 ∷ 0x11 ∷ 0x11 ∷ 0x11 ∷ 0x22 ∷ 0x22 ∷ 0x33 ∷ 0x33 ∷ 0x44 ∷ 0x44 ∷ 0x55 ∷ 0x55 ∷ 0x55 ∷ 0x55 ∷ 0x55 ∷ 0x55 ∷ 0 ∷ 0 ∷ 0 ∷ 0 ∷ 0 ∷ 0 ∷ 0 ∷ 0 ∷ [])
    ++ (1 ∷ 1 ∷ replicate 30 0)

-- invokes function 0 in session 1, with one value that goes both ways
abbrev pub invoke : MsgArg
invoke = arg (head 1 0 1 0 1) (param ValueInout false 5 7 0 ∷ [])

abbrev pub invoke_bytes : List ℕ
invoke_bytes =
    (1 ∷ 0 ∷ 0 ∷ 0 ∷ 0 ∷ 0 ∷ 0 ∷ 0 ∷ 1 ∷ 0 ∷ 0 ∷ 0 ∷ replicate 16 0) ++ (1 ∷ 0 ∷ 0 ∷ 0 ∷ [])
    ++ (3 ∷ 0 ∷ 0 ∷ 0 ∷ 0 ∷ 0 ∷ 0 ∷ 0 ∷ 5 ∷ 0 ∷ 0 ∷ 0 ∷ 0 ∷ 0 ∷ 0 ∷ 0 ∷ 7 ∷ replicate 15 0)

-- a chain of lists of pages, with all bits of the cache field
abbrev pub chained : MsgParam
chained = record { kind = TmemIn; meta = false; noncontig = true; cache = 7; p = 0; q = 0; s = 0 }

-- bytes of a head that is 0 but for its count, and of a parameter that is 0 but for its low byte
abbrev pub counts : ℕ → List ℕ
counts n = replicate 28 0 ++ (n ∷ 0 ∷ 0 ∷ 0 ∷ [])

abbrev pub only_low : ℕ → List ℕ
only_low n = n ∷ replicate 31 0

-- what the bytes are read as
abbrev pub Refuses : List ℕ → Misshapen → Type 0
Refuses bytes fault = argument bytes ≡ Err fault

abbrev pub Reads : List ℕ → MsgArg → Type 0
Reads bytes a = argument bytes ≡ Ok a

pub record Examples : Type 0 where
  pub open_session_is_spelled : spelling open_session ≡ open_session_bytes
  pub open_session_is_read : Reads open_session_bytes open_session
  pub invoke_is_spelled : spelling invoke ≡ invoke_bytes
  pub invoke_is_read : Reads invoke_bytes invoke
  pub no_parameters : Reads (replicate 32 0) (arg (head 0 0 0 0 0) [])
  pub chained_has : attribute chained ≡ 0x70209
  pub kind_six : kind_of 6 ≡ Some RmemOut
  pub kind_eleven : kind_of 11 ≡ Some TmemInout
  pub kind_four : kind_of 4 ≡ None
  pub meta_value : is_attribute 0x101 ≡ true
  pub chained_is_valid : is_attribute 0x70209 ≡ true
  pub noncontig_of_an_rmem : is_attribute 0x206 ≡ false
  pub noncontig_of_a_value : is_attribute 0x201 ≡ false
  pub bit_ten : is_attribute 0x401 ≡ false
  pub bit_nineteen : is_attribute 0x80009 ≡ false
  pub bit_sixty_three : is_attribute 0x8000000000000001 ≡ false
  pub nothing : Refuses [] Length
  pub short_head : Refuses (replicate 31 0) Length
  pub count_before_length : Refuses (counts 7) (Count 7)
  pub missing_parameter : Refuses (counts 1) Length
  pub one_byte_more : Refuses (counts 0 ++ 0 ∷ []) Length
  pub first_bad : Refuses (counts 3 ++ only_low 1 ++ only_low 4 ++ only_low 8) (Attr 1)
  -- where the parts of an argument at 0 stand
  pub session_place : (bytes : List ℕ) → u32_at (session_at 0) bytes ≡ (head_at bytes).session
  pub ret_place : (bytes : List ℕ) → u32_at (ret_at 0) bytes ≡ (head_at bytes).ret
  pub origin_place : (bytes : List ℕ) → u32_at (origin_at 0) bytes ≡ (head_at bytes).origin
  pub p_place : u64_at (p_at 0 0) invoke_bytes ≡ 5
  pub q_place : u64_at (q_at 0 0) invoke_bytes ≡ 7
  pub second_place : u64_at (param_place 0 1) open_session_bytes ≡ 0x101
  pub params_place : params_at 0 ≡ head_len
  pub whole_len : length open_session_bytes ≡ argument_len 2
  -- the numbers of the header
  pub cmd_open_session : OPTEE_MSG_CMD_OPEN_SESSION ≡ 0
  pub cmd_invoke_command : OPTEE_MSG_CMD_INVOKE_COMMAND ≡ 1
  pub cmd_close_session : OPTEE_MSG_CMD_CLOSE_SESSION ≡ 2
  pub cmd_cancel : OPTEE_MSG_CMD_CANCEL ≡ 3
  pub cmd_register_shm : OPTEE_MSG_CMD_REGISTER_SHM ≡ 4
  pub cmd_unregister_shm : OPTEE_MSG_CMD_UNREGISTER_SHM ≡ 5
  pub cmd_do_bottom_half : OPTEE_MSG_CMD_DO_BOTTOM_HALF ≡ 6
  pub cmd_stop_async_notif : OPTEE_MSG_CMD_STOP_ASYNC_NOTIF ≡ 7
  pub cache_predefined : OPTEE_MSG_ATTR_CACHE_PREDEFINED ≡ 0
