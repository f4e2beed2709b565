-- The one spelling of an argument, by the layout of optee_msg.h: each number with its lowest byte first.
use Rattle.std.specs.Prelude.{◌≡◌, ℕ, ◌<◌, ◌≤◌, ◌^◌, List, [], ◌∷◌, ◌++◌, length, All}
use Rattle.std.specs.List.{flat_map}
use Rattle.std.specs.Int.{w32, w64, to_le_bytes}
use Rattle.msg_args.specs.declared.head.MsgHead.{MsgHead}
use Rattle.msg_args.specs.declared.param.MsgParam.{MsgParam}
use Rattle.msg_args.specs.declared.arg.MsgArg.{MsgArg}
use Rattle.msg_args.specs.Attribute.{attribute, IsAllowed}

-- eight numbers of four bytes
abbrev pub head_bytes : MsgHead → List ℕ
head_bytes h = flat_map (to_le_bytes w32) (h.cmd ∷ h.func ∷ h.session ∷ h.cancel_id ∷ h.pad ∷ h.ret ∷ h.origin ∷ h.count ∷ [])

-- four numbers of eight bytes
abbrev pub param_bytes : MsgParam → List ℕ
param_bytes m = flat_map (to_le_bytes w64) (attribute m ∷ m.p ∷ m.q ∷ m.s ∷ [])

-- the head, and then the parameters
abbrev pub spelling : MsgArg → List ℕ
spelling a = head_bytes a.head ++ flat_map param_bytes a.params.items

-- the numbers of a head have four bytes
pub record FitsHead (h : MsgHead) : Type 0 where
  pub cmd : h.cmd < 2 ^ 32
  pub func : h.func < 2 ^ 32
  pub session : h.session < 2 ^ 32
  pub cancel_id : h.cancel_id < 2 ^ 32
  pub pad : h.pad < 2 ^ 32
  pub ret : h.ret < 2 ^ 32
  pub origin : h.origin < 2 ^ 32
  pub count : h.count < 2 ^ 32

-- the numbers of a parameter have eight bytes
pub record FitsParam (m : MsgParam) : Type 0 where
  pub p : m.p < 2 ^ 64
  pub q : m.q < 2 ^ 64
  pub s : m.s < 2 ^ 64

-- what has a spelling
pub record IsArgument (a : MsgArg) : Type 0 where
  pub head : FitsHead a.head
  pub count : a.head.count ≡ length a.params.items
  pub at_most_six : a.head.count ≤ 6
  pub allowed : All IsAllowed a.params.items
  pub params : All FitsParam a.params.items

-- the bytes spell the argument
pub record Spells (bytes : List ℕ) (a : MsgArg) : Type 0 where
  pub valid : IsArgument a
  pub spelled : bytes ≡ spelling a
