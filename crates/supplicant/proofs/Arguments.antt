-- The argument of a request has a spelling.
use Rattle.std.proofs.Common.{◌≡◌, ℕ, ◌+◌, ◌<◌, ◌≤◌, ◌^◌, List, [], ◌∷◌, length, refl, arith}
use Rattle.std.specs.Prelude.{All}
use Rattle.std.proofs.lemmas.List.Elements.{All-cons, All-nil}
use Rattle.msg_args.specs.declared.kind.ParamKind.{ParamKind}
use Rattle.msg_args.specs.declared.kind.ParamKind.TheVariants.{ValueIn, ValueOut, TmemIn, TmemOut}
use Rattle.msg_args.specs.declared.param.MsgParam.{MsgParam}
use Rattle.msg_args.specs.Attribute.{IsAllowed}
use Rattle.msg_args.specs.Spelling.{FitsParam, IsArgument}
use Rattle.rpc_msgs.specs.declared.rpc.Rpc.{Rpc}
use Rattle.rpc_msgs.specs.declared.rpc.Rpc.TheVariants.{Time, Sleep, Wake, Suspend, FsOpen, FsCreate, FsClose, FsRead, FsWrite, FsRemove}
use Rattle.rpc_msgs.specs.Request.{argument, param, payload_at, payload_in, payload_out, request_arg, value_in, value_out}
use Rattle.supplicant.specs.Holding.{IsValue}

-- ---- parameters

plain : (kind : ParamKind) (p q s : ℕ) → IsAllowed (param kind p q s)
plain kind p q s = record { cache = omega arith; noncontig = λ set. absurd cc }

Good : MsgParam → Type 0
Good m = IsAllowed m × FitsParam m

good : (kind : ParamKind) (p q s : ℕ) → p < 2 ^ 64 → q < 2 ^ 64 → s < 2 ^ 64 → Good (param kind p q s)
unfolding Good
good kind p q s small_p small_q small_s = (plain kind p q s, record { p = small_p; q = small_q; s = small_s })

-- ---- arguments

one : (P : MsgParam → Type 0) (a : MsgParam) → P a → All P (a ∷ [])
one P a of_a = All-cons P a [] of_a (All-nil P)

two : (P : MsgParam → Type 0) (a b : MsgParam) → P a → P b → All P (a ∷ b ∷ [])
two P a b of_a of_b = All-cons P a (b ∷ []) of_a (one P b of_b)

three : (P : MsgParam → Type 0) (a b c : MsgParam) → P a → P b → P c → All P (a ∷ b ∷ c ∷ [])
three P a b c of_a of_b of_c = All-cons P a (b ∷ c ∷ []) of_a (two P b c of_b of_c)

with_params : (cmd : ℕ) (params : List MsgParam) → cmd < 2 ^ 32 → length params ≤ 3 → All IsAllowed params → All FitsParam params →
    IsArgument (argument cmd params)
with_params cmd params small few allowed fits = record {
  head = record {
    cmd = small;
    func = omega arith;
    session = omega arith;
    cancel_id = omega arith;
    pad = omega arith;
    ret = omega arith;
    origin = omega arith;
    count = omega arith;
  };
  count = refl;
  at_most_six = omega arith;
  allowed = allowed;
  params = fits;
}

with_one : (cmd : ℕ) (a : MsgParam) → cmd < 2 ^ 32 → Good a → IsArgument (argument cmd (a ∷ []))
unfolding Good
with_one cmd a small of_a = with_params cmd (a ∷ []) small (omega arith) (one IsAllowed a of_a.0) (one FitsParam a of_a.1)

with_two : (cmd : ℕ) (a b : MsgParam) → cmd < 2 ^ 32 → Good a → Good b → IsArgument (argument cmd (a ∷ b ∷ []))
unfolding Good
with_two cmd a b small of_a of_b =
    with_params cmd (a ∷ b ∷ []) small (omega arith) (two IsAllowed a b of_a.0 of_b.0) (two FitsParam a b of_a.1 of_b.1)

with_three : (cmd : ℕ) (a b c : MsgParam) → cmd < 2 ^ 32 → Good a → Good b → Good c → IsArgument (argument cmd (a ∷ b ∷ c ∷ []))
unfolding Good
with_three cmd a b c small of_a of_b of_c =
    with_params cmd (a ∷ b ∷ c ∷ []) small (omega arith)
    (three IsAllowed a b c of_a.0 of_b.0 of_c.0)
    (three FitsParam a b c of_a.1 of_b.1 of_c.1)

-- ---- of a request

module _ (buffer cookie : ℕ) (room : buffer + 512 < 2 ^ 64) (small : cookie < 2 ^ 64) where
  number : (p q s : ℕ) → p < 2 ^ 64 → q < 2 ^ 64 → s < 2 ^ 64 → Good (value_in p q s)
  number p q s small_p small_q small_s = good ValueIn p q s small_p small_q small_s

  bytes_in : (len : ℕ) → len < 2 ^ 32 → Good (payload_in buffer cookie len)
  bytes_in len few = good TmemIn (payload_at buffer) len cookie room (omega arith) small

  bytes_out : (len : ℕ) → len < 2 ^ 32 → Good (payload_out buffer cookie len)
  bytes_out len few = good TmemOut (payload_at buffer) len cookie room (omega arith) small

  out : Good value_out
  out = good ValueOut 0 0 0 (omega arith) (omega arith) (omega arith)

  pub is_argument : (rpc : Rpc) → IsValue rpc → IsArgument (request_arg buffer cookie rpc)
  is_argument Time value = with_one 3 value_out (omega arith) out
  is_argument (Sleep key) value = with_one 4 (value_in 0 key 0) (omega arith) (number 0 key 0 (omega arith) (omega arith) (omega arith))
  is_argument (Wake key) value = with_one 4 (value_in 1 key 0) (omega arith) (number 1 key 0 (omega arith) (omega arith) (omega arith))
  is_argument (Suspend ms) value = with_one 5 (value_in ms 0 0) (omega arith) (number ms 0 0 (omega arith) (omega arith) (omega arith))
  is_argument (FsOpen name) value =
      let few = value.few in
      with_three 2 (value_in 0 0 0) (payload_in buffer cookie (length name)) value_out (omega arith)
      (number 0 0 0 (omega arith) (omega arith) (omega arith))
      (bytes_in (length name) (omega arith))
      out
  is_argument (FsCreate name) value =
      let few = value.few in
      with_three 2 (value_in 1 0 0) (payload_in buffer cookie (length name)) value_out (omega arith)
      (number 1 0 0 (omega arith) (omega arith) (omega arith))
      (bytes_in (length name) (omega arith))
      out
  is_argument (FsClose fd) value = with_one 2 (value_in 2 fd 0) (omega arith) (number 2 fd 0 (omega arith) value (omega arith))
  is_argument (FsRead fd offset len) value =
      with_two 2 (value_in 3 fd offset) (payload_out buffer cookie len) (omega arith)
      (number 3 fd offset (omega arith) value.0 value.1)
      (bytes_out len value.2)
  is_argument (FsWrite fd offset len) value =
      with_two 2 (value_in 4 fd offset) (payload_in buffer cookie len) (omega arith)
      (number 4 fd offset (omega arith) value.0 value.1)
      (bytes_in len value.2)
  is_argument (FsRemove name) value =
      let few = value.few in
      with_two 2 (value_in 6 0 0) (payload_in buffer cookie (length name)) (omega arith)
      (number 6 0 0 (omega arith) (omega arith) (omega arith))
      (bytes_in (length name) (omega arith))

pub at_most_three : (buffer cookie : ℕ) (rpc : Rpc) → (request_arg buffer cookie rpc).head.count ≤ 3
at_most_three buffer cookie Time = omega arith
at_most_three buffer cookie (Sleep key) = omega arith
at_most_three buffer cookie (Wake key) = omega arith
at_most_three buffer cookie (Suspend ms) = omega arith
at_most_three buffer cookie (FsOpen name) = omega arith
at_most_three buffer cookie (FsCreate name) = omega arith
at_most_three buffer cookie (FsClose fd) = omega arith
at_most_three buffer cookie (FsRead fd offset len) = omega arith
at_most_three buffer cookie (FsWrite fd offset len) = omega arith
at_most_three buffer cookie (FsRemove name) = omega arith

-- what `write_arg` asks for
pub counted : (buffer cookie : ℕ) (rpc : Rpc) → (request_arg buffer cookie rpc).head.count ≡ length (request_arg buffer cookie rpc).params.items
counted buffer cookie Time = refl
counted buffer cookie (Sleep key) = refl
counted buffer cookie (Wake key) = refl
counted buffer cookie (Suspend ms) = refl
counted buffer cookie (FsOpen name) = refl
counted buffer cookie (FsCreate name) = refl
counted buffer cookie (FsClose fd) = refl
counted buffer cookie (FsRead fd offset len) = refl
counted buffer cookie (FsWrite fd offset len) = refl
counted buffer cookie (FsRemove name) = refl

pub all_allowed : (buffer cookie : ℕ) (rpc : Rpc) → All IsAllowed (request_arg buffer cookie rpc).params.items
all_allowed buffer cookie Time = one IsAllowed value_out (plain ValueOut 0 0 0)
all_allowed buffer cookie (Sleep key) = one IsAllowed (value_in 0 key 0) (plain ValueIn 0 key 0)
all_allowed buffer cookie (Wake key) = one IsAllowed (value_in 1 key 0) (plain ValueIn 1 key 0)
all_allowed buffer cookie (Suspend ms) = one IsAllowed (value_in ms 0 0) (plain ValueIn ms 0 0)
all_allowed buffer cookie (FsOpen name) =
    three IsAllowed (value_in 0 0 0) (payload_in buffer cookie (length name)) value_out
    (plain ValueIn 0 0 0)
    (plain TmemIn (payload_at buffer) (length name) cookie)
    (plain ValueOut 0 0 0)
all_allowed buffer cookie (FsCreate name) =
    three IsAllowed (value_in 1 0 0) (payload_in buffer cookie (length name)) value_out
    (plain ValueIn 1 0 0)
    (plain TmemIn (payload_at buffer) (length name) cookie)
    (plain ValueOut 0 0 0)
all_allowed buffer cookie (FsClose fd) = one IsAllowed (value_in 2 fd 0) (plain ValueIn 2 fd 0)
all_allowed buffer cookie (FsRead fd offset len) =
    two IsAllowed (value_in 3 fd offset) (payload_out buffer cookie len) (plain ValueIn 3 fd offset) (plain TmemOut (payload_at buffer) len cookie)
all_allowed buffer cookie (FsWrite fd offset len) =
    two IsAllowed (value_in 4 fd offset) (payload_in buffer cookie len) (plain ValueIn 4 fd offset) (plain TmemIn (payload_at buffer) len cookie)
all_allowed buffer cookie (FsRemove name) =
    two IsAllowed (value_in 6 0 0) (payload_in buffer cookie (length name)) (plain ValueIn 6 0 0)
    (plain TmemIn (payload_at buffer) (length name) cookie)
