-- The message of a request: an argument as optee_msg.h lays it out, and the bytes that go with it, its payload, in a
-- buffer of 4096 bytes. The commands go by the names of optee_rpc_cmd.h; their numbers and parameters are this
-- project's own.
use Rattle.std.specs.Prelude.{◌≡◌, ℕ, ◌+◌, ◌≤◌, Bool, true, false, List, [], ◌∷◌, length, Option, unwrap_or}
use Rattle.msg_args.specs.declared.arg.MsgArg.{MsgArg}
use Rattle.msg_args.specs.declared.kind.ParamKind.{ParamKind}
use Rattle.msg_args.specs.declared.kind.ParamKind.TheVariants.{ValueIn, ValueOut, TmemIn, TmemOut}
use Rattle.msg_args.specs.declared.param.MsgParam.{MsgParam}
use Rattle.msg_args.specs.Spelling.{spelling}
use Rattle.ns_ram.specs.Writes.{Write}
use Rattle.rpc_msgs.specs.declared.rpc.Rpc.{Rpc}
use Rattle.rpc_msgs.specs.declared.rpc.Rpc.TheVariants.{Time, Sleep, Wake, Suspend, FsOpen, FsCreate, FsClose, FsRead, FsWrite, FsRemove}

-- ---- requests and their payloads

-- a request that a message has room for: a piece of a file has at most 3584 bytes
abbrev pub IsRequest : Rpc → Type 0
IsRequest (FsRead fd offset len) = len ≤ 3584
IsRequest (FsWrite fd offset len) = len ≤ 3584
IsRequest _ = Unit {0}

-- the payload of a request: the name's bytes, the bytes to write, and else none
abbrev pub IsPayloadOf : Rpc → List ℕ → Type 0
IsPayloadOf (FsOpen name) payload = payload ≡ name
IsPayloadOf (FsCreate name) payload = payload ≡ name
IsPayloadOf (FsRemove name) payload = payload ≡ name
IsPayloadOf (FsWrite fd offset len) payload = length payload ≡ len
IsPayloadOf _ payload = payload ≡ []

-- it has a payload, for the normal world or from it, and so needs a buffer
abbrev pub has_payload : Rpc → Bool
has_payload Time = false
has_payload (Sleep key) = false
has_payload (Wake key) = false
has_payload (Suspend ms) = false
has_payload (FsOpen name) = true
has_payload (FsCreate name) = true
has_payload (FsClose fd) = false
has_payload (FsRead fd offset len) = true
has_payload (FsWrite fd offset len) = true
has_payload (FsRemove name) = true

-- ---- the argument

-- where the payload stands in the buffer
abbrev pub payload_at : ℕ → ℕ
payload_at buffer = buffer + 512

abbrev pub param : ParamKind → ℕ → ℕ → ℕ → MsgParam
param kind p q s = record { kind = kind; meta = false; noncontig = false; cache = 0; p = p; q = q; s = s }

-- numbers for the normal world, and numbers from it
abbrev pub value_in : ℕ → ℕ → ℕ → MsgParam
value_in p q s = param ValueIn p q s

abbrev pub value_out : MsgParam
value_out = param ValueOut 0 0 0

-- bytes for the normal world, and bytes from it: so many of the payload of the buffer at an address, which the
-- normal world knows by a cookie
abbrev pub payload_in : ℕ → ℕ → ℕ → MsgParam
payload_in buffer cookie len = param TmemIn (payload_at buffer) len cookie

abbrev pub payload_out : ℕ → ℕ → ℕ → MsgParam
payload_out buffer cookie len = param TmemOut (payload_at buffer) len cookie

-- a command with its parameters. The result says that there is none yet, and the numbers that a request has no
-- use for are 0
abbrev pub argument : ℕ → List MsgParam → MsgArg
argument cmd params =
    record {
      head = record { cmd = cmd; func = 0; session = 0; cancel_id = 0; pad = 0; ret = 0xffff0000; origin = 0; count = length params };
      params = record { items = params };
    }

-- a file system's function is the first number
abbrev pub files : ℕ → ℕ → ℕ → List MsgParam → MsgArg
files function fd offset params = argument 2 (value_in function fd offset ∷ params)

-- the argument of each request, whose payload, if it has one, stands in the buffer at an address with a cookie
abbrev pub request_arg : ℕ → ℕ → Rpc → MsgArg
request_arg buffer cookie Time = argument 3 (value_out ∷ [])
request_arg buffer cookie (Sleep key) = argument 4 (value_in 0 key 0 ∷ [])
request_arg buffer cookie (Wake key) = argument 4 (value_in 1 key 0 ∷ [])
request_arg buffer cookie (Suspend ms) = argument 5 (value_in ms 0 0 ∷ [])
request_arg buffer cookie (FsOpen name) = files 0 0 0 (payload_in buffer cookie (length name) ∷ value_out ∷ [])
request_arg buffer cookie (FsCreate name) = files 1 0 0 (payload_in buffer cookie (length name) ∷ value_out ∷ [])
request_arg buffer cookie (FsClose fd) = files 2 fd 0 []
request_arg buffer cookie (FsRead fd offset len) = files 3 fd offset (payload_out buffer cookie len ∷ [])
request_arg buffer cookie (FsWrite fd offset len) = files 4 fd offset (payload_in buffer cookie len ∷ [])
request_arg buffer cookie (FsRemove name) = files 6 0 0 (payload_in buffer cookie (length name) ∷ [])

-- ---- what is written

-- the payload, where there is one
abbrev pub payload_writes : ℕ → List ℕ → List Write
payload_writes buffer [] = []
payload_writes buffer (byte ∷ bytes) = record { addr = payload_at buffer; bytes = byte ∷ bytes } ∷ []

-- the argument at an address, all of its head and its parameters, and then the payload in the buffer at another, which
-- the normal world knows by a cookie. One that has no payload needs no buffer
abbrev pub request_writes : ℕ → Option (ℕ × ℕ) → Rpc → List ℕ → List Write
request_writes at buffer rpc payload =
    let there = unwrap_or buffer (0, 0) in
    record { addr = at; bytes = spelling (request_arg there.0 there.1 rpc) } ∷ payload_writes there.0 payload
