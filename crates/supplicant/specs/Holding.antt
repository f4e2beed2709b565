-- Which request a message holds: the one for which its bytes are written, its whole argument and its payload. No other byte
-- counts, and any other argument is no request.
use Rattle.std.specs.Prelude.{◌≡◌, ℕ, ◌<◌, ◌^◌, List, length, take, drop}
use Rattle.msg_args.specs.declared.arg.MsgArg.{MsgArg}
use Rattle.msg_args.specs.Spelling.{spelling}
use Rattle.rpc_msgs.specs.declared.rpc.Rpc.{Rpc}
use Rattle.rpc_msgs.specs.declared.rpc.Rpc.TheVariants.{Time, Sleep, Wake, Suspend, FsOpen, FsCreate, FsClose, FsRead, FsWrite, FsRemove}
use Rattle.rpc_msgs.specs.FileName.{IsFileName}
use Rattle.rpc_msgs.specs.Request.{IsPayloadOf, IsRequest, request_arg}

-- its numbers fit their types, and its name is a name of a file
abbrev pub IsValue : Rpc → Type 0
IsValue Time = Unit {0}
IsValue (Sleep key) = key < 2 ^ 32
IsValue (Wake key) = key < 2 ^ 32
IsValue (Suspend ms) = ms < 2 ^ 32
IsValue (FsOpen name) = IsFileName name
IsValue (FsCreate name) = IsFileName name
IsValue (FsClose fd) = fd < 2 ^ 64
IsValue (FsRead fd offset len) = (fd < 2 ^ 64) × (offset < 2 ^ 64) × (len < 2 ^ 32)
IsValue (FsWrite fd offset len) = (fd < 2 ^ 64) × (offset < 2 ^ 64) × (len < 2 ^ 32)
IsValue (FsRemove name) = IsFileName name

-- a message begins with the bytes of an argument
unfoldable pub BeginsWith : List ℕ → MsgArg → Type 0
BeginsWith message arg = take (length (spelling arg)) message ≡ spelling arg

-- a message has the bytes that are written for a request: its argument at the start, and its payload at 512
pub record HoldsBytes (message : List ℕ) (buffer cookie : ℕ) (rpc : Rpc) (payload : List ℕ) : Type 0 where
  pub argument : BeginsWith message (request_arg buffer cookie rpc)
  pub bytes : take (length payload) (drop 512 message) ≡ payload

-- a message, of which these are the bytes, holds this request with this payload. It stands at this address, and the normal
-- world knows it by this cookie
pub record Holds (message : List ℕ) (buffer cookie : ℕ) (rpc : Rpc) (payload : List ℕ) : Type 0 where
  pub value : IsValue rpc
  pub request : IsRequest rpc
  pub payload_of : IsPayloadOf rpc payload
  pub bytes : HoldsBytes message buffer cookie rpc payload
