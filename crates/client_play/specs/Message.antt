-- What the client's supplicant makes of what stands in the message buffer, as a function. A message holds one request at most,
-- and which one that can be its first numbers tell.
use Rattle.std.specs.Prelude.{ℕ, List, [], length, take, drop, nat_le, if◌then◌else◌, Bool, ◌&&◌, Option, Some, None, bytes_eq}
use Rattle.std.specs.Option.{option_and_then}
use Rattle.std.specs.Result.{result_ok}
use Rattle.msg_args.specs.Reading.{argument, head_at}
use Rattle.msg_args.specs.Layout.{argument_len}
use Rattle.msg_args.specs.Spelling.{spelling}
use Rattle.msg_args.specs.declared.arg.MsgArg.{MsgArg}
use Rattle.ns_ram.specs.Lane.{bytes_at}
use Rattle.ns_ram.specs.Writes.{Write}
use Rattle.rpc_msgs.specs.Request.{request_arg}
use Rattle.rpc_msgs.specs.declared.rpc.Rpc.{Rpc}
use Rattle.rpc_msgs.specs.declared.rpc.Rpc.TheVariants.{FsOpen, FsCreate, FsRead, FsWrite, FsRemove}
use Rattle.supplicant.specs.Answering.{refusal_writes, reply_writes}
use Rattle.supplicant.specs.Candidate.{front_of, rpc_in}
use Rattle.supplicant.specs.Supplicant.{Storage, answered}
use Rattle.teec.specs.Places.{message_at, message_cookie}

-- a request with its payload
abbrev pub Request : Type 0
Request = Rpc × List ℕ

-- ---- the request that a message holds

-- the argument at the start of a message
abbrev pub argument_in : List ℕ → Option MsgArg
argument_in message = result_ok (argument (take (argument_len (head_at (take 32 message)).count) message))

-- so many bytes of those where payloads stand, if a message has room for them and they all stand there
abbrev pub whole_front : List ℕ → ℕ → Option (List ℕ)
whole_front bytes len = if nat_le len (length bytes) then front_of bytes len else None

-- the payload of a request, of the bytes where payloads stand
abbrev pub payload_in : Rpc → List ℕ → Option (List ℕ)
payload_in (FsOpen name) bytes = Some name
payload_in (FsCreate name) bytes = Some name
payload_in (FsRemove name) bytes = Some name
payload_in (FsWrite fd offset len) bytes = whole_front bytes len
payload_in (FsRead fd offset len) bytes = if nat_le len 3584 then Some [] else None
payload_in _ bytes = Some []

-- the message begins with these bytes, and has those of the payload
abbrev pub begins_with : List ℕ → List ℕ → Bool
begins_with bytes front = bytes_eq (take (length front) bytes) front

abbrev pub has_bytes_of : List ℕ → Rpc → List ℕ → Bool
has_bytes_of message rpc payload =
    begins_with message (spelling (request_arg message_at message_cookie rpc)) && begins_with (drop 512 message) payload

-- this request, if the message has the bytes that are written for it
abbrev pub if_held : List ℕ → Rpc → List ℕ → Option Request
if_held message rpc payload = if has_bytes_of message rpc payload then Some (rpc, payload) else None

abbrev pub request_with : List ℕ → Rpc → Option Request
request_with message rpc = option_and_then (if_held message rpc) (payload_in rpc (drop 512 message))

abbrev pub request_in : List ℕ → Option Request
request_in message =
    option_and_then (λ arg. option_and_then (request_with message) (rpc_in arg (drop 512 message))) (argument_in message)

-- ---- its answer

-- what is written to RAM, and the supplicant's storage then
pub record Prepared : Type 0 where
  pub writes : List Write
  pub storage : Storage

-- nothing is written, and the storage stays
abbrev pub nothing_done : Storage → Prepared
nothing_done storage = record { writes = []; storage = storage }

-- the supplicant's reply to a request; or NOT_SUPPORTED to a message that holds none
abbrev pub reply_to : Storage → Option Request → Prepared
reply_to storage None = record { writes = refusal_writes message_at; storage = storage }
reply_to storage (Some (rpc, payload)) =
    record {
      writes = reply_writes message_at rpc (answered storage rpc payload).reply;
      storage = (answered storage rpc payload).after;
    }

-- the answer to what stands in the message buffer of this RAM
abbrev pub answer_message : List ℕ → Storage → Prepared
answer_message ram storage = reply_to storage (request_in (bytes_at ram message_at 4096))
