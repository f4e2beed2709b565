-- What is read of the reply to a request: each number by itself, in this order, whatever the result says.
use Rattle.std.specs.Prelude.{ℕ, nat_le, List, [], ◌++◌, if◌then◌else◌, Option, unwrap_or}
use Rattle.std.specs.Int.{from_le_bytes, to_le_bytes, w32, w64}
use Rattle.msg_args.specs.Layout.{p_at, q_at, ret_at}
use Rattle.ns_ram.specs.declared.read.Read.{Read}
use Rattle.ns_ram.specs.Reader.{Reader, done, ◌>>=◌, take_bytes}
use Rattle.ns_ram.specs.Reads.{listed}
use Rattle.rpc_msgs.specs.declared.rpc.Rpc.{Rpc}
use Rattle.rpc_msgs.specs.declared.rpc.Rpc.TheVariants.{Time, Sleep, Wake, Suspend, FsOpen, FsCreate, FsClose, FsRead, FsWrite, FsRemove}
use Rattle.rpc_msgs.specs.declared.rpc.RpcReply.{RpcReply}
use Rattle.rpc_msgs.specs.Answer.{nothing_read}
use Rattle.rpc_msgs.specs.Request.{payload_at}

-- a number of four bytes, and one of eight
abbrev pub take_u32 : ℕ → Reader ℕ
take_u32 addr = do
  bytes ← take_bytes addr 4
  done (from_le_bytes w32 bytes)

abbrev pub take_u64 : ℕ → Reader ℕ
take_u64 addr = do
  bytes ← take_bytes addr 8
  done (from_le_bytes w64 bytes)

-- the result alone
abbrev pub ret_alone : ℕ → Reader RpcReply
ret_alone at = do
  ret ← take_u32 (ret_at at)
  done (record nothing_read { ret = ret })

-- seconds and nanoseconds
abbrev pub time_of : ℕ → Reader RpcReply
time_of at = do
  ret ← take_u32 (ret_at at)
  seconds ← take_u64 (p_at at 0)
  nanoseconds ← take_u64 (q_at at 0)
  done (record nothing_read { ret = ret; v = seconds; w = nanoseconds })

-- the descriptor of an open file
abbrev pub descriptor_of : ℕ → Reader RpcReply
descriptor_of at = do
  ret ← take_u32 (ret_at at)
  fd ← take_u64 (p_at at 2)
  done (record nothing_read { ret = ret; v = fd })

-- so many bytes of the payload in a buffer, where they are no more than were asked for, and else none
abbrev pub payload_of : ℕ → ℕ → ℕ → Reader (List ℕ)
payload_of buffer most size = if nat_le size most then take_bytes (payload_at buffer) size else done []

-- a piece of a file: its size, and its bytes in the buffer
abbrev pub piece_of : ℕ → ℕ → ℕ → Reader RpcReply
piece_of at buffer most = do
  ret ← take_u32 (ret_at at)
  size ← take_u64 (q_at at 1)
  bytes ← payload_of buffer most size
  done (record nothing_read { ret = ret; size = size; bytes = bytes })

-- what each request reads of the reply: its argument is at an address, and its payload, if it has one, in a buffer at
-- another
abbrev pub reply_reader : ℕ → Option ℕ → Rpc → Reader RpcReply
reply_reader at buffer Time = time_of at
reply_reader at buffer (Sleep key) = done nothing_read
reply_reader at buffer (Wake key) = done nothing_read
reply_reader at buffer (Suspend ms) = done nothing_read
reply_reader at buffer (FsOpen name) = descriptor_of at
reply_reader at buffer (FsCreate name) = descriptor_of at
reply_reader at buffer (FsClose fd) = ret_alone at
reply_reader at buffer (FsRead fd offset len) = piece_of at (unwrap_or buffer 0) len
reply_reader at buffer (FsWrite fd offset len) = ret_alone at
reply_reader at buffer (FsRemove name) = ret_alone at

-- ---- the list of what was read

-- a list of reads with those of a reply behind them: the result alone, a time, a descriptor, a piece of a file
abbrev pub with_ret : ℕ → RpcReply → List Read → List Read
with_ret at reply before = before ++ listed (ret_at at) (to_le_bytes w32 reply.ret)

abbrev pub with_time : ℕ → RpcReply → List Read → List Read
with_time at reply before =
    with_ret at reply before ++ listed (p_at at 0) (to_le_bytes w64 reply.v) ++ listed (q_at at 0) (to_le_bytes w64 reply.w)

abbrev pub with_descriptor : ℕ → RpcReply → List Read → List Read
with_descriptor at reply before = with_ret at reply before ++ listed (p_at at 2) (to_le_bytes w64 reply.v)

abbrev pub with_piece : ℕ → ℕ → RpcReply → List Read → List Read
with_piece at buffer reply before =
    with_ret at reply before ++ listed (q_at at 1) (to_le_bytes w64 reply.size) ++ listed (payload_at buffer) reply.bytes

-- the same of the reply to each request
abbrev pub with_reply : ℕ → Option ℕ → Rpc → RpcReply → List Read → List Read
with_reply at buffer Time reply before = with_time at reply before
with_reply at buffer (Sleep key) reply before = before
with_reply at buffer (Wake key) reply before = before
with_reply at buffer (Suspend ms) reply before = before
with_reply at buffer (FsOpen name) reply before = with_descriptor at reply before
with_reply at buffer (FsCreate name) reply before = with_descriptor at reply before
with_reply at buffer (FsClose fd) reply before = with_ret at reply before
with_reply at buffer (FsRead fd offset len) reply before = with_piece at (unwrap_or buffer 0) reply before
with_reply at buffer (FsWrite fd offset len) reply before = with_ret at reply before
with_reply at buffer (FsRemove name) reply before = with_ret at reply before
