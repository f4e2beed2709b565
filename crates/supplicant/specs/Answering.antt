-- What is written into a message to answer it, and what stands there then.
use Rattle.std.specs.Prelude.{ℕ, List, [], ◌∷◌}
use Rattle.std.specs.Int.{to_le_bytes, w32, w64}
use Rattle.msg_args.specs.Layout.{p_at, q_at, ret_at}
use Rattle.ns_ram.specs.Writes.{Write}
use Rattle.rpc_msgs.specs.declared.rpc.Rpc.{Rpc}
use Rattle.rpc_msgs.specs.declared.rpc.Rpc.TheVariants.{Time, FsOpen, FsCreate, FsRead}
use Rattle.rpc_msgs.specs.declared.rpc.RpcReply.{RpcReply}
use Rattle.rpc_msgs.specs.Request.{payload_writes}

-- the result, and a number of eight bytes
abbrev pub ret_write : ℕ → ℕ → Write
ret_write buffer ret = record { addr = ret_at buffer; bytes = to_le_bytes w32 ret }

abbrev pub number_write : ℕ → ℕ → Write
number_write addr number = record { addr = addr; bytes = to_le_bytes w64 number }

-- behind the result, the numbers that are read of a reply, in the order in which they are, and the bytes of a read
abbrev pub numbers_writes : ℕ → Rpc → RpcReply → List Write
numbers_writes buffer Time reply = number_write (p_at buffer 0) reply.v ∷ number_write (q_at buffer 0) reply.w ∷ []
numbers_writes buffer (FsOpen name) reply = number_write (p_at buffer 2) reply.v ∷ []
numbers_writes buffer (FsCreate name) reply = number_write (p_at buffer 2) reply.v ∷ []
numbers_writes buffer (FsRead fd offset len) reply = number_write (q_at buffer 1) reply.size ∷ payload_writes buffer reply.bytes
numbers_writes buffer _ reply = []

abbrev pub reply_writes : ℕ → Rpc → RpcReply → List Write
reply_writes buffer rpc reply = ret_write buffer reply.ret ∷ numbers_writes buffer rpc reply

-- of a message that holds no request: NOT_SUPPORTED (GlobalPlatform API)
abbrev pub NOT_SUPPORTED : ℕ
NOT_SUPPORTED = 0xffff000a

abbrev pub refusal_writes : ℕ → List Write
refusal_writes buffer = ret_write buffer NOT_SUPPORTED ∷ []
