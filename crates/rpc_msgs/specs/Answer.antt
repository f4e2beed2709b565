-- What becomes of a request: a reply, or no buffer to write it in.
use Rattle.std.specs.Prelude.{◌≡◌, ℕ, ◌^◌, ◌<◌, nat_le, [], length, if◌then◌else◌}
use Rattle.rpc_msgs.specs.declared.rpc.Rpc.{Rpc}
use Rattle.rpc_msgs.specs.declared.rpc.Rpc.TheVariants.{Time, Sleep, Wake, Suspend, FsOpen, FsCreate, FsClose, FsRead, FsWrite, FsRemove}
use Rattle.rpc_msgs.specs.declared.rpc.RpcReply.{RpcReply}

pub data RpcAnswer : Type 0 where
  Replied : (reply : RpcReply) → RpcAnswer
  NoBuffer : RpcAnswer

-- ---- which replies there are

-- a reply of which nothing is read
abbrev pub nothing_read : RpcReply
nothing_read = record { ret = 0; v = 0; w = 0; size = 0; bytes = [] }

-- its numbers have four bytes and eight
pub record FitsReply (reply : RpcReply) : Type 0 where
  pub ret : reply.ret < 2 ^ 32
  pub v : reply.v < 2 ^ 64
  pub w : reply.w < 2 ^ 64
  pub size : reply.size < 2 ^ 64

-- as many bytes as the size says, where it says at most so many, and else none
abbrev pub HasBytes : ℕ → RpcReply → Type 0
HasBytes most reply = length reply.bytes ≡ (if nat_le reply.size most then reply.size else 0)

-- a reply to the request: what isn't read of it is 0, or empty
abbrev pub IsReplyTo : Rpc → RpcReply → Type 0
IsReplyTo Time reply = reply ≡ record nothing_read { ret = reply.ret; v = reply.v; w = reply.w }
IsReplyTo (Sleep key) reply = reply ≡ nothing_read
IsReplyTo (Wake key) reply = reply ≡ nothing_read
IsReplyTo (Suspend ms) reply = reply ≡ nothing_read
IsReplyTo (FsOpen name) reply = reply ≡ record nothing_read { ret = reply.ret; v = reply.v }
IsReplyTo (FsCreate name) reply = reply ≡ record nothing_read { ret = reply.ret; v = reply.v }
IsReplyTo (FsClose fd) reply = reply ≡ record nothing_read { ret = reply.ret }
IsReplyTo (FsRead fd offset len) reply =
    (reply ≡ record nothing_read { ret = reply.ret; size = reply.size; bytes = reply.bytes }) × HasBytes len reply
IsReplyTo (FsWrite fd offset len) reply = reply ≡ record nothing_read { ret = reply.ret }
IsReplyTo (FsRemove name) reply = reply ≡ record nothing_read { ret = reply.ret }
