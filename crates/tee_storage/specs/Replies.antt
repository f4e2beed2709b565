-- What a reply to a request on a file comes to. This project's own.
use Rattle.std.specs.Prelude.{ℕ, Bool, ◌==◌, ◌||◌, ◌&&◌, List, length, if◌then◌else◌}
use Rattle.rpc_msgs.specs.declared.rpc.Rpc.{Rpc}
use Rattle.rpc_msgs.specs.declared.rpc.RpcReply.{RpcReply}
use Rattle.tee_storage.specs.Program.{Now, Program, Asks, fails}

-- the result of a call that a reply's ret ends: ITEM_NOT_FOUND and ACCESS_CONFLICT are handed on, and all else is
-- STORAGE_NOT_AVAILABLE
abbrev pub failure_of : ℕ → ℕ
failure_of ret =
    if (ret == 0xffff0008) || (ret == 0xffff0003) then ret else 0xf0100003

-- a ret other than 0 ends the call, and all stays as it is
abbrev pub unless_failed : ℕ → Now → Program → Program
unless_failed ret now onward = if ret == 0 then onward else fails (failure_of ret) now

-- a request whose reply's ret counts, before all else in the reply
abbrev pub asks : Rpc → List ℕ → Now → (RpcReply → Program) → Program
asks rpc payload now onward = Asks rpc payload now (λ reply. unless_failed reply.ret now (onward reply))

-- the reply brings as many bytes as were asked for
abbrev pub is_whole : RpcReply → ℕ → Bool
is_whole reply len = (reply.size == len) && (length reply.bytes == len)

-- and tells of no failure
abbrev pub brings_piece : RpcReply → ℕ → Bool
brings_piece reply len = (reply.ret == 0) && is_whole reply len
