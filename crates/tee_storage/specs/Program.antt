-- What a call on an object does, as a program over the answers to its requests: it asks and goes on with the
-- reply, or it ends. This project's own.
use Rattle.std.specs.Prelude.{ℕ, List, [], ◌∷◌, Option, Some, None}
use Rattle.base.specs.NumberMap.{NumberMap}
use Rattle.rpc_msgs.specs.declared.rpc.Rpc.{Rpc}
use Rattle.rpc_msgs.specs.declared.rpc.RpcReply.{RpcReply}
use Rattle.rpc_msgs.specs.Answer.{RpcAnswer, Replied, NoBuffer}
use Rattle.tee_storage.specs.declared.handle.Handle.{Handle}
use Rattle.tee_storage.specs.declared.step.StorageStep.{StorageStep}
use Rattle.tee_storage.specs.declared.step.StorageStep.TheVariants.{Done}

-- the bytes of the memory range that a call names, and the open objects
pub record Now : Type 0 where
  pub range : List ℕ
  pub objects : NumberMap Handle

abbrev pub now_at : List ℕ → NumberMap Handle → Now
now_at range objects = record { range = range; objects = objects }

pub data Program : Type 0 where
  Asks : (rpc : Rpc) → (payload : List ℕ) → (now : Now) → (onward : RpcReply → Program) → Program
  Ends : (step : StorageStep) → (now : Now) → Program

-- it ends well, with this number beside the result
abbrev pub ends_with : ℕ → Now → Program
ends_with value now = Ends (Done 0 value) now

-- it ends with another result; the number beside it is then 0
abbrev pub fails : ℕ → Now → Program
fails result now = Ends (Done result 0) now

-- what is left of it after an answer, if it asked. Without a buffer for the request that is OUT_OF_MEMORY, and nothing
-- else changes
abbrev pub after_one : Program → RpcAnswer → Option Program
after_one (Asks rpc payload now onward) (Replied reply) = Some (onward reply)
after_one (Asks rpc payload now onward) NoBuffer = Some (fails 0xffff000c now)
after_one (Ends step now) answer = None

-- what is left of it after these answers, unless they go on behind its end
abbrev pub after : Option Program → List RpcAnswer → Option Program
after left [] = left
after None (answer ∷ answers) = None
after (Some program) (answer ∷ answers) = after (after_one program answer) answers
