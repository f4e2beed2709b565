-- A call of a client as data: what it writes to RAM, and the session that its cancellation names.
use Rattle.std.specs.Prelude.{ℕ, List, [], ◌∷◌, ◌++◌}
use Rattle.msg_args.specs.declared.arg.MsgArg.{MsgArg}
use Rattle.msg_args.specs.Spelling.{spelling}
use Rattle.ns_ram.specs.Writes.{Write}
use Rattle.teec.specs.declared.operation.Operation.{Operation}
use Rattle.teec.specs.Arguments.{cancel_argument, close_argument, invoke_argument, open_argument}
use Rattle.teec.specs.Operation.{buffer_writes}
use Rattle.teec.specs.Places.{argument_at, cancel_at}

-- what is written before its first SMC, and the session that its cancellation names
pub record Call : Type 0 where
  pub writes : List Write
  pub session : ℕ

abbrev pub argument_write : ℕ → MsgArg → Write
argument_write addr arg = record { addr = addr; bytes = spelling arg }

-- buffers first, and then the argument
abbrev pub call_writes : MsgArg → Operation → List Write
call_writes arg op = buffer_writes op ++ argument_write argument_at arg ∷ []

-- a call with an operation, of this argument, in a session
abbrev pub call_of : MsgArg → Operation → ℕ → Call
call_of arg op session = record { writes = call_writes arg op; session = session }

-- a session that is being opened has no number yet, so its cancellation names session 0
abbrev pub open_call : List ℕ → Operation → ℕ → Call
open_call uuid op sent = call_of (open_argument uuid op sent) op 0

abbrev pub invoke_call : ℕ → ℕ → Operation → ℕ → Call
invoke_call session func op sent = call_of (invoke_argument session func op sent) op session

abbrev pub close_call : ℕ → Call
close_call session =
    record { writes = argument_write argument_at (close_argument session) ∷ []; session = session }

-- what is written before the cancellation of a call
abbrev pub cancel_writes : ℕ → List Write
cancel_writes session = argument_write cancel_at (cancel_argument session) ∷ []
