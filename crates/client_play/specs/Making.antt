-- What a client does before each SMC of a call: the writes to RAM that prepare it. Which SMC comes next, by the answers so far,
-- is that of each client (`teec`).
use Rattle.std.specs.Prelude.{ℕ, zero, suc, List, ◌==◌, if◌then◌else◌}
use Rattle.ns_ram.specs.Writes.{Write}
use Rattle.supplicant.specs.Supplicant.{Storage}
use Rattle.teec.specs.Calls.{Call, cancel_writes}
use Rattle.teec.specs.Rounds.{Calls, Cancels, Ended, Failed, Resumes, Stage}
use Rattle.teec.specs.Places.{message_cookie}
use Rattle.teec.specs.declared.answer.RpcKind.{RpcKind}
use Rattle.teec.specs.declared.answer.RpcKind.TheVariants.{Alloc, Free, Interrupt, Cmd}
use Rattle.client_play.specs.Message.{Prepared, answer_message, nothing_done}

-- these writes, and the storage stays
abbrev pub written : List Write → Storage → Prepared
written writes storage = record { writes = writes; storage = storage }

-- an RPC return is answered: a CMD of the client's one buffer there, and others by the SMC alone
abbrev pub answer_rpc : RpcKind → List ℕ → Storage → Prepared
answer_rpc Alloc ram storage = nothing_done storage
answer_rpc Free ram storage = nothing_done storage
answer_rpc Interrupt ram storage = nothing_done storage
answer_rpc (Cmd cookie) ram storage =
    if cookie == message_cookie then answer_message ram storage else nothing_done storage

-- before the SMC of a stage of a call. The call is written once, however often it is made
abbrev pub prepared_at : Call → Stage → List ℕ → Storage → Prepared
prepared_at call (Calls zero) ram storage = written call.writes storage
prepared_at call (Calls (suc refused)) ram storage = nothing_done storage
prepared_at call (Cancels returns rpc) ram storage = written (cancel_writes call.session) storage
prepared_at call (Resumes returns rpc) ram storage = answer_rpc rpc.kind ram storage
prepared_at call Ended ram storage = nothing_done storage
prepared_at call (Failed fault) ram storage = nothing_done storage
