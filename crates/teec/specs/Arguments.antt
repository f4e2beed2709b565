-- The arguments of a client's calls, by optee_msg.h.
use Rattle.std.specs.Prelude.{ℕ, List, [], ◌∷◌, length, take, drop, true, false}
use Rattle.std.specs.Int.{from_le_bytes, w64}
use Rattle.msg_args.specs.declared.arg.MsgArg.{MsgArg}
use Rattle.msg_args.specs.declared.head.MsgHead.{MsgHead}
use Rattle.msg_args.specs.declared.kind.ParamKind.TheVariants as kinds
use Rattle.msg_args.specs.declared.param.MsgParam.{MsgParam}
use Rattle.teec.specs.declared.operation.Operation.{Operation}
use Rattle.teec.specs.Operation.{params_sent}
use Rattle.teec.specs.Places.{cancel_id}

-- a head of a command and a session. Where nothing is named it is 0: result and origin too, as in a new argument of a driver
abbrev pub head_of : ℕ → ℕ → ℕ → ℕ → MsgHead
head_of cmd func session count =
    record { cmd = cmd; func = func; session = session; cancel_id = cancel_id; pad = 0; ret = 0; origin = 0; count = count }

abbrev pub argument_of : ℕ → ℕ → ℕ → List MsgParam → MsgArg
argument_of cmd func session params = record { head = head_of cmd func session (length params); params = record { items = params } }

-- 16 octets, as a value in of which META is set
abbrev pub name_of : List ℕ → MsgParam
name_of octets =
    record {
      kind = kinds.ValueIn;
      meta = true;
      noncontig = false;
      cache = 0;
      p = from_le_bytes w64 (take 8 octets);
      q = from_le_bytes w64 (drop 8 octets);
      s = 0;
    }

-- the client: the nil UUID and login 0, which is TEE_LOGIN_PUBLIC
abbrev pub nobody : MsgParam
nobody = record { kind = kinds.ValueIn; meta = true; noncontig = false; cache = 0; p = 0; q = 0; s = 0 }

-- OPEN_SESSION 0, INVOKE_COMMAND 1, CLOSE_SESSION 2, CANCEL 3
abbrev pub open_argument : List ℕ → Operation → ℕ → MsgArg
open_argument uuid op sent = argument_of 0 0 0 (name_of uuid ∷ nobody ∷ params_sent op sent)

abbrev pub invoke_argument : ℕ → ℕ → Operation → ℕ → MsgArg
invoke_argument session func op sent = argument_of 1 func session (params_sent op sent)

abbrev pub close_argument : ℕ → MsgArg
close_argument session = argument_of 2 0 session []

abbrev pub cancel_argument : ℕ → MsgArg
cancel_argument session = argument_of 3 0 session []
