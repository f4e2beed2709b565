-- The parameters of an operation: how they are sent, by optee_msg.h, and what comes back.
use Rattle.std.specs.Prelude.{◌≡◌, ℕ, suc, ◌+◌, ◌≤◌, false, List, [], ◌∷◌, ◌++◌, length, take, drop}
use Rattle.std.specs.List.{AllByRecursion}
use Rattle.std.specs.Int.{from_le_bytes, w32}
use Rattle.msg_args.specs.declared.kind.ParamKind.{ParamKind}
use Rattle.msg_args.specs.declared.kind.ParamKind.TheVariants as kinds
use Rattle.msg_args.specs.declared.param.MsgParam.{MsgParam}
use Rattle.msg_args.specs.Layout.{p_at, q_at}
use Rattle.ns_ram.specs.Lane.{bytes_at}
use Rattle.ns_ram.specs.Writes.{Write}
use Rattle.ta_params.specs.declared.copied_params.Way.{Way}
use Rattle.ta_params.specs.declared.copied_params.Way.TheVariants.{In, Out, Inout}
use Rattle.ta_params.specs.declared.copied_params.GpParam.{GpParam}
use Rattle.ta_params.specs.declared.copied_params.GpParam.TheVariants.{Empty, Value, Memref}
use Rattle.ta_params.specs.declared.copied_params.CopiedParams.{CopiedParams}
use Rattle.teec.specs.declared.operation.Operation.{Operation}
use Rattle.teec.specs.Places.{argument_at, memory_at}

-- the four, the first one first
abbrev pub params_of : CopiedParams → List GpParam
params_of params = params.p0 ∷ params.p1 ∷ params.p2 ∷ params.p3 ∷ []

-- ---- which operations can be sent

-- a buffer has at most 65,536 bytes, and the size is that of the buffer
abbrev pub FitsItsPlace : GpParam → Type 0
FitsItsPlace Empty = Unit {0}
FitsItsPlace (Value way a b) = Unit {0}
FitsItsPlace (Memref way buf size) = (length buf ≤ 65536) × (size ≡ length buf)

abbrev pub IsSendable : Operation → Type 0
IsSendable op = AllByRecursion FitsItsPlace (params_of op.params)

-- so many of its parameters are sent, and those behind them are empty
pub record Sends (op : Operation) (sent : ℕ) : Type 0 where
  pub at_most_four : sent ≤ 4
  pub others_empty : AllByRecursion (λ param. param ≡ Empty) (drop sent (params_of op.params))

-- ---- sent

abbrev pub value_kind : Way → ParamKind
value_kind In = kinds.ValueIn
value_kind Out = kinds.ValueOut
value_kind Inout = kinds.ValueInout

abbrev pub memory_kind : Way → ParamKind
memory_kind In = kinds.TmemIn
memory_kind Out = kinds.TmemOut
memory_kind Inout = kinds.TmemInout

-- a parameter of the call, contiguous where it is memory
abbrev pub plain : ParamKind → ℕ → ℕ → MsgParam
plain kind p q = record { kind = kind; meta = false; noncontig = false; cache = 0; p = p; q = q; s = 0 }

-- the parameter of a number as it is sent: two numbers, or the place of its memory and how many bytes that has
abbrev pub param_sent : ℕ → GpParam → MsgParam
param_sent number Empty = plain kinds.Empty 0 0
param_sent number (Value way a b) = plain (value_kind way) a b
param_sent number (Memref way buf size) = plain (memory_kind way) (memory_at number) (length buf)

-- the parameters from a number on
abbrev pub sent_from : ℕ → List GpParam → List MsgParam
sent_from number [] = []
sent_from number (param ∷ params) = param_sent number param ∷ sent_from (suc number) params

abbrev pub params_sent : Operation → ℕ → List MsgParam
params_sent op sent = sent_from 0 (take sent (params_of op.params))

-- a buffer's bytes are written to its place before the call, whichever way they go: what a call leaves alone of an output
-- is what the caller had there
abbrev pub memory_writes : ℕ → GpParam → List Write
memory_writes number Empty = []
memory_writes number (Value way a b) = []
memory_writes number (Memref way buf size) = record { addr = memory_at number; bytes = buf } ∷ []

abbrev pub writes_from : ℕ → List GpParam → List Write
writes_from number [] = []
writes_from number (param ∷ params) = memory_writes number param ++ writes_from (suc number) params

abbrev pub buffer_writes : Operation → List Write
buffer_writes op = writes_from 0 (params_of op.params)

-- ---- back

-- the low 32 bits of the number at an address
abbrev pub low_word : List ℕ → ℕ → ℕ
low_word ram addr = from_le_bytes w32 (bytes_at ram addr 4)

-- an output as RAM holds it: two numbers; or a size, which may be any, and as many bytes as the buffer has. The argument has it
-- at one number, and the operation at another
abbrev pub value_back : List ℕ → ℕ → Way → GpParam
value_back ram place way = Value way (low_word ram (p_at argument_at place)) (low_word ram (q_at argument_at place))

abbrev pub memory_back : List ℕ → ℕ → ℕ → Way → List ℕ → GpParam
memory_back ram place number way buf = Memref way (bytes_at ram (memory_at number) (length buf)) (low_word ram (q_at argument_at place))

-- inputs are as they were
abbrev pub param_back : List ℕ → ℕ → ℕ → GpParam → GpParam
param_back ram place number Empty = Empty
param_back ram place number (Value In a b) = Value In a b
param_back ram place number (Value Out a b) = value_back ram place Out
param_back ram place number (Value Inout a b) = value_back ram place Inout
param_back ram place number (Memref In buf size) = Memref In buf size
param_back ram place number (Memref Out buf size) = memory_back ram place number Out buf
param_back ram place number (Memref Inout buf size) = memory_back ram place number Inout buf

-- all of them, behind so many parameters of the argument that aren't the operation's
abbrev pub params_back : List ℕ → ℕ → CopiedParams → CopiedParams
params_back ram before params =
    record {
      p0 = param_back ram (before + 0) 0 params.p0;
      p1 = param_back ram (before + 1) 1 params.p1;
      p2 = param_back ram (before + 2) 2 params.p2;
      p3 = param_back ram (before + 3) 3 params.p3;
    }

abbrev pub operation_back : List ℕ → ℕ → Operation → Operation
operation_back ram before op = record op { params = params_back ram before op.params }
