-- The calls of a script as calls of a client: their operations, and what they come to.
use Rattle.std.specs.Prelude.{ℕ, List, [], ◌∷◌, ◌++◌, length, map, slice_index_or, if◌then◌else◌, Option, None, bytes_eq, replicate}
use Rattle.client_text.specs.declared.script.ScriptCall.{ScriptCall}
use Rattle.client_text.specs.declared.script.ScriptCall.TheVariants.{Open, Invoke, Close}
use Rattle.client_text.specs.declared.script.ScriptParam.{ScriptParam}
use Rattle.client_text.specs.declared.script.ScriptParam.TheVariants as script
use Rattle.ta_params.specs.declared.copied_params.CopiedParams.{CopiedParams}
use Rattle.ta_params.specs.declared.copied_params.GpParam.{GpParam}
use Rattle.ta_params.specs.declared.copied_params.GpParam.TheVariants.{Empty, Value, Memref}
use Rattle.ta_params.specs.declared.copied_params.Way.TheVariants.{In, Out, Inout}
use Rattle.teec.specs.Calls.{Call, close_call, invoke_call, open_call}
use Rattle.teec.specs.Operation.{operation_back}
use Rattle.teec.specs.Results.{session_in}
use Rattle.teec.specs.declared.operation.Operation.{Operation}

-- ---- operations

-- a parameter of the client. Room for bytes has zeros at first
abbrev pub param_of : ScriptParam → GpParam
param_of script.Empty = Empty
param_of (script.ValueIn a b) = Value In a b
param_of script.ValueOut = Value Out 0 0
param_of (script.ValueInout a b) = Value Inout a b
param_of (script.MemoryIn bytes) = Memref In bytes (length bytes)
param_of (script.MemoryOut len) = Memref Out (replicate len 0) len
param_of (script.MemoryInout bytes) = Memref Inout bytes (length bytes)

-- the one of a number; those behind the last one are empty
abbrev pub param_at : List ScriptParam → ℕ → GpParam
param_at params number = slice_index_or (map param_of params) number Empty

abbrev pub operation_of : List ScriptParam → Option ℕ → Operation
operation_of params cancel_after =
    record {
      params = record {
        p0 = param_at params 0;
        p1 = param_at params 1;
        p2 = param_at params 2;
        p3 = param_at params 3;
      };
      cancel_after = cancel_after;
    }

-- ---- sessions

-- the sessions of the names that were opened, the first one first
abbrev pub Sessions : Type 0
Sessions = List (List ℕ × ℕ)

-- the session that a name stands for
abbrev pub session_of : Sessions → List ℕ → ℕ
session_of [] name = 0
session_of ((opened, session) ∷ others) name = if bytes_eq opened name then session else session_of others name

-- ---- calls

-- a call of the script, where these sessions were opened. It sends as many parameters as its line has
abbrev pub call_of : Sessions → ScriptCall → Call
call_of sessions (Open name uuid params) = open_call uuid (operation_of params None) (length params)
call_of sessions (Invoke name func cancel_after params) =
    invoke_call (session_of sessions name) func (operation_of params cancel_after) (length params)
call_of sessions (Close name) = close_call (session_of sessions name)

-- before the answer to which of its RPC returns it is cancelled
abbrev pub cancelled_after : ScriptCall → Option ℕ
cancelled_after (Open name uuid params) = None
cancelled_after (Invoke name func cancel_after params) = cancel_after
cancelled_after (Close name) = None

-- ---- what stands in RAM at its end

-- the sessions then
abbrev pub sessions_after : Sessions → ScriptCall → List ℕ → Sessions
sessions_after sessions (Open name uuid params) ram = sessions ++ (name, session_in ram) ∷ []
sessions_after sessions (Invoke name func cancel_after params) ram = sessions
sessions_after sessions (Close name) ram = sessions

-- the session of the call: that of an open is the one that it has opened, or 0
abbrev pub session_for : Sessions → ScriptCall → List ℕ → ℕ
session_for sessions (Open name uuid params) ram = session_in ram
session_for sessions (Invoke name func cancel_after params) ram = session_of sessions name
session_for sessions (Close name) ram = session_of sessions name

abbrev pub no_params : CopiedParams
no_params = record { p0 = Empty; p1 = Empty; p2 = Empty; p3 = Empty }

-- its parameters, outputs as RAM has them
abbrev pub params_after : ScriptCall → List ℕ → CopiedParams
params_after (Open name uuid params) ram = (operation_back ram 2 (operation_of params None)).params
params_after (Invoke name func cancel_after params) ram = (operation_back ram 0 (operation_of params cancel_after)).params
params_after (Close name) ram = no_params
