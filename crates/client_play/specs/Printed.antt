-- The lines that a client's play prints, and their text as bytes. This project's own.
use Rattle.std.specs.Prelude.{ℕ, List, [], ◌∷◌, ◌++◌, codes, length, take, nat_le, ◌==◌, if◌then◌else◌}
use Rattle.std.specs.Fmt.{decimal}
use Rattle.std.specs.Int.{w32, to_be_bytes}
use Rattle.std.specs.List.{flat_map}
use Rattle.client_text.specs.declared.script.ScriptCall.{ScriptCall}
use Rattle.client_text.specs.declared.script.ScriptCall.TheVariants.{Open, Invoke, Close}
use Rattle.hex.specs.Hex.{encode_lower}
use Rattle.play_model.specs.Line.{register_text}
use Rattle.ta_params.specs.declared.call_result.CallResult.{CallResult}
use Rattle.ta_params.specs.declared.copied_params.CopiedParams.{CopiedParams}
use Rattle.ta_params.specs.declared.copied_params.GpParam.{GpParam}
use Rattle.ta_params.specs.declared.copied_params.GpParam.TheVariants.{Empty, Value, Memref}
use Rattle.ta_params.specs.declared.copied_params.Way.TheVariants.{In, Out, Inout}
use Rattle.teec.specs.Operation.{params_of}

-- what a call has come to
pub record CallLine : Type 0 where
  pub call : ScriptCall
  -- its session; of an open the one that it has opened, or 0
  pub session : ℕ
  pub result : CallResult
  -- its parameters, outputs as they came back
  pub params : CopiedParams
  -- how many events the core's history had before its first SMC, and after its last one
  pub from : ℕ
  pub to : ℕ

-- ---- text

-- `open NAME`, `invoke NAME` or `close NAME`
abbrev pub call_text : ScriptCall → List ℕ
call_text (Open name uuid params) = codes "open " ++ name
call_text (Invoke name func cancel_after params) = codes "invoke " ++ name
call_text (Close name) = codes "close " ++ name

-- a number of 32 bits in eight lower-case hexadecimal digits
abbrev pub digits : ℕ → List ℕ
digits number = encode_lower (to_be_bytes w32 number)

-- ` v:A:B`
abbrev pub value_text : ℕ → ℕ → List ℕ
value_text a b = codes " v:" ++ digits a ++ codes ":" ++ digits b

-- ` m:SIZE:HEX`, with the size in decimal, and as many bytes; none where it is above the buffer
abbrev pub memory_text : List ℕ → ℕ → List ℕ
memory_text buf size =
    codes " m:" ++ decimal size ++ codes ":" ++ (if nat_le size (length buf) then encode_lower (take size buf) else [])

-- of each parameter that comes back
abbrev pub param_text : GpParam → List ℕ
param_text Empty = []
param_text (Value In a b) = []
param_text (Value Out a b) = value_text a b
param_text (Value Inout a b) = value_text a b
param_text (Memref In buf size) = []
param_text (Memref Out buf size) = memory_text buf size
param_text (Memref Inout buf size) = memory_text buf size

-- where the application returned the result, whose origin is 4
abbrev pub outputs_text : CallResult → CopiedParams → List ℕ
outputs_text result params = if result.origin == 4 then flat_map param_text (params_of params) else []

-- `open NAME RESULT ORIGIN` and so on, with the outputs
abbrev pub text_of_line : CallLine → List ℕ
text_of_line line =
    call_text line.call ++ register_text line.result.result ++ register_text line.result.origin
    ++ outputs_text line.result line.params ++ 10 ∷ []
