-- The operation of a script's call, by its four parameters.
use Rattle.std.proofs.Common.{◌≡◌, ℕ, List, Option}
use Rattle.client_play.specs.Calls.{operation_of, param_at}
use Rattle.client_text.specs.declared.script.ScriptParam.{ScriptParam}
use Rattle.ta_params.specs.declared.copied_params.GpParam.{GpParam}
use Rattle.teec.specs.declared.operation.Operation.{Operation}

abbrev pub operation_with : GpParam → GpParam → GpParam → GpParam → Option ℕ → Operation
operation_with p0 p1 p2 p3 cancel_after = record {
  params = record { p0 = p0; p1 = p1; p2 = p2; p3 = p3 };
  cancel_after = cancel_after;
}

-- an operation of these four parameters
pub operation_is : (params : List ScriptParam) (cancel_after : Option ℕ) (p0 p1 p2 p3 : GpParam) → p0 ≡ param_at params 0
    → p1 ≡ param_at params 1 → p2 ≡ param_at params 2 → p3 ≡ param_at params 3
    → operation_with p0 p1 p2 p3 cancel_after ≡ operation_of params cancel_after
operation_is params cancel_after p0 p1 p2 p3 is0 is1 is2 is3 = λ i. operation_with (is0 i) (is1 i) (is2 i) (is3 i) cancel_after
