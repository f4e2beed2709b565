-- The parameters of a call, and what is told of them at its end. This project's own.
use Rattle.std.specs.Prelude.{ℕ, nat_le, ◌==◌, List, [], length, take, if◌then◌else◌}
use Rattle.job_model.specs.Job.{Body, Machine, Native, Nothing, Job}
use Rattle.job_model.specs.declared.entry_point.EntryPoint.TheVariants.{Create, Open, Invoke, Close, Destroy}
use Rattle.job_model.specs.Point.{no_params}
use Rattle.ta_params.specs.declared.call_result.CallResult.{CallResult}
use Rattle.ta_params.specs.declared.copied_params.CopiedParams.{CopiedParams}
use Rattle.ta_params.specs.declared.copied_params.GpParam.{GpParam}
use Rattle.ta_params.specs.declared.copied_params.GpParam.TheVariants.{Empty, Value, Memref}
use Rattle.ta_params.specs.declared.copied_params.Way.TheVariants.{In, Out, Inout}

-- the parameters of a job as they stand: its machine has them at the entry points to open and to invoke
abbrev pub params_in : Job → Body → CopiedParams
params_in job (Machine image Create machine) = job.params
params_in job (Machine image Open machine) = machine.params
params_in job (Machine image (Invoke func) machine) = machine.params
params_in job (Machine image Close machine) = job.params
params_in job (Machine image Destroy machine) = job.params
params_in job (Native relation func) = job.params
params_in job Nothing = job.params

abbrev pub params_of : Job → CopiedParams
params_of job = params_in job job.body

-- ---- outputs

-- the bytes of a memory parameter that are written back: as many as its size says, where it has so many
abbrev pub bytes_told : List ℕ → ℕ → List ℕ
bytes_told bytes size = if nat_le size (length bytes) then take size bytes else []

-- a parameter as it is told: nothing of an input
abbrev pub output_of : GpParam → GpParam
output_of Empty = Empty
output_of (Value In a b) = Empty
output_of (Value Out a b) = Value Out a b
output_of (Value Inout a b) = Value Inout a b
output_of (Memref In bytes size) = Empty
output_of (Memref Out bytes size) = Memref Out (bytes_told bytes size) size
output_of (Memref Inout bytes size) = Memref Inout (bytes_told bytes size) size

abbrev pub outputs_of : CopiedParams → CopiedParams
outputs_of params = record {
  p0 = output_of params.p0;
  p1 = output_of params.p1;
  p2 = output_of params.p2;
  p3 = output_of params.p3;
}

-- the parameters are told only where the application returned the result
abbrev pub outputs_with : CallResult → CopiedParams → CopiedParams
outputs_with result params = if result.origin == 4 then outputs_of params else no_params
