-- The types of parameters, by the TEE Internal Core API, "Parameter Types" and TEE_PARAM_TYPES.
use Rattle.std.specs.Prelude.{ℕ, ◌+◌, ◌*◌}
use Rattle.ta_params.specs.declared.copied_params.Way.{Way}
use Rattle.ta_params.specs.declared.copied_params.Way.TheVariants.{In, Out, Inout}
use Rattle.ta_params.specs.declared.copied_params.GpParam.{GpParam}
use Rattle.ta_params.specs.declared.copied_params.GpParam.TheVariants.{Empty, Value, Memref}
use Rattle.ta_params.specs.declared.copied_params.CopiedParams.{CopiedParams}

-- the two low bits of a type
abbrev pub way_bits : Way → ℕ
way_bits In = 1
way_bits Out = 2
way_bits Inout = 3

-- a type: none 0, value 1 to 3, memref 5 to 7
abbrev pub param_type : GpParam → ℕ
param_type Empty = 0
param_type (Value way a b) = way_bits way
param_type (Memref way buf size) = 4 + way_bits way

-- four types in one word, the first lowest, four bits each
abbrev pub type_word : CopiedParams → ℕ
type_word ps = param_type ps.p0 + 16 * param_type ps.p1 + 256 * param_type ps.p2 + 4096 * param_type ps.p3
