-- Four parameters, one of which is set.
use Rattle.std.specs.Prelude.{ℕ, zero, suc}
use Rattle.ta_params.specs.declared.copied_params.GpParam.{GpParam}
use Rattle.ta_params.specs.declared.copied_params.CopiedParams.{CopiedParams}

abbrev pub with_param : CopiedParams → ℕ → GpParam → CopiedParams
with_param params zero param = record params { p0 = param }
with_param params (suc zero) param = record params { p1 = param }
with_param params (suc (suc zero)) param = record params { p2 = param }
with_param params (suc (suc (suc index))) param = record params { p3 = param }
