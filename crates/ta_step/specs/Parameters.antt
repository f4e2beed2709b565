-- The four parameters as a list by number, and what an application may change of one.
use Rattle.std.specs.Prelude.{ℕ, zero, suc, Bool, true, false, if◌then◌else◌, List, [], ◌∷◌, Option, Some, None, slice_get}
use Rattle.ta_params.specs.declared.copied_params.Way.{Way}
use Rattle.ta_params.specs.declared.copied_params.Way.TheVariants.{In, Out, Inout}
use Rattle.ta_params.specs.declared.copied_params.GpParam.{GpParam}
use Rattle.ta_params.specs.declared.copied_params.GpParam.TheVariants.{Empty, Value, Memref}
use Rattle.ta_params.specs.declared.copied_params.CopiedParams.{CopiedParams}

abbrev pub four : CopiedParams → List GpParam
four ps = ps.p0 ∷ ps.p1 ∷ ps.p2 ∷ ps.p3 ∷ []

-- the parameter of a number, 0 to 3
abbrev pub param_at : CopiedParams → ℕ → Option GpParam
param_at ps number = slice_get (four ps) number

-- the parameters with another one at a number
abbrev pub with_param : CopiedParams → ℕ → GpParam → CopiedParams
with_param ps zero p = record ps { p0 = p }
with_param ps (suc zero) p = record ps { p1 = p }
with_param ps (suc (suc zero)) p = record ps { p2 = p }
with_param ps (suc (suc (suc zero))) p = record ps { p3 = p }
with_param ps (suc (suc (suc (suc number)))) p = ps

-- the bytes of a parameter, none where it has no buffer
abbrev pub buffer : GpParam → List ℕ
buffer Empty = []
buffer (Value way a b) = []
buffer (Memref way buf size) = buf

-- the parameter with other bytes in its buffer
abbrev pub with_buffer : GpParam → List ℕ → GpParam
with_buffer Empty bytes = Empty
with_buffer (Value way a b) bytes = Value way a b
with_buffer (Memref way buf size) bytes = Memref way bytes size

-- the client is handed what the application leaves
abbrev pub goes_out : Way → Bool
goes_out In = false
goes_out Out = true
goes_out Inout = true

-- the parameter with other numbers, if it is a value that goes out
abbrev pub with_value : GpParam → ℕ → ℕ → Option GpParam
with_value Empty x y = None
with_value (Value way a b) x y = if goes_out way then Some (Value way x y) else None
with_value (Memref way buf size) x y = None

-- the parameter with another size, if it is a buffer that goes out: any size, whatever the buffer has
abbrev pub with_size : GpParam → ℕ → Option GpParam
with_size Empty n = None
with_size (Value way a b) n = None
with_size (Memref way buf size) n = if goes_out way then Some (Memref way buf n) else None
