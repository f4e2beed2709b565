-- The entry points of an application, as the TEE Internal Core API has them ("TA Interface"). What each begins
-- with is this project's own.
use Rattle.std.specs.Prelude.{ℕ, List, [], ◌∷◌}
use Rattle.ta_params.specs.declared.copied_params.CopiedParams.{CopiedParams}
use Rattle.ta_params.specs.declared.copied_params.GpParam.TheVariants.{Empty}
use Rattle.ta_params.specs.CopiedParams.{type_word}
use Rattle.job_model.specs.declared.entry_point.EntryPoint.{EntryPoint}
use Rattle.job_model.specs.declared.entry_point.EntryPoint.TheVariants.{Create, Open, Invoke, Close, Destroy}

-- its number among the entry points of an image
abbrev pub number_of : EntryPoint → ℕ
number_of Create = 0
number_of Open = 1
number_of (Invoke func) = 2
number_of Close = 3
number_of Destroy = 4

-- r0, r1 and r2 as it begins, for parameters and a session's context: the type word to open, the function, the
-- type word and the context to invoke, and the context to close
abbrev pub first_registers : EntryPoint → CopiedParams → ℕ → List ℕ
first_registers Create params context = 0 ∷ 0 ∷ 0 ∷ []
first_registers Open params context = type_word params ∷ 0 ∷ 0 ∷ []
first_registers (Invoke func) params context = func ∷ type_word params ∷ context ∷ []
first_registers Close params context = 0 ∷ 0 ∷ context ∷ []
first_registers Destroy params context = 0 ∷ 0 ∷ 0 ∷ []

-- four that are empty
abbrev pub no_params : CopiedParams
no_params = record { p0 = Empty; p1 = Empty; p2 = Empty; p3 = Empty }

-- the parameters that it has: the call's to open and to invoke, else none
abbrev pub params_at : EntryPoint → CopiedParams → CopiedParams
params_at Create params = no_params
params_at Open params = params
params_at (Invoke func) params = params
params_at Close params = no_params
params_at Destroy params = no_params

-- and those that stay with the call meanwhile
abbrev pub params_beside : EntryPoint → CopiedParams → CopiedParams
params_beside Create params = params
params_beside Open params = no_params
params_beside (Invoke func) params = no_params
params_beside Close params = params
params_beside Destroy params = params
