-- What no step changes of a machine.
use Rattle.std.specs.Prelude.{◌≡◌, ℕ, List, length, map}
use Rattle.ta_params.specs.declared.copied_params.GpParam.{GpParam}
use Rattle.ta_params.specs.declared.copied_params.CopiedParams.{CopiedParams}
use Rattle.ta_params.specs.CopiedParams.{param_type}
use Rattle.ta_step.specs.State.{State}
use Rattle.ta_step.specs.Parameters.{four, buffer}

-- a parameter's type, and how many bytes its buffer has
abbrev pub shape : GpParam → ℕ × ℕ
shape p = (param_type p, length (buffer p))

abbrev pub shapes : CopiedParams → List (ℕ × ℕ)
shapes ps = map shape (four ps)

-- as many registers and bytes of memory, parameters of the same types with as many bytes, the same login
-- and the same cancellation flag
pub record SameShape (old new : State) : Type 0 where
  pub registers : length new.registers ≡ length old.registers
  pub memory : length new.memory ≡ length old.memory
  pub params : shapes new.params ≡ shapes old.params
  pub login : new.login ≡ old.login
  pub cancelled : new.cancelled ≡ old.cancelled
