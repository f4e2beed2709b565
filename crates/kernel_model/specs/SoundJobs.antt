-- What holds of the jobs of calls, in every kernel that a legal history comes to. This project's own.
use Rattle.std.specs.Prelude.{◌≡◌, ℕ, List, Some, IsSome, slice_get}
use Rattle.job_model.specs.Job.{Body, Machine, Native, Nothing}
use Rattle.ta_isa.specs.Spelling.{IsValid}
use Rattle.kernel_model.specs.Application.{Booted}
use Rattle.kernel_model.specs.Exit.{exit}
use Rattle.kernel_model.specs.Kernel.{Errand, Inside, Kernel}

-- a machine runs only where its image is valid, so that each of its steps has an outcome
abbrev pub IsRunnable : Body → Type 0
IsRunnable (Machine image point machine) = IsValid image
IsRunnable (Native relation func) = Unit {0}
IsRunnable Nothing = Unit {0}

-- the exit of a processor that is inside is one
abbrev pub ExitsCome : Booted → Kernel → Type 0
ExitsCome boot kernel = (cpu steps : ℕ) (regs : List ℕ) (errand : Errand) →
    slice_get kernel.processors cpu ≡ Some (Inside regs steps errand) → IsSome (exit kernel cpu)
