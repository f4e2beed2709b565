-- What holds of a processor between its turns.
use Rattle.std.specs.Prelude.{◌≡◌, false, Option, Some, None}
use Rattle.core_cases.specs.declared.cpu.Cpu.{Cpu}
use Rattle.core_cases.specs.declared.pair.Pair.{Pair}
use Rattle.core_lock.specs.Passes.{number}
use Rattle.kernel_model.specs.Application.{Booted}
use Rattle.kernel_state.specs.Work.{IsRanOf}
use Rattle.kernel_state.specs.declared.work.Ran.{Ran}
use Rattle.kernel_state.specs.declared.work.Work.{Work}
use Rattle.normal_cpus.specs.Leaving.{CanGoOut}
use Rattle.normal_cpus.specs.Sharing.{CpuPass, boot_of, is_inside}
use Rattle.normal_cpus.specs.Sharing as pass
use Rattle.normal_cpus.specs.declared.shared_core.SharedCore.{SharedCore}

-- with no work at hand the pass's processor is outside; and a work is that of the pass's open entry, so that its run can go out
abbrev pub HasItsWork : Booted → CpuPass → Option Work → Type 0
HasItsWork boot pass None = is_inside pass ≡ false
HasItsWork boot pass (Some work) = (ran : Ran) → IsRanOf work ran → CanGoOut boot pass ran

-- the processor is one of this core's, and has its work
pub record IsCpuOf (shared : SharedCore) (cpu : Cpu) : Type 0 where
  pub own : pass.IsCpuOf shared cpu.pass
  pub works : HasItsWork (boot_of shared) cpu.pass cpu.work

-- both are, with their numbers
pub record IsPairOf (shared : SharedCore) (pair : Pair) : Type 0 where
  pub first : IsCpuOf shared pair.first
  pub second : IsCpuOf shared pair.second
  pub first_is : number pair.first.pass ≡ 0
  pub second_is : number pair.second.pass ≡ 1
