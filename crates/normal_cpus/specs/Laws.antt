-- What holds of passes and works.
use Rattle.std.specs.Prelude.{◌≡◌, List, ℕ}
use Rattle.core_lock.specs.Passes.{number}
use Rattle.kernel_model.specs.Application.{Booted}
use Rattle.kernel_state.specs.Entering.{Coming}
use Rattle.kernel_state.specs.Work.{IsRanOf}
use Rattle.kernel_state.specs.declared.work.Ran.{Ran}
use Rattle.kernel_state.specs.declared.work.Work.{Work}
use Rattle.normal_cpus.specs.Entering.{HasCome}
use Rattle.normal_cpus.specs.Leaving.{CanGoOut}
use Rattle.normal_cpus.specs.Sharing.{CpuPass}

-- the work of a pass's entry, with its granted steps done, can go out by that pass
abbrev pub WorksGoOut : Type 0
WorksGoOut = (boot : Booted) (old new : CpuPass) (coming : Coming) (lane : List ℕ) (work : Work) (ran : Ran) →
    HasCome boot old new coming lane work → IsRanOf work ran → number new ≡ coming.cpu → CanGoOut boot new ran
