-- The panic that a call as data has stopped by is that of the kernel's grant.
use Rattle.std.proofs.Common.{◌≡◌, ℕ, List, Option, Some, None, refl, ap, sym, subst, ◌∙◌}
use Rattle.std.proofs.Math.Logic.{∥∥₁_elim}
use Rattle.std.proofs.Props.{props}
use Rattle.std.specs.Prelude.{IsSomeAnd, slice_get}
use Rattle.std.specs.Option.{option_and_then}
use Rattle.core_at_work.specs.Panics.{grant_panic, panic_of, phase_panic, slot_panic, state_panic, stop_panic}
use Rattle.job_model.specs.Steps.{Grant, Left, Stopped, grant_of}
use Rattle.job_model.specs.Steps as steps
use Rattle.job_model.specs.Job.{Job}
use Rattle.kernel_model.specs.Kernel.{Active, Asks, CallPhase, Ends, Fixed, Free, InSlot, Inside, Kernel, Outside}
use Rattle.kernel_model.specs.Kernel.{PendingCall, Processor, Runs, Suspended, ThreadSlot, Waits}
use Rattle.kernel_state.specs.Calls.{IsInPhase, bytes_of}
use Rattle.kernel_state.specs.Leaving.{CanLeave}
use Rattle.kernel_state.specs.Meaning.{kernel_of}
use Rattle.kernel_state.specs.Work.{HasRun, IsCarriedAs, IsCarriedFor, IsCarriedOn, IsRanFor, IsRanOf, IsWorkIn}
use Rattle.kernel_state.specs.declared.carried.Carried.{Carried}
use Rattle.kernel_state.specs.declared.carried.Carried.TheVariants.{Nothing, Resting, Running}
use Rattle.kernel_state.specs.declared.kernel_core.Core.{Core}
use Rattle.kernel_state.specs.declared.work.Ran.{Ran}
use Rattle.kernel_state.specs.declared.work.Work.{Work}
use Rattle.rpc_cont.specs.Advancing.{IsAdvance}
use Rattle.rpc_cont.specs.Conts.{job_of}
use Rattle.rpc_cont.specs.declared.cont.Cont.{Cont}
use Rattle.rpc_cont.specs.declared.stop.ContStop.{ContStop}

-- a grant
of_grant : (after : Cont (List ℕ)) (before granted : ℕ) (grant : Grant) (why : ContStop) →
    IsAdvance bytes_of after.app after before granted grant why → stop_panic (Some why) ≡ grant_panic grant
of_grant after before granted (Left job) why is = ap (λ (w : ContStop). stop_panic (Some w)) is.0
of_grant after before granted (Stopped used (steps.Ends end)) why is = ap (λ (w : ContStop). stop_panic (Some w)) is.0.0
of_grant after before granted (Stopped used (steps.Panics code)) why is = ap (λ (w : ContStop). stop_panic (Some w)) is.0.0
of_grant after before granted (Stopped used (steps.Asks wanted payload left)) why is =
    ap (λ (w : ContStop). stop_panic (Some w)) is.0.0

of_grants : (after : Cont (List ℕ)) (before granted : ℕ) (grant : Option Grant) (why : ContStop) →
    IsSomeAnd grant (λ g. IsAdvance bytes_of after.app after before granted g why) →
    stop_panic (Some why) ≡ option_and_then grant_panic grant
of_grants after before granted None why is = absurd is
of_grants after before granted (Some grant) why is = of_grant after before granted grant why is

-- a call that runs
of_run : (granted : ℕ) (before after : Cont (List ℕ)) (job : Job) (why : Option ContStop) →
    IsSomeAnd why (HasRun granted before after) → job ≡ job_of bytes_of before →
    stop_panic why ≡ option_and_then grant_panic (grant_of granted job)
of_run granted before after job None run same = absurd run
of_run granted before after job (Some why) run same =
    of_grants after before.steps granted (grant_of granted (job_of bytes_of before)) why run.advances
    ∙ ap (λ (j : Job). option_and_then grant_panic (grant_of granted j)) (sym same)

-- what a processor carries
of_phase : (granted : ℕ) (carried after : Carried) (why : Option ContStop) (call : PendingCall) (phase : CallPhase) →
    call.phase ≡ phase → IsCarriedAs carried call phase → IsCarriedOn granted carried after why →
    stop_panic why ≡ phase_panic granted phase
of_phase granted (Running before) (Running after) why call (Runs job) at is on =
    of_run granted before.value after.value job why on
    (subst (IsInPhase before.value) at is.phase).0
of_phase granted (Running before) Nothing why call (Runs job) at is on = absurd on
of_phase granted (Running before) (Resting after) why call (Runs job) at is on = absurd on
of_phase granted (Resting cont) after why call (Asks job wanted payload) at is on = ap stop_panic on.1
of_phase granted (Resting cont) after why call (Waits params) at is on = ap stop_panic on.1
of_phase granted (Resting cont) after why call (Ends result params told wakes) at is on = ap stop_panic on.1
of_phase granted (Resting cont) after why call (Runs job) at is on = absurd is
of_phase granted (Running before) after why call (Asks job wanted payload) at is on = absurd is
of_phase granted (Running before) after why call (Waits params) at is on = absurd is
of_phase granted (Running before) after why call (Ends result params told wakes) at is on = absurd is
of_phase granted Nothing after why call (Runs job) at is on = absurd is
of_phase granted Nothing after why call (Asks job wanted payload) at is on = absurd is
of_phase granted Nothing after why call (Waits params) at is on = absurd is
of_phase granted Nothing after why call (Ends result params told wakes) at is on = absurd is

module _ (kernel : Kernel) (work : Work) (ran : Ran) (run : IsRanOf work ran) where
  of_slot : (granted : ℕ) (held : Option ThreadSlot) → work.steps ≡ granted → IsCarriedFor work.cpu work.call held →
      stop_panic ran.stop ≡ option_and_then (slot_panic granted) held
  of_slot granted None same is = absurd is
  of_slot granted (Some Free) same is = absurd is
  of_slot granted (Some (Suspended client call)) same is = absurd is
  of_slot granted (Some (Active worker call)) same is =
      of_phase work.steps work.call ran.call ran.stop call call.phase refl is.1 run.call
      ∙ ap (λ (n : ℕ). phase_panic n call.phase) same

  of_state : (state : Option Processor) → IsWorkIn kernel work state →
      stop_panic ran.stop ≡ option_and_then (state_panic kernel) state
  of_state None fits = absurd fits
  of_state (Some Outside) fits = absurd fits
  of_state (Some (Inside regs granted (Fixed answer))) fits =
      let nothing : IsCarriedOn work.steps Nothing ran.call ran.stop =
      subst (λ (carried : Carried). IsCarriedOn work.steps carried ran.call ran.stop) fits.1 run.call in
      ap stop_panic nothing.1
  of_state (Some (Inside regs granted (InSlot slot))) fits =
      of_slot granted (slice_get kernel.slots slot) fits.0 fits.1

-- a processor's open entry, behind its granted steps
of_ran : (kernel : Kernel) (ran : Ran) → IsRanFor kernel ran → stop_panic ran.stop ≡ panic_of kernel ran.cpu
of_ran kernel ran for =
    of_state kernel for.work ran for.has_run (slice_get kernel.processors for.work.cpu) for.fits
    ∙ ap (panic_of kernel) (sym for.has_run.cpu)

pub panic_told : (core : Core) (ran : Ran) (cpu : ℕ) (kernel : Kernel) → CanLeave core ran → ran.cpu ≡ cpu →
    kernel_of core ≡ Some kernel → stop_panic ran.stop ≡ panic_of kernel cpu
panic_told core ran cpu kernel can same at =
    ∥∥₁_elim can (Prim.hlevel props) (λ (is : IsSomeAnd (kernel_of core) (λ k. IsRanFor k ran)).
    of_ran kernel ran (subst (λ (o : Option Kernel). IsSomeAnd o (λ k. IsRanFor k ran)) at is))
    ∙ ap (panic_of kernel) same
