-- What a processor carries from its entry to its exit, and when that fits a kernel.
use Rattle.std.specs.Prelude.{◌≡◌, ℕ, List, Option, Some, None, IsSomeAnd, slice_get}
use Rattle.job_model.specs.Steps.{grant_of}
use Rattle.kernel_model.specs.Kernel as model
use Rattle.rpc_cont.specs.Advancing.{IsAdvance, phase_after}
use Rattle.rpc_cont.specs.Answering.{CanBeAnswered}
use Rattle.rpc_cont.specs.Conts.{job_of, memory_size}
use Rattle.rpc_cont.specs.Running.{worked}
use Rattle.rpc_cont.specs.declared.cont.Cont.{Cont}
use Rattle.rpc_cont.specs.declared.stop.ContStop.{ContStop}
use Rattle.rpc_cont.specs.declared.stop.ContStop.TheVariants as stop
use Rattle.kernel_state.specs.Calls.{IsCall, bytes_of}
use Rattle.kernel_state.specs.declared.carried.Carried.{Carried}
use Rattle.kernel_state.specs.declared.carried.Carried.TheVariants.{Nothing, Resting, Running}
use Rattle.kernel_state.specs.declared.work.Ran.{Ran}
use Rattle.kernel_state.specs.declared.work.Work.{Work}

-- ---- the granted steps

-- the call has been granted so many steps, and this is why it stopped, or that it used them all
pub record HasRun (steps : ℕ) (before after : Cont (List ℕ)) (why : ContStop) : Type 0 where
  pub advances : IsSomeAnd (grant_of steps (job_of bytes_of before))
      (λ grant. IsAdvance bytes_of after.app after before.steps steps grant why)
  pub asks : why ≡ stop.Asks → CanBeAnswered bytes_of after
  pub phase : after.phase ≡ phase_after why
  pub size : memory_size bytes_of after ≡ memory_size bytes_of before
  pub stays : after ≡ record (worked before after) { steps = after.steps; phase = after.phase }

-- what was carried in, with its granted steps done
abbrev pub IsCarriedOn : ℕ → Carried → Carried → Option ContStop → Type 0
IsCarriedOn steps Nothing after why = (after ≡ Nothing) × (why ≡ None)
IsCarriedOn steps (Resting cont) after why = (after ≡ Resting cont) × (why ≡ None)
IsCarriedOn steps (Running before) (Running after) why = IsSomeAnd why (HasRun steps before.value after.value)
IsCarriedOn steps (Running before) _ why = ⊥

-- the work, with its granted steps done
pub record IsRanOf (work : Work) (ran : Ran) : Type 0 where
  pub cpu : ran.cpu ≡ work.cpu
  pub entry_at : ran.entry_at ≡ work.entry_at
  pub call : IsCarriedOn work.steps work.call ran.call ran.stop

-- ---- beside a kernel

-- the call is carried so, by whether it runs
abbrev pub IsCarriedAs : Carried → model.PendingCall → model.CallPhase → Type 0
IsCarriedAs (Running cont) call (model.Runs job) = IsCall cont.value call
IsCarriedAs (Resting cont) call (model.Asks job wanted payload) = IsCall cont.value call
IsCarriedAs (Resting cont) call (model.Waits params) = IsCall cont.value call
IsCarriedAs (Resting cont) call (model.Ends result params told wakes) = IsCall cont.value call
IsCarriedAs _ call phase = ⊥

-- what the processor carries is the call that the slot holds for it
abbrev pub IsCarriedFor : ℕ → Carried → Option model.ThreadSlot → Type 0
IsCarriedFor cpu carried (Some (model.Active worker call)) = (cpu ≡ worker) × IsCarriedAs carried call call.phase
IsCarriedFor cpu carried _ = ⊥

-- what it carries is what it came in for
abbrev pub IsCarriedIn : model.Kernel → ℕ → Carried → model.Errand → Type 0
IsCarriedIn kernel cpu carried (model.Fixed answer) = carried ≡ Nothing
IsCarriedIn kernel cpu carried (model.InSlot slot) = IsCarriedFor cpu carried (slice_get kernel.slots slot)

-- the work is that of a processor that is inside, in this state
abbrev pub IsWorkIn : model.Kernel → Work → Option model.Processor → Type 0
IsWorkIn kernel work (Some (model.Inside regs steps errand)) = (work.steps ≡ steps) × IsCarriedIn kernel work.cpu work.call errand
IsWorkIn kernel work _ = ⊥

-- the work is that of its processor's open entry
abbrev pub IsWorkOf : model.Kernel → Work → Type 0
IsWorkOf kernel work = IsWorkIn kernel work (slice_get kernel.processors work.cpu)

-- it is that of a work of its processor's open entry
pub record IsRanFor (kernel : model.Kernel) (ran : Ran) : Type 0 where
  pub work : Work
  pub fits : IsWorkOf kernel work
  pub has_run : IsRanOf work ran
