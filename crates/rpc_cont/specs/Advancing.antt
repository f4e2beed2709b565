-- How a call is taken on by so many steps.
use Rattle.std.specs.Prelude.{◌≡◌, ℕ, ◌+◌, Bool, List, Option, Some, None, option_and_then, IsSomeAnd}
use Rattle.std.specs.Option.{option_map}
use Rattle.job_model.specs.Job.{Job}
use Rattle.job_model.specs.Steps.{Advance, Grant, Left, Stopped, after_run}
use Rattle.rpc_cont.specs.declared.phase.Phase.{Phase}
use Rattle.rpc_cont.specs.declared.phase.Phase.TheVariants as phase
use Rattle.rpc_cont.specs.Conts.{job_for, owner_for}
use Rattle.rpc_cont.specs.Running.{IsReady, IsStop}
use Rattle.rpc_cont.specs.declared.app.ContApp.{ContApp}
use Rattle.rpc_cont.specs.declared.app.ContApp.TheVariants as app
use Rattle.rpc_cont.specs.declared.cont.Cont.{Cont}
use Rattle.job_model.specs.declared.entry_point.EntryPoint.{EntryPoint}
use Rattle.job_model.specs.declared.entry_point.EntryPoint.TheVariants as entry
use Rattle.rpc_cont.specs.declared.stop.ContStop.{ContStop}
use Rattle.rpc_cont.specs.declared.stop.ContStop.TheVariants as stop
use Rattle.ta_isa.specs.Spelling.{IsValid}
use Rattle.ta_isa.specs.declared.image.Image.{Image}
use Rattle.ta_step.specs.Machine.{state_of}
use Rattle.ta_step.specs.Runs.{Ran, runs}
use Rattle.ta_step.specs.State.{State}
use Rattle.ta_step.specs.declared.machine.Machine.{Machine as AnyMachine}

-- ---- one run of a machine

-- what the job comes to by a run of its machine, with the steps that it uses
abbrev pub after_ran : Job → Image → EntryPoint → Ran → Option (ℕ × Advance)
after_ran job image point ran = option_map (λ (turn : Advance). (ran.steps, turn)) (after_run job image point ran.state ran.stop)

abbrev pub turn_of : Job → Image → EntryPoint → State → ℕ → Option (ℕ × Advance)
turn_of job image point machine steps = option_and_then (after_ran job image point) (runs image.code steps machine)

-- ---- a grant of steps

-- to invoke
abbrev pub IsInvoke : EntryPoint → Type 0
IsInvoke entry.Create = ⊥
IsInvoke entry.Open = ⊥
IsInvoke (entry.Invoke func) = Unit {0}
IsInvoke entry.Close = ⊥
IsInvoke entry.Destroy = ⊥

-- what runs can run: the machine of an image, the function of a built-in application, or nothing
abbrev pub IsRunnable : {M : Type 0} → (M → List ℕ) → Bool → Option ContApp → Option EntryPoint → Option (AnyMachine M) → Type 0
IsRunnable bytes seen (Some (app.Image uuid image)) (Some point) machine =
    IsValid image.value × IsSomeAnd machine (λ m. IsReady seen (state_of bytes m))
IsRunnable bytes seen (Some (app.Native native)) (Some point) machine = IsInvoke point × (machine ≡ None)
IsRunnable bytes seen (Some (app.Dead uuid)) (Some point) machine = ⊥
IsRunnable bytes seen None (Some point) machine = ⊥
IsRunnable bytes seen _ None machine = machine ≡ None

-- the call of this application can run, and has asked for nothing
pub record CanRun {M : Type 0} (bytes : M → List ℕ) (app : Option ContApp) (cont : Cont M) : Type 0 where
  pub memory : cont.memory ≡ None
  pub request : cont.request ≡ None
  pub object : cont.object ≡ None
  pub runs : IsRunnable bytes cont.cancelled app cont.point cont.machine

-- the call runs
pub record CanAdvance {M : Type 0} (bytes : M → List ℕ) (cont : Cont M) : Type 0 where
  pub phase : cont.phase ≡ phase.Runs
  pub runs : CanRun bytes cont.app cont

-- how far it has come, by why it stopped
abbrev pub phase_after : ContStop → Phase
phase_after stop.Interrupted = phase.Runs
phase_after stop.Asks = phase.Asks
phase_after (stop.Ended result) = phase.Ends
phase_after (stop.Panicked code) = phase.Ends

-- the answer and the call behind it, of this application, are those of a grant of so many steps, where it had done so
-- many before
abbrev pub IsAdvance : {M : Type 0} → (M → List ℕ) → Option ContApp → Cont M → ℕ → ℕ → Grant → ContStop → Type 0
IsAdvance bytes app cont before steps (Left job) answer =
    (answer ≡ stop.Interrupted) × (job ≡ job_for bytes app cont) × CanRun bytes app cont × (cont.steps ≡ before + steps)
IsAdvance bytes app cont before steps (Stopped used why) answer =
    IsStop bytes (owner_for app cont.key) cont (job_for bytes app cont) why answer × (cont.steps ≡ before + used)
