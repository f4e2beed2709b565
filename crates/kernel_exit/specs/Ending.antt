-- What the end of a call finds, and what it makes of the call and the tables.
use Rattle.std.specs.Prelude.{◌≡◌, ℕ, ◌*◌, ◌≤◌, Bool, false, if◌then◌else◌, List, length, IsSome, IsSomeAnd, None}
use Rattle.std.specs.Option.{option_map_or}
use Rattle.base.specs.NumberMap.{NumberMap, IsRising, get, insert, remove}
use Rattle.job_model.specs.Job.{Job}
use Rattle.job_model.specs.Steps.{grant_of}
use Rattle.job_model.specs.declared.call_kind.CallKind.{CallKind}
use Rattle.job_model.specs.declared.call_kind.CallKind.TheVariants.{Open, Invoke, Close, Settled}
use Rattle.kernel_model.specs.Application.{Booted}
use Rattle.kernel_model.specs.Exit.{after_grant, progress_in}
use Rattle.kernel_model.specs.Instances.{pages_of}
use Rattle.kernel_model.specs.Kernel.{CallPhase, Runs, Asks, Waits, Ends, Instance, PendingCall, Progress, Tables}
use Rattle.kernel_model.specs.SoundMemory.{pages_used}
use Rattle.kernel_state.specs.Calls.{IsCall, bytes_of}
use Rattle.kernel_state.specs.Tables.{tables_of}
use Rattle.kernel_state.specs.Work.{HasRun}
use Rattle.kernel_state.specs.declared.tables.Tables.{Tables as CoreTables}
use Rattle.rpc_cont.specs.Conts.{kept_memory}
use Rattle.rpc_cont.specs.declared.cont.Cont.{Cont}
use Rattle.rpc_cont.specs.declared.stop.ContStop.{ContStop}
use Rattle.session_table.specs.declared.session.Session.{Session}

-- ---- what it finds

-- the session of a call of this kind: of an open, which isn't opened yet, and of a close
abbrev pub HasItsSession : CallKind → NumberMap Session → ℕ → Type 0
HasItsSession Open sessions number = IsSomeAnd (get sessions number) (λ (session : Session). session.opened ≡ false)
HasItsSession (Invoke func) sessions number = Unit {0}
HasItsSession Close sessions number = IsSome (get sessions number)
HasItsSession Settled sessions number = Unit {0}

-- the pages that an instance has, itself or through the call that holds it; a dead one has none
abbrev pub pages_held : Booted → Instance → ℕ
pages_held boot instance = if instance.dead then 0 else pages_of boot instance.uuid

-- a call has the instance, and so many bytes are all of its pages
abbrev pub IsHeldWith : Booted → ℕ → Instance → Type 0
IsHeldWith boot bytes instance = IsSome instance.holder × (bytes ≡ 4096 * pages_held boot instance)

-- the instance of this number is kept and held, and its pages come back with so many bytes
pub record CanBeGivenBack (boot : Booted) (instances : NumberMap Instance) (number bytes : ℕ) : Type 0 where
  pub rising : IsRising instances
  pub frames : pages_used boot instances ≤ boot.frames
  pub held : IsSomeAnd (get instances number) (IsHeldWith boot bytes)

-- no call holds the instance, and it has all its pages itself
abbrev pub IsFreeWith : Booted → Instance → Type 0
IsFreeWith boot instance = (instance.holder ≡ None) × (length instance.memory ≡ 4096 * pages_held boot instance)

-- the instance of this number is kept so
pub record CanBeRemoved (boot : Booted) (instances : NumberMap Instance) (number : ℕ) : Type 0 where
  pub rising : IsRising instances
  pub frames : pages_used boot instances ≤ boot.frames
  pub free : IsSomeAnd (get instances number) (IsFreeWith boot)

-- a call that ends finds its session and its instance, and brings the pages back
pub record CanEnd (boot : Booted) (tables : Tables) (cont : Cont (List ℕ)) : Type 0 where
  pub session : HasItsSession cont.kind tables.sessions cont.session
  pub instance : CanBeGivenBack boot tables.instances cont.instance (length (kept_memory bytes_of cont.memory))

-- ---- what it makes of them

-- an instance is changed so, where it is kept
abbrev pub with_changed : Tables → ℕ → (Instance → Instance) → Tables
with_changed tables number change =
    let put = λ (instance : Instance). insert tables.instances number (change instance) in
    record tables { instances = option_map_or put (get tables.instances number) tables.instances }

-- an instance is removed
abbrev pub without_instance : Tables → ℕ → Tables
without_instance tables number = record tables { instances = remove tables.instances number }

-- it is dead
abbrev pub is_dead : NumberMap Instance → ℕ → Bool
is_dead instances number = option_map_or (λ (instance : Instance). instance.dead) (get instances number) false

-- the call as data is of this pending call, by session and instance
pub record IsOf (cont : Cont (List ℕ)) (call : PendingCall) : Type 0 where
  pub kind : cont.kind ≡ call.kind
  pub session : cont.session ≡ call.session
  pub instance : cont.instance ≡ call.instance

-- it doesn't run
abbrev pub IsAtRest : CallPhase → Type 0
IsAtRest (Runs job) = ⊥
IsAtRest (Asks job wanted payload) = Unit {0}
IsAtRest (Waits params) = Unit {0}
IsAtRest (Ends result params told wakes) = Unit {0}

-- the call has come to this, with these tables
pub record HasComeTo (progress : Progress) (cont : Cont (List ℕ)) (tables : CoreTables) : Type 0 where
  pub call : IsCall cont progress.call
  pub with : tables_of tables ≡ progress.tables

-- a call that ran, with all granted steps done or as many as it took to stop, has come to what the kernel's has
abbrev pub ComesOfGrant : Tables → Cont (List ℕ) → ContStop → Cont (List ℕ) → CoreTables → Type 0
ComesOfGrant tables ran why cont new =
    (before : Cont (List ℕ)) (call : PendingCall) (job : Job) (steps : ℕ) → IsCall before call → call.phase ≡ Runs job →
    HasRun steps before ran why →
    IsSomeAnd (grant_of steps job) (λ grant. HasComeTo (after_grant tables call steps grant) cont new)

-- a call that didn't run has come to what the kernel's has, whatever steps were granted
abbrev pub ComesOfRest : Tables → Cont (List ℕ) → Cont (List ℕ) → CoreTables → Type 0
ComesOfRest tables rested cont new =
    (call : PendingCall) (steps : ℕ) → IsCall rested call → IsAtRest call.phase →
    IsSomeAnd (progress_in tables call steps call.phase) (λ progress. HasComeTo progress cont new)
