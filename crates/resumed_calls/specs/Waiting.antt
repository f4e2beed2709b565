-- A call that waits for its instance, at its turn.
use Rattle.std.specs.Prelude.{◌≡◌, ℕ, ◌*◌, ◌<◌, true, false, List, length, None, Option, Some, IsSome}
use Rattle.std.specs.Option.{option_map}
use Rattle.base.specs.NumberMap.{IsRising, get}
use Rattle.begin_call.specs.Begins.{CanBegin, IsValidApp}
use Rattle.job_model.specs.declared.call_kind.CallKind.TheVariants.{Close, Open}
use Rattle.kernel_model.specs.Application.{Application, Booted}
use Rattle.kernel_model.specs.Given.{Given}
use Rattle.kernel_model.specs.Instances.{app_of, pages_of}
use Rattle.kernel_model.specs.Kernel.{Instance, PendingCall, Tables, Waits}
use Rattle.kernel_model.specs.Resume.{Resumed}
use Rattle.kernel_state.specs.Calls.{IsCall}
use Rattle.kernel_state.specs.Setup.{application_of}
use Rattle.kernel_state.specs.declared.setup.Application.{Application as AnyApplication}
use Rattle.rpc_cont.specs.Conts.{uuid_of}
use Rattle.rpc_cont.specs.declared.cont.Cont.{Cont}
use Rattle.rpc_cont.specs.declared.phase.Phase.TheVariants as phase
use Rattle.session_table.specs.Waiters.{waits}
use Rattle.session_table.specs.declared.session.Session.{Session}
use Rattle.ta_params.specs.declared.copied_params.CopiedParams.{CopiedParams}

-- the call of a slot that is resumed with these tables, and given this
abbrev pub resumed_in : Booted → Tables → ℕ → Given → PendingCall → Resumed
resumed_in boot tables slot given call =
    record { boot = boot; tables = tables; slot = slot; given = given; call = call }

-- the call as data is this one, which waits with these parameters
pub record IsWaitingCall (cont : Cont (List ℕ)) (call : PendingCall) (params : CopiedParams) : Type 0 where
  pub is : IsCall cont call
  pub waits : call.phase ≡ Waits params

-- ---- its place in the line

-- the instance is of this application, which the core has, and has all its pages while it is neither held nor dead
pub record IsOwnInstance (boot : Booted) (uuid : Option (List ℕ)) (instance : Instance) : Type 0 where
  pub same : uuid ≡ Some instance.uuid
  pub app : IsSome (app_of boot instance.uuid)
  pub pages : instance.holder ≡ None → instance.dead ≡ false → length instance.memory ≡ 4096 * pages_of boot instance.uuid

-- a call of the kernel that waits in its slot: it stands in line, its session is on its instance where both are kept,
-- and where the instance of an open is gone another can be made
pub record WaitsInLine (boot : Booted) (tables : Tables) (slot : ℕ) (call : PendingCall) : Type 0 where
  pub waits : waits tables.waiters slot ≡ true
  pub sessions : IsRising tables.sessions
  pub instances : IsRising tables.instances
  pub session : (session : Session) → get tables.sessions call.session ≡ Some session → session.instance ≡ call.instance
  pub instance : (instance : Instance) → get tables.instances call.instance ≡ Some instance →
      IsOwnInstance boot call.uuid instance
  pub room : call.kind ≡ Open → get tables.instances call.instance ≡ None → length tables.instances < 80

-- the same of the call as data
pub record IsInLine (boot : Booted) (tables : Tables) (slot : ℕ) (cont : Cont (List ℕ)) : Type 0 where
  pub fresh : CanBegin cont
  pub app : IsSome cont.app
  pub waits : waits tables.waiters slot ≡ true
  pub sessions : IsRising tables.sessions
  pub instances : IsRising tables.instances
  pub session : (session : Session) → get tables.sessions cont.session ≡ Some session → session.instance ≡ cont.instance
  pub instance : (instance : Instance) → get tables.instances cont.instance ≡ Some instance →
      IsOwnInstance boot (Some (uuid_of cont.app)) instance
  pub room : cont.kind ≡ Open → get tables.instances cont.instance ≡ None → length tables.instances < 80

-- it can begin on the instance: no call holds that, and only a close begins on a dead one
pub record CanBeginOn (cont : Cont (List ℕ)) (instance : Instance) : Type 0 where
  pub free : instance.holder ≡ None
  pub alive : instance.dead ≡ true → cont.kind ≡ Close

-- ---- its application

pub record IsItsApp (boot : Booted) (cont : Cont (List ℕ)) (app : Application) : Type 0 where
  pub found : app_of boot (uuid_of cont.app) ≡ Some app
  pub valid : IsValidApp app

-- what was found of it, if the core has it
abbrev pub MayBeItsApp : Booted → Cont (List ℕ) → Option (AnyApplication) → Type 0
MayBeItsApp boot cont None = app_of boot (uuid_of cont.app) ≡ None
MayBeItsApp boot cont (Some app) = IsItsApp boot cont (application_of app)

-- of a call that waits, and has its application, this is that, where the core has it
abbrev pub IsAppFor : Booted → Cont (List ℕ) → Option (AnyApplication) → Type 0
IsAppFor boot cont app =
    cont.phase ≡ phase.Waits → IsSome cont.app → app_of boot (uuid_of cont.app) ≡ option_map application_of app
