-- What becomes of a slot's call and of the tables as the plan of a new call is applied.
use Rattle.std.specs.Prelude.{◌≡◌, ℕ, ◌<◌, ◌≤◌, Bool, false, true, if◌then◌else◌, List, [], ◌∷◌, ◌++◌, length}
use Rattle.std.specs.Prelude.{Option, Some, None}
use Rattle.std.specs.Option.{IsSomeAnd}
use Rattle.base.specs.NumberMap.{IsRising, get}
use Rattle.job_model.specs.declared.entry_point.EntryPoint.{EntryPoint}
use Rattle.kernel_model.specs.Application.{Application, Booted, pages_in, uuid_of}
use Rattle.kernel_model.specs.Begin.{Beginner, Begun, Opener, begins_on, opens_kept, opens_made}
use Rattle.kernel_model.specs.Decision.{Taken}
use Rattle.kernel_model.specs.Instances.{is_held, shared_instance}
use Rattle.kernel_model.specs.Kernel as model
use Rattle.kernel_model.specs.Kernel.{CallPhase, Instance, Runs, Waits}
use Rattle.rpc_cont.specs.declared.cont.Cont.{Cont}
use Rattle.rpc_cont.specs.declared.phase.Phase.TheVariants as phase
use Rattle.session_table.specs.Sessions.{has_room}
use Rattle.session_table.specs.Waiters.{waits}
use Rattle.session_table.specs.declared.session.Session.{Session}
use Rattle.ta_params.specs.declared.copied_params.CopiedParams.{CopiedParams}
use Rattle.ta_params.specs.declared.login.Login.{Login}
use Rattle.begin_call.specs.Begins.{CanBegin, IsReady, IsReadyFor, IsValidApp, begun_from, new_number}
use Rattle.kernel_state.specs.Calls.{IsAppOf, IsCall, IsInPhase}
use Rattle.kernel_state.specs.Setup.{application_of}
use Rattle.kernel_state.specs.Tables.{tables_of}
use Rattle.kernel_state.specs.declared.tables.Tables.{Tables}
use Rattle.new_calls.specs.Applying.{CanApply}
use Rattle.new_calls.specs.Commands.{CanPin}
use Rattle.new_calls.specs.Deciding.{call_found, call_with}
use Rattle.new_calls.specs.declared.entered.Entered.{Entered}
use Rattle.new_calls.specs.declared.plan.Plan.{Plan}
use Rattle.new_calls.specs.declared.plan.Plan.TheVariants as plan

-- ---- a call that is settled at its entry

-- it was no open, as far as its tests had come
abbrev pub IsNoOpen : model.SettledCall → Type 0
IsNoOpen model.Untold = Unit {0}
IsNoOpen (model.AnOpen login) = ⊥
IsNoOpen (model.AnInvoke func) = Unit {0}
IsNoOpen model.ACancel = Unit {0}

-- where it was an open, it named this login
abbrev pub HasItsLogin : Login → model.SettledCall → Type 0
HasItsLogin login model.Untold = Unit {0}
HasItsLogin login (model.AnOpen named) = login ≡ named
HasItsLogin login (model.AnInvoke func) = Unit {0}
HasItsLogin login model.ACancel = Unit {0}

-- ---- a call that comes to an instance

-- what it comes to: the tables, the number of its instance, and how far it is
pub record Came : Type 0 where
  pub tables : model.Tables
  pub instance : ℕ
  pub phase : CallPhase

-- it begins there
abbrev pub began : Begun → Came
began begun = record { tables = begun.tables; instance = begun.instance; phase = Runs begun.job }

-- it waits there, behind those that wait already, with its application's UUID and its parameters
abbrev pub queued : Beginner → ℕ → List ℕ → CopiedParams → Came
queued who number uuid params = record {
  tables = record who.tables {
    waiters = who.tables.waiters ++ record { instance = number; uuid = uuid; slot = who.slot } ∷ [];
  };
  instance = number;
  phase = Waits params;
}

-- an open, by the instance that it shares
abbrev pub open_comes : Beginner → Opener → Option (ℕ × Instance) → Came
open_comes who opener None = began (opens_made who opener)
open_comes who opener (Some kept) =
    if is_held kept.1 then queued who kept.0 (uuid_of opener.app) opener.params else began (opens_kept who opener kept)

-- a call in a session, on the session's instance, with these parameters and entry points
abbrev pub session_comes : Beginner → Session → Instance → CopiedParams → List EntryPoint → Came
session_comes who session instance params points =
    if is_held instance
    then queued who session.instance instance.uuid params
    else began (begins_on who session instance params points)

-- the tables and the call are those of what it came to, with the application of this UUID
pub record HasCome (after : Tables) (old new : Cont (List ℕ)) (uuid : List ℕ) (came : Came) : Type 0 where
  pub tables : tables_of after ≡ came.tables
  pub phase : IsInPhase new came.phase
  pub app : IsAppOf new.app (Some uuid)
  pub instance : new.instance ≡ came.instance
  pub stays : new ≡ begun_from old new

-- ---- when it can come

-- as its entry makes it
pub record IsNew (cont : Cont (List ℕ)) : Type 0 where
  pub begins : CanBegin cont
  pub waits : cont.phase ≡ phase.Waits

-- a new instance of the application can be made
pub record CanMake (tables : Tables) (app : Application) : Type 0 where
  pub pages : pages_in app ≤ tables.pool.free
  pub absent : get (tables_of tables).instances (new_number (tables_of tables) app) ≡ None
  pub room : length (tables_of tables).instances < 80
  pub number : (tables_of tables).next_instance < 4294967296

-- an open of the application can come to the instance that it shares, or to a new one
abbrev pub CanShare : Tables → Application → Option (ℕ × Instance) → Type 0
CanShare tables app None = CanMake tables app
CanShare tables app (Some kept) = kept.1.holder ≡ None → IsReadyFor app kept.1

-- a call in a session can come to the instance of the application
pub record CanComeIn (app : Application) (instance : Instance) : Type 0 where
  pub uuid : instance.uuid ≡ uuid_of app
  pub ready : instance.holder ≡ None → IsReady app instance

-- a call on an instance of the application can come in, in this slot
pub record MayCome (tables : Tables) (slot : ℕ) (app : Application) : Type 0 where
  pub valid : IsValidApp app
  pub rising : IsRising (tables_of tables).instances
  pub in_range : slot < 16
  pub absent : waits tables.waiters slot ≡ false

-- an open can
pub record MayOpen (tables : Tables) (app : Application) : Type 0 where
  pub share : CanShare tables app (shared_instance (tables_of tables).instances app)
  pub room : has_room tables.sessions ≡ true

-- a call in this session can
abbrev pub MayWork : Tables → Application → Session → Type 0
MayWork tables app session = IsSomeAnd (get (tables_of tables).instances session.instance) (CanComeIn app)

-- the session of this number is kept
pub record KeepsSession (tables : Tables) (number : ℕ) (session : Session) : Type 0 where
  pub rising : IsRising (tables_of tables).sessions
  pub kept : get (tables_of tables).sessions number ≡ Some session

-- ---- a plan

pub record FitsOpen (tables : Tables) (slot : ℕ) (app : Application) : Type 0 where
  pub comes : MayCome tables slot app
  pub opens : MayOpen tables app

pub record FitsSession (tables : Tables) (slot : ℕ) (app : Application) (session : Session) : Type 0 where
  pub comes : MayCome tables slot app
  pub works : MayWork tables app session
  pub rising : IsRising (tables_of tables).sessions

-- the tables are such that the plan can be applied in this slot
abbrev pub FitsPlan : Tables → ℕ → Plan → Type 0
FitsPlan tables slot (plan.Settles settled) = Unit {0}
FitsPlan tables slot (plan.Opens app login copies) = FitsOpen tables slot (application_of app)
FitsPlan tables slot (plan.Invokes session app copies) = FitsSession tables slot (application_of app) session
FitsPlan tables slot (plan.Closes session app) = FitsSession tables slot (application_of app) session
FitsPlan tables slot plan.Cancels = Unit {0}
FitsPlan tables slot (plan.KeepsBuffer cookie buffer) = Unit {0}
FitsPlan tables slot (plan.DropsBuffer cookie) = Unit {0}

-- the tests have come to the plan, for some boot, and the tables are such, in which the cookie is pinned
pub record CanTakeFor (tables : Tables) (entered : Entered) (plan : Plan) : Type 0 where
  pub boot : Booted
  pub applies : CanApply (call_found boot (tables_of tables) entered) plan
  pub fits : FitsPlan tables entered.slot plan

-- the same of tables in which it is to be pinned, and can be
pub record CanTake (tables : Tables) (entered : Entered) (plan : Plan) : Type 0 where
  pub pins : CanPin (tables_of tables) entered
  pub boot : Booted
  pub applies : CanApply (call_with boot (tables_of tables) entered) plan
  pub fits : FitsPlan tables entered.slot plan

-- ---- the slot

-- the tables and the call are those that the slot is taken for, what is to stand beside the slot is the call's, and
-- these calls are cancelled, if any
pub record IsTaken (meant : Option model.Cancel) (entered : Entered) (after : Tables) (cont : Cont (List ℕ))
    (taken : Taken) : Type 0 where
  pub tables : tables_of after ≡ taken.tables
  pub call : IsCall cont taken.call
  pub cancel_id : taken.call.cancel_id ≡ entered.head.cancel_id
  pub marked : taken.call.marked ≡ false
  pub cancels : taken.cancels ≡ meant

-- the calls that a plan cancels
abbrev pub meant_by : Entered → Plan → Option model.Cancel
meant_by entered (plan.Settles settled) = None
meant_by entered (plan.Opens app login copies) = None
meant_by entered (plan.Invokes session app copies) = None
meant_by entered (plan.Closes session app) = None
meant_by entered plan.Cancels = Some (record { session = entered.head.session; cancel_id = entered.head.cancel_id })
meant_by entered (plan.KeepsBuffer cookie buffer) = None
meant_by entered (plan.DropsBuffer cookie) = None

-- the plan is one to cancel
abbrev pub is_cancel : Plan → Bool
is_cancel (plan.Settles settled) = false
is_cancel (plan.Opens app login copies) = false
is_cancel (plan.Invokes session app copies) = false
is_cancel (plan.Closes session app) = false
is_cancel plan.Cancels = true
is_cancel (plan.KeepsBuffer cookie buffer) = false
is_cancel (plan.DropsBuffer cookie) = false
