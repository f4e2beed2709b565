-- When a call can begin, and what becomes of it and of the tables.
use Rattle.std.specs.Prelude.{◌≡◌, ℕ, ◌+◌, ◌*◌, false, List, length, Some, None}
use Rattle.std.specs.Option.{option_map_or}
use Rattle.job_model.specs.Job.{of_tee}
use Rattle.kernel_model.specs.Application.{Application, Booted, OfImage, BuiltIn, pages_in, uuid_of}
use Rattle.kernel_model.specs.Begin.{Beginner, Begun, Opener, awaited_number}
use Rattle.kernel_model.specs.Kernel.{Instance, Runs}
use Rattle.kernel_model.specs.Kernel as model
use Rattle.rpc_cont.specs.Beginning.{IsFresh}
use Rattle.rpc_cont.specs.Conts.{kept_params}
use Rattle.rpc_cont.specs.declared.cont.Cont.{Cont}
use Rattle.ta_isa.specs.Spelling.{IsValid}
use Rattle.kernel_state.specs.Calls.{IsAppOf, IsInPhase}
use Rattle.kernel_state.specs.Setup.{application_of}
use Rattle.kernel_state.specs.Tables.{tables_of}
use Rattle.kernel_state.specs.declared.tables.Tables.{Tables}
use Rattle.begin_call.specs.declared.opens.OpenCall.{OpenCall}

-- ---- who begins

-- the call of a slot, under the key that it has, which has seen whether it was cancelled
abbrev pub who_begins : Booted → Tables → ℕ → Cont (List ℕ) → Beginner
who_begins boot tables slot cont =
    record { boot = record boot { key = cont.key }; tables = tables_of tables; slot = slot; seen = cont.cancelled }

-- what an open brings along: the parameters that it keeps
abbrev pub brought : OpenCall → Cont (List ℕ) → Opener
brought call cont = record { app = application_of call.app; login = call.login; params = kept_params cont.params }

-- ---- when it can begin

-- it has come to no entry point yet, and has no result
pub record CanBegin (cont : Cont (List ℕ)) : Type 0 where
  pub fresh : IsFresh cont
  pub result : cont.result ≡ of_tee 0

-- the image of the application, if it has one, is valid
abbrev pub IsValidApp : Application → Type 0
IsValidApp (OfImage app) = IsValid app.image
IsValidApp (BuiltIn uuid relation) = Unit {0}

-- an open of the application can begin on the instance: no call holds it, and it has all its pages
pub record IsReadyFor (app : Application) (instance : Instance) : Type 0 where
  pub free : instance.holder ≡ None
  pub pages : length instance.memory ≡ 4096 * pages_in app

-- a call in a session can begin on the instance of the application: no call holds it, and where it isn't dead it has
-- all its pages
pub record IsReady (app : Application) (instance : Instance) : Type 0 where
  pub free : instance.holder ≡ None
  pub uuid : instance.uuid ≡ uuid_of app
  pub pages : instance.dead ≡ false → length instance.memory ≡ 4096 * pages_in app

-- the number that a new instance of the application gets
abbrev pub new_number : model.Tables → Application → ℕ
new_number tables app = option_map_or (λ number. number) (awaited_number tables app) tables.next_instance

-- and the one that the next gets then
abbrev pub number_behind : model.Tables → Application → ℕ
number_behind tables app =
    option_map_or (λ number. tables.next_instance) (awaited_number tables app) (tables.next_instance + 1)

-- ---- what has begun

-- what a call changes as it begins; all else of it stays
abbrev pub begun_from : Cont (List ℕ) → Cont (List ℕ) → Cont (List ℕ)
begun_from old new = record old {
  app = new.app;
  login = new.login;
  context = new.context;
  params = new.params;
  instance = new.instance;
  point = new.point;
  machine = new.machine;
  points = new.points;
  objects = new.objects;
  phase = new.phase;
}

-- the tables are those of what has begun, and the call runs its job, of the application of this UUID
pub record HasBegun (after : Tables) (old new : Cont (List ℕ)) (uuid : List ℕ) (begun : Begun) : Type 0 where
  pub tables : tables_of after ≡ begun.tables
  pub runs : IsInPhase new (Runs begun.job)
  pub app : IsAppOf new.app (Some uuid)
  pub instance : new.instance ≡ begun.instance
  pub stays : new ≡ begun_from old new
