-- What the tests of a command have found where they come to a plan: what the change may rely on.
use Rattle.std.specs.Prelude.{◌≡◌, ℕ, ◌<◌, true, false, List, length, Some, None, IsSome}
use Rattle.std.specs.List.{AllByRecursion}
use Rattle.base.specs.NumberMap.{get}
use Rattle.kernel_model.specs.Application.{Application, Booted, uuid_of}
use Rattle.kernel_model.specs.Instances.{app_of}
use Rattle.kernel_model.specs.Kernel.{Instance, Tables}
use Rattle.kernel_model.specs.NewCall.{NewCall, has_pages, has_session_room, named_session, shares_one}
use Rattle.kernel_state.specs.Setup.{application_of}
use Rattle.session_table.specs.declared.session.Session.{Session}
use Rattle.shm_registry.specs.Pieces.{IsBuffer}
use Rattle.shm_registry.specs.Registered.{lowest_slot}
use Rattle.shm_registry.specs.declared.page_buffer.PageBuffer.{PageBuffer}
use Rattle.new_calls.specs.declared.plan.Plan.{Plan}
use Rattle.new_calls.specs.declared.plan.Plan.TheVariants as plan

-- each instance is of an application that was booted
abbrev pub HaveApps : Booted → Tables → Type 0
HaveApps boot tables =
    (number : ℕ) (instance : Instance) → get tables.instances number ≡ Some instance →
    IsSome (app_of boot instance.uuid)

-- a registered buffer has the cookie
abbrev pub IsRegistered : Tables → ℕ → Type 0
IsRegistered tables cookie = IsSome (get tables.registered.buffers cookie)

-- each of them is that of a registered buffer
abbrev pub AreRegistered : Tables → List ℕ → Type 0
AreRegistered tables cookies = AllByRecursion (IsRegistered tables) cookies

-- a session can be opened with the application: it shares no dead instance, and where it shares none there are pages
pub record CanOpen (c : NewCall) (app : Application) (cookies : List ℕ) : Type 0 where
  pub known : app_of c.boot (uuid_of app) ≡ Some app
  pub alive : shares_one c app (λ kept. kept.1.dead) ≡ false
  pub room : has_session_room c ≡ true
  pub pages : has_pages c app ≡ true
  pub registered : AreRegistered c.tables cookies

-- the argument names the session, whose instance is of the application
pub record IsInSession (c : NewCall) (session : Session) (app : Application) : Type 0 where
  pub instance : Instance
  pub named : named_session c ≡ Some (session, instance)
  pub known : app_of c.boot instance.uuid ≡ Some app

-- a function can be invoked there: the instance isn't dead
pub record CanInvoke (c : NewCall) (session : Session) (app : Application) (cookies : List ℕ) : Type 0 where
  pub there : IsInSession c session app
  pub alive : there.instance.dead ≡ false
  pub registered : AreRegistered c.tables cookies

-- the buffer can be registered: its cookie is new, and there is room
pub record CanKeep (c : NewCall) (cookie : ℕ) (buffer : PageBuffer) : Type 0 where
  pub fresh : get c.tables.registered.buffers cookie ≡ None
  pub room : length c.tables.registered.buffers < 64
  pub is_buffer : IsBuffer buffer

-- the buffer of the cookie can be forgotten: no call pins it
pub record CanDrop (c : NewCall) (cookie : ℕ) : Type 0 where
  pub kept : IsRegistered c.tables cookie
  pub free : lowest_slot c.tables.registered.pins cookie ≡ None

-- the plan can be applied
abbrev pub CanApply : NewCall → Plan → Type 0
CanApply c (plan.Settles settled) = Unit {0}
CanApply c (plan.Opens app login copies) = CanOpen c (application_of app) copies.value.cookies.items
CanApply c (plan.Invokes session app copies) = CanInvoke c session (application_of app) copies.value.cookies.items
CanApply c (plan.Closes session app) = IsInSession c session (application_of app)
CanApply c plan.Cancels = Unit {0}
CanApply c (plan.KeepsBuffer cookie buffer) = CanKeep c cookie buffer
CanApply c (plan.DropsBuffer cookie) = CanDrop c cookie
