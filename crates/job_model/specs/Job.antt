-- A job: what a call has its application do. This project's own.
use Rattle.std.specs.Prelude.{ℕ, Bool, true, List, [], Option, None}
use Rattle.base.specs.NumberMap.{NumberMap}
use Rattle.native_tas.specs.declared.relation.Relation.{Relation}
use Rattle.ta_isa.specs.declared.image.Image.{Image}
use Rattle.ta_params.specs.declared.call_result.CallResult.{CallResult}
use Rattle.ta_params.specs.declared.copied_params.CopiedParams.{CopiedParams}
use Rattle.ta_params.specs.declared.login.Login.{Login}
use Rattle.tee_storage.specs.declared.handle.Handle.{Handle}
use Rattle.ta_step.specs.State.{State, started}
use Rattle.job_model.specs.Owner.{Owner}
use Rattle.job_model.specs.Asking.{PendingRequest}
use Rattle.job_model.specs.declared.entry_point.EntryPoint.{EntryPoint}
use Rattle.job_model.specs.declared.entry_point.EntryPoint.TheVariants.{Create, Open, Invoke, Close, Destroy}
use Rattle.job_model.specs.Point.{number_of, first_registers, params_at, params_beside}

-- what runs: the machine of an image at one of its entry points; the function of a native application, for an
-- invoke; or nothing, of a dead instance and for the other entry points of a native application
pub data Body : Type 0 where
  Machine : (image : Image) (point : EntryPoint) (machine : State) → Body
  Native : (relation : Relation) (func : ℕ) → Body
  Nothing : Body

-- a job
pub record Job : Type 0 where
  pub body : Body
  -- whose application it is
  pub owner : Owner
  -- who opened the session
  pub login : Login
  -- the word that the application keeps with the session
  pub context : ℕ
  -- the instance's open objects, by their handles
  pub objects : NumberMap Handle
  -- what its machine has asked for and has no answer to
  pub asked : Option PendingRequest
  -- the call's parameters, as they are while no entry point has them
  pub params : CopiedParams
  -- the result so far
  pub result : CallResult
  -- the entry points still to come; destroy behind open comes only where open fails
  pub points : List EntryPoint

-- a result that no application returned: TEE_ORIGIN_TEE
abbrev pub of_tee : ℕ → CallResult
of_tee code = record { result = code; origin = 3 }

-- a result that the application returned: TEE_ORIGIN_TRUSTED_APP
abbrev pub of_application : ℕ → CallResult
of_application code = record { result = code; origin = 4 }

-- a job that has nothing to run: TEE_SUCCESS
abbrev pub idle_job : Owner → Login → ℕ → NumberMap Handle → CopiedParams → Job
idle_job owner login context objects params =
    record {
      body = Nothing;
      owner = owner;
      login = login;
      context = context;
      objects = objects;
      asked = None;
      params = params;
      result = of_tee 0;
      points = [];
    }

-- the machine at the start of an entry point: masked, with the cancellation flag as the call has seen it
abbrev pub machine_at : Image → EntryPoint → List ℕ → Bool → Job → State
machine_at image point memory seen job =
    let first = first_registers point job.params job.context in
    let fresh = started image.entries (number_of point) first memory (params_at point job.params) job.login in
    record fresh { cancelled = seen }

-- the job at the start of this entry point, with these behind it
abbrev pub image_job_at : Image → List ℕ → Bool → Job → EntryPoint → List EntryPoint → Job
image_job_at image memory seen job point behind =
    record job {
      body = Machine image point (machine_at image point memory seen job);
      params = params_beside point job.params;
      points = behind;
    }

-- the same job, whose call has seen that it was cancelled
abbrev pub body_with_cancel_seen : Body → Body
body_with_cancel_seen (Machine image point machine) = Machine image point (record machine { cancelled = true })
body_with_cancel_seen (Native relation func) = Native relation func
body_with_cancel_seen Nothing = Nothing

abbrev pub with_cancel_seen : Job → Job
with_cancel_seen job = record job { body = body_with_cancel_seen job.body }

-- the job of a native application at this entry point, with these behind it: an invoke calls its function, and the
-- others have nothing to run
abbrev pub native_job_at : Relation → Job → EntryPoint → List EntryPoint → Job
native_job_at relation job Create behind = job
native_job_at relation job Open behind = job
native_job_at relation job (Invoke func) behind = record job { body = Native relation func; points = behind }
native_job_at relation job Close behind = record job { points = behind }
native_job_at relation job Destroy behind = job
