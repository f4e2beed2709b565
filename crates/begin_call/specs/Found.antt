-- What a call finds on the instance that it begins on.
use Rattle.std.specs.Prelude.{◌≡◌, ℕ, Bool, List, Option, Some, None}
use Rattle.std.specs.Option.{option_map}
use Rattle.job_model.specs.Beginning.{Beginning, begun_job}
use Rattle.job_model.specs.Job.{Job, idle_job}
use Rattle.job_model.specs.Owner.{owner_of}
use Rattle.kernel_model.specs.Application.{program_of}
use Rattle.rpc_cont.specs.Conts.{kept_memory, kept_params}
use Rattle.rpc_cont.specs.declared.cont.Cont.{Cont}
use Rattle.ta_isa.specs.Spelling.{IsValid}
use Rattle.kernel_state.specs.Calls.{bytes_of}
use Rattle.kernel_state.specs.Setup.{application_of}
use Rattle.kernel_state.specs.declared.setup.Application.{Application}
use Rattle.kernel_state.specs.declared.setup.Application.TheVariants as app
use Rattle.begin_call.specs.Points.{points_of}
use Rattle.begin_call.specs.declared.found.InstanceFound.{InstanceFound}

-- what the call begins on, which has seen whether it was cancelled
abbrev pub beginning_with : Option (Application) → Option (List ℕ) → Bool → Beginning
beginning_with program memory seen = record {
  program = option_map (λ app. program_of (application_of app)) program;
  memory = kept_memory bytes_of memory;
  seen = seen;
}

-- the job of the call there
abbrev pub job_on : InstanceFound → Cont (List ℕ) → Job
job_on found cont =
    let idle = idle_job (owner_of found.uuid cont.key) cont.login cont.context cont.objects (kept_params cont.params) in
    begun_job (beginning_with found.program found.memory cont.cancelled) idle (points_of found.points)

-- what is found fits together: an image is valid, and its memory is there; what is built in has the UUID
abbrev pub CanStart : Option (Application) → Option (List ℕ) → List ℕ → Type 0
CanStart None memory uuid = Unit {0}
CanStart (Some (app.OfImage shared)) None uuid = ⊥
CanStart (Some (app.OfImage shared)) (Some memory) uuid = IsValid shared.image.value
CanStart (Some (app.BuiltIn native)) memory uuid = native.uuid ≡ uuid
