-- The job with which a call begins, and its program.
use Rattle.std.proofs.Common.{◌≡◌, ℕ, false, List, Option, Some, None, ap}
use Rattle.std.proofs.Common.{◌∙◌}
use Rattle.std.specs.Prelude.{if◌then◌else◌}
use Rattle.std.specs.Option.{option_map}
use Rattle.job_model.specs.Beginning.{Program, begun_job}
use Rattle.job_model.specs.declared.entry_point.EntryPoint.{EntryPoint}
use Rattle.job_model.specs.Job.{Job, idle_job}
use Rattle.job_model.specs.Owner.{owner_of}
use Rattle.ta_params.specs.declared.copied_params.CopiedParams.{CopiedParams}
use Rattle.ta_params.specs.declared.login.Login.{Login}
use Rattle.kernel_model.specs.Application.{Application, Booted, program_of, uuid_of}
use Rattle.kernel_model.specs.Instances.{app_of}
use Rattle.kernel_model.specs.Instances.{program_on}
use Rattle.kernel_model.specs.Kernel.{Instance}

-- ---- the job

-- what a job begins with: the key, its program, and memory, objects and UUID of an instance
abbrev pub job_with : List ℕ → Option Program → Instance → Login → ℕ → CopiedParams → List EntryPoint → Job
job_with key program instance login context params points =
    begun_job (record { program = program; memory = instance.memory; seen = false })
    (idle_job (owner_of instance.uuid key) login context instance.objects params) points

pub same_program : (boot : Booted) (app : Application) (instance : Instance) → app_of boot (uuid_of app) ≡ Some app
    → instance.uuid ≡ uuid_of app
    → program_on boot instance ≡ (if instance.dead then None else Some (program_of app))
same_program boot app instance of_boot uuid =
    ap (λ u. if instance.dead then None else option_map program_of (app_of boot u)) uuid
    ∙ ap (λ (o : Option Application). if instance.dead then None else option_map program_of o) of_boot
