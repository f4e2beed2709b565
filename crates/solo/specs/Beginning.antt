-- What a call begins with, and what it finds as it comes to the instance.
use Rattle.std.specs.Prelude.{◌≡◌, ℕ, Bool, List, Option, Some, None, if◌then◌else◌}
use Rattle.base.specs.NumberMap.{NumberMap}
use Rattle.job_model.specs.Beginning.{Beginning}
use Rattle.job_model.specs.Job.{Job, idle_job}
use Rattle.job_model.specs.Owner.{owner_of}
use Rattle.kernel_model.specs.Application.{Application, program_of, uuid_of}
use Rattle.kernel_model.specs.Instances.{is_held}
use Rattle.kernel_model.specs.Kernel.{Instance}
use Rattle.kernel_state.specs.Calls.{bytes_of}
use Rattle.kernel_state.specs.Setup.{application_of}
use Rattle.own_model.specs.Solo.{OwnSession, Solo, Start}
use Rattle.rpc_cont.specs.Conts.{kept_memory, kept_params}
use Rattle.rpc_cont.specs.declared.cont.Cont.{Cont}
use Rattle.ta_params.specs.declared.copied_params.CopiedParams.{CopiedParams}
use Rattle.tee_storage.specs.declared.handle.Handle.{Handle}
use Rattle.solo.specs.declared.beginning.Ready.{Ready}
use Rattle.solo.specs.declared.found.Found.{Found}

-- what a call finds at the instance of its session
abbrev pub found_at : OwnSession × Instance → Found
found_at at = record { dead = at.1.dead; held = is_held at.1 }

-- what a call begins on, which has seen whether it was cancelled: of a dead instance nothing runs
abbrev pub beginning_with : Ready → Bool → Option (List ℕ) → Bool → Beginning
beginning_with ready dead memory seen = record {
  program = if dead then None else Some (program_of (application_of ready.app));
  memory = kept_memory bytes_of memory;
  seen = seen;
}

-- what a call begins with that has waited with these parameters
abbrev pub start_of : Solo → OwnSession × Instance → CopiedParams → Cont (List ℕ) → Start
start_of solo at params cont =
    record { session = at.0; instance = at.1; params = params; seen = cont.cancelled; key = solo.key }

-- what it begins on
abbrev pub from_start : Application → Start → Beginning
from_start app start = record {
  program = if start.instance.dead then None else Some (program_of app);
  memory = start.instance.memory;
  seen = start.seen;
}

-- the job that it begins with
abbrev pub idle_start : Application → Start → Job
idle_start app start = idle_job (owner_of (uuid_of app) start.key) start.session.login start.session.context start.instance.objects start.params

-- what a call has that begins, of the session, the instance and the machine
pub record HasStart (cont : Cont (List ℕ)) (kept : NumberMap Handle) (start : Start) : Type 0 where
  pub login : start.session.login ≡ cont.login
  pub context : start.session.context ≡ cont.context
  pub objects : start.instance.objects ≡ kept
  pub params : start.params ≡ kept_params cont.params
  pub key : start.key ≡ cont.key
