-- A call that begins runs the job that the machine's does.
use Rattle.std.proofs.Common.{◌≡◌, ℕ, List, refl, ap, ◌∙◌}
use Rattle.base.specs.NumberMap.{NumberMap}
use Rattle.begin_call.proofs.Starting.{job_starts}
use Rattle.begin_call.specs.Begins.{CanBegin}
use Rattle.begin_call.specs.Points.{points_of}
use Rattle.begin_call.specs.declared.points.Points.{Points}
use Rattle.group_model.specs.Group.{Start, job_on}
use Rattle.job_model.specs.Beginning.{begun_job}
use Rattle.job_model.specs.Job.{Job, Nothing, idle_job}
use Rattle.job_model.specs.declared.entry_point.EntryPoint.{EntryPoint}
use Rattle.job_model.specs.Owner.{Owner, owner_of}
use Rattle.kernel_model.specs.Application.{Application, uuid_of}
use Rattle.kernel_model.specs.Kernel.{Instance, Runs}
use Rattle.kernel_state.specs.Calls.{IsInPhase, bytes_of}
use Rattle.rpc_cont.specs.Advancing.{CanAdvance}
use Rattle.rpc_cont.specs.Beginning.{beginning_on, held_uuid}
use Rattle.rpc_cont.specs.Conts.{job_of, job_with, kept_params}
use Rattle.rpc_cont.specs.declared.cont.Cont.{Cont}
use Rattle.rpc_cont.specs.declared.held.Held.{Held}
use Rattle.group_solo.specs.Beginning.{HasStart, from_start}
use Rattle.ta_params.specs.declared.copied_params.CopiedParams.{CopiedParams}
use Rattle.ta_params.specs.declared.login.Login.{Login}
use Rattle.tee_storage.specs.declared.handle.Handle.{Handle}

same_idle : (owner of : Owner) (login other : Login) (context word : ℕ) (objects kept : NumberMap Handle) (params left : CopiedParams) →
    owner ≡ of → login ≡ other → context ≡ word → objects ≡ kept → params ≡ left →
    idle_job owner login context objects params ≡ idle_job of other word kept left
same_idle owner of login other context word objects kept params left o a b c d = rw (o, a, b, c, d) refl

pub starts_so : (cont new : Cont (List ℕ)) (held : Held (List ℕ)) (kept : NumberMap Handle) (points : Points) (app : Application) (start : Start) (instance : Instance) →
    CanBegin cont → HasStart cont kept start instance → held_uuid held ≡ uuid_of app →
    ((job : Job) (points : List EntryPoint) → begun_job (beginning_on bytes_of held cont.cancelled) job points ≡ begun_job (from_start app start instance) job points) →
    job_of bytes_of new ≡ begun_job (beginning_on bytes_of held cont.cancelled) (record (job_with Nothing (owner_of (held_uuid held) cont.key) cont) { objects = kept }) (points_of points) →
    CanAdvance bytes_of new → IsInPhase new (Runs (job_on app start instance (points_of points)))
starts_so cont new held kept points app start instance can has same fits begun runs = (
  ap (λ (idle : Job). begun_job (from_start app start instance) idle (points_of points))
      (same_idle (owner_of (uuid_of app) start.key) (owner_of (uuid_of app) cont.key) start.login cont.login start.context cont.context instance.objects kept start.params (kept_params cont.params)
      (ap (owner_of (uuid_of app)) has.key) has.login has.context has.objects has.params)
      ∙ job_starts cont new held (from_start app start instance) (uuid_of app) kept (points_of points) can same (λ job. fits job (points_of points)) begun,
  runs,
)
