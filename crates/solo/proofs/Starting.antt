-- A call that begins runs the job that the machine's does.
use Rattle.std.proofs.Common.{◌≡◌, ℕ, List, Option, Some, None, refl, ap, ◌∙◌}
use Rattle.std.specs.Option.{option_and_then, option_map}
use Rattle.base.specs.NumberMap.{NumberMap}
use Rattle.begin_call.proofs.Starting.{job_starts}
use Rattle.begin_call.specs.Begins.{CanBegin}
use Rattle.begin_call.specs.Points.{points_of}
use Rattle.begin_call.specs.declared.points.Points.{Points}
use Rattle.job_model.specs.Beginning.{begun_job}
use Rattle.job_model.specs.Job.{Job, Nothing, idle_job}
use Rattle.job_model.specs.declared.entry_point.EntryPoint.{EntryPoint}
use Rattle.job_model.specs.Owner.{Owner, owner_of}
use Rattle.kernel_model.specs.Application.{Application, uuid_of}
use Rattle.kernel_model.specs.Kernel.{Instance, Runs}
use Rattle.kernel_state.specs.Calls.{IsInPhase, bytes_of}
use Rattle.own_model.specs.Solo.{OwnSession, Solo, Start, home}
use Rattle.own_model.specs.Solo as solo
use Rattle.rpc_cont.specs.Advancing.{CanAdvance}
use Rattle.rpc_cont.specs.Beginning.{beginning_on, held_uuid}
use Rattle.rpc_cont.specs.Conts.{job_of, job_with, kept_params}
use Rattle.rpc_cont.specs.declared.cont.Cont.{Cont}
use Rattle.rpc_cont.specs.declared.held.Held.{Held}
use Rattle.solo.specs.Beginning.{HasStart, from_start, idle_start}
use Rattle.ta_params.specs.declared.copied_params.CopiedParams.{CopiedParams}
use Rattle.ta_params.specs.declared.login.Login.{Login}
use Rattle.tee_storage.specs.declared.handle.Handle.{Handle}

same_idle : (owner of : Owner) (login other : Login) (context word : ℕ) (objects kept : NumberMap Handle) (params left : CopiedParams) →
    owner ≡ of → login ≡ other → context ≡ word → objects ≡ kept → params ≡ left →
    idle_job owner login context objects params ≡ idle_job of other word kept left
same_idle owner of login other context word objects kept params left o a b c d = rw (o, a, b, c, d) refl

pub starts_so : (cont new : Cont (List ℕ)) (held : Held (List ℕ)) (kept : NumberMap Handle) (points : Points) (app : Application) (start : Start) →
    CanBegin cont → HasStart cont kept start → held_uuid held ≡ uuid_of app →
    ((job : Job) (points : List EntryPoint) → begun_job (beginning_on bytes_of held cont.cancelled) job points ≡ begun_job (from_start app start) job points) →
    solo.job_of app cont.kind start ≡ begun_job (from_start app start) (idle_start app start) (points_of points) →
    job_of bytes_of new ≡ begun_job (beginning_on bytes_of held cont.cancelled) (record (job_with Nothing (owner_of (held_uuid held) cont.key) cont) { objects = kept }) (points_of points) →
    CanAdvance bytes_of new → IsInPhase new (Runs (solo.job_of app cont.kind start))
starts_so cont new held kept points app start can has same fits job begun runs = (
  job
      ∙ ap (λ (idle : Job). begun_job (from_start app start) idle (points_of points))
      (same_idle (owner_of (uuid_of app) start.key) (owner_of (uuid_of app) cont.key) start.session.login cont.login start.session.context cont.context start.instance.objects kept start.params (kept_params cont.params)
      (ap (owner_of (uuid_of app)) has.key) has.login has.context has.objects has.params)
      ∙ job_starts cont new held (from_start app start) (uuid_of app) kept (points_of points) can same (λ job. fits job (points_of points)) begun,
  runs,
)

-- ---- home

-- the session and the instance that are at home
some_pair : (session : OwnSession) (found : Option Instance) (at : OwnSession × Instance) → option_map (λ (instance : Instance). (session, instance)) found ≡ Some at →
    (session ≡ at.0) × (found ≡ Some at.1)
some_pair session None at e = absurd cc
some_pair session (Some instance) at e =
    let same : (session, instance) ≡ at = cc in
    (ap (λ (p : OwnSession × Instance). p.0) same, ap (λ (p : OwnSession × Instance). Some p.1) same)

by_session : (session : Option OwnSession) (found : Option Instance) (at : OwnSession × Instance) →
    option_and_then (λ (session : OwnSession). option_map (λ (instance : Instance). (session, instance)) found) session ≡ Some at →
    (session ≡ Some at.0) × (found ≡ Some at.1)
by_session None found at e = absurd cc
by_session (Some session) found at e =
    let both = some_pair session found at e in
    (ap (λ (s : OwnSession). Some s) both.0, both.1)

pub at_home : (solo : Solo) (at : OwnSession × Instance) → home solo ≡ Some at → (solo.session ≡ Some at.0) × (solo.instance ≡ Some at.1)
at_home solo at e = by_session solo.session solo.instance at e
