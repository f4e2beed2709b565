-- A call that starts on what it finds runs its job.
use Rattle.std.proofs.Common.{◌≡◌, ℕ, ◌*◌, ◌≤◌, List, [], length, Option, Some, None, refl, sym, ap, ◌∙◌, arith}
use Rattle.base.specs.NumberMap.{NumberMap}
use Rattle.job_model.specs.Beginning.{Beginning, begun_job}
use Rattle.job_model.specs.Job.{Job, Nothing, idle_job}
use Rattle.job_model.specs.declared.entry_point.EntryPoint.{EntryPoint}
use Rattle.job_model.specs.Owner.{Owner, owner_of}
use Rattle.tee_storage.specs.declared.handle.Handle.{Handle}
use Rattle.kernel_model.specs.Application.{pages_in}
use Rattle.rpc_cont.specs.Beginning.{beginning_on, held_uuid}
use Rattle.rpc_cont.specs.Conts.{job_of, job_with, kept_memory, kept_params}
use Rattle.rpc_cont.specs.declared.cont.Cont.{Cont}
use Rattle.rpc_cont.specs.declared.held.Held.{Held}
use Rattle.kernel_state.specs.Calls.{bytes_of}
use Rattle.kernel_state.specs.Setup.{application_of}
use Rattle.kernel_state.specs.declared.setup.Application.{Application}
use Rattle.kernel_state.specs.declared.setup.Application.TheVariants as app
use Rattle.begin_call.specs.Begins.{CanBegin, IsValidApp}
use Rattle.begin_call.specs.Found.{CanStart}
use Rattle.kernel_model.specs.Application.{uuid_of as uuid_in}

-- ---- its job

-- a call that has done nothing is idle
pub idle : (cont : Cont (List ℕ)) (owner : Owner) (objects : NumberMap Handle) → CanBegin cont →
    record (job_with Nothing owner cont) { objects = objects } ≡ idle_job owner cont.login cont.context objects (kept_params cont.params)
idle cont owner objects can = rw (can.result, can.fresh.points) refl

-- the job of a call that begins on what it holds is the one on what it finds
pub job_starts : (cont new : Cont (List ℕ)) (held : Held (List ℕ)) (from : Beginning) (uuid : List ℕ) (objects : NumberMap Handle) (points : List EntryPoint) →
    CanBegin cont → held_uuid held ≡ uuid → ((job : Job) → begun_job (beginning_on bytes_of held cont.cancelled) job points ≡ begun_job from job points) →
    job_of bytes_of new ≡ begun_job (beginning_on bytes_of held cont.cancelled) (record (job_with Nothing (owner_of (held_uuid held) cont.key) cont) { objects = objects }) points →
    begun_job from (idle_job (owner_of uuid cont.key) cont.login cont.context objects (kept_params cont.params)) points ≡ job_of bytes_of new
job_starts cont new held from uuid objects points can same fits begun =
    let plain = idle cont (owner_of (held_uuid held) cont.key) objects can in
    let named = ap (λ (uuid : List ℕ). idle_job (owner_of uuid cont.key) cont.login cont.context objects (kept_params cont.params)) same in
    sym (begun ∙ fits (record (job_with Nothing (owner_of (held_uuid held) cont.key) cont) { objects = objects }) ∙ ap (λ (job : Job). begun_job from job points) (plain ∙ named))

-- ---- when it can start

no_pages : (pages : ℕ) → 1 ≤ pages → length {A = ℕ} [] ≡ 4096 * pages → ⊥
no_pages pages some is = omega (arith, is)

-- a valid application, on all its pages
pub can_start : (app : Application) (memory : Option (List ℕ)) (uuid bytes : List ℕ) → IsValidApp (application_of app) →
    uuid ≡ uuid_in (application_of app) → kept_memory bytes_of memory ≡ bytes → length bytes ≡ 4096 * pages_in (application_of app) →
    CanStart (Some app) memory uuid
can_start (app.OfImage shared) None uuid bytes valid same kept all =
    absurd (no_pages shared.image.value.pages valid.some_page (ap (λ (bytes : List ℕ). length bytes) kept ∙ all))
can_start (app.OfImage shared) (Some memory) uuid bytes valid same kept all = valid
can_start (app.BuiltIn native) memory uuid bytes valid same kept all = sym same
