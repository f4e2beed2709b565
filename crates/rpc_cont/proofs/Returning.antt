-- What the return of an entry point leaves.
use Rattle.std.proofs.Common.{◌≡◌, ℕ, Bool, List, [], ◌∷◌, Some, None, refl, ap, sym, subst, ◌∙◌}
use Rattle.std.specs.Prelude.{remove, slice_get}
use Rattle.job_model.specs.Owner.{Owner}
use Rattle.job_model.specs.Job.{Nothing, Job, image_job_at}
use Rattle.job_model.specs.Steps.{Advance, Goes, on_to_next}
use Rattle.rpc_cont.specs.Conts.{job_at, job_with}
use Rattle.rpc_cont.specs.Running.{IsRunning, IsTurn}
use Rattle.rpc_cont.specs.declared.cont.Cont.{Cont}
use Rattle.job_model.specs.declared.entry_point.EntryPoint.{EntryPoint}
use Rattle.ta_isa.specs.declared.image.Image.{Image}
use Rattle.ta_step.specs.State.{State}

-- on to the next entry point
pub followed_next : (job : Job) (image : Image) (here : EntryPoint) (machine : State) (points : List EntryPoint) (next : EntryPoint)
    → slice_get points 0 ≡ Some next
    → on_to_next job image here machine points
    ≡ Goes (image_job_at image machine.memory machine.cancelled job next (remove points 0))
followed_next job image here machine [] next e = absurd cc
followed_next job image here machine (point ∷ points) next e =
    let same : point ≡ next = cc in
    ap (λ (p : EntryPoint). Goes (image_job_at image machine.memory machine.cancelled job p points)) same

pub goes : {M : Type 0} (bytes : M → List ℕ) (owner : Owner) (image : Image) (new : Cont M) (turn : Advance)
    → turn ≡ Goes (job_at bytes owner image new) → IsRunning bytes new → IsTurn bytes owner image new turn None
goes bytes owner image new turn e running = subst (λ (other : Advance). IsTurn bytes owner image new other None) (sym e) (refl, refl, running)

at_same : (image : Image) (memory other : List ℕ) (flag seen : Bool) (job : Job) (next : EntryPoint) (behind coming : List EntryPoint)
    → memory ≡ other → flag ≡ seen → behind ≡ coming → image_job_at image memory flag job next behind ≡ image_job_at image other seen job next coming
at_same image memory other flag seen job next behind coming e f h =
    ap (λ (m : List ℕ). image_job_at image m flag job next behind) e
    ∙ ap (λ (b : Bool). image_job_at image other b job next behind) f
    ∙ ap (image_job_at image other seen job next) h

-- a call whose next entry point, which is this one, has begun
pub next_begun : {M : Type 0} (bytes : M → List ℕ) (owner : Owner) (image : Image) (here : EntryPoint) (machine : State) (old new : Cont M)
    (memory : List ℕ) (next : EntryPoint) (left : List EntryPoint)
    → slice_get old.points.items 0 ≡ Some next → left ≡ remove old.points.items 0
    → machine.memory ≡ memory → machine.cancelled ≡ old.cancelled
    → job_at bytes owner image new ≡ image_job_at image memory old.cancelled (job_with Nothing owner old) next left
    → IsRunning bytes new
    → IsTurn bytes owner image new (on_to_next (job_with Nothing owner old) image here machine old.points.items) None
next_begun bytes owner image here machine old new memory next left first rest same flag begun running =
    let job = job_with Nothing owner old in
    goes bytes owner image new _
    (followed_next job image here machine old.points.items next first
    ∙ ap Goes (at_same image machine.memory memory machine.cancelled old.cancelled job next _ _ same flag (sym rest) ∙ sym begun))
    running

-- what follows the return of an entry point doesn't depend on the entry points that were to come
followed_same : (job : Job) (image : Image) (here : EntryPoint) (machine : State) (points coming : List EntryPoint)
    → on_to_next (record job { points = points }) image here machine coming ≡ on_to_next job image here machine coming
followed_same job image here machine points [] = refl
followed_same job image here machine points (next ∷ behind) = refl

-- what follows the return of an entry point, after which the call stands for this job
pub followed_return : {M : Type 0} (owner : Owner) (image : Image) (here : EntryPoint) (machine : State) (job : Job) (left : Cont M) (coming : List EntryPoint)
    → job_with Nothing owner left ≡ record job { points = coming }
    → on_to_next (job_with Nothing owner left) image here machine left.points.items ≡ on_to_next job image here machine coming
followed_return owner image here machine job left coming is =
    ap (λ (j : Job). on_to_next j image here machine j.points) is ∙ followed_same job image here machine coming coming
