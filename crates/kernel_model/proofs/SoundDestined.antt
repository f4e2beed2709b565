-- A job that is to end its instance does so, unless it is an open's and succeeds.
use Rattle.std.proofs.Common.{◌≡◌, ℕ, Bool, true, false, List, [], ◌∷◌, Some, ◌⊎◌, inl, inr, refl, subst, sym}
use Rattle.std.specs.Prelude.{if◌then◌else◌, ◌==◌}
use Rattle.std.proofs.lemmas.Bool.Decides.{Decides-eqb}
use Rattle.job_model.specs.Job.{Body, Job, of_application}
use Rattle.job_model.specs.Steps.{End, Grant, grant_of, has_destroy, job_after_return, on_to_next, still_to_come}
use Rattle.job_model.specs.declared.entry_point.EntryPoint.{EntryPoint}
use Rattle.job_model.specs.declared.entry_point.EntryPoint.TheVariants.{Create, Open, Invoke, Close, Destroy}
use Rattle.ta_isa.specs.declared.image.Image.{Image}
use Rattle.ta_params.specs.declared.call_result.CallResult.{CallResult}
use Rattle.ta_step.specs.State.{State}
use Rattle.kernel_model.proofs.SoundCourses.{AtPoint, AtRest, Continues, HoldsAfter, HoldsBy, InFunction, JobPlace, granted_on, job_place}

-- ---- what is to come

-- at this entry point, with these behind it; of an open's job or not
abbrev IsDestinedAt : Bool → EntryPoint → List EntryPoint → Type 0
IsDestinedAt opening Create points = (opening ≡ true) × (points ≡ Open ∷ Destroy ∷ [])
IsDestinedAt opening Open points = (opening ≡ true) × (points ≡ Destroy ∷ [])
IsDestinedAt opening (Invoke func) points = ⊥
IsDestinedAt opening Close points = points ≡ Destroy ∷ []
IsDestinedAt opening Destroy points = points ≡ []

-- a job there, with these entry points to come and this result so far, is to end its instance, or to succeed as an open
abbrev pub Destined : Bool → JobPlace → List EntryPoint → CallResult → Type 0
Destined opening (AtPoint point) points result = IsDestinedAt opening point points
Destined opening InFunction points result = ⊥
Destined opening AtRest points result = (has_destroy points ≡ true) ⊎ ((opening ≡ true) × (result.result ≡ 0))

-- a job with this body is
abbrev pub IsDestined : Bool → Body → List EntryPoint → CallResult → Type 0
IsDestined opening body points result = Destined opening (job_place body) points result

-- and has
abbrev pub HasEnded : Bool → End → Type 0
HasEnded opening end = (end.is_last ≡ true) ⊎ ((opening ≡ true) × (end.result.result ≡ 0))

module _ (opening : Bool) where
  next_so : (job : Job) (image : Image) (point : EntryPoint) (machine : State) (r0 r1 : ℕ) → IsDestinedAt opening point job.points
      → HoldsAfter (Destined opening) (HasEnded opening)
      (on_to_next (job_after_return job point machine.params r0 r1) image point machine (still_to_come point r0 job.points))
  next_so job image Create machine r0 r1 so = by_test (r0 == 0)
    where
      by_test : (test : Bool) → HoldsAfter (Destined opening) (HasEnded opening)
          (on_to_next (if test then job else record job { result = of_application r0 }) image Create machine (if test then job.points else []))
      by_test true = subst (λ (points : List EntryPoint). HoldsAfter (Destined opening) (HasEnded opening) (on_to_next job image Create machine points))
          (sym so.1) (so.0, refl)
      by_test false = inl refl
  next_so job image Open machine r0 r1 so = by_test (r0 == 0) refl
    where
      by_test : (test : Bool) → (r0 == 0) ≡ test → HoldsAfter (Destined opening) (HasEnded opening)
          (on_to_next (job_after_return job Open machine.params r0 r1) image Open machine (if test then [] else job.points))
      by_test true is = inr (so.0, (Decides-eqb r0 0).0 is)
      by_test false is =
          subst (λ (points : List EntryPoint). HoldsAfter (Destined opening) (HasEnded opening)
          (on_to_next (job_after_return job Open machine.params r0 r1) image Open machine points)) (sym so.1) refl
  next_so job image (Invoke func) machine r0 r1 so = absurd so
  next_so job image Close machine r0 r1 so =
      subst (λ (points : List EntryPoint). HoldsAfter (Destined opening) (HasEnded opening) (on_to_next job image Close machine points)) (sym so) refl
  next_so job image Destroy machine r0 r1 so =
      subst (λ (points : List EntryPoint). HoldsAfter (Destined opening) (HasEnded opening) (on_to_next job image Destroy machine points)) (sym so) (inl refl)

  pub destined_on : Continues (Destined opening) (HasEnded opening)
  destined_on = record {
    returns = next_so;
    answers = λ job answer so. absurd so;
    rests = λ job so. so;
  }

pub granted_so : (opening : Bool) (n : ℕ) (job : Job) (grant : Grant) → IsDestined opening job.body job.points job.result → grant_of n job ≡ Some grant
    → HoldsBy (Destined opening) (HasEnded opening) grant
granted_so opening = granted_on (Destined opening) (HasEnded opening) (destined_on opening)
