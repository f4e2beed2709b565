-- A job that ends its instance is one of an open that fails or of a close, and only where that is allowed.
use Rattle.std.proofs.Common.{◌≡◌, ℕ, Bool, true, false, List, [], ◌∷◌, Option, Some, None, ◌⊎◌, inl, inr, refl, ap, subst, sym, ◌∙◌}
use Rattle.std.specs.Prelude.{if◌then◌else◌, ◌==◌, ◌||◌}
use Rattle.std.specs.Option.{option_map_or}
use Rattle.std.proofs.lemmas.Bool.Decides.{Decides-eqb}
use Rattle.base.specs.NumberMap.{NumberMap, remove}
use Rattle.job_model.specs.Beginning.{Program, begun_job}
use Rattle.job_model.specs.Beginning as program
use Rattle.job_model.specs.Job.{Job, idle_job, of_application}
use Rattle.job_model.specs.Steps.{End, has_destroy, job_after_return, on_to_next, still_to_come}
use Rattle.job_model.specs.declared.entry_point.EntryPoint.{EntryPoint}
use Rattle.job_model.specs.declared.entry_point.EntryPoint.TheVariants.{Create, Open, Invoke, Close, Destroy}
use Rattle.job_model.specs.Owner.{Owner, owner_of}
use Rattle.session_table.specs.declared.session.Session.{Session}
use Rattle.ta_isa.specs.declared.image.Image.{Image}
use Rattle.ta_params.specs.declared.call_result.CallResult.{CallResult}
use Rattle.ta_params.specs.declared.copied_params.CopiedParams.{CopiedParams}
use Rattle.ta_params.specs.declared.login.Login.{Login}
use Rattle.ta_step.specs.State.{State}
use Rattle.tee_storage.specs.declared.handle.Handle.{Handle}
use Rattle.kernel_model.specs.Application.{Application, Booted, BuiltIn, OfImage, pages_in, program_of, uuid_of}
use Rattle.kernel_model.specs.Begin.{Beginner, Opener, begins_on, closing_points, opens_kept, opens_new}
use Rattle.kernel_model.specs.Instances.{app_of, destroy_after, destroy_of, fresh_memory, keeps_alive, program_on}
use Rattle.kernel_model.specs.Kernel.{Instance}
use Rattle.kernel_model.specs.Sessions.{has_opened}
use Rattle.kernel_model.proofs.SoundCourses.{AtPoint, AtRest, Continues, HoldsAfter, HoldsOf, InFunction, JobPlace}
use Rattle.kernel_model.proofs.SoundJoined.{never_both}

-- ---- what is to come

-- no destroy comes, or it is allowed
abbrev MayDestroy : Type 0 → List EntryPoint → Type 0
MayDestroy Allowed points = (points ≡ []) ⊎ (Allowed × (points ≡ Destroy ∷ []))

abbrev Fails : Bool → CallResult → Type 0
Fails opening result = opening ≡ true → result.result ≡ 0 → ⊥

-- at this entry point, with these behind it; of an open's job or not
abbrev IsSparedAt : Type 0 → Bool → EntryPoint → List EntryPoint → CallResult → Type 0
IsSparedAt Allowed opening Create points result = Allowed × ((points ≡ Open ∷ []) ⊎ (points ≡ Open ∷ Destroy ∷ []))
IsSparedAt Allowed opening Open points result = MayDestroy Allowed points
IsSparedAt Allowed opening (Invoke func) points result = points ≡ []
IsSparedAt Allowed opening Close points result = (opening ≡ false) × MayDestroy Allowed points
IsSparedAt Allowed opening Destroy points result = (points ≡ []) × Allowed × Fails opening result

-- a job there, with these entry points to come and this result so far, ends its instance only where it may
abbrev pub Spared : Type 0 → Bool → JobPlace → List EntryPoint → CallResult → Type 0
Spared Allowed opening (AtPoint point) points result = IsSparedAt Allowed opening point points result
Spared Allowed opening InFunction points result = Unit {0}
Spared Allowed opening AtRest points result = has_destroy points ≡ true → Allowed × (opening ≡ false)

-- and has
abbrev pub HasSpared : Type 0 → Bool → End → Type 0
HasSpared Allowed opening end = end.is_last ≡ true → Allowed × Fails opening end.result

no_destroy : {P : Type 0} → false ≡ true → P
no_destroy e = absurd cc

never_zero : {P : Type 0} (r0 : ℕ) → (r0 == 0) ≡ false → r0 ≡ 0 → P
never_zero r0 other zero = never_both (sym ((Decides-eqb r0 0).1 zero) ∙ other)

module _ (Allowed : Type 0) (opening : Bool) where
  -- what comes behind this entry point of a job with these to come
  abbrev Onward : Job → Image → EntryPoint → State → List EntryPoint → Type 0
  Onward job image point machine points = HoldsAfter (Spared Allowed opening) (HasSpared Allowed opening) (on_to_next job image point machine points)

  next_so : (job : Job) (image : Image) (point : EntryPoint) (machine : State) (r0 r1 : ℕ) → IsSparedAt Allowed opening point job.points job.result
      → Onward (job_after_return job point machine.params r0 r1) image point machine (still_to_come point r0 job.points)
  next_so job image Create machine r0 r1 so = by_test (r0 == 0) refl
    where
      onward : (job.points ≡ Open ∷ []) ⊎ (job.points ≡ Open ∷ Destroy ∷ []) → Onward job image Create machine job.points
      onward (inl is) = subst (Onward job image Create machine) (sym is) (inl refl)
      onward (inr is) = subst (Onward job image Create machine) (sym is) (inr (so.0, refl))

      by_test : (test : Bool) → (r0 == 0) ≡ test
          → Onward (if test then job else record job { result = of_application r0 }) image Create machine (if test then job.points else [])
      by_test true is = onward so.1
      by_test false is = λ last. (so.0, λ opens zero. never_zero r0 is zero)
  next_so job image Open machine r0 r1 so = by_test (r0 == 0) refl
    where
      after : Job
      after = job_after_return job Open machine.params r0 r1

      onward : (r0 == 0) ≡ false → MayDestroy Allowed job.points → Onward after image Open machine job.points
      onward fails (inl is) = subst (Onward after image Open machine) (sym is) (λ last. no_destroy last)
      onward fails (inr may) = subst (Onward after image Open machine) (sym may.1) (refl, may.0, λ opens zero. never_zero r0 fails zero)

      by_test : (test : Bool) → (r0 == 0) ≡ test → Onward after image Open machine (if test then [] else job.points)
      by_test true is = λ last. no_destroy last
      by_test false is = onward is so
  next_so job image (Invoke func) machine r0 r1 so =
      subst (Onward (job_after_return job (Invoke func) machine.params r0 r1) image (Invoke func) machine) (sym so) (λ last. no_destroy last)
  next_so job image Close machine r0 r1 so = onward so.1
    where
      onward : MayDestroy Allowed job.points → Onward job image Close machine job.points
      onward (inl is) = subst (Onward job image Close machine) (sym is) (λ last. no_destroy last)
      onward (inr may) = subst (Onward job image Close machine) (sym may.1) (refl, may.0, λ opens zero. never_both (sym opens ∙ so.0))
  next_so job image Destroy machine r0 r1 so = subst (Onward job image Destroy machine) (sym so.0) (λ last. (so.1, so.2))

  pub spared_on : Continues (Spared Allowed opening) (HasSpared Allowed opening)
  spared_on = record {
    returns = next_so;
    answers = λ job answer so last. no_destroy last;
    rests = λ job so last. let may = so last in (may.0, λ opens zero. never_both (sym opens ∙ may.1));
  }

-- where more is allowed
module _ (Allowed Else : Type 0) (opening : Bool) (onward : Allowed → Else) where
  may_onward : (points : List EntryPoint) → MayDestroy Allowed points → MayDestroy Else points
  may_onward points (inl none) = inl none
  may_onward points (inr may) = inr (onward may.0, may.1)

  at_onward : (point : EntryPoint) (points : List EntryPoint) (result : CallResult) → IsSparedAt Allowed opening point points result
      → IsSparedAt Else opening point points result
  at_onward Create points result so = (onward so.0, so.1)
  at_onward Open points result so = may_onward points so
  at_onward (Invoke func) points result so = so
  at_onward Close points result so = (so.0, may_onward points so.1)
  at_onward Destroy points result so = (so.0, onward so.1, so.2)

  pub spared_onward : (place : JobPlace) (points : List EntryPoint) (result : CallResult) → Spared Allowed opening place points result
      → Spared Else opening place points result
  spared_onward (AtPoint point) points result so = at_onward point points result so
  spared_onward InFunction points result so = so
  spared_onward AtRest points result so = λ destroys. let may = so destroys in (onward may.0, may.1)

-- ---- what a call begins with

-- a destroy comes only where no session of the instance is opened
destroy_may : (Allowed : Type 0) (app : Application) (sessions : NumberMap Session) (number : ℕ) → (has_opened sessions number ≡ false → Allowed)
    → MayDestroy Allowed (destroy_after app sessions number)
destroy_may Allowed app sessions number allows = by (has_opened sessions number) (keeps_alive app) refl
  where
    by : (one other : Bool) → has_opened sessions number ≡ one → MayDestroy Allowed (if one || other then [] else Destroy ∷ [])
    by true other is = inl refl
    by false true is = inl refl
    by false false is = inr (allows is, refl)

destroys_may : (Allowed : Type 0) (boot : Booted) (uuid : List ℕ) (sessions : NumberMap Session) (number : ℕ) → (has_opened sessions number ≡ false → Allowed)
    → MayDestroy Allowed (destroy_of boot uuid sessions number)
destroys_may Allowed boot uuid sessions number allows = found (app_of boot uuid)
  where
    found : (o : Option Application) → MayDestroy Allowed (option_map_or (λ app. destroy_after app sessions number) o [])
    found None = inl refl
    found (Some app) = destroy_may Allowed app sessions number allows

-- the job of a call that begins at these entry points ends its instance only where it may
abbrev BeginsSpared : Type 0 → Bool → Option Program → List ℕ → Bool → Job → List EntryPoint → Type 0
BeginsSpared Allowed opening found memory seen idle points =
    HoldsOf (Spared Allowed opening) (begun_job (record { program = found; memory = memory; seen = seen }) idle points)

module _ (Allowed : Type 0) (memory : List ℕ) (owner : Owner) (seen : Bool) (login : Login) (context : ℕ) (objects : NumberMap Handle) (params : CopiedParams) where
  kept_spared : (app : Application) (behind : List EntryPoint) → MayDestroy Allowed behind
      → BeginsSpared Allowed true (Some (program_of app)) memory seen (idle_job owner login context objects params) (Open ∷ behind)
  kept_spared (OfImage app) behind may = may
  kept_spared (BuiltIn its relation) behind may = λ destroys. no_destroy destroys

  made_spared : (app : Application) (behind : List EntryPoint) → Allowed → MayDestroy Allowed behind
      → BeginsSpared Allowed true (Some (program_of app)) memory seen (idle_job owner login context objects params) (Create ∷ Open ∷ behind)
  made_spared (OfImage app) behind allowed (inl none) = (allowed, inl (ap (λ (points : List EntryPoint). Open ∷ points) none))
  made_spared (OfImage app) behind allowed (inr may) = (allowed, inr (ap (λ (points : List EntryPoint). Open ∷ points) may.1))
  made_spared (BuiltIn its relation) behind allowed may = λ destroys. no_destroy destroys

  invoke_spared : (opening : Bool) (found : Option Program) (func : ℕ)
      → BeginsSpared Allowed opening found memory seen (idle_job owner login context objects params) (Invoke func ∷ [])
  invoke_spared opening None func = λ destroys. no_destroy destroys
  invoke_spared opening (Some (program.OfImage image)) func = refl
  invoke_spared opening (Some (program.OfRelation relation)) func = tt

  close_spared : (found : Option Program) (behind : List EntryPoint) → MayDestroy Allowed behind
      → BeginsSpared Allowed false found memory seen (idle_job owner login context objects params) (Close ∷ behind)
  close_spared None behind may = λ destroys. no_destroy destroys
  close_spared (Some (program.OfImage image)) behind may = (refl, may)
  close_spared (Some (program.OfRelation relation)) behind (inl none) = λ destroys. no_destroy (sym (ap has_destroy none) ∙ destroys)
  close_spared (Some (program.OfRelation relation)) behind (inr may) = λ destroys. (may.0, refl)

module _ (Allowed : Type 0) (who : Beginner) where
  pub opens_kept_spared : (brought : Opener) (kept : ℕ × Instance) → (has_opened who.tables.sessions kept.0 ≡ false → Allowed)
      → HoldsOf (Spared Allowed true) (opens_kept who brought kept).job
  opens_kept_spared brought kept allows =
      kept_spared Allowed kept.1.memory (owner_of (uuid_of brought.app) who.boot.key) who.seen brought.login 0 kept.1.objects brought.params brought.app _
      (destroy_may Allowed brought.app who.tables.sessions kept.0 allows)

  pub opens_new_spared : (brought : Opener) (number next : ℕ) → Allowed → HoldsOf (Spared Allowed true) (opens_new who brought number next).job
  opens_new_spared brought number next allowed =
      made_spared Allowed (fresh_memory (pages_in brought.app)) (owner_of (uuid_of brought.app) who.boot.key) who.seen brought.login 0 [] brought.params brought.app _ allowed
      (destroy_may Allowed brought.app who.tables.sessions number (λ none. allowed))

  pub invokes_spared : (opening : Bool) (session : Session) (instance : Instance) (params : CopiedParams) (func : ℕ)
      → HoldsOf (Spared Allowed opening) (begins_on who session instance params (Invoke func ∷ [])).job
  invokes_spared opening session instance params func =
      invoke_spared Allowed instance.memory (owner_of instance.uuid who.boot.key) who.seen session.login session.context instance.objects params opening (program_on who.boot instance) func

  pub closes_spared : (number : ℕ) (session : Session) (instance : Instance) (params : CopiedParams)
      → (has_opened (remove who.tables.sessions number) session.instance ≡ false → Allowed)
      → HoldsOf (Spared Allowed false) (begins_on who session instance params (closing_points who number session instance)).job
  closes_spared number session instance params allows =
      close_spared Allowed instance.memory (owner_of instance.uuid who.boot.key) who.seen session.login session.context instance.objects params (program_on who.boot instance) _
      (destroys_may Allowed who.boot instance.uuid (remove who.tables.sessions number) session.instance allows)
