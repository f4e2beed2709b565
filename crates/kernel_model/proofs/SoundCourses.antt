-- What holds of a job by where it is: along its steps, behind an answer, and at its end; and of the phases of its call.
use Rattle.std.proofs.Common.{◌≡◌, ℕ, zero, suc, true, false, List, [], ◌∷◌, ◌++◌, Option, Some, None, refl, ap, subst, ◌∙◌}
use Rattle.std.specs.Option.{option_and_then, option_map, option_or}
use Rattle.std.proofs.lemmas.Option.{option_and_then_some}
use Rattle.base.specs.NumberMap.{NumberMap}
use Rattle.job_model.specs.Asking.{Ask, Asking, Bad, Gives, Needs, PendingRequest, ask}
use Rattle.job_model.specs.Job.{Body, Job, Machine, Native, Nothing, body_with_cancel_seen, of_application, with_cancel_seen}
use Rattle.job_model.specs.Steps.{Advance, End, Goes, Grant, JobStop, Left, Stopped, Stops, advance, advance_by, advance_of, advance_on_answer, advance_on_answer_in, end_of, grant_behind, grant_of, has_destroy, job_after_return, new_request, on_from, on_to_next, one_later, run_for, still_to_come, stop_at_once, with_bytes}
use Rattle.job_model.specs.Steps as steps
use Rattle.job_model.specs.declared.entry_point.EntryPoint.{EntryPoint}
use Rattle.native_tas.specs.Relation.{answer_of}
use Rattle.rpc_msgs.specs.Answer.{RpcAnswer}
use Rattle.rpc_msgs.specs.declared.rpc.Rpc.{Rpc}
use Rattle.ta_isa.specs.declared.image.Image.{Image}
use Rattle.ta_params.specs.declared.call_result.CallResult.{CallResult}
use Rattle.ta_params.specs.declared.copied_params.CopiedParams.{CopiedParams}
use Rattle.ta_step.specs.Outcome.{Outcome, asking}
use Rattle.ta_step.specs.Outcome as outcome
use Rattle.ta_step.specs.State.{State, is_cancelled}
use Rattle.ta_step.specs.Step.{step}
use Rattle.tee_storage.specs.declared.handle.Handle.{Handle}
use Rattle.kernel_model.specs.Given.{Buffer, Given, NoBuffer, Nothing as NothingGiven, Reply, call_given}
use Rattle.kernel_model.specs.Kernel.{Asks, CallPhase, Ends, PendingCall, Runs, Waits}
use Rattle.kernel_model.specs.Resume.{phase_after, phase_seen, sees}
use Rattle.kernel_model.specs.SoundCalls.{job_in}
use Rattle.kernel_model.proofs.Parts.{if-both, option_map_some}
use Rattle.kernel_model.proofs.SoundJoined.{some_same}
use Rattle.kernel_model.proofs.SoundNewJoined.{no_job}

-- where a job is
pub data JobPlace : Type 0 where
  AtPoint : EntryPoint → JobPlace
  InFunction : JobPlace
  AtRest : JobPlace

abbrev pub job_place : Body → JobPlace
job_place (Machine image point machine) = AtPoint point
job_place (Native relation func) = InFunction
job_place Nothing = AtRest

-- of a job there, with these entry points to come and this result so far
abbrev pub OfPlace : Type 1
OfPlace = JobPlace → List EntryPoint → CallResult → Type 0

-- it holds of the job
abbrev pub HoldsOf : OfPlace → Job → Type 0
HoldsOf So job = So (job_place job.body) job.points job.result

-- it holds of the job that goes on, or that has asked, and this of its end
abbrev pub HoldsAfter : OfPlace → (End → Type 0) → Advance → Type 0
HoldsAfter So Ended (Goes job) = HoldsOf So job
HoldsAfter So Ended (Stops (steps.Ends end)) = Ended end
HoldsAfter So Ended (Stops (steps.Panics code)) = Unit {0}
HoldsAfter So Ended (Stops (steps.Asks wanted payload left)) = HoldsOf So left

abbrev pub HoldsBy : OfPlace → (End → Type 0) → Grant → Type 0
HoldsBy So Ended (Left job) = HoldsOf So job
HoldsBy So Ended (Stopped used why) = HoldsAfter So Ended (Stops why)

-- it holds behind each return of an entry point, and at each end
pub record Continues (So : OfPlace) (Ended : End → Type 0) : Type 0 where
  pub returns : (job : Job) (image : Image) (point : EntryPoint) (machine : State) (r0 r1 : ℕ) → So (AtPoint point) job.points job.result →
      HoldsAfter So Ended (on_to_next (job_after_return job point machine.params r0 r1) image point machine (still_to_come point r0 job.points))
  pub answers : (job : Job) (answer : ℕ × CopiedParams) → So InFunction job.points job.result →
      Ended (end_of (record job { result = of_application answer.0; params = answer.1 }) [] false)
  pub rests : (job : Job) → So AtRest job.points job.result → Ended (end_of job [] (has_destroy job.points))

module _ (So : OfPlace) (Ended : End → Type 0) (on : Continues So Ended) where
  same_advance : (first second : Advance) → Some first ≡ Some second → HoldsAfter So Ended first → HoldsAfter So Ended second
  same_advance first second e so = subst (HoldsAfter So Ended) (some_same first second e) so

  -- ---- one advance

  from_so : (job : Job) (image : Image) (point : EntryPoint) (machine : State) (asked : PendingRequest) (objects : NumberMap Handle) (came : Asking)
      → So (AtPoint point) job.points job.result → HoldsAfter So Ended (on_from job image point machine asked objects came)
  from_so job image point machine asked objects (Needs wanted payload) so = so
  from_so job image point machine asked objects (Gives r0 r1 r2) so = so
  from_so job image point machine asked objects (Bad code) so = tt

  answers_so : (job : Job) (image : Image) (point : EntryPoint) (machine : State) (asked : PendingRequest) (came : Option Ask) (next : Advance)
      → So (AtPoint point) job.points job.result
      → option_map (λ (c : Ask). on_from job image point (with_bytes machine asked.request c.range) asked c.objects c.next) came ≡ Some next
      → HoldsAfter So Ended next
  answers_so job image point machine asked came next so e =
      let found = option_map_some _ came next e in
      subst (HoldsAfter So Ended) found.2
      (from_so job image point (with_bytes machine asked.request found.0.range) asked found.0.objects found.0.next so)

  outcome_so : (job : Job) (image : Image) (point : EntryPoint) (machine : State) (came : Outcome) (next : Advance)
      → So (AtPoint point) job.points job.result → advance_by job image point machine came ≡ Some next → HoldsAfter So Ended next
  outcome_so job image point machine (outcome.Goes state) next so e = same_advance _ next e so
  outcome_so job image point machine (outcome.Returns r0 r1) next so e = same_advance _ next e (on.returns job image point machine r0 r1 so)
  outcome_so job image point machine (outcome.Panics code) next so e = same_advance (Stops (steps.Panics code)) next e tt
  outcome_so job image point machine (outcome.Asks wanted) next so e =
      answers_so job image point (asking wanted machine) (new_request job machine wanted)
      (ask job.owner (is_cancelled (asking wanted machine)) (new_request job machine wanted)) next so e

  body_so : (job : Job) (body : Body) (next : Advance) → So (job_place body) job.points job.result → advance_of job body ≡ Some next
      → HoldsAfter So Ended next
  body_so job (Machine image point machine) next so e =
      option_and_then_some (advance_by job image point machine) (step image.code machine) next e
      (λ (came : Outcome) is onward. outcome_so job image point machine came next so onward)
  body_so job (Native relation func) next so e = same_advance _ next e (on.answers job (answer_of relation func job.params) so)
  body_so job Nothing next so e = absurd cc

  -- ---- a grant of steps

  behind_so : (n : ℕ) (job : Job) (came : Option Advance) (grant : Grant) → HoldsOf So job → advance job ≡ came
      → ((next : Job) (g : Grant) → HoldsOf So next → run_for n next ≡ Some g → HoldsBy So Ended g)
      → option_and_then (grant_behind (run_for n)) came ≡ Some grant → HoldsBy So Ended grant
  behind_so n job None grant so is rest e = absurd cc
  behind_so n job (Some (Stops why)) grant so is rest e =
      subst (HoldsBy So Ended) (some_same (Stopped 1 why) grant e) (body_so job job.body (Stops why) so is)
  behind_so n job (Some (Goes next)) grant so is rest e =
      let found = option_map_some one_later (run_for n next) grant e in
      subst (HoldsBy So Ended) found.2 (later found.0 (rest next found.0 (body_so job job.body (Goes next) so is) found.1))
    where
      later : (g : Grant) → HoldsBy So Ended g → HoldsBy So Ended (one_later g)
      later (Left last) it = it
      later (Stopped m why) it = it

  run_so : (n : ℕ) (job : Job) (grant : Grant) → HoldsOf So job → run_for n job ≡ Some grant → HoldsBy So Ended grant
  run_so zero job grant so e = subst (HoldsBy So Ended) (some_same (Left job) grant e) so
  run_so (suc n) job grant so e = behind_so n job (advance job) grant so refl (λ next g. run_so n next g) e

  at_once : (job : Job) (body : Body) (rest : Option Grant) (grant : Grant) → So (job_place body) job.points job.result
      → option_or (option_map (Stopped 0) (stop_at_once job body)) rest ≡ Some grant
      → ((g : Grant) → rest ≡ Some g → HoldsBy So Ended g) → HoldsBy So Ended grant
  at_once job (Machine image point machine) rest grant so e onward = onward grant e
  at_once job (Native relation func) rest grant so e onward = onward grant e
  at_once job Nothing rest grant so e onward =
      subst (HoldsBy So Ended) (some_same (Stopped 0 (steps.Ends (end_of job [] (has_destroy job.points)))) grant e) (on.rests job so)

  pub granted_on : (n : ℕ) (job : Job) (grant : Grant) → HoldsOf So job → grant_of n job ≡ Some grant → HoldsBy So Ended grant
  granted_on n job grant so e = at_once job job.body (run_for n job) grant so e (λ g. run_so n job g so)

  -- ---- answers

  answer_in : (job : Job) (answer : RpcAnswer) (body : Body) (asked : Option PendingRequest) (next : Advance)
      → So (job_place body) job.points job.result → advance_on_answer_in job answer body asked ≡ Some next → HoldsAfter So Ended next
  answer_in job answer (Machine image point machine) (Some asked) next so e =
      let more : PendingRequest = record asked { answers = asked.answers ++ answer ∷ [] } in
      answers_so job image point machine more (ask job.owner (is_cancelled machine) more) next so e
  answer_in job answer (Machine image point machine) None next so e = absurd cc
  answer_in job answer (Native relation func) asked next so e = absurd cc
  answer_in job answer Nothing asked next so e = absurd cc

  pub answered_on : (job : Job) (answer : RpcAnswer) (next : Advance) → HoldsOf So job → advance_on_answer answer job ≡ Some next
      → HoldsAfter So Ended next
  answered_on job answer next so e = answer_in job answer job.body job.asked next so e

-- ---- cancellations

seen_place : (body : Body) → job_place body ≡ job_place (body_with_cancel_seen body)
seen_place (Machine image point machine) = refl
seen_place (Native relation func) = refl
seen_place Nothing = refl

pub seen_on : (So : OfPlace) (job : Job) → HoldsOf So job → HoldsOf So (with_cancel_seen job)
seen_on So job so = subst (λ (at : JobPlace). So at job.points job.result) (seen_place job.body) so

-- ---- phases of a call

-- where a later phase has a job, the earlier one had one, and what held of that holds of this
abbrev pub KeepsCourse : OfPlace → CallPhase → CallPhase → Type 0
KeepsCourse So phase next =
    (job : Job) → job_in next ≡ Some job → (was : Job) × (job_in phase ≡ Some was) × (HoldsOf So was → HoldsOf So job)

module _ (So : OfPlace) where
  pub course_same : (phase next : CallPhase) → phase ≡ next → KeepsCourse So phase next
  course_same phase next e job works = (job, ap job_in e ∙ works, λ so. so)

  pub course_both : (first second third : CallPhase) → KeepsCourse So first second → KeepsCourse So second third → KeepsCourse So first third
  course_both first second third one two job works =
      let mid = two job works in
      let was = one mid.0 mid.1 in
      (was.0, was.1, λ so. mid.2 (was.2 so))

  -- a job in place of another
  course_of : (phase : CallPhase) (was later job : Job) → job_in phase ≡ Some was → later ≡ job → (HoldsOf So was → HoldsOf So later)
      → (before_it : Job) × (job_in phase ≡ Some before_it) × (HoldsOf So before_it → HoldsOf So job)
  course_of phase was later job is same onward = (was, is, λ so. subst (HoldsOf So) same (onward so))

  seen_course : (phase : CallPhase) → KeepsCourse So phase (phase_seen phase)
  seen_course (Runs job) next works =
      course_of (Runs job) job (with_cancel_seen job) next refl (some_same (with_cancel_seen job) next works) (λ so. seen_on So job so)
  seen_course (Asks job wanted payload) next works =
      course_of (Asks job wanted payload) job (with_cancel_seen job) next refl (some_same (with_cancel_seen job) next works) (λ so. seen_on So job so)
  seen_course (Waits params) next works = no_job next works
  seen_course (Ends result params told wakes) next works = no_job next works

  sees_course : (call : PendingCall) → KeepsCourse So call.phase (sees call).phase
  sees_course call =
      if-both (λ (c : PendingCall). KeepsCourse So call.phase c.phase) call.marked (record call { seen = true; phase = phase_seen call.phase }) call
      (seen_course call.phase) (course_same call.phase call.phase refl)

  given_course : (given : Given) (call : PendingCall) → KeepsCourse So call.phase (call_given given call).phase
  given_course NothingGiven call = course_same call.phase call.phase refl
  given_course (Buffer buffer) call = course_same call.phase call.phase refl
  given_course NoBuffer call = course_same call.phase call.phase refl
  given_course (Reply reply) call = course_same call.phase call.phase refl

  pub resumed_course : (given : Given) (call : PendingCall) → KeepsCourse So call.phase (call_given given (sees call)).phase
  resumed_course given call = course_both call.phase (sees call).phase _ (sees_course call) (given_course given (sees call))

  module _ (Ended : End → Type 0) (on : Continues So Ended) where
    pub left_course : (granted : ℕ) (job later : Job) → grant_of granted job ≡ Some (Left later) → KeepsCourse So (Runs job) (Runs later)
    left_course granted job later grant next works =
        course_of (Runs job) job later next refl (some_same later next works) (λ so. granted_on So Ended on granted job (Left later) so grant)

    pub asked_course : (granted used : ℕ) (job later : Job) (wanted : Rpc) (payload : List ℕ)
        → grant_of granted job ≡ Some (Stopped used (steps.Asks wanted payload later)) → KeepsCourse So (Runs job) (Asks later wanted payload)
    asked_course granted used job later wanted payload grant next works =
        course_of (Runs job) job later next refl (some_same later next works)
        (λ so. granted_on So Ended on granted job (Stopped used (steps.Asks wanted payload later)) so grant)

    pub answered_course : (job : Job) (wanted : Rpc) (payload : List ℕ) (answer : RpcAnswer) (advance : Advance) → advance_on_answer answer job ≡ Some advance
        → KeepsCourse So (Asks job wanted payload) (phase_after (Asks job wanted payload) advance)
    answered_course job wanted payload answer (Goes later) e next works =
        course_of (Asks job wanted payload) job later next refl (some_same later next works) (λ so. answered_on So Ended on job answer (Goes later) so e)
    answered_course job wanted payload answer (Stops (steps.Asks other bytes later)) e next works =
        course_of (Asks job wanted payload) job later next refl (some_same later next works)
        (λ so. answered_on So Ended on job answer (Stops (steps.Asks other bytes later)) so e)
    answered_course job wanted payload answer (Stops (steps.Ends end)) e next works = (next, works, λ so. so)
    answered_course job wanted payload answer (Stops (steps.Panics code)) e next works = (next, works, λ so. so)
