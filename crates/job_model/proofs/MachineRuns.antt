-- A grant to a job whose machine runs is a run of that machine, and then the rest of the grant.
use Rattle.std.proofs.Common.{◌≡◌, ℕ, zero, suc, ◌+◌, ◌-◌, Bool, true, false, if◌then◌else◌, List, [], ◌∷◌, Option, Some, None, refl, ap, subst, ◌∙◌, arith}
use Rattle.std.specs.Prelude.{◌==◌}
use Rattle.std.specs.Option.{option_map, option_and_then}
use Rattle.base.specs.NumberMap.{NumberMap}
use Rattle.ta_isa.specs.declared.image.Image.{Image}
use Rattle.ta_params.specs.declared.copied_params.CopiedParams.{CopiedParams}
use Rattle.ta_step.specs.Outcome.{Outcome, asking}
use Rattle.ta_step.specs.Outcome as outcome
use Rattle.ta_step.specs.Runs.{Ran, runs, continued}
use Rattle.ta_step.specs.Runs as machine_runs
use Rattle.ta_step.specs.State.{State, is_cancelled}
use Rattle.ta_step.specs.Step.{step}
use Rattle.ta_step.specs.declared.stop.Stop.TheVariants as stop
use Rattle.tee_storage.specs.declared.handle.Handle.{Handle}
use Rattle.job_model.specs.Asking.{PendingRequest, Asking, Needs, Gives, Bad, Ask, ask}
use Rattle.job_model.specs.Job.{Body, Machine, Job, of_application}
use Rattle.job_model.specs.declared.entry_point.EntryPoint.{EntryPoint}
use Rattle.job_model.specs.declared.entry_point.EntryPoint.TheVariants.{Create, Open, Invoke, Close, Destroy}
use Rattle.job_model.specs.Steps.{Advance, Goes, Stops, job_after_return, on_to_next, still_to_come, on_from, with_bytes, advance_on_answers, new_request, advance_by, Grant, Left, Stopped, one_later, later, grant_behind, grant_after, run_for, after_run}

-- ---- what comes of a job doesn't depend on the body that it had

abbrev pub with_body : Job → Body → Job
with_body job body = record job { body = body }

returned_if : (job : Job) (body : Body) (code : ℕ) (test : Bool)
    → (let other = with_body job body in if test then other else record other { result = of_application code })
    ≡ with_body (if test then job else record job { result = of_application code }) body
returned_if job body code true = refl
returned_if job body code false = refl

returned-with_body : (job : Job) (body : Body) (point : EntryPoint) (params : CopiedParams) (r0 r1 : ℕ)
    → job_after_return (with_body job body) point params r0 r1 ≡ with_body (job_after_return job point params r0 r1) body
returned-with_body job body Create params r0 r1 = returned_if job body r0 (r0 == 0)
returned-with_body job body Open params r0 r1 = refl
returned-with_body job body (Invoke func) params r0 r1 = refl
returned-with_body job body Close params r0 r1 = refl
returned-with_body job body Destroy params r0 r1 = refl

followed-with_body : (job : Job) (body : Body) (image : Image) (point : EntryPoint) (machine : State) (points : List EntryPoint)
    → on_to_next (with_body job body) image point machine points ≡ on_to_next job image point machine points
followed-with_body job body image point machine [] = refl
followed-with_body job body image point machine (next ∷ behind) = refl

behind_return : (job : Job) (body : Body) (image : Image) (point : EntryPoint) (machine : State) (r0 r1 : ℕ) (points : List EntryPoint)
    → on_to_next (job_after_return (with_body job body) point machine.params r0 r1) image point machine points
    ≡ on_to_next (job_after_return job point machine.params r0 r1) image point machine points
behind_return job body image point machine r0 r1 points =
    ap (λ (j : Job). on_to_next j image point machine points) (returned-with_body job body point machine.params r0 r1)
    ∙ followed-with_body (job_after_return job point machine.params r0 r1) body image point machine points

on_from-with_body : (job : Job) (body : Body) (image : Image) (point : EntryPoint) (machine : State) (asked : PendingRequest) (objects : NumberMap Handle) (next : Asking)
    → on_from (with_body job body) image point machine asked objects next ≡ on_from job image point machine asked objects next
on_from-with_body job body image point machine asked objects (Needs wanted payload) = refl
on_from-with_body job body image point machine asked objects (Gives r0 r1 r2) = refl
on_from-with_body job body image point machine asked objects (Bad code) = refl

served_by : (job : Job) (body : Body) (image : Image) (point : EntryPoint) (machine : State) (asked : PendingRequest) (o : Option Ask)
    → option_map (λ (c : Ask). on_from (with_body job body) image point (with_bytes machine asked.request c.range) asked c.objects c.next) o
    ≡ option_map (λ (c : Ask). on_from job image point (with_bytes machine asked.request c.range) asked c.objects c.next) o
served_by job body image point machine asked None = refl
served_by job body image point machine asked (Some came) =
    ap Some (on_from-with_body job body image point (with_bytes machine asked.request came.range) asked came.objects came.next)

pub served-with_body : (job : Job) (body : Body) (image : Image) (point : EntryPoint) (machine : State) (asked : PendingRequest)
    → advance_on_answers (with_body job body) image point machine asked ≡ advance_on_answers job image point machine asked
served-with_body job body image point machine asked =
    served_by job body image point machine asked (ask job.owner (is_cancelled machine) asked)

-- ---- grants with steps before them

one_later-later : (used : ℕ) (o : Option Grant) → option_map one_later (option_map (later used) o) ≡ option_map (later (1 + used)) o
one_later-later used None = refl
one_later-later used (Some (Left job)) = refl
one_later-later used (Some (Stopped n why)) =
    let e : suc (used + n) ≡ 1 + used + n = omega arith in
    ap (λ (k : ℕ). Some (Stopped k why)) e

one_later-one : (o : Option Grant) → option_map one_later o ≡ option_map (later 1) o
one_later-one None = refl
one_later-one (Some (Left job)) = refl
one_later-one (Some (Stopped n why)) = let e : suc n ≡ 1 + n = omega arith in ap (λ (k : ℕ). Some (Stopped k why)) e

-- behind one step
behind_one : (n : ℕ) (o : Option Advance) → option_and_then (grant_behind (run_for n)) o ≡ option_and_then (grant_after 1 (suc n - 1)) o
behind_one n None = refl
behind_one n (Some (Goes job)) =
    let e : n ≡ suc n - 1 = omega arith in
    one_later-one (run_for n job) ∙ ap (λ (k : ℕ). option_map (later 1) (run_for k job)) e
behind_one n (Some (Stops why)) = refl

-- behind one step more
behind_more : (used left : ℕ) (o : Option Advance)
    → option_map one_later (option_and_then (grant_after used left) o) ≡ option_and_then (grant_after (1 + used) left) o
behind_more used left None = refl
behind_more used left (Some (Goes job)) = one_later-later used (run_for left job)
behind_more used left (Some (Stops why)) = let e : suc used ≡ 1 + used = omega arith in ap (λ (k : ℕ). Some (Stopped k why)) e

-- ---- the run

-- a grant of so many steps to a job with this machine is this run, and then the rest of the grant
abbrev IsRun : Job → Image → EntryPoint → ℕ → Option Grant → Ran → Type 0
IsRun job image point n grant ran =
    grant ≡ option_and_then (grant_after ran.steps (n - ran.steps)) (after_run job image point ran.state ran.stop)

one_more : (job : Job) (image : Image) (point : EntryPoint) (n : ℕ) (grant : Option Grant) (ran : Ran)
    → IsRun job image point n grant ran → IsRun job image point (suc n) (option_map one_later grant) (machine_runs.later 1 ran)
one_more job image point n grant ran is =
    let came : Option Advance = after_run job image point ran.state ran.stop in
    let e : n - ran.steps ≡ suc n - (1 + ran.steps) = omega arith in
    ap (option_map one_later) is
    ∙ behind_more ran.steps (n - ran.steps) came
    ∙ ap (λ (k : ℕ). option_and_then (grant_after (1 + ran.steps) k) came) e

more_runs : (job : Job) (image : Image) (point : EntryPoint) (n : ℕ) (grant : Option Grant) (o : Option Ran) (ran : Ran)
    → ((r : Ran) → o ≡ Some r → IsRun job image point n grant r) → option_map (machine_runs.later 1) o ≡ Some ran
    → IsRun job image point (suc n) (option_map one_later grant) ran
more_runs job image point n grant None ran is h = absurd cc
more_runs job image point n grant (Some r) ran is h =
    let same : machine_runs.later 1 r ≡ ran = cc in
    subst (λ (other : Ran). IsRun job image point (suc n) (option_map one_later grant) other) same (one_more job image point n grant r (is r refl))

first_step : (job : Job) (image : Image) (point : EntryPoint) (machine : State) (n : ℕ) (o : Option Outcome) (ran : Ran)
    → ((next : State) (r : Ran) → runs image.code n next ≡ Some r → IsRun job image point n (run_for n (with_body job (Machine image point next))) r)
    → option_and_then (continued (runs image.code n) machine) o ≡ Some ran
    → (let before = with_body job (Machine image point machine) in
    IsRun job image point (suc n) (option_and_then (grant_behind (run_for n)) (option_and_then (advance_by before image point machine) o)) ran)
first_step job image point machine n None ran is h = absurd cc
first_step job image point machine n (Some (outcome.Goes next)) ran is h =
    more_runs job image point n (run_for n (with_body job (Machine image point next))) (runs image.code n next) ran (is next) h
first_step job image point machine n (Some (outcome.Returns r0 r1)) ran is h =
    let here : Ran = record { stop = stop.Ended r0 r1; steps = 1; state = machine } in
    let same : here ≡ ran = cc in
    let points : List EntryPoint = still_to_come point r0 job.points in
    let came : Advance = on_to_next (job_after_return job point machine.params r0 r1) image point machine points in
    let before : Job = with_body job (Machine image point machine) in
    let grant : Option Grant = grant_behind (run_for n) (on_to_next (job_after_return before point machine.params r0 r1) image point machine points) in
    subst (λ (other : Ran). IsRun job image point (suc n) grant other) same
    (ap (grant_behind (run_for n)) (behind_return job before.body image point machine r0 r1 points) ∙ behind_one n (Some came))
first_step job image point machine n (Some (outcome.Panics code)) ran is h =
    let here : Ran = record { stop = stop.Panicked code; steps = 1; state = machine } in
    let same : here ≡ ran = cc in
    let came : Option Advance = after_run job image point machine (stop.Panicked code) in
    subst (λ (other : Ran). IsRun job image point (suc n) (option_and_then (grant_behind (run_for n)) came) other) same (behind_one n came)
first_step job image point machine n (Some (outcome.Asks request)) ran is h =
    let next : State = asking request machine in
    let here : Ran = record { stop = stop.Asks request; steps = 1; state = next } in
    let same : here ≡ ran = cc in
    let asked : PendingRequest = new_request job machine request in
    let before : Job = with_body job (Machine image point machine) in
    let grant : Option Grant = option_and_then (grant_behind (run_for n)) (advance_on_answers before image point next asked) in
    subst (λ (other : Ran). IsRun job image point (suc n) grant other) same
    (ap (option_and_then (grant_behind (run_for n))) (served-with_body job before.body image point next asked)
    ∙ behind_one n (advance_on_answers job image point next asked))

pub run_for-machine : (job : Job) (image : Image) (point : EntryPoint) (machine : State) (n : ℕ) (ran : Ran) → runs image.code n machine ≡ Some ran
    → IsRun job image point n (run_for n (with_body job (Machine image point machine))) ran
run_for-machine job image point machine zero ran h =
    let here : Ran = record { stop = stop.Interrupted; steps = 0; state = machine } in
    let same : here ≡ ran = cc in
    subst (λ (other : Ran). IsRun job image point 0 (run_for 0 (with_body job (Machine image point machine))) other) same refl
run_for-machine job image point machine (suc n) ran h =
    first_step job image point machine n (step image.code machine) ran (λ next r. run_for-machine job image point next n r) h
