-- Steps of a job one after another, and its one stop.
use Rattle.std.proofs.Common.{◌≡◌, ℕ, zero, suc, ◌+◌, ◌≤◌, Option, Some, None, refl, ap, sym, subst, ◌∙◌, zero-add, arith}
use Rattle.std.specs.Option.{option_map, option_or, option_and_then}
use Rattle.ta_isa.specs.declared.image.Image.{Image}
use Rattle.ta_step.specs.Outcome.{Outcome}
use Rattle.ta_step.specs.Outcome as outcome
use Rattle.base.specs.NumberMap.{NumberMap}
use Rattle.ta_step.specs.Outcome.{asking}
use Rattle.ta_step.specs.State.{State, is_cancelled}
use Rattle.ta_step.specs.SystemCalls.{answered}
use Rattle.tee_storage.specs.declared.handle.Handle.{Handle}
use Rattle.job_model.specs.Asking.{PendingRequest, Asking, Needs, Gives, Bad, Ask, ask}
use Rattle.ta_step.specs.Step.{step}
use Rattle.job_model.specs.declared.entry_point.EntryPoint.{EntryPoint}
use Rattle.job_model.specs.Job.{Body, Machine, Native, Nothing, Job, image_job_at}
use Rattle.job_model.specs.Steps.{with_machine, on_from, with_bytes, new_request, JobStop, Advance, Goes, Stops, job_after_return, still_to_come, on_to_next, advance_by, advance_of, advance, where_it_goes, after, stop_at_once, stop_behind, stop_at, After, Stop, Grant, Left, Stopped, one_later, grant_behind, run_for, grant_of, IsGrant}
use Rattle.std.specs.Prelude.{List, [], ◌∷◌}

after_advance : (m n : ℕ) (o : Option Advance) → ((job : Job) → after (m + n) job ≡ option_and_then (after n) (after m job))
    → option_and_then (where_it_goes (after (m + n))) o ≡ option_and_then (after n) (option_and_then (where_it_goes (after m)) o)
after_advance m n None adds = refl
after_advance m n (Some (Goes job)) adds = adds job
after_advance m n (Some (Stops why)) adds = refl

pub after-sum : (job : Job) (m n : ℕ) → after (m + n) job ≡ option_and_then (after n) (after m job)
after-sum job zero n = ap (λ (k : ℕ). after k job) (zero-add n)
after-sum job (suc m) n =
    let e : suc m + n ≡ suc (m + n) = omega arith in
    ap (λ (k : ℕ). after k job) e ∙ after_advance m n (advance job) (λ next. after-sum next m n)

stop_advance : (m n : ℕ) (left : Job) (o : Option Advance) → ((job : Job) → After job m left → stop_at (m + n) job ≡ stop_at n left)
    → option_and_then (where_it_goes (after m)) o ≡ Some left → option_and_then (stop_behind (stop_at (m + n)) (m + n)) o ≡ stop_at n left
stop_advance m n left None adds h = absurd cc
stop_advance m n left (Some (Goes job)) adds h = adds job h
stop_advance m n left (Some (Stops why)) adds h = absurd cc

pub stop_at-sum : (job left : Job) (m n : ℕ) → After job m left → stop_at (m + n) job ≡ stop_at n left
stop_at-sum job left zero n h =
    let same : job ≡ left = cc in
    ap (λ (k : ℕ). stop_at k job) (zero-add n) ∙ ap (λ (j : Job). stop_at n j) same
stop_at-sum job left (suc m) n h =
    let e : suc m + n ≡ suc (m + n) = omega arith in
    ap (λ (k : ℕ). stop_at k job) e ∙ stop_advance m n left (advance job) (λ next. stop_at-sum next left m n) h

-- a job that has ended at once has no step
at_once : (job : Job) (body : Body) (rest : Advance → Option JobStop) (first second : JobStop)
    → stop_at_once job body ≡ Some first → option_and_then rest (advance_of job body) ≡ Some second → ⊥
at_once job (Machine image point machine) rest first second e f = cc
at_once job (Native relation func) rest first second e f = cc
at_once job Nothing rest first second e f = cc

stops_at_one : (m n : ℕ) (why first second : JobStop) (rest other : Job → Option JobStop)
    → stop_behind rest m (Stops why) ≡ Some first → stop_behind other n (Stops why) ≡ Some second → (suc m ≡ suc n) × (first ≡ second)
stops_at_one zero zero why first second rest other e f = (refl, cc)
stops_at_one zero (suc n) why first second rest other e f = absurd cc
stops_at_one (suc m) n why first second rest other e f = absurd cc

later_stops : (m n : ℕ) (o : Option Advance) (first second : JobStop)
    → ((job : Job) → Stop job m first → Stop job n second → (m ≡ n) × (first ≡ second))
    → option_and_then (stop_behind (stop_at m) m) o ≡ Some first → option_and_then (stop_behind (stop_at n) n) o ≡ Some second
    → (suc m ≡ suc n) × (first ≡ second)
later_stops m n None first second same e f = absurd cc
later_stops m n (Some (Goes job)) first second same e f = let h = same job e f in (ap suc h.0, h.1)
later_stops m n (Some (Stops why)) first second same e f = stops_at_one m n why first second (stop_at m) (stop_at n) e f

pub one_stop : (job : Job) (m n : ℕ) (first second : JobStop) → Stop job m first → Stop job n second → (m ≡ n) × (first ≡ second)
one_stop job zero zero first second e f = (refl, cc)
one_stop job zero (suc n) first second e f = absurd (at_once job job.body (stop_behind (stop_at n) n) first second e f)
one_stop job (suc m) zero first second e f = absurd (at_once job job.body (stop_behind (stop_at m) m) second first f e)
one_stop job (suc m) (suc n) first second e f = later_stops m n (advance job) first second (λ next. one_stop next m n first second) e f

-- ---- grants

followed_runs : (job next : Job) (image : Image) (point : EntryPoint) (machine : State) (points : List EntryPoint)
    → on_to_next job image point machine points ≡ Goes next → stop_at 0 next ≡ None
followed_runs job next image point machine [] e = absurd cc
followed_runs job next image point machine (first ∷ behind) e =
    let mid : Job = image_job_at image machine.memory machine.cancelled job first behind in
    let same : mid ≡ next = cc in
    ap (λ (j : Job). stop_at 0 j) (sym same)

on_from_runs : (job next : Job) (image : Image) (point : EntryPoint) (machine : State) (asked : PendingRequest) (objects : NumberMap Handle) (came : Asking)
    → on_from job image point machine asked objects came ≡ Goes next → stop_at 0 next ≡ None
on_from_runs job next image point machine asked objects (Needs wanted payload) e = absurd cc
on_from_runs job next image point machine asked objects (Gives r0 r1 r2) e =
    let mid : Job = with_machine job image point (answered asked.request r0 r1 r2 machine) objects None in
    let same : mid ≡ next = cc in
    ap (λ (j : Job). stop_at 0 j) (sym same)
on_from_runs job next image point machine asked objects (Bad code) e = absurd cc

served_runs : (job next : Job) (image : Image) (point : EntryPoint) (machine : State) (asked : PendingRequest) (came : Option Ask)
    → option_map (λ (c : Ask). on_from job image point (with_bytes machine asked.request c.range) asked c.objects c.next) came ≡ Some (Goes next)
    → stop_at 0 next ≡ None
served_runs job next image point machine asked None e = absurd cc
served_runs job next image point machine asked (Some came) e =
    on_from_runs job next image point (with_bytes machine asked.request came.range) asked came.objects came.next cc

advanced_runs : (job next : Job) (image : Image) (point : EntryPoint) (machine : State) (o : Option Outcome)
    → option_and_then (advance_by job image point machine) o ≡ Some (Goes next) → stop_at 0 next ≡ None
advanced_runs job next image point machine None e = absurd cc
advanced_runs job next image point machine (Some (outcome.Goes state)) e =
    let mid : Job = record job { body = Machine image point state } in
    let same : mid ≡ next = cc in
    ap (λ (j : Job). stop_at 0 j) (sym same)
advanced_runs job next image point machine (Some (outcome.Returns r0 r1)) e =
    followed_runs (job_after_return job point machine.params r0 r1) next image point machine (still_to_come point r0 job.points) cc
advanced_runs job next image point machine (Some (outcome.Panics code)) e = absurd cc
advanced_runs job next image point machine (Some (outcome.Asks request)) e =
    let asked : PendingRequest = new_request job machine request in
    served_runs job next image point (asking request machine) asked (ask job.owner (is_cancelled (asking request machine)) asked) e

-- a job that goes on has something to run
advance_runs : (job next : Job) (body : Body) → advance_of job body ≡ Some (Goes next) → stop_at 0 next ≡ None
advance_runs job next (Machine image point machine) e = advanced_runs job next image point machine (step image.code machine) e
advance_runs job next (Native relation func) e = absurd cc
advance_runs job next Nothing e = absurd cc

no_later : (n m : ℕ) (job : Job) (o : Option Advance) → stop_at 0 job ≡ None
    → ((k : ℕ) → k ≤ n → option_and_then (stop_behind (stop_at k) k) o ≡ None) → advance job ≡ o
    → m ≤ suc n → stop_at m job ≡ None
no_later n zero job o first rest e le = first
no_later n (suc m) job o first rest e le = ap (λ (a : Option Advance). option_and_then (stop_behind (stop_at m) m) a) e ∙ rest m (omega arith)

-- one step, and then a grant
later_grant : (n : ℕ) (job next : Job) (grant : Grant) → stop_at 0 job ≡ None → advance job ≡ Some (Goes next)
    → IsGrant next n grant → IsGrant job (suc n) (one_later grant)
later_grant n job next (Left left) first e h = (
  ap (λ (a : Option Advance). option_and_then (where_it_goes (after n)) a) e ∙ h.0,
  λ m le. no_later n m job (Some (Goes next)) first (λ k lek. h.1 k lek) e le,
)
later_grant n job next (Stopped m why) first e h =
    (omega arith, ap (λ (a : Option Advance). option_and_then (stop_behind (stop_at m) m) a) e ∙ h.1)

some_grant : (n : ℕ) (job next : Job) (o : Option Grant) (grant : Grant) → stop_at 0 job ≡ None → advance job ≡ Some (Goes next)
    → ((g : Grant) → o ≡ Some g → IsGrant next n g) → option_map one_later o ≡ Some grant → IsGrant job (suc n) grant
some_grant n job next None grant first e is h = absurd cc
some_grant n job next (Some g) grant first e is h =
    let same : one_later g ≡ grant = cc in
    subst (λ (other : Grant). IsGrant job (suc n) other) same (later_grant n job next g first e (is g refl))

granted_advance : (n : ℕ) (job : Job) (o : Option Advance) (grant : Grant) → stop_at 0 job ≡ None → advance job ≡ o
    → ((next : Job) (g : Grant) → stop_at 0 next ≡ None → run_for n next ≡ Some g → IsGrant next n g)
    → option_and_then (grant_behind (run_for n)) o ≡ Some grant → IsGrant job (suc n) grant
granted_advance n job None grant first e is h = absurd cc
granted_advance n job (Some (Goes next)) grant first e is h =
    some_grant n job next (run_for n next) grant first e (λ g. is next g (advance_runs job next job.body e)) h
granted_advance n job (Some (Stops why)) grant first e is h =
    let here : Grant = Stopped 1 why in
    let same : here ≡ grant = cc in
    let stops : Stop job 1 why = ap (λ (a : Option Advance). option_and_then (stop_behind (stop_at 0) 0) a) e in
    subst (λ (other : Grant). IsGrant job (suc n) other) same (omega arith, stops)

none_at_zero : (job : Job) (m : ℕ) → stop_at 0 job ≡ None → m ≤ 0 → stop_at m job ≡ None
none_at_zero job zero first le = first
none_at_zero job (suc m) first le = absurd (omega arith)

run_for-IsGrant : (n : ℕ) (job : Job) (grant : Grant) → stop_at 0 job ≡ None → run_for n job ≡ Some grant → IsGrant job n grant
run_for-IsGrant zero job grant first h =
    let here : Grant = Left job in
    let same : here ≡ grant = cc in
    subst (λ (other : Grant). IsGrant job 0 other) same (refl, λ m le. none_at_zero job m first le)
run_for-IsGrant (suc n) job grant first h =
    granted_advance n job (advance job) grant first refl (λ next g. run_for-IsGrant n next g) h

granted_at_once : (n : ℕ) (job : Job) (o : Option JobStop) (grant : Grant) → stop_at 0 job ≡ o
    → option_or (option_map (Stopped 0) o) (run_for n job) ≡ Some grant → IsGrant job n grant
granted_at_once n job None grant first h = run_for-IsGrant n job grant first h
granted_at_once n job (Some why) grant first h =
    let here : Grant = Stopped 0 why in
    let same : here ≡ grant = cc in
    subst (λ (other : Grant). IsGrant job n other) same (omega arith, first)

pub granted-IsGrant : (job : Job) (n : ℕ) (grant : Grant) → grant_of n job ≡ Some grant → IsGrant job n grant
granted-IsGrant job n grant h = granted_at_once n job (stop_at 0 job) grant refl h

-- ---- a stop within a grant

stopped_advance : (n m : ℕ) (o : Option Advance) (why : JobStop) → ((next : Job) → o ≡ Some (Goes next) → stop_at 0 next ≡ None)
    → ((next : Job) (k : ℕ) → suc k ≤ n → Stop next (suc k) why → run_for n next ≡ Some (Stopped (suc k) why))
    → suc m ≤ suc n → option_and_then (stop_behind (stop_at m) m) o ≡ Some why
    → option_and_then (grant_behind (run_for n)) o ≡ Some (Stopped (suc m) why)
stopped_advance n m None why runs rest le e = absurd cc
stopped_advance n zero (Some (Stops first)) why runs rest le e = let same : first ≡ why = cc in ap (λ w. Some (Stopped 1 w)) same
stopped_advance n (suc m) (Some (Stops first)) why runs rest le e = absurd cc
stopped_advance n zero (Some (Goes next)) why runs rest le e = let none = runs next refl in absurd cc
stopped_advance n (suc m) (Some (Goes next)) why runs rest le e = ap (λ o. option_map one_later o) (rest next m (omega arith) e)

run_for-stop : (n m : ℕ) (job : Job) (why : JobStop) → suc m ≤ n → Stop job (suc m) why → run_for n job ≡ Some (Stopped (suc m) why)
run_for-stop zero m job why le e = absurd (omega arith)
run_for-stop (suc n) m job why le e =
    stopped_advance n m (advance job) why (λ next goes. advance_runs job next job.body goes)
    (λ next k lek stops. run_for-stop n k next why lek stops) le e

granted_later : (n m : ℕ) (job : Job) (o : Option JobStop) (why : JobStop) → stop_at_once job job.body ≡ o → suc m ≤ n → Stop job (suc m) why
    → option_or (option_map (Stopped 0) o) (run_for n job) ≡ Some (Stopped (suc m) why)
granted_later n m job None why none le e = run_for-stop n m job why le e
granted_later n m job (Some first) why once le e = absurd (at_once job job.body (stop_behind (stop_at m) m) first why once e)

-- a grant that reaches the stop comes to it
pub stop-granted : (job : Job) (n m : ℕ) (why : JobStop) → m ≤ n → Stop job m why → grant_of n job ≡ Some (Stopped m why)
stop-granted job n zero why le e = ap (λ (o : Option JobStop). option_or (option_map (Stopped 0) o) (run_for n job)) e
stop-granted job n (suc m) why le e = granted_later n m job (stop_at_once job job.body) why refl le e
