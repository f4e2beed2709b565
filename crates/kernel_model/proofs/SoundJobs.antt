-- What no step of a job changes: its image, the length of its memory, and that it doesn't end its instance. And each grant
-- of steps to the machine of a valid image comes to something.
use Rattle.std.proofs.Common.{◌≡◌, ℕ, zero, suc, Bool, true, false, List, [], ◌∷◌, ◌++◌, length, Option, Some, None, refl, ap, subst, sym, ◌∙◌}
use Rattle.std.specs.Prelude.{IsSome, if◌then◌else◌, ◌/◌, ◌%◌, ◌==◌, slice_index_or}
use Rattle.std.specs.Option.{option_and_then, option_map, option_or}
use Rattle.std.proofs.lemmas.Option.{option_and_then_some}
use Rattle.base.specs.Bytes.{written}
use Rattle.base.specs.NumberMap.{NumberMap}
use Rattle.base.proofs.Overwriting.{length-written}
use Rattle.job_model.specs.Asking.{Ask, Asking, Bad, Gives, Needs, PendingRequest, ask, comes_to}
use Rattle.job_model.specs.Job.{Body, Job, Machine, Native, Nothing, body_with_cancel_seen, with_cancel_seen}
use Rattle.job_model.specs.Steps.{Advance, End, Goes, Grant, JobStop, Left, Stopped, Stops, advance, advance_by, advance_of, advance_on_answer, advance_on_answer_in, ends_instance, grant_behind, grant_of, has_destroy, job_after_return, native_end, new_request, on_from, on_to_next, one_later, run_for, still_to_come, stop_at_once, with_bytes}
use Rattle.job_model.specs.Steps as steps
use Rattle.job_model.specs.declared.entry_point.EntryPoint.{EntryPoint}
use Rattle.job_model.specs.declared.entry_point.EntryPoint.TheVariants.{Create, Open, Invoke, Close, Destroy}
use Rattle.job_model.specs.Owner.{Owner}
use Rattle.rpc_msgs.specs.Answer.{RpcAnswer}
use Rattle.native_tas.specs.Relation.{answer_of}
use Rattle.ta_isa.specs.Spelling.{IsValid}
use Rattle.ta_isa.specs.declared.image.Image.{Image}
use Rattle.ta_step.proofs.EffectLemmas.{one_outcome}
use Rattle.ta_step.proofs.Kept.{runs-kept}
use Rattle.ta_step.specs.Addresses.{range_at, ranges, store, with_range}
use Rattle.ta_step.specs.Outcome.{Outcome, asking}
use Rattle.ta_step.specs.Outcome as outcome
use Rattle.ta_step.specs.Requests.{span_of}
use Rattle.ta_step.specs.Runs.{Ran, continued, runs}
use Rattle.ta_step.specs.State.{State, is_cancelled}
use Rattle.ta_step.specs.Step.{step}
use Rattle.ta_step.specs.declared.stop.Request.{Request}
use Rattle.ta_step.specs.declared.stop.Request.TheVariants as request
use Rattle.ta_step.specs.declared.stop.Stop.TheVariants as stop
use Rattle.tee_storage.specs.declared.handle.Handle.{Handle}
use Rattle.kernel_model.specs.SoundJobs.{IsRunnable}
use Rattle.kernel_model.specs.SoundMemory.{memory_in}
use Rattle.kernel_model.proofs.Parts.{option_map_some}

-- ---- what stays

-- it ends with no create and no destroy, so that its instance lasts
abbrev pub IsLastingBody : Body → List EntryPoint → Type 0
IsLastingBody (Machine image point machine) points = (ends_instance point ≡ false) × (points ≡ [])
IsLastingBody (Native relation func) points = Unit {0}
IsLastingBody Nothing points = points ≡ []

-- the same image with as much memory, the same relation, or nothing
abbrev pub IsSameBody : Body → Body → Type 0
IsSameBody (Machine image point machine) (Machine other at later) = (other ≡ image) × (length later.memory ≡ length machine.memory)
IsSameBody (Machine image point machine) (Native relation func) = ⊥
IsSameBody (Machine image point machine) Nothing = ⊥
IsSameBody (Native relation func) (Machine image point machine) = ⊥
IsSameBody (Native relation func) (Native other f) = other ≡ relation
IsSameBody (Native relation func) Nothing = ⊥
IsSameBody Nothing (Machine image point machine) = ⊥
IsSameBody Nothing (Native relation func) = ⊥
IsSameBody Nothing Nothing = Unit {0}

-- a later job of the same call
pub record IsOnward (body : Body) (points : List EntryPoint) (later : Job) : Type 0 where
  pub same : IsSameBody body later.body
  pub lasting : IsLastingBody body points → IsLastingBody later.body later.points

pub record IsEndOf (body : Body) (points : List EntryPoint) (end : End) : Type 0 where
  pub memory : length end.memory ≡ memory_in body
  pub lasting : IsLastingBody body points → end.is_last ≡ false

abbrev pub IsStopOf : Body → List EntryPoint → JobStop → Type 0
IsStopOf body points (steps.Ends end) = IsEndOf body points end
IsStopOf body points (steps.Panics code) = Unit {0}
IsStopOf body points (steps.Asks wanted payload left) = IsOnward body points left

abbrev pub IsAdvanceOf : Body → List EntryPoint → Advance → Type 0
IsAdvanceOf body points (Goes next) = IsOnward body points next
IsAdvanceOf body points (Stops why) = IsStopOf body points why

abbrev pub IsGrantOf : Body → List EntryPoint → Grant → Type 0
IsGrantOf body points (Left later) = IsOnward body points later
IsGrantOf body points (Stopped used why) = IsStopOf body points why

same_itself : (body : Body) → IsSameBody body body
same_itself (Machine image point machine) = (refl, refl)
same_itself (Native relation func) = refl
same_itself Nothing = tt

same_both : (first second third : Body) → IsSameBody first second → IsSameBody second third → IsSameBody first third
same_both (Machine image point machine) (Machine other at later) (Machine third there last) one two = (two.0 ∙ one.0, two.1 ∙ one.1)
same_both (Machine image point machine) (Machine other at later) (Native relation func) one two = absurd two
same_both (Machine image point machine) (Machine other at later) Nothing one two = absurd two
same_both (Machine image point machine) (Native relation func) third one two = absurd one
same_both (Machine image point machine) Nothing third one two = absurd one
same_both (Native relation func) (Machine image point machine) third one two = absurd one
same_both (Native relation func) (Native other f) (Machine image point machine) one two = absurd two
same_both (Native relation func) (Native other f) (Native third g) one two = two ∙ one
same_both (Native relation func) (Native other f) Nothing one two = absurd two
same_both (Native relation func) Nothing third one two = absurd one
same_both Nothing (Machine image point machine) third one two = absurd one
same_both Nothing (Native relation func) third one two = absurd one
same_both Nothing Nothing third one two = two

pub same_memory : (first second : Body) → IsSameBody first second → memory_in second ≡ memory_in first
same_memory (Machine image point machine) (Machine other at later) one = one.1
same_memory (Machine image point machine) (Native relation func) one = absurd one
same_memory (Machine image point machine) Nothing one = absurd one
same_memory (Native relation func) (Machine image point machine) one = absurd one
same_memory (Native relation func) (Native other f) one = refl
same_memory (Native relation func) Nothing one = absurd one
same_memory Nothing (Machine image point machine) one = absurd one
same_memory Nothing (Native relation func) one = absurd one
same_memory Nothing Nothing one = refl

pub itself : (job : Job) → IsOnward job.body job.points job
itself job = record { same = same_itself job.body; lasting = λ lasting. lasting }

pub onward_both : (body : Body) (points : List EntryPoint) (next later : Job) → IsOnward body points next → IsOnward next.body next.points later
    → IsOnward body points later
onward_both body points next later one two =
    record { same = same_both body next.body later.body one.same two.same; lasting = λ lasting. two.lasting (one.lasting lasting) }

stop_onward : (body : Body) (points : List EntryPoint) (next : Job) (why : JobStop) → IsOnward body points next → IsStopOf next.body next.points why
    → IsStopOf body points why
stop_onward body points next (steps.Ends end) one two =
    record { memory = two.memory ∙ same_memory body next.body one.same; lasting = λ lasting. two.lasting (one.lasting lasting) }
stop_onward body points next (steps.Panics code) one two = tt
stop_onward body points next (steps.Asks wanted payload left) one two = onward_both body points next left one two

-- ---- one step

step_memory : (image : Image) (machine next : State) → step image.code machine ≡ Some (outcome.Goes next) → length next.memory ≡ length machine.memory
step_memory image machine next e =
    let ran : Ran = record { stop = stop.Interrupted; steps = 1; state = next } in
    let one : runs image.code 1 machine ≡ Some ran =
    ap (λ (o : Option Outcome). option_and_then (continued (runs image.code 0) machine) o) e in
    (runs-kept image.code 1 machine ran one).memory

range_memory : (s : State) (number : ℕ) (bytes : List ℕ) → length bytes ≡ length (slice_index_or (ranges s) number [])
    → length (with_range s number bytes).memory ≡ length s.memory
range_memory s zero bytes e = e
range_memory s (suc zero) bytes e = refl
range_memory s (suc (suc zero)) bytes e = refl
range_memory s (suc (suc (suc zero))) bytes e = refl
range_memory s (suc (suc (suc (suc zero)))) bytes e = refl
range_memory s (suc (suc (suc (suc (suc number))))) bytes e = refl

store_memory : (s : State) (addr : ℕ) (bytes : List ℕ) → length (store s addr bytes).memory ≡ length s.memory
store_memory s addr bytes =
    range_memory s (addr / 0x10000000) (written (range_at s addr) (addr % 0x10000000) bytes) (length-written (range_at s addr) (addr % 0x10000000) bytes)

none_to_come : (point : EntryPoint) (r0 : ℕ) (points : List EntryPoint) → points ≡ [] → still_to_come point r0 points ≡ []
none_to_come point r0 points e = ap (λ (ps : List EntryPoint). still_to_come point r0 ps) e ∙ none point
  where
    nothing : List EntryPoint
    nothing = []

    by_test : (test : Bool) → (if test then nothing else nothing) ≡ nothing
    by_test true = refl
    by_test false = refl

    none : (at : EntryPoint) → still_to_come at r0 nothing ≡ nothing
    none Create = by_test (r0 == 0)
    none Open = by_test (r0 == 0)
    none (Invoke func) = refl
    none Close = refl
    none Destroy = refl

next_onward : (job : Job) (image : Image) (point : EntryPoint) (machine : State) (points still : List EntryPoint)
    → (points ≡ [] → still ≡ []) → IsAdvanceOf (Machine image point machine) points (on_to_next job image point machine still)
next_onward job image point machine points [] none = record { memory = refl; lasting = λ lasting. lasting.0 }
next_onward job image point machine points (next ∷ behind) none = record {
  same = (refl, refl);
  lasting = λ lasting. absurd (some_left (none lasting.1));
}
  where
    some_left : next ∷ behind ≡ [] → ⊥
    some_left e = cc

from_onward : (job : Job) (image : Image) (point : EntryPoint) (machine from : State) (asked : PendingRequest) (objects : NumberMap Handle) (came : Asking)
    → length from.memory ≡ length machine.memory
    → IsAdvanceOf (Machine image point machine) job.points (on_from job image point from asked objects came)
from_onward job image point machine from asked objects (Needs wanted payload) same = record { same = (refl, same); lasting = λ lasting. lasting }
from_onward job image point machine from asked objects (Gives r0 r1 r2) same = record { same = (refl, same); lasting = λ lasting. lasting }
from_onward job image point machine from asked objects (Bad code) same = tt

answers_onward : (job : Job) (image : Image) (point : EntryPoint) (machine from : State) (asked : PendingRequest) (came : Option Ask) (next : Advance)
    → length from.memory ≡ length machine.memory
    → option_map (λ (c : Ask). on_from job image point (with_bytes from asked.request c.range) asked c.objects c.next) came ≡ Some next
    → IsAdvanceOf (Machine image point machine) job.points next
answers_onward job image point machine from asked came next same e =
    let found = option_map_some _ came next e in
    subst (IsAdvanceOf (Machine image point machine) job.points) found.2
    (from_onward job image point machine (with_bytes from asked.request found.0.range) asked found.0.objects found.0.next
    (store_memory from (span_of asked.request).0 found.0.range ∙ same))

outcome_onward : (job : Job) (image : Image) (point : EntryPoint) (machine : State) (came : Outcome) (next : Advance) → step image.code machine ≡ Some came
    → advance_by job image point machine came ≡ Some next → IsAdvanceOf (Machine image point machine) job.points next
outcome_onward job image point machine (outcome.Goes state) next is e =
    let made : Advance = Goes (record job { body = Machine image point state }) in
    let same : made ≡ next = cc in
    subst (IsAdvanceOf (Machine image point machine) job.points) same
    (record { same = (refl, step_memory image machine state is); lasting = λ lasting. lasting })
outcome_onward job image point machine (outcome.Returns r0 r1) next is e =
    let made : Advance = on_to_next (job_after_return job point machine.params r0 r1) image point machine (still_to_come point r0 job.points) in
    let same : made ≡ next = cc in
    subst (IsAdvanceOf (Machine image point machine) job.points) same
    (next_onward (job_after_return job point machine.params r0 r1) image point machine job.points (still_to_come point r0 job.points)
    (none_to_come point r0 job.points))
outcome_onward job image point machine (outcome.Panics code) next is e =
    let made : Advance = Stops (steps.Panics code) in
    let same : made ≡ next = cc in
    subst (IsAdvanceOf (Machine image point machine) job.points) same tt
outcome_onward job image point machine (outcome.Asks wanted) next is e =
    answers_onward job image point machine (asking wanted machine) (new_request job machine wanted)
    (ask job.owner (is_cancelled (asking wanted machine)) (new_request job machine wanted)) next refl e

body_onward : (job : Job) (body : Body) (next : Advance) → advance_of job body ≡ Some next → IsAdvanceOf body job.points next
body_onward job (Machine image point machine) next e =
    option_and_then_some (advance_by job image point machine) (step image.code machine) next e
    (λ (came : Outcome) is onward. outcome_onward job image point machine came next is onward)
body_onward job (Native relation func) next e =
    let made : Advance = Stops (native_end job (answer_of relation func job.params)) in
    let same : made ≡ next = cc in
    subst (IsAdvanceOf (Native relation func) job.points) same (record { memory = refl; lasting = λ lasting. refl })
body_onward job Nothing next e = absurd cc

-- ---- a grant of steps

behind_onward : (n : ℕ) (job : Job) (came : Option Advance) (grant : Grant) → advance job ≡ came
    → ((next : Job) (g : Grant) → run_for n next ≡ Some g → IsGrantOf next.body next.points g)
    → option_and_then (grant_behind (run_for n)) came ≡ Some grant → IsGrantOf job.body job.points grant
behind_onward n job None grant is rest e = absurd cc
behind_onward n job (Some (Stops why)) grant is rest e =
    let made : Grant = Stopped 1 why in
    let same : made ≡ grant = cc in
    subst (IsGrantOf job.body job.points) same (body_onward job job.body (Stops why) is)
behind_onward n job (Some (Goes next)) grant is rest e =
    let found = option_map_some one_later (run_for n next) grant e in
    subst (IsGrantOf job.body job.points) found.2
    (later job next found.0 (body_onward job job.body (Goes next) is) (rest next found.0 found.1))
  where
    later : (job next : Job) (g : Grant) → IsOnward job.body job.points next → IsGrantOf next.body next.points g → IsGrantOf job.body job.points (one_later g)
    later job next (Left last) one two = onward_both job.body job.points next last one two
    later job next (Stopped m why) one two = stop_onward job.body job.points next why one two

run_onward : (n : ℕ) (job : Job) (grant : Grant) → run_for n job ≡ Some grant → IsGrantOf job.body job.points grant
run_onward zero job grant e =
    let made : Grant = Left job in
    let same : made ≡ grant = cc in
    subst (IsGrantOf job.body job.points) same (itself job)
run_onward (suc n) job grant e = behind_onward n job (advance job) grant refl (λ next g. run_onward n next g) e

no_destroy : (points : List EntryPoint) → points ≡ [] → has_destroy points ≡ false
no_destroy points e = ap has_destroy e

at_once : (job : Job) (body : Body) (n : ℕ) (rest : Option Grant) (grant : Grant)
    → option_or (option_map (Stopped 0) (stop_at_once job body)) rest ≡ Some grant
    → ((g : Grant) → rest ≡ Some g → IsGrantOf body job.points g) → IsGrantOf body job.points grant
at_once job (Machine image point machine) n rest grant e onward = onward grant e
at_once job (Native relation func) n rest grant e onward = onward grant e
at_once job Nothing n rest grant e onward =
    let made : Grant = Stopped 0 (steps.Ends (steps.end_of job [] (has_destroy job.points))) in
    let same : made ≡ grant = cc in
    subst (IsGrantOf Nothing job.points) same (record { memory = refl; lasting = no_destroy job.points })

-- a grant leaves a later job of the same call, or comes to one of its stops
pub granted_onward : (n : ℕ) (job : Job) (grant : Grant) → grant_of n job ≡ Some grant → IsGrantOf job.body job.points grant
granted_onward n job grant e = at_once job job.body n (run_for n job) grant e (λ g. run_onward n job g)

-- ---- answers and cancellations

answer_in : (job : Job) (answer : RpcAnswer) (body : Body) (asked : Option PendingRequest) (next : Advance)
    → advance_on_answer_in job answer body asked ≡ Some next → IsAdvanceOf body job.points next
answer_in job answer (Machine image point machine) (Some asked) next e =
    let more : PendingRequest = record asked { answers = asked.answers ++ answer ∷ [] } in
    answers_onward job image point machine machine more (ask job.owner (is_cancelled machine) more) next refl e
answer_in job answer (Machine image point machine) None next e = absurd cc
answer_in job answer (Native relation func) asked next e = absurd cc
answer_in job answer Nothing asked next e = absurd cc

pub answered_onward : (job : Job) (answer : RpcAnswer) (next : Advance) → advance_on_answer answer job ≡ Some next → IsAdvanceOf job.body job.points next
answered_onward job answer next e = answer_in job answer job.body job.asked next e

seen_body : (body : Body) → IsSameBody body (body_with_cancel_seen body)
seen_body (Machine image point machine) = (refl, refl)
seen_body (Native relation func) = refl
seen_body Nothing = tt

seen_lasting : (body : Body) (points : List EntryPoint) → IsLastingBody body points → IsLastingBody (body_with_cancel_seen body) points
seen_lasting (Machine image point machine) points lasting = lasting
seen_lasting (Native relation func) points lasting = lasting
seen_lasting Nothing points lasting = lasting

pub seen_onward : (job : Job) → IsOnward job.body job.points (with_cancel_seen job)
seen_onward job = record { same = seen_body job.body; lasting = seen_lasting job.body job.points }

-- ---- what is runnable runs

pub still_runnable : (first second : Body) → IsSameBody first second → IsRunnable first → IsRunnable second
still_runnable (Machine image point machine) (Machine other at later) one runs = subst IsValid (sym one.0) runs
still_runnable (Machine image point machine) (Native relation func) one runs = tt
still_runnable (Machine image point machine) Nothing one runs = tt
still_runnable (Native relation func) (Machine image point machine) one runs = absurd one
still_runnable (Native relation func) (Native other f) one runs = tt
still_runnable (Native relation func) Nothing one runs = tt
still_runnable Nothing (Machine image point machine) one runs = absurd one
still_runnable Nothing (Native relation func) one runs = tt
still_runnable Nothing Nothing one runs = tt

-- something runs
abbrev HasSome : Body → Type 0
HasSome (Machine image point machine) = Unit {0}
HasSome (Native relation func) = Unit {0}
HasSome Nothing = ⊥

still_some : (first second : Body) → IsSameBody first second → HasSome first → HasSome second
still_some (Machine image point machine) (Machine other at later) one some = tt
still_some (Machine image point machine) (Native relation func) one some = tt
still_some (Machine image point machine) Nothing one some = absurd one
still_some (Native relation func) (Machine image point machine) one some = tt
still_some (Native relation func) (Native other f) one some = tt
still_some (Native relation func) Nothing one some = absurd one
still_some Nothing second one some = absurd some

asks_some : (owner : Owner) (cancelled : Bool) (asked : PendingRequest) (wanted : Request) → asked.answers ≡ [] → IsSome (comes_to owner cancelled asked wanted)
asks_some owner cancelled asked wanted none = subst (λ (given : List RpcAnswer). IsSome (comes_to owner cancelled (record asked { answers = given }) wanted)) (sym none) (fresh wanted)
  where
    fresh : (any : Request) → IsSome (comes_to owner cancelled (record asked { answers = [] }) any)
    fresh request.Time = refl
    fresh (request.Suspend ms) = refl
    fresh (request.Object call) = refl

mapped_some : {A B : Type 0} (f : A → B) (o : Option A) → IsSome o → IsSome (option_map f o)
mapped_some f None some = absurd cc
mapped_some f (Some a) some = refl

outcome_some : (job : Job) (image : Image) (point : EntryPoint) (machine : State) (came : Outcome) → IsSome (advance_by job image point machine came)
outcome_some job image point machine (outcome.Goes next) = refl
outcome_some job image point machine (outcome.Returns r0 r1) = refl
outcome_some job image point machine (outcome.Panics code) = refl
outcome_some job image point machine (outcome.Asks wanted) =
    mapped_some _ _ (asks_some job.owner (is_cancelled (asking wanted machine)) (new_request job machine wanted) wanted refl)

then_some : {A B : Type 0} (f : A → Option B) (o : Option A) → IsSome o → ((a : A) → o ≡ Some a → IsSome (f a)) → IsSome (option_and_then f o)
then_some f None some onward = absurd cc
then_some f (Some a) some onward = onward a refl

advance_some : (job : Job) (body : Body) → HasSome body → IsRunnable body → IsSome (advance_of job body)
advance_some job (Machine image point machine) some runs =
    then_some (advance_by job image point machine) (step image.code machine) (one_outcome image machine runs) (λ came is. outcome_some job image point machine came)
advance_some job (Native relation func) some runs = refl
advance_some job Nothing some runs = absurd some

run_some : (n : ℕ) (job : Job) → HasSome job.body → IsRunnable job.body → IsSome (run_for n job)
run_some zero job some runs = refl
run_some (suc n) job some runs =
    then_some (grant_behind (run_for n)) (advance job) (advance_some job job.body some runs) (λ came is. behind (λ next. run_some n next) came (body_onward job job.body came is))
  where
    behind : ((next : Job) → HasSome next.body → IsRunnable next.body → IsSome (run_for n next)) → (came : Advance) → IsAdvanceOf job.body job.points came → IsSome (grant_behind (run_for n) came)
    behind rest (Goes next) on = mapped_some one_later (run_for n next)
        (rest next (still_some job.body next.body on.same some) (still_runnable job.body next.body on.same runs))
    behind rest (Stops why) on = refl

-- a grant to a runnable job comes to something
pub granted_some : (n : ℕ) (job : Job) → IsRunnable job.body → IsSome (grant_of n job)
granted_some n job runs = by_body job.body (run_some n job) runs
  where
    by_body : (body : Body) → (HasSome body → IsRunnable body → IsSome (run_for n job)) → IsRunnable body
        → IsSome (option_or (option_map (Stopped 0) (stop_at_once job body)) (run_for n job))
    by_body (Machine image point machine) some runs = some tt runs
    by_body (Native relation func) some runs = some tt runs
    by_body Nothing some runs = refl
