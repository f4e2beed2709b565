-- No step and no answer changes the cancellation flag of a job.
use Rattle.std.proofs.Common.{◌≡◌, ℕ, zero, suc, true, List, [], ◌∷◌, ◌++◌, Option, Some, None, refl, ap, sym, subst, ◌∙◌}
use Rattle.std.specs.Option.{option_map, option_and_then}
use Rattle.std.proofs.lemmas.Option.{option_and_then_some}
use Rattle.base.specs.NumberMap.{NumberMap}
use Rattle.rpc_msgs.specs.Answer.{RpcAnswer}
use Rattle.ta_isa.specs.declared.image.Image.{Image}
use Rattle.ta_isa.specs.declared.image.Instr.{Instr}
use Rattle.ta_step.specs.Addresses.{with_range}
use Rattle.ta_step.specs.Outcome.{Outcome, asking}
use Rattle.ta_step.specs.Outcome as outcome
use Rattle.ta_step.specs.Runs.{Ran, continued, later, runs}
use Rattle.ta_step.specs.State.{State, is_cancelled}
use Rattle.ta_step.specs.Step.{step}
use Rattle.ta_step.specs.declared.stop.Stop.TheVariants as stop
use Rattle.ta_step.proofs.Kept.{runs-kept}
use Rattle.tee_storage.specs.declared.handle.Handle.{Handle}
use Rattle.job_model.specs.Asking.{PendingRequest, Asking, Needs, Gives, Bad, Ask, ask}
use Rattle.job_model.specs.Flag.{CancelStaysSeen, HasSeenCancel}
use Rattle.job_model.specs.Job.{Body, Machine, Native, Nothing, Job, body_with_cancel_seen}
use Rattle.job_model.specs.declared.entry_point.EntryPoint.{EntryPoint}
use Rattle.job_model.specs.Steps.{JobStop, Ends, Panics, Asks, Advance, Goes, Stops, on_from, with_bytes, new_request, advance_on_answers, advance_on_answer_in, job_after_return, on_to_next, still_to_come, advance_by, advance_of, advance, where_it_goes, after, stop_at_once, stop_behind, stop_at}

-- ---- the flag

-- the flag of a machine that runs is set
abbrev FlagIn : Body → Type 0
FlagIn (Machine image point machine) = machine.cancelled ≡ true
FlagIn (Native relation func) = Unit {0}
FlagIn Nothing = Unit {0}

-- and of the job that an advance leaves, if it leaves one
abbrev FlagAfter : Advance → Type 0
FlagAfter (Goes job) = FlagIn job.body
FlagAfter (Stops (Asks wanted payload left)) = FlagIn left.body
FlagAfter (Stops (Ends end)) = Unit {0}
FlagAfter (Stops (Panics code)) = Unit {0}

flag_of : (body : Body) → body_with_cancel_seen body ≡ body → FlagIn body
flag_of (Machine image point machine) e =
    let told : State = record machine { cancelled = true } in
    let same : told ≡ machine = cc in
    sym (ap (λ (m : State). m.cancelled) same)
flag_of (Native relation func) e = tt
flag_of Nothing e = tt

seen_by : (body : Body) → FlagIn body → body_with_cancel_seen body ≡ body
seen_by (Machine image point machine) flag = ap (λ c. Machine image point (record machine { cancelled = c })) (sym flag)
seen_by (Native relation func) flag = refl
seen_by Nothing flag = refl

has_flag : (job : Job) → HasSeenCancel job → FlagIn job.body
has_flag job seen = flag_of job.body (ap (λ (j : Job). j.body) seen)

has_seen : (job : Job) → FlagIn job.body → HasSeenCancel job
has_seen job flag = ap (λ (b : Body). record job { body = b }) (seen_by job.body flag)

twice : (body : Body) → body_with_cancel_seen (body_with_cancel_seen body) ≡ body_with_cancel_seen body
twice (Machine image point machine) = refl
twice (Native relation func) = refl
twice Nothing = refl

-- ---- one advance

-- a step of the machine keeps its flag
step_flag : (code : List Instr) (machine next : State) → step code machine ≡ Some (outcome.Goes next) → next.cancelled ≡ machine.cancelled
step_flag code machine next e =
    let last : Ran = record { stop = stop.Interrupted; steps = 0; state = next } in
    let ran : runs code 1 machine ≡ Some (later 1 last) = ap (λ (o : Option Outcome). option_and_then (continued (runs code 0) machine) o) e in
    (runs-kept code 1 machine (later 1 last) ran).cancelled

range_flag : (machine : State) (number : ℕ) (bytes : List ℕ) → (with_range machine number bytes).cancelled ≡ machine.cancelled
range_flag machine zero bytes = refl
range_flag machine (suc number) bytes = refl

on_from_flag : (job : Job) (image : Image) (point : EntryPoint) (machine : State) (asked : PendingRequest) (objects : NumberMap Handle) (came : Asking)
    → machine.cancelled ≡ true → FlagAfter (on_from job image point machine asked objects came)
on_from_flag job image point machine asked objects (Needs wanted payload) flag = flag
on_from_flag job image point machine asked objects (Gives r0 r1 r2) flag = flag
on_from_flag job image point machine asked objects (Bad code) flag = tt

same_advance : (first second : Advance) → Some first ≡ Some second → FlagAfter first → FlagAfter second
same_advance first second e flag = let same : first ≡ second = cc in subst FlagAfter same flag

came_flag : (job : Job) (image : Image) (point : EntryPoint) (machine : State) (asked : PendingRequest) (o : Option Ask) (next : Advance)
    → option_map (λ (came : Ask). on_from job image point (with_bytes machine asked.request came.range) asked came.objects came.next) o ≡ Some next
    → machine.cancelled ≡ true → FlagAfter next
came_flag job image point machine asked None next e flag = absurd cc
came_flag job image point machine asked (Some came) next e flag =
    same_advance _ next e
    (on_from_flag job image point (with_bytes machine asked.request came.range) asked came.objects came.next (range_flag machine _ _ ∙ flag))

answers_flag : (job : Job) (image : Image) (point : EntryPoint) (machine : State) (asked : PendingRequest) (next : Advance)
    → advance_on_answers job image point machine asked ≡ Some next → machine.cancelled ≡ true → FlagAfter next
answers_flag job image point machine asked next e flag =
    came_flag job image point machine asked (ask job.owner (is_cancelled machine) asked) next e flag

next_flag : (job : Job) (image : Image) (point : EntryPoint) (machine : State) (points : List EntryPoint) → machine.cancelled ≡ true
    → FlagAfter (on_to_next job image point machine points)
next_flag job image point machine [] flag = tt
next_flag job image point machine (first ∷ behind) flag = flag

outcome_flag : (job : Job) (image : Image) (point : EntryPoint) (machine : State) (came : Outcome) (next : Advance)
    → advance_by job image point machine came ≡ Some next → step image.code machine ≡ Some came → machine.cancelled ≡ true → FlagAfter next
outcome_flag job image point machine (outcome.Goes on) next e stepped flag =
    same_advance _ next e (step_flag image.code machine on stepped ∙ flag)
outcome_flag job image point machine (outcome.Returns r0 r1) next e stepped flag =
    same_advance _ next e (next_flag (job_after_return job point machine.params r0 r1) image point machine (still_to_come point r0 job.points) flag)
outcome_flag job image point machine (outcome.Panics code) next e stepped flag = same_advance (Stops (Panics code)) next e tt
outcome_flag job image point machine (outcome.Asks request) next e stepped flag =
    answers_flag job image point (asking request machine) (new_request job machine request) next e flag

advance_flag : (job : Job) (body : Body) (next : Advance) → advance_of job body ≡ Some next → FlagIn body → FlagAfter next
advance_flag job (Machine image point machine) next e flag =
    option_and_then_some (advance_by job image point machine) (step image.code machine) next e
    (λ came stepped onward. outcome_flag job image point machine came next onward stepped flag)
advance_flag job (Native relation func) next e flag = same_advance _ next e tt
advance_flag job Nothing next e flag = absurd cc

answer_flag : (job : Job) (answer : RpcAnswer) (body : Body) (asked : Option PendingRequest) (next : Advance)
    → advance_on_answer_in job answer body asked ≡ Some next → FlagIn body → FlagAfter next
answer_flag job answer (Machine image point machine) (Some asked) next e flag =
    answers_flag job image point machine (record asked { answers = asked.answers ++ answer ∷ [] }) next e flag
answer_flag job answer (Machine image point machine) None next e flag = absurd cc
answer_flag job answer (Native relation func) asked next e flag = absurd cc
answer_flag job answer Nothing asked next e flag = absurd cc

-- ---- many steps

goes_flag : (n : ℕ) (next : Advance) (left : Job) → ((job : Job) → after n job ≡ Some left → FlagIn job.body → FlagIn left.body)
    → where_it_goes (after n) next ≡ Some left → FlagAfter next → FlagIn left.body
goes_flag n (Goes job) left rest e flag = rest job e flag
goes_flag n (Stops why) left rest e flag = absurd cc

after_flag : (n : ℕ) (job left : Job) → after n job ≡ Some left → FlagIn job.body → FlagIn left.body
after_flag zero job left e flag = let same : job ≡ left = cc in subst (λ (j : Job). FlagIn j.body) same flag
after_flag (suc n) job left e flag =
    option_and_then_some (where_it_goes (after n)) (advance job) left e
    (λ next came onward. goes_flag n next left (λ on. after_flag n on left) onward (advance_flag job job.body next came flag))

abbrev Asked : JobStop → Type 0
Asked why = FlagAfter (Stops why)

same_stop : (first second : JobStop) → Some first ≡ Some second → Asked first → Asked second
same_stop first second e flag = let same : first ≡ second = cc in subst Asked same flag

at_once_flag : (job : Job) (body : Body) (why : JobStop) → stop_at_once job body ≡ Some why → Asked why
at_once_flag job (Machine image point machine) why e = absurd cc
at_once_flag job (Native relation func) why e = absurd cc
at_once_flag job Nothing why e = same_stop _ why e tt

behind_flag : (n : ℕ) (next : Advance) (why : JobStop) → ((job : Job) → stop_at n job ≡ Some why → FlagIn job.body → Asked why)
    → stop_behind (stop_at n) n next ≡ Some why → FlagAfter next → Asked why
behind_flag n (Goes job) why rest e flag = rest job e flag
behind_flag zero (Stops first) why rest e flag = same_stop first why e flag
behind_flag (suc n) (Stops first) why rest e flag = absurd cc

stop_flag : (n : ℕ) (job : Job) (why : JobStop) → stop_at n job ≡ Some why → FlagIn job.body → Asked why
stop_flag zero job why e flag = at_once_flag job job.body why e
stop_flag (suc n) job why e flag =
    option_and_then_some (stop_behind (stop_at n) n) (advance job) why e
    (λ next came onward. behind_flag n next why (λ on. stop_flag n on why) onward (advance_flag job job.body next came flag))

pub cancel_stays_seen : CancelStaysSeen
cancel_stays_seen = record {
  steps = λ job left n seen came. has_seen left (after_flag n job left came (has_flag job seen));
  asks = λ job left n wanted payload seen stops. has_seen left (stop_flag n job (Asks wanted payload left) stops (has_flag job seen));
  goes = λ job next answer seen came. has_seen next (answer_flag job answer job.body job.asked (Goes next) came (has_flag job seen));
  asks_on = λ job left answer wanted payload seen came.
      has_seen left (answer_flag job answer job.body job.asked (Stops (Asks wanted payload left)) came (has_flag job seen));
  again = λ job. ap (λ (b : Body). record job { body = b }) (twice job.body);
}
