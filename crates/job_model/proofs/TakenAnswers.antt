-- A job that has asked for something takes each answer.
use Rattle.std.proofs.Common.{◌≡◌, ℕ, zero, suc, List, [], ◌∷◌, ◌++◌, Option, Some, None, Bool, refl, ap, sym, subst, ◌∙◌}
use Rattle.std.proofs.Common.{true, false}
use Rattle.std.specs.Prelude.{◌/◌, ◌%◌, ◌^◌, ◌==◌, if◌then◌else◌}
use Rattle.std.specs.Option.{option_map, option_and_then}
use Rattle.base.specs.NumberMap.{NumberMap}
use Rattle.rpc_msgs.specs.Answer.{RpcAnswer, Replied, NoBuffer}
use Rattle.rpc_msgs.specs.declared.rpc.Rpc.{Rpc}
use Rattle.rpc_msgs.specs.declared.rpc.RpcReply.{RpcReply}
use Rattle.ta_isa.specs.declared.image.Image.{Image}
use Rattle.ta_params.specs.declared.codes.TheConstants.{TEE_SUCCESS, TEE_ERROR_GENERIC}
use Rattle.ta_params.specs.declared.object_call.ObjectCall.{ObjectCall}
use Rattle.ta_step.specs.Outcome.{Outcome, asking}
use Rattle.ta_step.specs.Outcome as outcome
use Rattle.ta_step.specs.State.{State, is_cancelled}
use Rattle.ta_step.specs.Step.{step}
use Rattle.ta_step.specs.declared.stop.Request.{Request}
use Rattle.ta_step.specs.declared.stop.Request.TheVariants as request
use Rattle.tee_storage.specs.declared.handle.Handle.{Handle}
use Rattle.tee_storage.specs.declared.step.StorageStep.TheVariants as storage
use Rattle.tee_storage.specs.ObjectCalls.{program_of, serving, shown}
use Rattle.tee_storage.specs.Program as program
use Rattle.tee_storage.specs.Program.{Program, now_at, after, after_one}
use Rattle.job_model.specs.Owner.{Owner}
use Rattle.job_model.specs.Asking.{PendingRequest, Asking, Needs, Gives, Bad, Ask, ask, comes_to, object_ask, ask_unchanged, asks_time, asks_wait, told_time}
use Rattle.job_model.specs.Job.{Body, Machine, Native, Nothing, Job, body_with_cancel_seen}
use Rattle.job_model.specs.declared.entry_point.EntryPoint.{EntryPoint}
use Rattle.job_model.specs.Steps.{JobStop, Asks, Advance, Goes, Stops, Stop, with_machine, on_from, with_bytes, new_request, advance_on_answer_in, advance_on_answer, job_after_return, on_to_next, still_to_come, advance_by, advance_of, advance, stop_at_once, stop_behind, stop_at}
use Rattle.job_model.specs.Taken.{IsNeeded, IsNeededBy, IsUnanswered, HasMachine, WaitsForAnswer, IsTaken, AnswersAreTaken}
use Rattle.job_model.proofs.Programs.{ComesToResult, IsCalm, after-append, left-calm}

-- ---- what a request comes to

-- a request to the normal world, or registers for the application
abbrev IsNeededOrGiven : Asking → Type 0
IsNeededOrGiven (Needs wanted payload) = Unit {0}
IsNeededOrGiven (Gives r0 r1 r2) = Unit {0}
IsNeededOrGiven (Bad code) = ⊥

abbrev ComesOn : Option Ask → Type 0
ComesOn None = ⊥
ComesOn (Some came) = IsNeededOrGiven came.next

-- the request is needed whether the call is cancelled or not
wait_either : (asked : PendingRequest) (ms : ℕ) (one other : Bool) (answers : List RpcAnswer)
    → IsNeededBy (option_map (ask_unchanged asked) (asks_wait ms one answers)) → IsNeededBy (option_map (ask_unchanged asked) (asks_wait ms other answers))
wait_either asked ms one other [] needed = tt
wait_either asked ms one other (answer ∷ []) needed = absurd needed
wait_either asked ms one other (answer ∷ another ∷ more) needed = absurd needed

needed_either : (owner : Owner) (asked : PendingRequest) (wanted : Request) (one other : Bool) → IsNeededBy (comes_to owner one asked wanted) → IsNeededBy (comes_to owner other asked wanted)
needed_either owner asked request.Time one other needed = needed
needed_either owner asked (request.Suspend ms) one other needed = wait_either asked ms one other asked.answers needed
needed_either owner asked (request.Object call) one other needed = needed

-- ---- one answer more

given_if : (test : Bool) (a b c d e f : ℕ) → IsNeededOrGiven (if test then Gives a b c else Gives d e f)
given_if true a b c d e f = tt
given_if false a b c d e f = tt

not_needed_if : (test : Bool) (a b c d e f : ℕ) → IsNeeded (if test then Gives a b c else Gives d e f) → ⊥
not_needed_if true a b c d e f needed = needed
not_needed_if false a b c d e f needed = needed

not_needed_time : (reply : RpcReply) → IsNeeded (told_time reply) → ⊥
not_needed_time reply needed =
    not_needed_if (reply.ret == 0) TEE_SUCCESS (reply.v % 2 ^ 32) ((reply.w % 2 ^ 32) / 1000000) TEE_ERROR_GENERIC 0 0 needed

time_on : (asked : PendingRequest) (answers : List RpcAnswer) (answer : RpcAnswer) → IsNeededBy (option_map (ask_unchanged asked) (asks_time answers))
    → ComesOn (option_map (ask_unchanged asked) (asks_time (answers ++ answer ∷ [])))
time_on asked [] (Replied reply) needed =
    given_if (reply.ret == 0) TEE_SUCCESS (reply.v % 2 ^ 32) ((reply.w % 2 ^ 32) / 1000000) TEE_ERROR_GENERIC 0 0
time_on asked [] NoBuffer needed = tt
time_on asked (Replied reply ∷ []) answer needed = absurd (not_needed_time reply needed)
time_on asked (NoBuffer ∷ []) answer needed = absurd needed
time_on asked (Replied reply ∷ another ∷ more) answer needed = absurd needed
time_on asked (NoBuffer ∷ another ∷ more) answer needed = absurd needed

wait_on : (asked : PendingRequest) (ms : ℕ) (cancelled : Bool) (answers : List RpcAnswer) (answer : RpcAnswer)
    → IsNeededBy (option_map (ask_unchanged asked) (asks_wait ms cancelled answers))
    → ComesOn (option_map (ask_unchanged asked) (asks_wait ms cancelled (answers ++ answer ∷ [])))
wait_on asked ms cancelled [] answer needed = tt
wait_on asked ms cancelled (first ∷ []) answer needed = absurd needed
wait_on asked ms cancelled (first ∷ another ∷ more) answer needed = absurd needed

step_on : (p : Program) → ComesToResult p → IsNeededOrGiven (object_ask (shown p)).next
step_on (program.Asks rpc payload now onward) comes = tt
step_on (program.Ends (storage.Ask rpc payload) now) comes = absurd comes
step_on (program.Ends (storage.Done result value) now) comes = tt
step_on (program.Ends (storage.Panic code) now) comes = absurd comes

object_on : (o : Option Program) (answer : RpcAnswer) → ((p : Program) → o ≡ Some p → IsCalm p)
    → IsNeededBy (option_map object_ask (option_map shown o))
    → ComesOn (option_map object_ask (option_map shown (option_and_then (λ p. after_one p answer) o)))
object_on None answer calm needed = absurd needed
object_on (Some (program.Asks rpc payload now onward)) (Replied reply) calm needed =
    let p : Program = program.Asks rpc payload now onward in
    step_on (onward reply) (calm p refl reply)
object_on (Some (program.Asks rpc payload now onward)) NoBuffer calm needed = tt
object_on (Some (program.Ends (storage.Ask rpc payload) now)) answer calm needed =
    let p : Program = program.Ends (storage.Ask rpc payload) now in
    absurd (calm p refl)
object_on (Some (program.Ends (storage.Done result value) now)) answer calm needed = absurd needed
object_on (Some (program.Ends (storage.Panic code) now)) answer calm needed = absurd needed

call_on : (call : ObjectCall) (uuid key range : List ℕ) (objects : NumberMap Handle) (answers : List RpcAnswer) (answer : RpcAnswer)
    → IsNeededBy (option_map object_ask (serving call uuid key range objects answers))
    → ComesOn (option_map object_ask (serving call uuid key range objects (answers ++ answer ∷ [])))
call_on call uuid key range objects answers answer needed =
    let first = Some (program_of call uuid key (now_at range objects)) in
    let so_far = after first answers in
    let comes = object_on so_far answer (λ p is. left-calm call uuid key (now_at range objects) answers p is) needed in
    subst (λ (o : Option Program). ComesOn (option_map object_ask (option_map shown o))) (sym (after-append first answers answer)) comes

answer_on : (owner : Owner) (cancelled : Bool) (asked : PendingRequest) (answer : RpcAnswer) (wanted : Request)
    → IsNeededBy (comes_to owner cancelled asked wanted) → ComesOn (comes_to owner cancelled (record asked { answers = asked.answers ++ answer ∷ [] }) wanted)
answer_on owner cancelled asked answer request.Time needed = time_on asked asked.answers answer needed
answer_on owner cancelled asked answer (request.Suspend ms) needed = wait_on asked ms cancelled asked.answers answer needed
answer_on owner cancelled asked answer (request.Object call) needed = call_on call owner.uuid owner.key asked.range asked.objects asked.answers answer needed

-- ---- on from there

on_taken : (job : Job) (image : Image) (point : EntryPoint) (machine : State) (asked : PendingRequest) (objects : NumberMap Handle) (next : Asking)
    → IsNeededOrGiven next → (IsNeeded next → IsUnanswered job.owner (Some asked)) → IsTaken (Some (on_from job image point machine asked objects next))
on_taken job image point machine asked objects (Needs wanted payload) comes unanswered = record { machine = tt; asked = unanswered tt }
on_taken job image point machine asked objects (Gives r0 r1 r2) comes unanswered = tt
on_taken job image point machine asked objects (Bad code) comes unanswered = absurd comes

-- a request that is needed now is needed whether the call is cancelled or not
still_needed : (owner : Owner) (asked : PendingRequest) (cancelled : Bool) (came : Ask) → ask owner cancelled asked ≡ Some came → IsNeeded came.next → IsUnanswered owner (Some asked)
still_needed owner asked cancelled came e needed other =
    needed_either owner asked asked.request cancelled other (subst IsNeededBy (sym e) needed)

served_taken : (job : Job) (image : Image) (point : EntryPoint) (machine : State) (asked : PendingRequest) (o : Option Ask) → ask job.owner (is_cancelled machine) asked ≡ o → ComesOn o
    → IsTaken (option_map (λ (c : Ask). on_from job image point (with_bytes machine asked.request c.range) asked c.objects c.next) o)
served_taken job image point machine asked None e comes = absurd comes
served_taken job image point machine asked (Some came) e comes =
    on_taken job image point (with_bytes machine asked.request came.range) asked came.objects came.next comes
    (still_needed job.owner asked (is_cancelled machine) came e)

takes_in : (job : Job) (answer : RpcAnswer) (body : Body) (asked : Option PendingRequest) → HasMachine body → IsUnanswered job.owner asked → IsTaken (advance_on_answer_in job answer body asked)
takes_in job answer (Machine image point machine) None running unanswered = absurd unanswered
takes_in job answer (Machine image point machine) (Some asked) running unanswered =
    let more : PendingRequest = record asked { answers = asked.answers ++ answer ∷ [] } in
    served_taken job image point machine more (ask job.owner (is_cancelled machine) more) refl
    (answer_on job.owner (is_cancelled machine) asked answer asked.request (unanswered (is_cancelled machine)))
takes_in job answer (Native relation func) asked running unanswered = absurd running
takes_in job answer Nothing asked running unanswered = absurd running

takes_answer : (job : Job) (answer : RpcAnswer) → WaitsForAnswer job → IsTaken (advance_on_answer answer job)
takes_answer job answer waits = takes_in job answer job.body job.asked waits.machine waits.asked

-- ---- a stop with a request

asks_waits : (job left : Job) (image : Image) (point : EntryPoint) (machine : State) (asked : PendingRequest) (objects : NumberMap Handle) (wanted : Rpc) (payload : List ℕ) (next : Asking)
    → (IsNeeded next → IsUnanswered job.owner (Some asked)) → on_from job image point machine asked objects next ≡ Stops (Asks wanted payload left) → WaitsForAnswer left
asks_waits job left image point machine asked objects wanted payload (Needs other bytes) unanswered e =
    let mid : Job = with_machine job image point machine objects (Some asked) in
    let same : mid ≡ left = cc in
    subst WaitsForAnswer same (record { machine = tt; asked = unanswered tt })
asks_waits job left image point machine asked objects wanted payload (Gives r0 r1 r2) unanswered e = absurd cc
asks_waits job left image point machine asked objects wanted payload (Bad code) unanswered e = absurd cc

served_waits : (job left : Job) (image : Image) (point : EntryPoint) (machine : State) (asked : PendingRequest) (wanted : Rpc) (payload : List ℕ) (o : Option Ask)
    → ask job.owner (is_cancelled machine) asked ≡ o
    → option_map (λ (c : Ask). on_from job image point (with_bytes machine asked.request c.range) asked c.objects c.next) o ≡ Some (Stops (Asks wanted payload left))
    → WaitsForAnswer left
served_waits job left image point machine asked wanted payload None e stops = absurd cc
served_waits job left image point machine asked wanted payload (Some came) e stops =
    asks_waits job left image point (with_bytes machine asked.request came.range) asked came.objects wanted payload came.next
    (still_needed job.owner asked (is_cancelled machine) came e) cc

followed_apart : (job left : Job) (image : Image) (point : EntryPoint) (machine : State) (points : List EntryPoint) (wanted : Rpc) (payload : List ℕ)
    → on_to_next job image point machine points ≡ Stops (Asks wanted payload left) → ⊥
followed_apart job left image point machine [] wanted payload e = cc
followed_apart job left image point machine (next ∷ behind) wanted payload e = cc

outcome_waits : (job left : Job) (image : Image) (point : EntryPoint) (machine : State) (wanted : Rpc) (payload : List ℕ) (o : Option Outcome)
    → option_and_then (advance_by job image point machine) o ≡ Some (Stops (Asks wanted payload left)) → WaitsForAnswer left
outcome_waits job left image point machine wanted payload None e = absurd cc
outcome_waits job left image point machine wanted payload (Some (outcome.Goes next)) e = absurd cc
outcome_waits job left image point machine wanted payload (Some (outcome.Returns r0 r1)) e =
    absurd (followed_apart (job_after_return job point machine.params r0 r1) left image point machine (still_to_come point r0 job.points) wanted payload cc)
outcome_waits job left image point machine wanted payload (Some (outcome.Panics code)) e = absurd cc
outcome_waits job left image point machine wanted payload (Some (outcome.Asks asks)) e =
    let asked : PendingRequest = new_request job machine asks in
    served_waits job left image point (asking asks machine) asked wanted payload (ask job.owner (is_cancelled (asking asks machine)) asked) refl e

advance_waits : (job left : Job) (body : Body) (wanted : Rpc) (payload : List ℕ) → advance_of job body ≡ Some (Stops (Asks wanted payload left)) → WaitsForAnswer left
advance_waits job left (Machine image point machine) wanted payload e = outcome_waits job left image point machine wanted payload (step image.code machine) e
advance_waits job left (Native relation func) wanted payload e = absurd cc
advance_waits job left Nothing wanted payload e = absurd cc

not_at_once : (job left : Job) (body : Body) (wanted : Rpc) (payload : List ℕ) → stop_at_once job body ≡ Some (Asks wanted payload left) → ⊥
not_at_once job left (Machine image point machine) wanted payload e = cc
not_at_once job left (Native relation func) wanted payload e = cc
not_at_once job left Nothing wanted payload e = cc

behind_waits : (n : ℕ) (job left : Job) (wanted : Rpc) (payload : List ℕ) (o : Option Advance) → advance job ≡ o
    → ((next : Job) → stop_at n next ≡ Some (Asks wanted payload left) → WaitsForAnswer left)
    → option_and_then (stop_behind (stop_at n) n) o ≡ Some (Asks wanted payload left) → WaitsForAnswer left
behind_waits n job left wanted payload None e later stops = absurd cc
behind_waits n job left wanted payload (Some (Goes next)) e later stops = later next stops
behind_waits zero job left wanted payload (Some (Stops why)) e later stops =
    let asks : JobStop = Asks wanted payload left in
    let same : why ≡ asks = cc in
    advance_waits job left job.body wanted payload (e ∙ ap (λ (w : JobStop). Some (Stops w)) same)
behind_waits (suc n) job left wanted payload (Some (Stops why)) e later stops = absurd cc

stop_waits : (job left : Job) (n : ℕ) (wanted : Rpc) (payload : List ℕ) → Stop job n (Asks wanted payload left) → WaitsForAnswer left
stop_waits job left zero wanted payload stops = absurd (not_at_once job left job.body wanted payload stops)
stop_waits job left (suc n) wanted payload stops =
    behind_waits n job left wanted payload (advance job) refl (λ next later. stop_waits next left n wanted payload later) stops

-- ---- a cancellation that is seen

seen_machine : (body : Body) → HasMachine body → HasMachine (body_with_cancel_seen body)
seen_machine (Machine image point machine) running = tt
seen_machine (Native relation func) running = absurd running
seen_machine Nothing running = absurd running

pub answers_are_taken : AnswersAreTaken
answers_are_taken = record {
  stops = λ job left n wanted payload stops. stop_waits job left n wanted payload stops;
  sees = λ job waits. record { machine = seen_machine job.body waits.machine; asked = waits.asked };
  takes = takes_answer;
}
