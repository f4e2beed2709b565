-- A call that doesn't wait goes on as the kernel's does.
use Rattle.std.proofs.Common.{◌≡◌, ℕ, List, Option, Some, None, refl, sym, ap, subst}
use Rattle.std.specs.Prelude.{IsSome, IsSomeAnd}
use Rattle.job_model.specs.Job.{Job}
use Rattle.job_model.specs.Steps.{advance_on_answer}
use Rattle.kernel_model.specs.Given.{Given, Nothing, Buffer, NoBuffer, Reply}
use Rattle.kernel_model.specs.Kernel.{CallPhase, Runs, Asks, Waits, Ends}
use Rattle.kernel_model.specs.Resume.{Resumed, onward_in, onward_of, phase_on_answer, phase_when_given, still_wakes}
use Rattle.kernel_state.specs.Calls.{IsCall, IsInPhase, bytes_of}
use Rattle.rpc_cont.specs.Answering.{IsAnswered}
use Rattle.rpc_cont.specs.Conts.{call_owner, job_of}
use Rattle.rpc_cont.specs.Resuming.{answer_in}
use Rattle.rpc_cont.specs.Running.{IsWaiting, worked}
use Rattle.rpc_cont.specs.declared.cont.Cont.{Cont}
use Rattle.rpc_cont.specs.declared.input.ResumeInput.{ResumeInput}
use Rattle.rpc_cont.specs.declared.input.ResumeInput.TheVariants as input
use Rattle.rpc_cont.specs.declared.phase.Phase.TheVariants as phase
use Rattle.rpc_msgs.specs.Answer as rpc_answer
use Rattle.rpc_msgs.specs.Answer.{RpcAnswer}
use Rattle.kernel_state.proofs.CallPhases.{phase_answered}
use Rattle.resumed_calls.proofs.Keeping.{Keeps, in_phase}
use Rattle.resumed_calls.specs.Giving.{given_as}
use Rattle.resumed_calls.specs.Onward.{HasCome}

pub same_cont : (cont : Cont (List ℕ)) → Keeps cont cont
same_cont cont = record {
  client = refl;
  kind = refl;
  app = refl;
  login = refl;
  arg = refl;
  area = refl;
  places = refl;
  session = refl;
  instance = refl;
  seen = refl;
  steps = refl;
  buffer = refl;
}

keeps_worked : (old new : Cont (List ℕ)) → new ≡ record (worked old new) { buffer = new.buffer; phase = new.phase } → new.buffer ≡ old.buffer → Keeps old new
keeps_worked old new stays buffer = record {
  client = ap (λ (cont : Cont (List ℕ)). cont.client) stays;
  kind = ap (λ (cont : Cont (List ℕ)). cont.kind) stays;
  app = ap (λ (cont : Cont (List ℕ)). cont.app) stays;
  login = ap (λ (cont : Cont (List ℕ)). cont.login) stays;
  arg = ap (λ (cont : Cont (List ℕ)). cont.arg) stays;
  area = ap (λ (cont : Cont (List ℕ)). cont.area) stays;
  places = ap (λ (cont : Cont (List ℕ)). cont.places) stays;
  session = ap (λ (cont : Cont (List ℕ)). cont.session) stays;
  instance = ap (λ (cont : Cont (List ℕ)). cont.instance) stays;
  seen = ap (λ (cont : Cont (List ℕ)). cont.cancelled) stays;
  steps = ap (λ (cont : Cont (List ℕ)). cont.steps) stays;
  buffer = buffer;
}

-- ---- nothing, or a buffer

-- what it is given answers nothing
pub record AnswersNothing (given : Given) : Type 0 where
  pub asks : (before : CallPhase) (job : Job) → phase_when_given before job given ≡ before
  pub wakes : (wakes : Option ℕ) → still_wakes given wakes ≡ wakes

nothing_answers_nothing : AnswersNothing Nothing
nothing_answers_nothing = record { asks = λ before job. refl; wakes = λ wakes. refl }

buffer_answers_nothing : (buffer : _) → AnswersNothing (Buffer buffer)
buffer_answers_nothing buffer = record { asks = λ before job. refl; wakes = λ wakes. refl }

answers_nothing : (given : ResumeInput) → answer_in given ≡ None → AnswersNothing (given_as given)
answers_nothing input.Nothing none = nothing_answers_nothing
answers_nothing (input.Buffer addr cookie) none = buffer_answers_nothing _
answers_nothing input.NoBuffer none = absurd cc
answers_nothing (input.Reply reply) none = absurd cc

unchanged_in : (cont : Cont (List ℕ)) (r : Resumed) (at : CallPhase) → (cont.phase ≡ phase.Waits → ⊥) → AnswersNothing r.given →
    IsCall cont r.call → IsInPhase cont at → HasCome r.tables cont (onward_in r at)
unchanged_in cont r (Runs job) works nothing is at = record { tables = refl; call = in_phase cont cont r.call (Runs job) (same_cont cont) is at }
unchanged_in cont r (Asks job wanted payload) works nothing is at =
    let before : CallPhase = Asks job wanted payload in record {
      tables = refl;
      call = in_phase cont cont r.call _ (same_cont cont) is (subst (IsInPhase cont) (sym (nothing.asks before job)) at);
    }
unchanged_in cont r (Waits params) works nothing is at = absurd (works at.phase)
unchanged_in cont r (Ends result params told wakes) works nothing is at = record {
  tables = refl;
  call =
      in_phase cont cont r.call _ (same_cont cont) is
      (subst (λ (wakes : Option ℕ). IsInPhase cont (Ends result params told wakes)) (sym (nothing.wakes wakes)) at);
}

pub unchanged_onward : (cont : Cont (List ℕ)) (given : ResumeInput) (r : Resumed) → (cont.phase ≡ phase.Waits → ⊥) → answer_in given ≡ None →
    r.given ≡ given_as given → IsCall cont r.call → HasCome r.tables cont (onward_of r)
unchanged_onward cont given r works none is_given is =
    unchanged_in cont r r.call.phase works (subst AnswersNothing (sym is_given) (answers_nothing given none)) is is.phase

-- ---- an answer

-- what it is given is this answer
pub record IsAnswer (given : Given) (answer : RpcAnswer) : Type 0 where
  pub asks : (before : CallPhase) (job : Job) → phase_when_given before job given ≡ phase_on_answer before job answer
  pub wakes : (wakes : Option ℕ) → still_wakes given wakes ≡ None

is_answer : (given : ResumeInput) (answer : RpcAnswer) → answer_in given ≡ Some answer → IsAnswer (given_as given) answer
is_answer input.Nothing answer is = absurd cc
is_answer (input.Buffer addr cookie) answer is = absurd cc
is_answer input.NoBuffer answer is =
    let same : rpc_answer.NoBuffer ≡ answer = cc in
    subst (IsAnswer NoBuffer) same (record { asks = λ before job. refl; wakes = λ wakes. refl })
is_answer (input.Reply reply) answer is =
    let same : rpc_answer.Replied reply.value ≡ answer = cc in
    subst (IsAnswer (Reply reply.value)) same (record { asks = λ before job. refl; wakes = λ wakes. refl })

some_answer : (given : ResumeInput) → IsSome (answer_in given) → (answer : RpcAnswer) × (answer_in given ≡ Some answer)
some_answer input.Nothing some = absurd cc
some_answer (input.Buffer addr cookie) some = absurd cc
some_answer input.NoBuffer some = (rpc_answer.NoBuffer, refl)
some_answer (input.Reply reply) some = (rpc_answer.Replied reply.value, refl)

-- what `resume_with` says of an answer
pub record TakesAnswer (old new : Cont (List ℕ)) (answer : RpcAnswer) : Type 0 where
  pub keeps : Keeps old new
  pub runs : old.phase ≡ phase.Runs → new ≡ old
  pub asks : (job : Job) → old.phase ≡ phase.Asks → IsWaiting bytes_of (call_owner old) old (job_of bytes_of old) job →
      IsSomeAnd (advance_on_answer answer job) (λ next. IsAnswered bytes_of new next)
  pub ends : old.phase ≡ phase.Ends → new ≡ record old { request = None }

answered_in : (old new : Cont (List ℕ)) (answer : RpcAnswer) (r : Resumed) (at : CallPhase) → (old.phase ≡ phase.Waits → ⊥) → IsAnswer r.given answer →
    TakesAnswer old new answer → IsCall old r.call → IsInPhase old at → HasCome r.tables new (onward_in r at)
answered_in old new answer r (Runs job) works by takes is at = record {
  tables = refl;
  call =
      in_phase old new r.call (Runs job) takes.keeps is
      (subst (λ (cont : Cont (List ℕ)). IsInPhase cont (Runs job)) (sym (takes.runs at.1.phase)) at);
}
answered_in old new answer r (Asks job wanted payload) works by takes is at =
    let before : CallPhase = Asks job wanted payload in record {
      tables = refl;
      call =
          in_phase old new r.call _ takes.keeps is
          (subst (IsInPhase new) (sym (by.asks before job)) (phase_answered new before (advance_on_answer answer job) (takes.asks job at.0 at.1.0)));
    }
answered_in old new answer r (Waits params) works by takes is at = absurd (works at.phase)
answered_in old new answer r (Ends result params told wakes) works by takes is at = record {
  tables = refl;
  call =
      in_phase old new r.call _ takes.keeps is
      (subst (λ (wakes : Option ℕ). IsInPhase new (Ends result params told wakes)) (sym (by.wakes wakes))
      (subst (λ (cont : Cont (List ℕ)). IsInPhase cont (Ends result params told None)) (sym (takes.ends at.phase))
      (record { phase = at.phase; result = at.result; params = at.params; told = at.told; wakes = refl })));
}

pub answered_onward : (old new : Cont (List ℕ)) (given : ResumeInput) (r : Resumed) → (old.phase ≡ phase.Waits → ⊥) → IsSome (answer_in given) →
    new ≡ record (worked old new) { buffer = new.buffer; phase = new.phase } → (IsSome (answer_in given) → new.buffer ≡ old.buffer) →
    (old.phase ≡ phase.Runs → new ≡ old) →
    ((answer : RpcAnswer) (job : Job) → old.phase ≡ phase.Asks → answer_in given ≡ Some answer → IsWaiting bytes_of (call_owner old) old (job_of bytes_of old) job →
    IsSomeAnd (advance_on_answer answer job) (λ next. IsAnswered bytes_of new next)) →
    (old.phase ≡ phase.Ends → IsSome (answer_in given) → new ≡ record old { request = None }) →
    r.given ≡ given_as given → IsCall old r.call → HasCome r.tables new (onward_of r)
answered_onward old new given r works some stays keeps runs asks ends is_given is =
    let answer : (answer : RpcAnswer) × (answer_in given ≡ Some answer) = some_answer given some in
    answered_in old new answer.0 r r.call.phase works (subst (λ (one : Given). IsAnswer one answer.0) (sym is_given) (is_answer given answer.0 answer.1))
    (record {
      keeps = keeps_worked old new stays (keeps some);
      runs = runs;
      asks = λ job at waits. asks answer.0 job at answer.1 waits;
      ends = λ at. ends at some;
    }) is is.phase
