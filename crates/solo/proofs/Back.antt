-- A call as data that comes back stands for the machine's that does.
use Rattle.std.proofs.Common.{◌≡◌, ℕ, true, false, List, Option, Some, None, refl, sym, ap, subst, ◌∙◌}
use Rattle.std.specs.Prelude.{IsSomeAnd, is_some}
use Rattle.std.specs.Option.{option_and_then}
use Rattle.job_model.specs.Job.{Job, of_tee}
use Rattle.job_model.specs.Point.{no_params}
use Rattle.job_model.specs.Steps.{advance_on_answer}
use Rattle.kernel_model.specs.Application.{Application}
use Rattle.kernel_model.specs.Kernel.{CallPhase, Runs, Asks, Waits, Ends}
use Rattle.kernel_model.specs.Resume.{phase_on_answer}
use Rattle.kernel_state.specs.Calls.{IsInPhase, bytes_of, woken_slot}
use Rattle.own_model.specs.Solo.{OwnCall, Solo, comes_back_in, phase_back, wake_left, with_call}
use Rattle.own_model.specs.declared.own_event.BackInput.{BackInput}
use Rattle.rpc_cont.specs.Answering.{IsAnswered}
use Rattle.rpc_cont.specs.Conts.{call_owner, job_of, kept_params}
use Rattle.rpc_cont.specs.Running.{IsWaiting, worked}
use Rattle.rpc_cont.specs.declared.cont.Asked.{Asked}
use Rattle.rpc_cont.specs.declared.cont.Cont.{Cont}
use Rattle.rpc_cont.specs.declared.phase.Phase.TheVariants as phase
use Rattle.rpc_msgs.specs.Answer.{RpcAnswer}
use Rattle.rpc_msgs.specs.declared.rpc_buffer.RpcBuffer.{RpcBuffer}
use Rattle.kernel_state.proofs.CallPhases.{phase_answered, relabelled}
use Rattle.solo.specs.Calls.{IsCall}
use Rattle.solo.specs.Standing.{HasCall}

-- ---- a buffer

pub has_buffer : (old new : Cont (List ℕ)) (buffer : RpcBuffer) (call : OwnCall) → new ≡ record old { buffer = Some buffer } →
    IsCall old call → IsCall new (record call { buffer = true })
has_buffer old new buffer call becomes is =
    subst (λ (c : Cont (List ℕ)). IsCall c (record call { buffer = true })) (sym becomes) (record {
      kind = is.kind;
      seen = is.seen;
      steps = is.steps;
      area = is.area;
      buffer = refl;
      phase = relabelled old (record { steps = old.steps; buffer = Some buffer }) call.phase is.phase;
    })

-- ---- its phase

-- the call in another phase
pub in_phase : (old new : Cont (List ℕ)) (call : OwnCall) (at : CallPhase) → new.kind ≡ old.kind → new.cancelled ≡ old.cancelled →
    new.steps ≡ old.steps → new.area ≡ old.area → new.buffer ≡ old.buffer → IsCall old call → IsInPhase new at →
    IsCall new (record call { phase = at })
in_phase old new call at kind seen did area buffer is here = record {
  kind = kind ∙ is.kind;
  seen = seen ∙ is.seen;
  steps = did ∙ is.steps;
  area = ap (λ (a : Option ℕ). is_some a) area ∙ is.area;
  buffer = ap (λ (b : Option RpcBuffer). is_some b) buffer ∙ is.buffer;
  phase = here;
}

-- ---- an answer

-- what it is given is this answer
pub record IsAnswer (input : BackInput) (answer : RpcAnswer) : Type 0 where
  pub asks : (before : CallPhase) (job : Job) → phase_back before job input ≡ phase_on_answer before job answer
  pub wakes : (wakes : Option ℕ) → wake_left wakes input ≡ None

-- what `resume_with` says of an answer
pub record TakesAnswer (old new : Cont (List ℕ)) (answer : RpcAnswer) : Type 0 where
  pub asks : (job : Job) → old.phase ≡ phase.Asks → IsWaiting bytes_of (call_owner old) old (job_of bytes_of old) job →
      IsSomeAnd (advance_on_answer answer job) (λ next. IsAnswered bytes_of new next)
  pub ends : old.phase ≡ phase.Ends → new ≡ record old { request = None }
  pub buffer : new.buffer ≡ old.buffer
  pub stays : new ≡ record (worked old new) { buffer = new.buffer; phase = new.phase }

taken : (old new : Cont (List ℕ)) (answer : RpcAnswer) (call : OwnCall) (at : CallPhase) → TakesAnswer old new answer → IsCall old call →
    IsInPhase new at → IsCall new (record call { phase = at })
taken old new answer call at takes is here =
    in_phase old new call at (ap (λ (c : Cont (List ℕ)). c.kind) takes.stays) (ap (λ (c : Cont (List ℕ)). c.cancelled) takes.stays)
    (ap (λ (c : Cont (List ℕ)). c.steps) takes.stays) (ap (λ (c : Cont (List ℕ)). c.area) takes.stays) takes.buffer is here

answered_in : (app : Application) (solo next : Solo) (number : ℕ) (input : BackInput) (answer : RpcAnswer) (old new : Cont (List ℕ)) (call : OwnCall) (at : CallPhase) →
    (old.phase ≡ phase.Waits → ⊥) → IsAnswer input answer → TakesAnswer old new answer → IsCall old call → IsInPhase old at →
    comes_back_in app solo number call input at ≡ Some next → HasCall new number solo next
answered_in app solo next number input answer old new call (Runs job) works by takes is at e = absurd cc
answered_in app solo next number input answer old new call (Asks job wanted payload) works by takes is at e =
    let then : CallPhase = phase_back call.phase job input in
    let so : with_call solo number (record call { phase = then }) ≡ next = cc in
    let here : IsInPhase new then =
    subst (IsInPhase new) (sym (by.asks call.phase job))
    (phase_answered new call.phase (advance_on_answer answer job) (takes.asks job at.0 at.1.0)) in
    record { call = record call { phase = then }; is = taken old new answer call then takes is here; has = sym so }
answered_in app solo next number input answer old new call (Waits params) works by takes is at e = absurd (works at.phase)
answered_in app solo next number input answer old new call (Ends result params told wakes) works by takes is at e =
    let then : CallPhase = Ends result params told (wake_left wakes input) in
    let so : with_call solo number (record call { phase = then }) ≡ next = cc in
    let here : IsInPhase new then =
    subst (λ (w : Option ℕ). IsInPhase new (Ends result params told w)) (sym (by.wakes wakes))
    (subst (λ (c : Cont (List ℕ)). IsInPhase c (Ends result params told None)) (sym (takes.ends at.phase))
    (record { phase = at.phase; result = at.result; params = at.params; told = at.told; wakes = refl })) in
    record { call = record call { phase = then }; is = taken old new answer call then takes is here; has = sym so }

pub answered : (app : Application) (solo next : Solo) (number : ℕ) (input : BackInput) (answer : RpcAnswer) (old new : Cont (List ℕ)) (call : OwnCall) →
    (old.phase ≡ phase.Waits → ⊥) → IsAnswer input answer → TakesAnswer old new answer → IsCall old call →
    comes_back_in app solo number call input call.phase ≡ Some next → HasCall new number solo next
answered app solo next number input answer old new call works by takes is e =
    answered_in app solo next number input answer old new call call.phase works by takes is is.phase e

-- ---- a call that gives up

-- one that has waited ends with a result that no application returned
pub ended_so : (old new : Cont (List ℕ)) (call : OwnCall) (code : ℕ) →
    new ≡ record old { phase = phase.Ends; result = of_tee code; params = None; request = None; done = new.done } → new.done ≡ false → IsCall old call →
    IsCall new (record call { phase = Ends (of_tee code) no_params false None })
ended_so old new call code becomes undone is = record {
  kind = ap (λ (c : Cont (List ℕ)). c.kind) becomes ∙ is.kind;
  seen = ap (λ (c : Cont (List ℕ)). c.cancelled) becomes ∙ is.seen;
  steps = ap (λ (c : Cont (List ℕ)). c.steps) becomes ∙ is.steps;
  area = ap (λ (c : Cont (List ℕ)). is_some c.area) becomes ∙ is.area;
  buffer = ap (λ (c : Cont (List ℕ)). is_some c.buffer) becomes ∙ is.buffer;
  phase = record {
    phase = ap (λ (c : Cont (List ℕ)). c.phase) becomes;
    result = ap (λ (c : Cont (List ℕ)). c.result) becomes;
    params = ap (λ (c : Cont (List ℕ)). kept_params c.params) becomes;
    told = undone;
    wakes = ap (λ (c : Cont (List ℕ)). option_and_then (λ (asked : Asked). woken_slot asked.rpc) c.request) becomes;
  };
}
