-- A call as data that sees that it was cancelled stands for the machine's that does.
use Rattle.std.proofs.Common.{◌≡◌, ℕ, ◌-◌, true, List, Option, Some, None, refl, sym, ap, subst, ◌∙◌}
use Rattle.std.specs.Prelude.{is_some}
use Rattle.std.specs.Option.{option_map}
use Rattle.job_model.specs.Job.{Job, with_cancel_seen}
use Rattle.job_model.specs.Steps.{After, after}
use Rattle.job_model.specs.Owner.{Owner}
use Rattle.kernel_model.specs.Kernel.{CallPhase, Runs, Asks, Waits, Ends}
use Rattle.kernel_model.specs.Resume.{phase_seen}
use Rattle.kernel_state.specs.Calls.{IsInPhase, bytes_of}
use Rattle.own_model.specs.Solo.{OwnCall, phase_at}
use Rattle.rpc_cont.specs.Advancing.{CanAdvance}
use Rattle.rpc_cont.specs.Answering.{CanBeAnswered}
use Rattle.rpc_cont.specs.Conts.{job_of}
use Rattle.rpc_cont.specs.Running.{IsWaiting, worked}
use Rattle.rpc_cont.specs.declared.cont.Cont.{Cont}
use Rattle.rpc_cont.specs.declared.phase.Phase.TheVariants as phase
use Rattle.rpc_msgs.specs.declared.rpc_buffer.RpcBuffer.{RpcBuffer}
use Rattle.kernel_state.proofs.CallPhases.{relabelled, waiting_seen, working_seen}
use Rattle.solo.specs.Calls.{IsCall}

-- ---- its job is taken on

pub record RunsOn (old new : Cont (List ℕ)) (more : ℕ) : Type 0 where
  pub runs : (left : Job) → old.phase ≡ phase.Runs → After (job_of bytes_of old) more left → (left ≡ job_of bytes_of new) × CanAdvance bytes_of new
  pub rests : (old.phase ≡ phase.Runs → ⊥) → new ≡ old

left_in : (old new : Cont (List ℕ)) (more : ℕ) (o : Option Job) (job : Job) (at : CallPhase) → RunsOn old new more → old.phase ≡ phase.Runs →
    job ≡ job_of bytes_of old → after more job ≡ o → option_map (λ (left : Job). Runs left) o ≡ Some at → IsInPhase new at
left_in old new more None job at on here same e is = absurd cc
left_in old new more (Some left) job at on here same e is =
    let so : Runs left ≡ at = cc in
    subst (IsInPhase new) so (on.runs left here (subst (λ (j : Job). After j more left) same e))

rested : (old new : Cont (List ℕ)) (more : ℕ) (before at : CallPhase) → RunsOn old new more → (old.phase ≡ phase.Runs → ⊥) →
    IsInPhase old before → Some before ≡ Some at → IsInPhase new at
rested old new more before at on apart is e =
    let so : before ≡ at = cc in
    subst (λ (cont : Cont (List ℕ)). IsInPhase cont at) (sym (on.rests apart)) (subst (IsInPhase old) so is)

taken_on : (old new : Cont (List ℕ)) (more : ℕ) (before at : CallPhase) → RunsOn old new more → IsInPhase old before →
    phase_at more before ≡ Some at → IsInPhase new at
taken_on old new more (Runs job) at on is e = left_in old new more (after more job) job at on is.1.phase is.0 refl e
taken_on old new more (Asks job wanted payload) at on is e = rested old new more (Asks job wanted payload) at on (λ runs. let asks = is.0 in cc) is e
taken_on old new more (Waits params) at on is e = rested old new more (Waits params) at on (λ runs. let waits = is.phase in cc) is e
taken_on old new more (Ends result params told wakes) at on is e =
    rested old new more (Ends result params told wakes) at on (λ runs. let ends = is.phase in cc) is e

-- ---- the call

-- what a run leaves of a call
pub record LeavesIt (old new : Cont (List ℕ)) : Type 0 where
  pub kind : new.kind ≡ old.kind
  pub area : new.area ≡ old.area
  pub buffer : new.buffer ≡ old.buffer

left_by_run : (old new : Cont (List ℕ)) → new ≡ record (worked old new) { steps = new.steps; phase = new.phase } → LeavesIt old new
left_by_run old new stays = record {
  kind = ap (λ (c : Cont (List ℕ)). c.kind) stays;
  area = ap (λ (c : Cont (List ℕ)). c.area) stays;
  buffer = ap (λ (c : Cont (List ℕ)). c.buffer) stays;
}

labels : (cont : Cont (List ℕ)) (call : OwnCall) (at : CallPhase) (done_by_now : ℕ) → cont.kind ≡ call.kind → cont.cancelled ≡ true →
    is_some cont.area ≡ call.area → is_some cont.buffer ≡ call.buffer → IsInPhase cont at →
    IsCall (record cont { steps = done_by_now }) (record call { seen = true; steps = done_by_now; phase = at })
labels cont call at done_by_now kind seen area buffer is = record {
  kind = kind;
  seen = seen;
  steps = refl;
  area = area;
  buffer = buffer;
  phase = relabelled cont (record { steps = done_by_now; buffer = cont.buffer }) at is;
}

-- ---- the flag

-- one that waits
pub waiting_flag : (old new : Cont (List ℕ)) (at : CallPhase) → new ≡ record old { cancelled = true } → old.phase ≡ phase.Waits →
    IsInPhase old at → IsInPhase new (phase_seen at)
waiting_flag old new at becomes waits is =
    subst (λ (c : Cont (List ℕ)). IsInPhase c (phase_seen at)) (sym becomes) (waiting_seen old at waits is)

-- one that doesn't
pub working_flag : (old new : Cont (List ℕ)) (at : CallPhase) → job_of bytes_of new ≡ with_cancel_seen (job_of bytes_of old) →
    (CanAdvance bytes_of old → CanAdvance bytes_of new) →
    ((owner : Owner) (job : Job) → IsWaiting bytes_of owner old (job_of bytes_of old) job → IsWaiting bytes_of owner new (job_of bytes_of new) (with_cancel_seen job)) →
    (CanBeAnswered bytes_of old → CanBeAnswered bytes_of new) →
    new ≡ record old { cancelled = true; machine = new.machine } → (old.phase ≡ phase.Waits → ⊥) → IsInPhase old at → IsInPhase new (phase_seen at)
working_flag old new at job runs waits answers stays works is =
    working_seen old new at (record { job = job; runs = runs; waits = waits; answers = answers; stays = stays }) works is

-- ---- all of it

pub sees_so : (old ran flagged new : Cont (List ℕ)) (call : OwnCall) (at : CallPhase) (done_by_now more : ℕ) → more ≡ done_by_now - old.steps →
    ((left : Job) → old.phase ≡ phase.Runs → After (job_of bytes_of old) more left → (left ≡ job_of bytes_of ran) × CanAdvance bytes_of ran) →
    ((old.phase ≡ phase.Runs → ⊥) → ran ≡ old) →
    ran ≡ record (worked old ran) { steps = ran.steps; phase = ran.phase } →
    ((at : CallPhase) → IsInPhase ran at → IsInPhase flagged (phase_seen at)) →
    flagged ≡ record ran { cancelled = true; machine = flagged.machine } →
    new ≡ record flagged { steps = done_by_now } → IsCall old call → phase_at (done_by_now - call.steps) call.phase ≡ Some at →
    IsCall new (record call { seen = true; steps = done_by_now; phase = phase_seen at })
sees_so old ran flagged new call at done_by_now more count runs rests worked_so flag flag_stays becomes is e =
    let on : RunsOn old ran more = record { runs = runs; rests = rests } in
    let counted : phase_at more call.phase ≡ Some at =
    subst (λ (n : ℕ). phase_at n call.phase ≡ Some at) (ap (λ (steps : ℕ). done_by_now - steps) (sym is.steps) ∙ sym count) e in
    let reached = taken_on old ran more call.phase at on is.phase counted in
    let leaves = left_by_run old ran worked_so in
    subst (λ (c : Cont (List ℕ)). IsCall c (record call { seen = true; steps = done_by_now; phase = phase_seen at })) (sym becomes)
    (labels flagged call (phase_seen at) done_by_now (ap (λ (c : Cont (List ℕ)). c.kind) flag_stays ∙ leaves.kind ∙ is.kind)
    (ap (λ (c : Cont (List ℕ)). c.cancelled) flag_stays)
    (ap (λ (c : Cont (List ℕ)). is_some c.area) flag_stays ∙ ap (λ (a : Option ℕ). is_some a) leaves.area ∙ is.area)
    (ap (λ (c : Cont (List ℕ)). is_some c.buffer) flag_stays ∙ ap (λ (b : Option RpcBuffer). is_some b) leaves.buffer ∙ is.buffer)
    (flag at reached))
