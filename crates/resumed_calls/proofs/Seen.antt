-- A call as data that sees a cancel, or gets its buffer, stands for the kernel's that does.
use Rattle.std.proofs.Common.{◌≡◌, ℕ, Bool, true, false, List, Option, Some, refl, sym, subst}
use Rattle.std.specs.Prelude.{if◌then◌else◌}
use Rattle.job_model.specs.Job.{Job, with_cancel_seen}
use Rattle.job_model.specs.Owner.{Owner}
use Rattle.kernel_model.specs.Given.{Buffer, call_given}
use Rattle.kernel_model.specs.Kernel.{PendingCall}
use Rattle.kernel_model.specs.Resume.{phase_seen, sees}
use Rattle.kernel_state.specs.Calls.{IsCall, IsInPhase, bytes_of}
use Rattle.rpc_cont.specs.Advancing.{CanAdvance}
use Rattle.rpc_cont.specs.Answering.{CanBeAnswered}
use Rattle.rpc_cont.specs.Conts.{job_of}
use Rattle.rpc_cont.specs.Running.{IsWaiting}
use Rattle.rpc_cont.specs.declared.cont.Cont.{Cont}
use Rattle.rpc_cont.specs.declared.phase.Phase.TheVariants as phase
use Rattle.rpc_msgs.specs.declared.rpc_buffer.RpcBuffer.{RpcBuffer}
use Rattle.ta_step.specs.declared.machine.Machine.{Machine as AnyMachine}
use Rattle.kernel_state.proofs.CallPhases.{SeesCancel, relabelled, waiting_seen, working_seen}

-- ---- a cancel

-- one that wasn't cancelled
pub sees_nothing : (cont : Cont (List ℕ)) (call : PendingCall) → IsCall cont call → call.marked ≡ false → IsCall cont (sees call)
sees_nothing cont call is unmarked =
    subst (λ (marked : Bool). IsCall cont (if marked then record call { seen = true; phase = phase_seen call.phase } else call)) (sym unmarked) is

-- the call with the flag and another machine
abbrev seeing : Cont (List ℕ) → Option (AnyMachine (List ℕ)) → Cont (List ℕ)
seeing cont machine = record cont { cancelled = true; machine = machine }

seen_call : (cont : Cont (List ℕ)) (machine : Option (AnyMachine (List ℕ))) (call : PendingCall) → IsCall cont call → call.marked ≡ true →
    IsInPhase (seeing cont machine) (phase_seen call.phase) → IsCall (seeing cont machine) (sees call)
seen_call cont machine call is marked in_phase = rw marked (record {
  client = is.client;
  kind = is.kind;
  app = is.app;
  login = is.login;
  arg = is.arg;
  area = is.area;
  places = is.places;
  session = is.session;
  instance = is.instance;
  seen = refl;
  steps = is.steps;
  buffer = is.buffer;
  phase = in_phase;
})

-- one that waits
pub waiting_sees : (old new : Cont (List ℕ)) (call : PendingCall) → new ≡ record old { cancelled = true } → old.phase ≡ phase.Waits →
    IsCall old call → call.marked ≡ true → IsCall new (sees call)
waiting_sees old new call becomes waits is marked =
    rw becomes (seen_call old old.machine call is marked (waiting_seen old call.phase waits is.phase))

-- one that doesn't
pub working_sees : (old new : Cont (List ℕ)) (call : PendingCall) →
    new ≡ record old { cancelled = true; machine = new.machine } → (old.phase ≡ phase.Waits → ⊥) →
    job_of bytes_of new ≡ with_cancel_seen (job_of bytes_of old) →
    (CanAdvance bytes_of old → CanAdvance bytes_of new) →
    ((owner : Owner) (job : Job) → IsWaiting bytes_of owner old (job_of bytes_of old) job → IsWaiting bytes_of owner new (job_of bytes_of new) (with_cancel_seen job)) →
    (CanBeAnswered bytes_of old → CanBeAnswered bytes_of new) →
    IsCall old call → call.marked ≡ true → IsCall new (sees call)
working_sees old new call stays works job runs waits answers is marked =
    let so : SeesCancel old new = record { job = job; runs = runs; waits = waits; answers = answers; stays = stays } in
    subst (λ (cont : Cont (List ℕ)). IsCall cont (sees call)) (sym stays)
    (seen_call old new.machine call is marked
    (subst (λ (cont : Cont (List ℕ)). IsInPhase cont (phase_seen call.phase)) stays (working_seen old new call.phase so works is.phase)))

-- ---- a buffer

pub given_buffer : (old new : Cont (List ℕ)) (buffer : RpcBuffer) (call : PendingCall) → new ≡ record old { buffer = Some buffer } →
    IsCall old call → IsCall new (call_given (Buffer buffer) call)
given_buffer old new buffer call becomes is = rw becomes (record {
  client = is.client;
  kind = is.kind;
  app = is.app;
  login = is.login;
  arg = is.arg;
  area = is.area;
  places = is.places;
  session = is.session;
  instance = is.instance;
  seen = is.seen;
  steps = is.steps;
  buffer = refl;
  phase = relabelled old (record { steps = old.steps; buffer = Some buffer }) call.phase is.phase;
})
