-- How far a call as data has come stays so with other steps, with another buffer, and as it sees that it was cancelled;
-- and what an answer makes of it.
use Rattle.std.proofs.Common.{◌≡◌, ℕ, true, List, Option, Some, None, sym, ap, subst, ◌∙◌}
use Rattle.std.specs.Prelude.{IsSomeAnd}
use Rattle.std.specs.Option.{option_map_or}
use Rattle.job_model.specs.Asking.{PendingRequest, bytes_at}
use Rattle.job_model.specs.Job.{Job, with_cancel_seen}
use Rattle.job_model.specs.Steps.{Advance, Goes, Stops}
use Rattle.job_model.specs.Steps as steps
use Rattle.job_model.specs.Owner.{Owner}
use Rattle.kernel_model.specs.Kernel.{CallPhase, Runs, Asks, Waits, Ends}
use Rattle.kernel_model.specs.Resume.{phase_after, phase_seen}
use Rattle.kernel_state.specs.Calls.{IsInPhase, bytes_of}
use Rattle.rpc_cont.specs.Advancing.{CanAdvance}
use Rattle.rpc_cont.specs.Answering.{CanBeAnswered, IsAnswered}
use Rattle.rpc_cont.specs.Beginning.{IsFresh}
use Rattle.rpc_cont.specs.Conts.{call_owner, job_of}
use Rattle.rpc_cont.specs.Running.{Awaits, HasCome, IsWaiting}
use Rattle.rpc_cont.specs.declared.cont.Asked.{Asked}
use Rattle.rpc_cont.specs.declared.cont.Cont.{Cont}
use Rattle.rpc_cont.specs.declared.phase.Phase.TheVariants as phase
use Rattle.rpc_msgs.specs.declared.rpc_buffer.RpcBuffer.{RpcBuffer}
use Rattle.ta_step.specs.Machine.{state_of}
use Rattle.ta_step.specs.Requests.{span_of}
use Rattle.ta_step.specs.declared.machine.Machine.{Machine}
use Rattle.ta_step.specs.declared.stop.Request.{Request}
use Rattle.ta_step.specs.declared.stop.Request.TheVariants as request
use Rattle.tee_storage.specs.declared.state.ObjectState.{ObjectState}

-- ---- with other steps, or another buffer

-- the steps of a call and its buffer
pub record Label : Type 0 where
  pub steps : ℕ
  pub buffer : Option RpcBuffer

abbrev pub labelled : Cont (List ℕ) → Label → Cont (List ℕ)
labelled cont label = record cont { steps = label.steps; buffer = label.buffer }

come_so : (owner : Owner) (range : List ℕ) (asked : PendingRequest) (cont : Cont (List ℕ)) (label : Label)
    (wanted : Request) (pending : Option Asked) (object : Option ObjectState) →
    HasCome owner range asked cont wanted pending object → HasCome owner range asked (labelled cont label) wanted pending object
come_so owner range asked cont label request.Time None object come = absurd come
come_so owner range asked cont label request.Time (Some pending) None come = come
come_so owner range asked cont label request.Time (Some pending) (Some state) come = absurd come
come_so owner range asked cont label (request.Suspend ms) None object come = absurd come
come_so owner range asked cont label (request.Suspend ms) (Some pending) None come = come
come_so owner range asked cont label (request.Suspend ms) (Some pending) (Some state) come = absurd come
come_so owner range asked cont label (request.Object call) None object come = absurd come
come_so owner range asked cont label (request.Object call) (Some pending) None come = absurd come
come_so owner range asked cont label (request.Object call) (Some pending) (Some state) come = come

awaits_so : (owner : Owner) (cont : Cont (List ℕ)) (label : Label) (asked : Option PendingRequest) (machine : Option (Machine (List ℕ))) →
    IsSomeAnd asked (λ asked. IsSomeAnd machine (λ m. Awaits owner cont asked (state_of bytes_of m))) →
    IsSomeAnd asked (λ asked. IsSomeAnd machine (λ m. Awaits owner (labelled cont label) asked (state_of bytes_of m)))
awaits_so owner cont label None machine is = absurd is
awaits_so owner cont label (Some asked) None is = absurd is
awaits_so owner cont label (Some asked) (Some m) is = record {
  asks = is.asks;
  come =
      let span = span_of asked.request in
      come_so owner (bytes_at (state_of bytes_of m) span.0 span.1) asked cont label asked.request cont.request cont.object is.come;
}

waiting_so : (owner : Owner) (cont : Cont (List ℕ)) (label : Label) (plain job : Job) →
    IsWaiting bytes_of owner cont plain job → IsWaiting bytes_of owner (labelled cont label) plain job
waiting_so owner cont label plain job is = record {
  memory = is.memory;
  point = is.point;
  same = is.same;
  asked = awaits_so owner cont label job.asked cont.machine is.asked;
}

advance_so : (cont : Cont (List ℕ)) (label : Label) → CanAdvance bytes_of cont → CanAdvance bytes_of (labelled cont label)
advance_so cont label can = record {
  phase = can.phase;
  runs = record { memory = can.runs.memory; request = can.runs.request; object = can.runs.object; runs = can.runs.runs };
}

pub answered_so : (cont : Cont (List ℕ)) (label : Label) → CanBeAnswered bytes_of cont → CanBeAnswered bytes_of (labelled cont label)
answered_so cont label can = record {
  image = can.image;
  pending = record { point = can.pending.point; memory = can.pending.memory; request = can.pending.request; machine = can.pending.machine };
}

pub fresh_so : (cont : Cont (List ℕ)) (label : Label) → IsFresh cont → IsFresh (labelled cont label)
fresh_so cont label is = record {
  idle = record { machine = is.idle.machine; memory = is.idle.memory; request = is.idle.request; object = is.idle.object };
  point = is.point;
  points = is.points;
}

pub relabelled : (cont : Cont (List ℕ)) (label : Label) (at : CallPhase) → IsInPhase cont at → IsInPhase (labelled cont label) at
relabelled cont label (Runs job) is = (is.0, advance_so cont label is.1)
relabelled cont label (Asks job wanted payload) is =
    (is.0, (waiting_so _ cont label _ job is.1.0, is.1.1), answered_so cont label is.2)
relabelled cont label (Waits params) is =
    record { phase = is.phase; app = is.app; fresh = fresh_so cont label is.fresh; params = is.params; result = is.result }
relabelled cont label (Ends result params told wakes) is =
    record { phase = is.phase; result = is.result; params = is.params; told = is.told; wakes = is.wakes }

-- ---- a cancel that it sees

-- what a call that sees a cancel keeps
pub record SeesCancel (old new : Cont (List ℕ)) : Type 0 where
  pub job : job_of bytes_of new ≡ with_cancel_seen (job_of bytes_of old)
  pub runs : CanAdvance bytes_of old → CanAdvance bytes_of new
  pub waits : (owner : Owner) (job : Job) → IsWaiting bytes_of owner old (job_of bytes_of old) job → IsWaiting bytes_of owner new (job_of bytes_of new) (with_cancel_seen job)
  pub answers : CanBeAnswered bytes_of old → CanBeAnswered bytes_of new
  pub stays : new ≡ record old { cancelled = true; machine = new.machine }

pub working_seen : (old new : Cont (List ℕ)) (at : CallPhase) → SeesCancel old new → (old.phase ≡ phase.Waits → ⊥) → IsInPhase old at → IsInPhase new (phase_seen at)
working_seen old new (Runs job) so works is = (ap with_cancel_seen is.0 ∙ sym so.job, so.runs is.1)
working_seen old new (Asks job wanted payload) so works is = (
  ap (λ (c : Cont (List ℕ)). c.phase) so.stays ∙ is.0,
  (
    subst (λ (owner : Owner). IsWaiting bytes_of owner new (job_of bytes_of new) (with_cancel_seen job))
        (ap (λ (c : Cont (List ℕ)). call_owner c) (sym so.stays)) (so.waits (call_owner old) job is.1.0),
    ap (λ (c : Cont (List ℕ)). c.request) so.stays ∙ is.1.1,
  ),
  so.answers is.2,
)
working_seen old new (Waits params) so works is = absurd (works is.phase)
working_seen old new (Ends result params told wakes) so works is = subst (λ (c : Cont (List ℕ)). IsInPhase c (Ends result params told wakes)) (sym so.stays)
    (record { phase = is.phase; result = is.result; params = is.params; told = is.told; wakes = is.wakes })

pub waiting_seen : (cont : Cont (List ℕ)) (at : CallPhase) → cont.phase ≡ phase.Waits → IsInPhase cont at → IsInPhase (record cont { cancelled = true }) (phase_seen at)
waiting_seen cont (Runs job) waits is = let runs = is.1.phase in absurd cc
waiting_seen cont (Asks job wanted payload) waits is = let asks = is.0 in absurd cc
waiting_seen cont (Waits params) waits is = record {
  phase = is.phase;
  app = is.app;
  fresh = record {
    idle = record {
      machine = is.fresh.idle.machine;
      memory = is.fresh.idle.memory;
      request = is.fresh.idle.request;
      object = is.fresh.idle.object;
    };
    point = is.fresh.point;
    points = is.fresh.points;
  };
  params = is.params;
  result = is.result;
}
waiting_seen cont (Ends result params told wakes) waits is = let ends = is.phase in absurd cc

-- ---- an answer

pub phase_answered : (cont : Cont (List ℕ)) (before : CallPhase) (next : Option Advance) →
    IsSomeAnd next (λ next. IsAnswered bytes_of cont next) → IsInPhase cont (option_map_or (phase_after before) next before)
phase_answered cont before None is = absurd is
phase_answered cont before (Some (Goes job)) is = is
phase_answered cont before (Some (Stops (steps.Asks wanted payload left))) is = (is.1, is.0, is.2)
phase_answered cont before (Some (Stops (steps.Ends end))) is = absurd is
phase_answered cont before (Some (Stops (steps.Panics code))) is = absurd is
