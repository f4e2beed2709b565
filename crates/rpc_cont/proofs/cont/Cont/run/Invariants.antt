use Rattle.std.proofs.Common.{◌≡◌, ◌+◌, ◌-◌, ◌≤◌}
use Rattle.job_model.specs.Owner.{owner_of}
use Rattle.job_model.specs.Steps.{run_for}
use Rattle.rpc_cont.specs.Conts.{job_at, memory_size}
use Rattle.rpc_cont.specs.Running.{IsRunning, worked}
use Rattle.rpc_cont.proofs.Runs.{Rests}
use Rattle.rpc_cont.proofs.cont.Cont.run.Given as goal

abbrev pub invariant-loop-left : goal.invariant-loop-left
invariant-loop-left g l = record {
  running : IsRunning g.M.TaMemory.bytes l.self;
  left : l.left ≤ l.steps;
  grant : (let bytes = g.M.TaMemory.bytes in
      Rests (run_for l.steps (job_at bytes (owner_of l.uuid l.initial.self.key) l.image l.initial.self)) (l.steps - l.left) (run_for l.left (job_at bytes (owner_of l.uuid l.initial.self.key) l.image l.self)));
  used : l.self.steps ≡ l.initial.self.steps + (l.steps - l.left);
  size : memory_size g.M.TaMemory.bytes l.self ≡ memory_size g.M.TaMemory.bytes l.initial.self;
  stays : l.self ≡ record (worked l.initial.self l.self) { steps = l.self.steps };
}

abbrev pub decreases-loop-left : goal.decreases-loop-left
decreases-loop-left g l = l.left
