use Rattle.std.proofs.Common.{rules, ◌≡◌, ◌+◌, ◌-◌, ℕ, Option, ap, subst, ◌∙◌, arith}
use Rattle.job_model.specs.Owner.{owner_of}
use Rattle.job_model.specs.Steps.{run_for}
use Rattle.rpc_cont.specs.Conts.{job_at}
use Rattle.rpc_cont.specs.declared.cont.Cont.{Cont}
use Rattle.rpc_cont.specs.declared.stop.ContStop.{ContStop}
use Rattle.rpc_cont.proofs.Runs.{IsTaken, Rests, rests-more, run_stops, turn_taken}
use Rattle.rpc_cont.proofs.cont.Cont.run.Goals as goal

pub returns-in-Some-clause-runs : goal.returns-in-Some-clause-runs
returns-in-Some-clause-runs g c =
    let bytes = g.M.TaMemory.bytes in
    let image = c.args.image.now in
    let before = c.loop-left.self in
    let new = c.turn-stop.new.self in
    let left = c.loop-left.left in
    let used = c.turn-stop.result.1 in
    let same : before.key ≡ c.args.self.now.key = ap (λ (cont : Cont _). cont.key) c.loop-left.invariant.stays in
    let turns = rw same at c.turn-stop.ensures.turns in
    let grant = run_for left (job_at bytes (owner_of c.args.uuid c.args.self.now.key) image before) in
    let taken = turn_taken bytes (owner_of c.args.uuid c.args.self.now.key) image before new left used c.turn-stop.result.0 c.loop-left.invariant.running turns in
    let stops = subst (λ (answer : Option ContStop). IsTaken bytes (owner_of c.args.uuid c.args.self.now.key) image grant left used new answer) c.in-Some.is taken in
    run_stops bytes (owner_of c.args.uuid c.args.self.now.key) image new c.args.self.now.steps c.args.steps (c.args.steps - left) used c.in-Some.stop
    (run_for c.args.steps (job_at bytes (owner_of c.args.uuid c.args.self.now.key) image c.args.self.now)) grant c.loop-left.invariant.grant stops
    (omega (arith, c.turn-stop.ensures.used, c.loop-left.invariant.used))

pub loop-left-preserved : goal.loop-left-preserved
loop-left-preserved g c =
    let bytes = g.M.TaMemory.bytes in
    let image = c.args.image.now in
    let before = c.loop-left.self in
    let new = c.turn-stop.new.self in
    let left = c.loop-left.left in
    let used = c.turn-stop.result.1 in
    let same : before.key ≡ c.args.self.now.key = ap (λ (cont : Cont _). cont.key) c.loop-left.invariant.stays in
    let turns = rw same at c.turn-stop.ensures.turns in
    let grant = run_for left (job_at bytes (owner_of c.args.uuid c.args.self.now.key) image before) in
    let all = run_for c.args.steps (job_at bytes (owner_of c.args.uuid c.args.self.now.key) image c.args.self.now) in
    let rest = run_for (left - used) (job_at bytes (owner_of c.args.uuid c.args.self.now.key) image new) in
    let taken = turn_taken bytes (owner_of c.args.uuid c.args.self.now.key) image before new left used c.turn-stop.result.0 c.loop-left.invariant.running turns in
    let goes = subst (λ (answer : Option ContStop). IsTaken bytes (owner_of c.args.uuid c.args.self.now.key) image grant left used new answer) c.in_default.is taken in
    let most = c.turn-stop.ensures.most in
    let within = c.loop-left.invariant.left in
    let count : (c.args.steps - left) + used ≡ c.args.steps - (left - used) = omega (arith, most, within) in
    record {
      running = goes.1;
      left = omega (arith, most, within);
      grant = subst (λ (k : ℕ). Rests all k rest) count (rests-more all grant rest (c.args.steps - left) used c.loop-left.invariant.grant goes.0);
      used = omega (arith, c.turn-stop.ensures.used, c.loop-left.invariant.used, most, within);
      size = c.turn-stop.ensures.size ∙ c.loop-left.invariant.size;
      stays = search rules;
    }
