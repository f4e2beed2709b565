use Rattle.std.proofs.Common.{◌+◌, arith}
use Rattle.ta_step.specs.declared.stop.Stop.TheVariants as stop
use Rattle.ta_step.specs.Machine.{state_of}
use Rattle.ta_step.proofs.Kept.{runs-waits}
use Rattle.ta_step.proofs.RunLemmas.{run-ends, run-more, run-stops}
use Rattle.ta_step.proofs.machine.Machine.run.Goals as goal

pub returns-in-Err-clause-runs : goal.returns-in-Err-clause-runs
returns-in-Err-clause-runs g c = run-stops _ _ _ _ _ _ _ _ c.loop-used-test.true c.loop-used.invariant c.in-Err.ensures

pub returns-in-Err-clause-asked : goal.returns-in-Err-clause-asked
returns-in-Err-clause-asked g c =
    runs-waits c.args.image.now.code c.args.steps (state_of g.M.TaMemory.bytes c.args.self.now)
    (record { stop = c.in-Err.stop; steps = c.loop-used.used + 1; state = state_of g.M.TaMemory.bytes c.step.new.self })
    c.requires.unasked
    (run-stops _ _ _ _ _ _ _ _ c.loop-used-test.true c.loop-used.invariant c.in-Err.ensures)

pub returns-clause-asked : goal.returns-clause-asked
returns-clause-asked g c =
    runs-waits c.args.image.now.code c.args.steps (state_of g.M.TaMemory.bytes c.args.self.now)
    (record { stop = stop.Interrupted; steps = c.args.steps; state = state_of g.M.TaMemory.bytes c.loop-used.self })
    c.requires.unasked
    (run-ends _ _ c.loop-used.used _ _ (omega arith) c.loop-used.invariant)

pub loop-used-preserved : goal.loop-used-preserved
loop-used-preserved g c = run-more _ _ _ _ _ _ _ c.loop-used-test.true c.loop-used.invariant c.in_default.ensures
