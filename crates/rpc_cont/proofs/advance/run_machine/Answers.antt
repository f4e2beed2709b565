use Rattle.ta_step.proofs.Kept.{runs-kept, runs-names}
use Rattle.ta_step.proofs.StepsUsed.{runs-use}
use Rattle.ta_step.specs.Machine.{state_of}
use Rattle.rpc_cont.proofs.advance.run_machine.Goals as goal

pub returns-clause-named : goal.returns-clause-named
returns-clause-named g c = runs-names c.args.image.now.code c.args.steps (state_of g.M.TaMemory.bytes c.args.machine.now) _ c.run.ensures.runs

pub returns-clause-used : goal.returns-clause-used
returns-clause-used g c = runs-use c.args.image.now.code c.args.steps (state_of g.M.TaMemory.bytes c.args.machine.now) _ c.run.ensures.runs

pub returns-clause-same : goal.returns-clause-same
returns-clause-same g c = runs-kept c.args.image.now.code c.args.steps (state_of g.M.TaMemory.bytes c.args.machine.now) _ c.run.ensures.runs
