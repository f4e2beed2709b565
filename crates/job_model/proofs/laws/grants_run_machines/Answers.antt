use Rattle.job_model.proofs.MachineRuns.{run_for-machine}
use Rattle.job_model.proofs.laws.grants_run_machines.Goals as goal

pub returns : goal.returns
returns c = run_for-machine
