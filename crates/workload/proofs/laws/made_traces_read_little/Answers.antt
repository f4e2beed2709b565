use Rattle.workload.proofs.Little.{reads_little}
use Rattle.workload.proofs.laws.made_traces_read_little.Goals as goal

pub returns : goal.returns
returns c = reads_little
