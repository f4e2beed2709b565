use Rattle.trace_bin.proofs.laws.written_is_read.Goals as goal
use Rattle.trace_bin.proofs.Whole as whole

pub returns : goal.returns
returns c = whole.written_is_read
