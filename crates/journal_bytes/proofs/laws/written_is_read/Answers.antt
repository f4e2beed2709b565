use Rattle.journal_bytes.proofs.laws.written_is_read.Goals as goal
use Rattle.journal_bytes.proofs.Written as written

pub returns : goal.returns
returns c = written.written_is_read
