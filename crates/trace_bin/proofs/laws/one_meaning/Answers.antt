use Rattle.trace_bin.proofs.GrammarLaws.{meaning}
use Rattle.trace_bin.proofs.laws.one_meaning.Goals as goal

pub returns : goal.returns
returns c = meaning
