use Rattle.journal_bytes.proofs.GrammarLaws.{meaning}
use Rattle.journal_bytes.proofs.laws.one_meaning.Goals as goal

pub returns : goal.returns
returns c = meaning
