use Rattle.trace_text.proofs.GrammarLaws.{every_text}
use Rattle.trace_text.proofs.laws.one_meaning.Goals as goal

pub returns : goal.returns
returns c = every_text
