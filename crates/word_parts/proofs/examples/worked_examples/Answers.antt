use Rattle.std.proofs.Common.{refl}
use Rattle.std.specs.Fmt.{digits}
use Rattle.word_parts.proofs.examples.worked_examples.Goals as goal

pub returns : goal.returns
unfolding digits
returns c = record { cut = refl; unended = refl }
