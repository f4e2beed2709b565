use Rattle.ta_asm.proofs.Meanings.{every_text}
use Rattle.ta_asm.proofs.laws.one_meaning.Goals as goal

pub returns : goal.returns
returns c = every_text
