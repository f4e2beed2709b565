use Rattle.client_text.proofs.Meanings.{every_text as law}
use Rattle.client_text.proofs.laws.every_text_has_one_meaning.Goals as goal

pub returns : goal.returns
returns c = law
