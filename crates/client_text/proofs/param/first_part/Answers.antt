use Rattle.client_text.proofs.Parts.{cut_part, last_part}
use Rattle.client_text.proofs.param.first_part.Goals as goal

pub returns-in-Some : goal.returns-in-Some
returns-in-Some c = cut_part c.args.word.now c.in-Some.part.now c.in-Some.behind.now c.in-Some.ensures

pub returns-in-None : goal.returns-in-None
returns-in-None c = last_part c.args.word.now c.in-None.ensures
